use Rattle.std.proofs.Common.{◌++◌, ◌∷◌, [], length, cond, refl, sym, ap, subst, ◌∙◌}
use Rattle.std.specs.Prelude.{Some}
use Rattle.smv_tree.specs.Models.{both}
use Rattle.ltl_form.specs.Nodes.{Says}
use Rattle.ltl_form.specs.Normal.{normal}
use Rattle.ltl_form.specs.Drafts.{left_negated}
use Rattle.ltl_form.proofs.Drafting.{says_more, says_joined, side_says, added_says}
use Rattle.ltl_form.proofs.joins.combine.Goals as goal

pub returns-clause-says : goal.returns-clause-says
returns-clause-says c = λ names f g s t.
    let o = c.args.op in
    let b = c.args.negated in
    let old = c.args.draft.now in
    let y = c.join.result in
    let left : Says names old c.side-left.result (normal (left_negated o b) f) =
    subst (λ i. Says names old i (normal (left_negated o b) f)) (sym c.side-left.ensures)
    (subst (λ n. Says names old (cond n c.args.first.negated c.args.first.plain) (normal (left_negated o b) f)) (sym c.turns_left.ensures) (side_says (left_negated o b) s)) in
    let right : Says names old c.side.result (normal b g) = subst (λ i. Says names old i (normal b g)) (sym c.side.ensures) (side_says b t) in
    added_says names b c.add.result old c.add.new.self y (both o f g) (both o f g) refl c.add.ensures.added c.add.ensures.number
    (λ h. says_joined names (old ++ y ∷ []) (length old) c.side-left.result c.side.result f g o b (sym c.is_comparison.ensures ∙ c.if-is_comparison.false) (h ∙ ap Some c.join.ensures)
    (says_more names old (y ∷ []) c.side-left.result (normal (left_negated o b) f) left) (says_more names old (y ∷ []) c.side.result (normal b g) right))
