use Rattle.std.proofs.Common.{◌≡◌, ◌++◌, ◌∷◌, [], not, cond, length, refl, sym, subst}
use Rattle.std.specs.Prelude.{Some, slice_get}
use Rattle.smv_tree.specs.Models.{both}
use Rattle.ltl_form.specs.declared.node.NnfNode.{NnfNode}
use Rattle.ltl_form.specs.declared.node.NnfNode.TheVariants as node
use Rattle.ltl_form.specs.Nodes.{Says}
use Rattle.ltl_form.specs.Normal.{normal}
use Rattle.ltl_form.specs.Drafts.{Extends, equal_asked}
use Rattle.ltl_form.proofs.Drafting.{here, there, says_on, extends_by, extends_on, side_says, says_compared, added}
use Rattle.ltl_form.proofs.joins.compare.Goals as goal

pub returns-clause-says : goal.returns-clause-says
returns-clause-says c = λ names f g s t.
    let o = c.args.op in
    let m = c.args.negated in
    let e = equal_asked o m in
    let old = c.args.draft.now in
    let mid = c.add.new.self in
    let top = c.add-2.new.self in
    let y : NnfNode = node.And c.args.first.plain c.side.result in
    let z : NnfNode = node.And c.args.first.negated c.side-2.result in
    let x : NnfNode = node.Or c.in_ok-both.both c.in_ok-neither.neither in
    let all = top ++ x ∷ [] in
    let grown : Extends old all = extends_on (extends_on (extends_by y c.in_ok-both.ensures.added) (extends_by z c.in_ok-neither.ensures.added)) (extends_by x refl) in
    let at_y : slice_get mid c.in_ok-both.both ≡ Some y = subst (λ n. slice_get mid n ≡ Some y) (sym c.in_ok-both.ensures.number) (subst (λ ns. slice_get ns (length old) ≡ Some y) (sym c.in_ok-both.ensures.added) (here old y)) in
    let at_z : slice_get top c.in_ok-neither.neither ≡ Some z = subst (λ n. slice_get top n ≡ Some z) (sym c.in_ok-neither.ensures.number) (subst (λ ns. slice_get ns (length mid) ≡ Some z) (sym c.in_ok-neither.ensures.added) (here mid z)) in
    let on_y : slice_get top c.in_ok-both.both ≡ Some y = subst (λ ns. slice_get ns c.in_ok-both.both ≡ Some y) (sym c.in_ok-neither.ensures.added) (there mid (z ∷ []) c.in_ok-both.both y at_y) in
    let right : Says names old c.side.result (normal (not e) g) =
    subst (λ i. Says names old i (normal (not e) g)) (sym c.side.ensures) (subst (λ n. Says names old (cond (not n) c.args.second.negated c.args.second.plain) (normal (not e) g)) (sym c.asks_equal-equal.ensures) (side_says (not e) t)) in
    let wrong : Says names old c.side-2.result (normal e g) =
    subst (λ i. Says names old i (normal e g)) (sym c.side-2.ensures) (subst (λ n. Says names old (cond n c.args.second.negated c.args.second.plain) (normal e g)) (sym c.asks_equal-equal.ensures) (side_says e t)) in
    added c.add-3.result top c.add-3.new.self x (λ n ns. Says names ns n (normal m (both o f g))) c.add-3.ensures.added c.add-3.ensures.number
    (says_compared names all (length top) c.in_ok-both.both c.in_ok-neither.neither c.args.first.plain c.args.first.negated c.side.result c.side-2.result f g o m c.requires.comparison
    (here top x) (there top (x ∷ []) c.in_ok-both.both y on_y) (there top (x ∷ []) c.in_ok-neither.neither z at_z)
    (says_on grown s.plain) (says_on grown s.negated) (says_on grown right) (says_on grown wrong))
