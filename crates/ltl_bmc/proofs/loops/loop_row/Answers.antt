use Rattle.std.proofs.Common.{◌≡◌, ◌+◌, ◌<◌, ◌&&◌, ◌||◌, not, true, false, Bool, List, length, refl, sym, ap, subst, ◌∙◌, rules, arith}
use Rattle.std.specs.Prelude.{IfOk}
use Rattle.std.proofs.lemmas.Grind.{common_steps}
use Rattle.gates.specs.Literal.{Literal}
use Rattle.gates.specs.Valuation.{values_of, IsValuation}
use Rattle.smv_meaning.specs.Places.{next_place}
use Rattle.smv_meaning.specs.Sweeps.{around}
use Rattle.smv_meaning.proofs.Lassos.{next_below}
use Rattle.ltl_form.specs.declared.node.NnfNode.{NnfNode}
use Rattle.ltl_form.specs.Nodes.{PartsWithin, AtomWithin}
use Rattle.ltl_form.specs.Rows.{told, turned, around_turned, lasso_value, IsRow}
use Rattle.ltl_bmc.specs.Circuits.{lit_at, lits_at, told_rows, RowBelongs}
use Rattle.ltl_bmc.proofs.Literals.{or-gates}
use Rattle.ltl_bmc.proofs.Rowwise.{two_parts, mapped, mapped_belongs}
use Rattle.ltl_bmc.proofs.loops.loop_row.Goals as goal

pub returns-in-Literal-clause-values : goal.returns-in-Literal-clause-values
returns-in-Literal-clause-values c =
    let k = c.args.k in
    let a = c.in-Literal.a in
    let within : a < length c.args.t.now = subst (AtomWithin (length c.args.t.now)) c.in-Literal.is c.requires.atom in
    let row : c.row.result.now ≡ lits_at c.args.t.now a = c.row.ensures in
    let m : length c.row.result.now ≡ k + 1 = ap (λ (x : List Literal). length x) row ∙ c.requires.states a within in
    subst (λ (y : NnfNode). IfOk c.turn.result (λ row. (values : List Bool) → IsValuation c.args.g.now values → IsRow k (lasso_value k c.args.l (told_rows values c.args.t.now) (told_rows values c.args.rows.now.items) y) (values_of values row))) (sym c.in-Literal.is)
    (mapped c.args.g.now c.args.t.now k a c.in-Literal.negated (λ p. p) c.turn.result c.row.result.now row (λ p w. omega arith) c.turn.ensures.places c.turn.ensures.literals)

pub returns-in-Literal-clause-belongs : goal.returns-in-Literal-clause-belongs
returns-in-Literal-clause-belongs c =
    let k = c.args.k in
    let a = c.in-Literal.a in
    let within : a < length c.args.t.now = subst (AtomWithin (length c.args.t.now)) c.in-Literal.is c.requires.atom in
    let row : c.row.result.now ≡ lits_at c.args.t.now a = c.row.ensures in
    let m : length c.row.result.now ≡ k + 1 = ap (λ (x : List Literal). length x) row ∙ c.requires.states a within in
    mapped_belongs c.args.g.now c.args.t.now k c.in-Literal.negated (λ p. p) c.turn.result c.row.result.now (subst (RowBelongs c.args.g.now) (sym row) (c.requires.table a within)) (λ p w. omega arith) c.turn.ensures.places c.turn.ensures.literals

pub returns-in-Next-clause-values : goal.returns-in-Next-clause-values
returns-in-Next-clause-values c =
    let k = c.args.k in
    let l = c.args.l in
    let rows = c.args.rows.now.items in
    let a = c.in-Next.a in
    let parts : a < length rows = subst (PartsWithin (length rows)) c.in-Next.is c.requires.parts in
    let row : c.index-in-Next.result.now ≡ lits_at rows a = first_of (search rules, grind (arith, common_steps)) in
    let m : length c.index-in-Next.result.now ≡ k = ap (λ (x : List Literal). length x) row ∙ c.requires.places a parts in
    subst (λ (y : NnfNode). IfOk c.next.result (λ row. (values : List Bool) → IsValuation c.args.g.now values → IsRow k (lasso_value k l (told_rows values c.args.t.now) (told_rows values rows) y) (values_of values row))) (sym c.in-Next.is)
    (mapped c.args.g.now rows k a false (next_place k l) c.next.result c.index-in-Next.result.now row (λ p w. let b : next_place k l p < k = next_below k l p c.requires.start w in omega arith)
    (subst (λ n. IfOk c.next.result (λ x. length x ≡ n)) m c.next.ensures.places)
    (λ p w. subst (λ n. IfOk c.next.result (λ x. lit_at x p ≡ lit_at c.index-in-Next.result.now (next_place n l p))) m (c.next.ensures.literals p (omega arith))))

pub returns-in-Next-clause-belongs : goal.returns-in-Next-clause-belongs
returns-in-Next-clause-belongs c =
    let k = c.args.k in
    let l = c.args.l in
    let rows = c.args.rows.now.items in
    let a = c.in-Next.a in
    let parts : a < length rows = subst (PartsWithin (length rows)) c.in-Next.is c.requires.parts in
    let row : c.index-in-Next.result.now ≡ lits_at rows a = first_of (search rules, grind (arith, common_steps)) in
    let m : length c.index-in-Next.result.now ≡ k = ap (λ (x : List Literal). length x) row ∙ c.requires.places a parts in
    mapped_belongs c.args.g.now rows k false (next_place k l) c.next.result c.index-in-Next.result.now (subst (RowBelongs c.args.g.now) (sym row) (c.requires.belong a parts)) (λ p w. let b : next_place k l p < k = next_below k l p c.requires.start w in omega arith)
    (subst (λ n. IfOk c.next.result (λ x. length x ≡ n)) m c.next.ensures.places)
    (λ p w. subst (λ n. IfOk c.next.result (λ x. lit_at x p ≡ lit_at c.index-in-Next.result.now (next_place n l p))) m (c.next.ensures.literals p (omega arith)))

pub returns-in-And-clause-values : goal.returns-in-And-clause-values
returns-in-And-clause-values c =
    let k = c.args.k in
    let l = c.args.l in
    let rows = c.args.rows.now.items in
    let a = c.in-And.a in
    let b = c.in-And.b in
    let parts : (a < length rows) × (b < length rows) = subst (PartsWithin (length rows)) c.in-And.is c.requires.parts in
    let first : c.index.result.now ≡ lits_at rows a = first_of (search rules, grind (arith, common_steps)) in
    let second : c.index-in-And.result.now ≡ lits_at rows b = first_of (search rules, grind (arith, common_steps)) in
    let m : length c.index-in-And.result.now ≡ k = ap (λ (x : List Literal). length x) second ∙ c.requires.places b parts.1 in
    subst (λ (y : NnfNode). IfOk c.join_rows.result (λ row. (values : List Bool) → IsValuation c.join_rows.new.g values → IsRow k (lasso_value k l (told_rows values c.args.t.now) (told_rows values rows) y) (values_of values row))) (sym c.in-And.is)
    (two_parts c.join_rows.new.g rows k a b (λ x y p. told x p && told y p) (λ n x y p. turned false (turned false (told x p) && turned false (told y p))) c.join_rows.result c.index.result.now c.index-in-And.result.now first second m c.join_rows.ensures.values (λ x y p. refl))

pub returns-in-Or-clause-values : goal.returns-in-Or-clause-values
returns-in-Or-clause-values c =
    let k = c.args.k in
    let l = c.args.l in
    let rows = c.args.rows.now.items in
    let a = c.in-Or.a in
    let b = c.in-Or.b in
    let parts : (a < length rows) × (b < length rows) = subst (PartsWithin (length rows)) c.in-Or.is c.requires.parts in
    let first : c.index-in-Or.result.now ≡ lits_at rows a = first_of (search rules, grind (arith, common_steps)) in
    let second : c.index-in-Or-2.result.now ≡ lits_at rows b = first_of (search rules, grind (arith, common_steps)) in
    let m : length c.index-in-Or-2.result.now ≡ k = ap (λ (x : List Literal). length x) second ∙ c.requires.places b parts.1 in
    subst (λ (y : NnfNode). IfOk c.join_rows-in-Or.result (λ row. (values : List Bool) → IsValuation c.join_rows-in-Or.new.g values → IsRow k (lasso_value k l (told_rows values c.args.t.now) (told_rows values rows) y) (values_of values row))) (sym c.in-Or.is)
    (two_parts c.join_rows-in-Or.new.g rows k a b (λ x y p. told x p || told y p) (λ n x y p. turned true (turned true (told x p) && turned true (told y p))) c.join_rows-in-Or.result c.index-in-Or.result.now c.index-in-Or-2.result.now first second m c.join_rows-in-Or.ensures.values (λ x y p. or-gates (told x p) (told y p)))

pub returns-in-Until-clause-values : goal.returns-in-Until-clause-values
returns-in-Until-clause-values c =
    let k = c.args.k in
    let l = c.args.l in
    let rows = c.args.rows.now.items in
    let a = c.in-Until.a in
    let b = c.in-Until.b in
    let parts : (a < length rows) × (b < length rows) = subst (PartsWithin (length rows)) c.in-Until.is c.requires.parts in
    let first : c.index-in-Until.result.now ≡ lits_at rows a = first_of (search rules, grind (arith, common_steps)) in
    let second : c.index-in-Until-2.result.now ≡ lits_at rows b = first_of (search rules, grind (arith, common_steps)) in
    let m : length c.index-in-Until-2.result.now ≡ k = ap (λ (x : List Literal). length x) second ∙ c.requires.places b parts.1 in
    subst (λ (y : NnfNode). IfOk c.around.result (λ row. (values : List Bool) → IsValuation c.around.new.g values → IsRow k (lasso_value k l (told_rows values c.args.t.now) (told_rows values rows) y) (values_of values row))) (sym c.in-Until.is)
    (two_parts c.around.new.g rows k a b (λ x y p. around k l (told x) (told y) p) (λ n x y p. around_turned false n l (told x) (told y) p) c.around.result c.index-in-Until.result.now c.index-in-Until-2.result.now first second m c.around.ensures.values (λ x y p. refl))

pub returns-in-Releases-clause-values : goal.returns-in-Releases-clause-values
returns-in-Releases-clause-values c =
    let k = c.args.k in
    let l = c.args.l in
    let rows = c.args.rows.now.items in
    let a = c.in-Releases.a in
    let b = c.in-Releases.b in
    let parts : (a < length rows) × (b < length rows) = subst (PartsWithin (length rows)) c.in-Releases.is c.requires.parts in
    let first : c.index-in-Releases.result.now ≡ lits_at rows a = first_of (search rules, grind (arith, common_steps)) in
    let second : c.index-in-Releases-2.result.now ≡ lits_at rows b = first_of (search rules, grind (arith, common_steps)) in
    let m : length c.index-in-Releases-2.result.now ≡ k = ap (λ (x : List Literal). length x) second ∙ c.requires.places b parts.1 in
    subst (λ (y : NnfNode). IfOk c.around-in-Releases.result (λ row. (values : List Bool) → IsValuation c.around-in-Releases.new.g values → IsRow k (lasso_value k l (told_rows values c.args.t.now) (told_rows values rows) y) (values_of values row))) (sym c.in-Releases.is)
    (two_parts c.around-in-Releases.new.g rows k a b (λ x y p. around_turned true k l (told x) (told y) p) (λ n x y p. around_turned true n l (told x) (told y) p) c.around-in-Releases.result c.index-in-Releases.result.now c.index-in-Releases-2.result.now first second m c.around-in-Releases.ensures.values (λ x y p. refl))

pub returns-in-Always-clause-values : goal.returns-in-Always-clause-values
returns-in-Always-clause-values c =
    let k = c.args.k in
    let l = c.args.l in
    let rows = c.args.rows.now.items in
    let a = c.in-Always.a in
    let parts : a < length rows = subst (PartsWithin (length rows)) c.in-Always.is c.requires.parts in
    let second : c.index-in-Always.result.now ≡ lits_at rows a = first_of (search rules, grind (arith, common_steps)) in
    let m : length c.index-in-Always.result.now ≡ k = ap (λ (x : List Literal). length x) second ∙ c.requires.places a parts in
    subst (λ (y : NnfNode). IfOk c.around_whole.result (λ row. (values : List Bool) → IsValuation c.around_whole.new.g values → IsRow k (lasso_value k l (told_rows values c.args.t.now) (told_rows values rows) y) (values_of values row))) (sym c.in-Always.is)
    (two_parts c.around_whole.new.g rows k a a (λ x y p. around_turned true k l (λ _. false) (told y) p) (λ n x y p. around_turned true n l (λ _. not true) (told y) p) c.around_whole.result c.index-in-Always.result.now c.index-in-Always.result.now second second m c.around_whole.ensures.values (λ x y p. refl))

pub returns-in-Eventually-clause-values : goal.returns-in-Eventually-clause-values
returns-in-Eventually-clause-values c =
    let k = c.args.k in
    let l = c.args.l in
    let rows = c.args.rows.now.items in
    let a = c.in-Eventually.a in
    let parts : a < length rows = subst (PartsWithin (length rows)) c.in-Eventually.is c.requires.parts in
    let second : c.index-in-Eventually.result.now ≡ lits_at rows a = first_of (search rules, grind (arith, common_steps)) in
    let m : length c.index-in-Eventually.result.now ≡ k = ap (λ (x : List Literal). length x) second ∙ c.requires.places a parts in
    subst (λ (y : NnfNode). IfOk c.around_whole-in-Eventually.result (λ row. (values : List Bool) → IsValuation c.around_whole-in-Eventually.new.g values → IsRow k (lasso_value k l (told_rows values c.args.t.now) (told_rows values rows) y) (values_of values row))) (sym c.in-Eventually.is)
    (two_parts c.around_whole-in-Eventually.new.g rows k a a (λ x y p. around k l (λ _. true) (told y) p) (λ n x y p. around_turned false n l (λ _. not false) (told y) p) c.around_whole-in-Eventually.result c.index-in-Eventually.result.now c.index-in-Eventually.result.now second second m c.around_whole-in-Eventually.ensures.values (λ x y p. refl))
