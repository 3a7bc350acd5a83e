use Rattle.std.proofs.Common.{◌≡◌, ◌+◌, ◌<◌, ◌&&◌, ◌||◌, true, false, Bool, List, length, refl, sym, ap, subst, ◌∙◌, rules, arith}
use Rattle.std.specs.Prelude.{IfOk}
use Rattle.std.proofs.lemmas.Grind.{common_steps}
use Rattle.gates.specs.Literal.{Literal}
use Rattle.gates.specs.Valuation.{values_of, IsValuation}
use Rattle.smv_meaning.specs.Sweeps.{ahead, along, along_both}
use Rattle.ltl_form.specs.declared.node.NnfNode.{NnfNode}
use Rattle.ltl_form.specs.Nodes.{PartsWithin, AtomWithin}
use Rattle.ltl_form.specs.Rows.{told, turned, short_value, IsRow}
use Rattle.ltl_bmc.specs.Circuits.{lits_at, told_rows, RowBelongs}
use Rattle.ltl_bmc.proofs.Literals.{or-gates}
use Rattle.ltl_bmc.proofs.Rowwise.{two_parts, mapped, mapped_belongs, path_next, path_next_belongs, false_row, false_belongs}
use Rattle.ltl_bmc.proofs.paths.path_row.Goals as goal

pub returns-in-Literal-clause-values : goal.returns-in-Literal-clause-values
returns-in-Literal-clause-values c =
    let k = c.args.k in
    let a = c.in-Literal.a in
    let within : a < length c.args.t.now = subst (AtomWithin (length c.args.t.now)) c.in-Literal.is c.requires.atom in
    let row : c.row.result.now ≡ lits_at c.args.t.now a = c.row.ensures in
    let m : length c.row.result.now ≡ k + 1 = ap (λ (x : List Literal). length x) row ∙ c.requires.states a within in
    subst (λ (y : NnfNode). IfOk c.turn.result (λ row. (values : List Bool) → IsValuation c.args.g.now values → IsRow (k + 1) (short_value k (told_rows values c.args.t.now) (told_rows values c.args.rows.now.items) y) (values_of values row))) (sym c.in-Literal.is)
    (mapped c.args.g.now c.args.t.now (k + 1) a c.in-Literal.negated (λ p. p) c.turn.result c.row.result.now row (λ p w. omega arith) c.turn.ensures.places c.turn.ensures.literals)

pub returns-in-Literal-clause-belongs : goal.returns-in-Literal-clause-belongs
returns-in-Literal-clause-belongs c =
    let k = c.args.k in
    let a = c.in-Literal.a in
    let within : a < length c.args.t.now = subst (AtomWithin (length c.args.t.now)) c.in-Literal.is c.requires.atom in
    let row : c.row.result.now ≡ lits_at c.args.t.now a = c.row.ensures in
    let m : length c.row.result.now ≡ k + 1 = ap (λ (x : List Literal). length x) row ∙ c.requires.states a within in
    mapped_belongs c.args.g.now c.args.t.now (k + 1) c.in-Literal.negated (λ p. p) c.turn.result c.row.result.now (subst (RowBelongs c.args.g.now) (sym row) (c.requires.table a within)) (λ p w. omega arith) c.turn.ensures.places c.turn.ensures.literals

pub returns-in-Next-clause-values : goal.returns-in-Next-clause-values
returns-in-Next-clause-values c =
    let k = c.args.k in
    let rows = c.args.rows.now.items in
    let a = c.in-Next.a in
    let parts : a < length rows = subst (PartsWithin (length rows)) c.in-Next.is c.requires.parts in
    let row : c.index-in-Next.result.now ≡ lits_at rows a = first_of (search rules, grind (arith, common_steps)) in
    let m : length c.index-in-Next.result.now ≡ k + 1 = ap (λ (x : List Literal). length x) row ∙ c.requires.places a parts in
    subst (λ (y : NnfNode). IfOk c.shift.result (λ row. (values : List Bool) → IsValuation c.args.g.now values → IsRow (k + 1) (short_value k (told_rows values c.args.t.now) (told_rows values rows) y) (values_of values row))) (sym c.in-Next.is)
    (path_next c.args.g.now rows k a c.shift.result c.index-in-Next.result.now c.constant.result row m (c.constant.ensures.value c.args.g.now) c.shift.ensures.places c.shift.ensures.literals c.shift.ensures.last)

pub returns-in-Next-clause-belongs : goal.returns-in-Next-clause-belongs
returns-in-Next-clause-belongs c =
    let rows = c.args.rows.now.items in
    let a = c.in-Next.a in
    let parts : a < length rows = subst (PartsWithin (length rows)) c.in-Next.is c.requires.parts in
    let row : c.index-in-Next.result.now ≡ lits_at rows a = first_of (search rules, grind (arith, common_steps)) in
    path_next_belongs c.args.g.now c.shift.result c.index-in-Next.result.now c.constant.result (subst (RowBelongs c.args.g.now) (sym row) (c.requires.belong a parts)) (omega (arith, c.constant.ensures.node, c.requires.constant)) c.shift.ensures.places c.shift.ensures.literals c.shift.ensures.last

pub returns-in-Always-clause-values : goal.returns-in-Always-clause-values
returns-in-Always-clause-values c =
    let k = c.args.k in
    subst (λ (y : NnfNode). IfOk c.filled.result (λ row. (values : List Bool) → IsValuation c.args.g.now values → IsRow (k + 1) (short_value k (told_rows values c.args.t.now) (told_rows values c.args.rows.now.items) y) (values_of values row))) (sym c.in-Always.is)
    (false_row c.args.g.now (k + 1) c.filled.result c.constant-in-Always.result c.filled.ensures (c.constant-in-Always.ensures.value c.args.g.now))

pub returns-in-Always-clause-belongs : goal.returns-in-Always-clause-belongs
returns-in-Always-clause-belongs c =
    false_belongs c.args.g.now (c.args.k + 1) c.filled.result c.constant-in-Always.result c.filled.ensures (omega (arith, c.constant-in-Always.ensures.node, c.requires.constant))

pub returns-in-And-clause-values : goal.returns-in-And-clause-values
returns-in-And-clause-values c =
    let k = c.args.k in
    let rows = c.args.rows.now.items in
    let a = c.in-And.a in
    let b = c.in-And.b in
    let parts : (a < length rows) × (b < length rows) = subst (PartsWithin (length rows)) c.in-And.is c.requires.parts in
    let first : c.index.result.now ≡ lits_at rows a = first_of (search rules, grind (arith, common_steps)) in
    let second : c.index-in-And.result.now ≡ lits_at rows b = first_of (search rules, grind (arith, common_steps)) in
    let m : length c.index-in-And.result.now ≡ k + 1 = ap (λ (x : List Literal). length x) second ∙ c.requires.places b parts.1 in
    subst (λ (y : NnfNode). IfOk c.join_rows.result (λ row. (values : List Bool) → IsValuation c.join_rows.new.g values → IsRow (k + 1) (short_value k (told_rows values c.args.t.now) (told_rows values rows) y) (values_of values row))) (sym c.in-And.is)
    (two_parts c.join_rows.new.g rows (k + 1) a b (λ x y p. told x p && told y p) (λ n x y p. turned false (turned false (told x p) && turned false (told y p))) c.join_rows.result c.index.result.now c.index-in-And.result.now first second m c.join_rows.ensures.values (λ x y p. refl))

pub returns-in-Or-clause-values : goal.returns-in-Or-clause-values
returns-in-Or-clause-values c =
    let k = c.args.k in
    let rows = c.args.rows.now.items in
    let a = c.in-Or.a in
    let b = c.in-Or.b in
    let parts : (a < length rows) × (b < length rows) = subst (PartsWithin (length rows)) c.in-Or.is c.requires.parts in
    let first : c.index-in-Or.result.now ≡ lits_at rows a = first_of (search rules, grind (arith, common_steps)) in
    let second : c.index-in-Or-2.result.now ≡ lits_at rows b = first_of (search rules, grind (arith, common_steps)) in
    let m : length c.index-in-Or-2.result.now ≡ k + 1 = ap (λ (x : List Literal). length x) second ∙ c.requires.places b parts.1 in
    subst (λ (y : NnfNode). IfOk c.join_rows-in-Or.result (λ row. (values : List Bool) → IsValuation c.join_rows-in-Or.new.g values → IsRow (k + 1) (short_value k (told_rows values c.args.t.now) (told_rows values rows) y) (values_of values row))) (sym c.in-Or.is)
    (two_parts c.join_rows-in-Or.new.g rows (k + 1) a b (λ x y p. told x p || told y p) (λ n x y p. turned true (turned true (told x p) && turned true (told y p))) c.join_rows-in-Or.result c.index-in-Or.result.now c.index-in-Or-2.result.now first second m c.join_rows-in-Or.ensures.values (λ x y p. or-gates (told x p) (told y p)))

pub returns-in-Until-clause-values : goal.returns-in-Until-clause-values
returns-in-Until-clause-values c =
    let k = c.args.k in
    let rows = c.args.rows.now.items in
    let a = c.in-Until.a in
    let b = c.in-Until.b in
    let parts : (a < length rows) × (b < length rows) = subst (PartsWithin (length rows)) c.in-Until.is c.requires.parts in
    let first : c.index-in-Until.result.now ≡ lits_at rows a = first_of (search rules, grind (arith, common_steps)) in
    let second : c.index-in-Until-2.result.now ≡ lits_at rows b = first_of (search rules, grind (arith, common_steps)) in
    let m : length c.index-in-Until-2.result.now ≡ k + 1 = ap (λ (x : List Literal). length x) second ∙ c.requires.places b parts.1 in
    subst (λ (y : NnfNode). IfOk c.along.result (λ row. (values : List Bool) → IsValuation c.along.new.g values → IsRow (k + 1) (short_value k (told_rows values c.args.t.now) (told_rows values rows) y) (values_of values row))) (sym c.in-Until.is)
    (two_parts c.along.new.g rows (k + 1) a b (λ x y p. along k (told x) (told y) p) (λ n x y p. ahead n (told x) (told y) false p) c.along.result c.index-in-Until.result.now c.index-in-Until-2.result.now first second m c.along.ensures.values (λ x y p. refl))

pub returns-in-Releases-clause-values : goal.returns-in-Releases-clause-values
returns-in-Releases-clause-values c =
    let k = c.args.k in
    let rows = c.args.rows.now.items in
    let a = c.in-Releases.a in
    let b = c.in-Releases.b in
    let parts : (a < length rows) × (b < length rows) = subst (PartsWithin (length rows)) c.in-Releases.is c.requires.parts in
    let first : c.index-in-Releases.result.now ≡ lits_at rows a = first_of (search rules, grind (arith, common_steps)) in
    let second : c.index-in-Releases-2.result.now ≡ lits_at rows b = first_of (search rules, grind (arith, common_steps)) in
    let m : length c.index-in-Releases-2.result.now ≡ k + 1 = ap (λ (x : List Literal). length x) second ∙ c.requires.places b parts.1 in
    subst (λ (y : NnfNode). IfOk c.along_both.result (λ row. (values : List Bool) → IsValuation c.along_both.new.g values → IsRow (k + 1) (short_value k (told_rows values c.args.t.now) (told_rows values rows) y) (values_of values row))) (sym c.in-Releases.is)
    (two_parts c.along_both.new.g rows (k + 1) a b (λ x y p. along_both k (told x) (told y) p) (λ n x y p. ahead n (told y) (λ q. told x q && told y q) false p) c.along_both.result c.index-in-Releases.result.now c.index-in-Releases-2.result.now first second m c.along_both.ensures.values (λ x y p. refl))

pub returns-in-Eventually-clause-values : goal.returns-in-Eventually-clause-values
returns-in-Eventually-clause-values c =
    let k = c.args.k in
    let rows = c.args.rows.now.items in
    let a = c.in-Eventually.a in
    let parts : a < length rows = subst (PartsWithin (length rows)) c.in-Eventually.is c.requires.parts in
    let second : c.index-in-Eventually.result.now ≡ lits_at rows a = first_of (search rules, grind (arith, common_steps)) in
    let m : length c.index-in-Eventually.result.now ≡ k + 1 = ap (λ (x : List Literal). length x) second ∙ c.requires.places a parts in
    subst (λ (y : NnfNode). IfOk c.along_whole.result (λ row. (values : List Bool) → IsValuation c.along_whole.new.g values → IsRow (k + 1) (short_value k (told_rows values c.args.t.now) (told_rows values rows) y) (values_of values row))) (sym c.in-Eventually.is)
    (two_parts c.along_whole.new.g rows (k + 1) a a (λ x y p. along k (λ _. true) (told y) p) (λ n x y p. ahead n (λ _. true) (told y) false p) c.along_whole.result c.index-in-Eventually.result.now c.index-in-Eventually.result.now second second m c.along_whole.ensures.values (λ x y p. refl))
