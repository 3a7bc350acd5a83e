use Rattle.std.proofs.Common.{◌≡◌, ℕ, ◌+◌, ◌<◌, ◌&&◌, ◌||◌, true, false, Bool, List, length, refl, sym, ap, subst, ◌∙◌, rules, arith}
use Rattle.std.specs.Prelude.{IfOk, nat_lt}
use Rattle.std.proofs.lemmas.Grind.{common_steps}
use Rattle.smv_meaning.specs.Sweeps.{ahead}
use Rattle.ltl_form.specs.declared.node.NnfNode.{NnfNode}
use Rattle.ltl_form.specs.declared.node.NnfNode.TheVariants as node
use Rattle.ltl_form.specs.Nodes.{PartsWithin}
use Rattle.ltl_form.specs.Rows.{told, row_at, turned, short_value, IsRow}
use Rattle.ltl_form.proofs.Rowwise.{row_so, short_next}
use Rattle.ltl_form.proofs.Steps.{by_two}
use Rattle.ltl_form.proofs.short.short_row.Goals as goal

pub returns-in-Literal : goal.returns-in-Literal
returns-in-Literal c =
    let k = c.args.k in
    let rows = c.args.rows.now.items in
    let n = c.in-Literal.negated in
    let row : c.row.result.now ≡ row_at c.args.t.now c.in-Literal.a = c.row.ensures in
    subst (λ (y : NnfNode). IfOk c.turned.result (IsRow (k + 1) (short_value k c.args.t.now rows y))) (sym c.in-Literal.is)
    (row_so c.turned.result (k + 1) (k + 1) (λ p. turned n (told c.row.result.now p)) (short_value k c.args.t.now rows (node.Literal c.in-Literal.a n)) refl c.turned.ensures.places c.turned.ensures.values
    (λ p w. ap (λ (x : List Bool). turned n (told x p)) row))

pub returns-in-And : goal.returns-in-And
returns-in-And c =
    let k = c.args.k in
    let rows = c.args.rows.now.items in
    let a = c.in-And.a in
    let b = c.in-And.b in
    let parts : (a < length rows) × (b < length rows) = subst (PartsWithin (length rows)) c.in-And.is c.requires.parts in
    let first : c.index.result.now ≡ row_at rows a = first_of (search rules, grind (arith, common_steps)) in
    let second : c.index-in-And.result.now ≡ row_at rows b = first_of (search rules, grind (arith, common_steps)) in
    let m : length c.index.result.now ≡ (k + 1) = ap (λ (x : List Bool). length x) first ∙ c.requires.places a parts.0 in
    subst (λ (y : NnfNode). IfOk c.both.result (IsRow (k + 1) (short_value k c.args.t.now rows y))) (sym c.in-And.is)
    (row_so c.both.result (length c.index.result.now) (k + 1) (λ p. told c.index.result.now p && told c.index-in-And.result.now p) (short_value k c.args.t.now rows (node.And a b)) m c.both.ensures.places c.both.ensures.values
    (λ p w. by_two (λ x y. told x p && told y p) c.index.result.now (row_at rows a) c.index-in-And.result.now (row_at rows b) first second))

pub returns-in-Or : goal.returns-in-Or
returns-in-Or c =
    let k = c.args.k in
    let rows = c.args.rows.now.items in
    let a = c.in-Or.a in
    let b = c.in-Or.b in
    let parts : (a < length rows) × (b < length rows) = subst (PartsWithin (length rows)) c.in-Or.is c.requires.parts in
    let first : c.index-in-Or.result.now ≡ row_at rows a = first_of (search rules, grind (arith, common_steps)) in
    let second : c.index-in-Or-2.result.now ≡ row_at rows b = first_of (search rules, grind (arith, common_steps)) in
    let m : length c.index-in-Or.result.now ≡ (k + 1) = ap (λ (x : List Bool). length x) first ∙ c.requires.places a parts.0 in
    subst (λ (y : NnfNode). IfOk c.either.result (IsRow (k + 1) (short_value k c.args.t.now rows y))) (sym c.in-Or.is)
    (row_so c.either.result (length c.index-in-Or.result.now) (k + 1) (λ p. told c.index-in-Or.result.now p || told c.index-in-Or-2.result.now p) (short_value k c.args.t.now rows (node.Or a b)) m c.either.ensures.places c.either.ensures.values
    (λ p w. by_two (λ x y. told x p || told y p) c.index-in-Or.result.now (row_at rows a) c.index-in-Or-2.result.now (row_at rows b) first second))

pub returns-in-Until : goal.returns-in-Until
returns-in-Until c =
    let k = c.args.k in
    let rows = c.args.rows.now.items in
    let a = c.in-Until.a in
    let b = c.in-Until.b in
    let parts : (a < length rows) × (b < length rows) = subst (PartsWithin (length rows)) c.in-Until.is c.requires.parts in
    let first : c.index-in-Until.result.now ≡ row_at rows a = first_of (search rules, grind (arith, common_steps)) in
    let second : c.index-in-Until-2.result.now ≡ row_at rows b = first_of (search rules, grind (arith, common_steps)) in
    let m : length c.index-in-Until-2.result.now ≡ (k + 1) = ap (λ (x : List Bool). length x) second ∙ c.requires.places b parts.1 in
    subst (λ (y : NnfNode). IfOk c.along.result (IsRow (k + 1) (short_value k c.args.t.now rows y))) (sym c.in-Until.is)
    (row_so c.along.result (length c.index-in-Until-2.result.now) (k + 1) (λ p. ahead (length c.index-in-Until-2.result.now) (told c.index-in-Until.result.now) (told c.index-in-Until-2.result.now) false p) (short_value k c.args.t.now rows (node.Until a b)) m c.along.ensures.places c.along.ensures.values
    (λ p w. ap (λ (n : ℕ). ahead n (told c.index-in-Until.result.now) (told c.index-in-Until-2.result.now) false p) m ∙ by_two (λ x y. ahead (k + 1) (told x) (told y) false p) c.index-in-Until.result.now (row_at rows a) c.index-in-Until-2.result.now (row_at rows b) first second))

pub returns-in-Releases : goal.returns-in-Releases
returns-in-Releases c =
    let k = c.args.k in
    let rows = c.args.rows.now.items in
    let a = c.in-Releases.a in
    let b = c.in-Releases.b in
    let parts : (a < length rows) × (b < length rows) = subst (PartsWithin (length rows)) c.in-Releases.is c.requires.parts in
    let first : c.index-in-Releases.result.now ≡ row_at rows a = first_of (search rules, grind (arith, common_steps)) in
    let second : c.index-in-Releases-2.result.now ≡ row_at rows b = first_of (search rules, grind (arith, common_steps)) in
    let m : length c.index-in-Releases-2.result.now ≡ (k + 1) = ap (λ (x : List Bool). length x) second ∙ c.requires.places b parts.1 in
    subst (λ (y : NnfNode). IfOk c.along_both.result (IsRow (k + 1) (short_value k c.args.t.now rows y))) (sym c.in-Releases.is)
    (row_so c.along_both.result (length c.index-in-Releases-2.result.now) (k + 1) (λ p. ahead (length c.index-in-Releases-2.result.now) (told c.index-in-Releases-2.result.now) (λ q. told c.index-in-Releases.result.now q && told c.index-in-Releases-2.result.now q) false p) (short_value k c.args.t.now rows (node.Releases a b)) m c.along_both.ensures.places c.along_both.ensures.values
    (λ p w. ap (λ (n : ℕ). ahead n (told c.index-in-Releases-2.result.now) (λ q. told c.index-in-Releases.result.now q && told c.index-in-Releases-2.result.now q) false p) m ∙ by_two (λ x y. ahead (k + 1) (told y) (λ q. told x q && told y q) false p) c.index-in-Releases.result.now (row_at rows a) c.index-in-Releases-2.result.now (row_at rows b) first second))

pub returns-in-Eventually : goal.returns-in-Eventually
returns-in-Eventually c =
    let k = c.args.k in
    let rows = c.args.rows.now.items in
    let a = c.in-Eventually.a in
    let parts : a < length rows = subst (PartsWithin (length rows)) c.in-Eventually.is c.requires.parts in
    let second : c.index-in-Eventually.result.now ≡ row_at rows a = first_of (search rules, grind (arith, common_steps)) in
    let m : length c.index-in-Eventually.result.now ≡ (k + 1) = ap (λ (x : List Bool). length x) second ∙ c.requires.places a parts in
    subst (λ (y : NnfNode). IfOk c.along_whole.result (IsRow (k + 1) (short_value k c.args.t.now rows y))) (sym c.in-Eventually.is)
    (row_so c.along_whole.result (length c.index-in-Eventually.result.now) (k + 1) (λ p. ahead (length c.index-in-Eventually.result.now) (λ _. true) (told c.index-in-Eventually.result.now) false p) (short_value k c.args.t.now rows (node.Eventually a)) m c.along_whole.ensures.places c.along_whole.ensures.values
    (λ p w. ap (λ (n : ℕ). ahead n (λ _. true) (told c.index-in-Eventually.result.now) false p) m ∙ ap (λ (y : List Bool). ahead (k + 1) (λ _. true) (told y) false p) second))

pub returns-in-Always : goal.returns-in-Always
returns-in-Always c =
    let k = c.args.k in
    let rows = c.args.rows.now.items in
    subst (λ (y : NnfNode). IfOk c.filled.result (IsRow (k + 1) (short_value k c.args.t.now rows y))) (sym c.in-Always.is)
    (row_so c.filled.result (k + 1) (k + 1) (λ p. false) (λ p. false) refl c.filled.ensures.places c.filled.ensures.values (λ p w. refl))

pub returns-in-Next : goal.returns-in-Next
returns-in-Next c =
    let k = c.args.k in
    let rows = c.args.rows.now.items in
    let a = c.in-Next.a in
    let parts : a < length rows = subst (PartsWithin (length rows)) c.in-Next.is c.requires.parts in
    let part : c.index-in-Next.result.now ≡ row_at rows a = first_of (search rules, grind (arith, common_steps)) in
    let m : length c.index-in-Next.result.now ≡ k + 1 = ap (λ (x : List Bool). length x) part ∙ c.requires.places a parts in
    subst (λ (y : NnfNode). IfOk c.shifted.result (IsRow (k + 1) (short_value k c.args.t.now rows y))) (sym c.in-Next.is)
    (subst (λ (x : List Bool). IfOk c.shifted.result (IsRow (k + 1) (λ p. nat_lt p k && told x (p + 1)))) part
    (short_next c.index-in-Next.result.now k c.shifted.result m c.shifted.ensures.places c.shifted.ensures.values c.shifted.ensures.last))
