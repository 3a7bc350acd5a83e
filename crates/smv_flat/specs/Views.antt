-- The way from a flat expression to its twin, which holds no pointers.
use Rattle.std.specs.Prelude.{List, [], ◌∷◌}
use Rattle.smv_meaning.specs.FlatTrees as twin
use Rattle.smv_meaning.specs.FlatTrees.{Flat, Flats, FlatArms, no_flats, flat, no_arms, arm}
use Rattle.smv_flat.specs.declared.flat_expr.FlatName.{FlatName}
use Rattle.smv_flat.specs.declared.flat_expr.FlatName.TheVariants as names
use Rattle.smv_flat.specs.declared.flat_expr.FlatExpr.{FlatExpr, FlatExpr-F, fold-FlatExpr}
use Rattle.smv_flat.specs.declared.flat_expr.FlatBranch.{FlatBranch, FlatBranch-F}

-- what a name refers to
abbrev pub flat_name : FlatName → twin.FlatName
flat_name (names.Variable k) = twin.slot k
flat_name (names.Definition k) = twin.def k
flat_name (names.Symbol n) = twin.symbol n

-- a list of flat expressions as expressions in order, and of pairs as branches
abbrev pub flats : List Flat → Flats
flats [] = no_flats
flats (f ∷ fs) = flat f (flats fs)

abbrev pub flat_arms : List (Flat × Flat) → FlatArms
flat_arms [] = no_arms
flat_arms (b ∷ bs) = arm b.0 b.1 (flat_arms bs)

-- one level of an expression, with a twin in the place of each part
abbrev pub flat_step : FlatExpr-F Flat (Flat × Flat) → Flat
flat_step (FlatExpr-F.Truth p b) = twin.truth p b
flat_step (FlatExpr-F.Number p n) = twin.number p n
flat_step (FlatExpr-F.Word p w) = twin.word p w
flat_step (FlatExpr-F.Name p n) = twin.name p (flat_name n)
flat_step (FlatExpr-F.Span p low high) = twin.span p low high
flat_step (FlatExpr-F.Set p es) = twin.set p (flats es.items)
flat_step (FlatExpr-F.Case p bs) = twin.cases p (flat_arms bs.items)
flat_step (FlatExpr-F.If p c a b) = twin.choice p c.value a.value b.value
flat_step (FlatExpr-F.One p o a) = twin.one p o a.value
flat_step (FlatExpr-F.Two p o a b) = twin.two p o a.value b.value
flat_step (FlatExpr-F.Select p a high low) = twin.select p a.value high low
flat_step (FlatExpr-F.Next p a) = twin.next p a.value
flat_step (FlatExpr-F.Widen p resize a n) = twin.widen p resize a.value n
flat_step (FlatExpr-F.Const p signed v n) = twin.const p signed v n
flat_step (FlatExpr-F.Count p es) = twin.count p (flats es.items)

abbrev pub flat_branch_step : FlatBranch-F Flat (Flat × Flat) → Flat × Flat
flat_branch_step b = (b.condition, b.value)

-- the twin of an expression
abbrev pub flat_tree : FlatExpr → Flat
flat_tree = fold-FlatExpr Flat (Flat × Flat) flat_step flat_branch_step

-- the twins of a branch's condition and value
abbrev pub flat_arm : FlatBranch → Flat × Flat
flat_arm b = (flat_tree b.condition, flat_tree b.value)
