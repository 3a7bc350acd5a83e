-- How many nodes a normal form has.
use Rattle.std.specs.Prelude.{ℕ, ◌+◌, Bool, true, false, if◌then◌else◌}
use Rattle.smv_tree.specs.Models.{Claim, atom, no, after, always, some_time, both}
use Rattle.smv_tree.specs.declared.formula.FormOp.{FormOp}
use Rattle.smv_tree.specs.declared.formula.FormOp.TheVariants as op

-- an operator that compares two truths: its normal forms have each part and the negation of each
abbrev pub compares : FormOp → Bool
compares op.Xor = true
compares op.Xnor = true
compares op.Iff = true
compares op.Until = false
compares op.Releases = false
compares op.And = false
compares op.Or = false
compares op.Implies = false

-- how many atoms and operators a formula has
abbrev pub size : Claim → ℕ
size (atom e) = 1
size (no f) = size f + 1
size (after f) = size f + 1
size (always f) = size f + 1
size (some_time f) = size f + 1
size (both o f g) = size f + size g + 1

-- how many of its operators compare
abbrev pub comparisons : Claim → ℕ
comparisons (atom e) = 0
comparisons (no f) = comparisons f
comparisons (after f) = comparisons f
comparisons (always f) = comparisons f
comparisons (some_time f) = comparisons f
comparisons (both o f g) = comparisons f + comparisons g + (if compares o then 1 else 0)

-- how many nodes say a formula and its negation
abbrev pub nodes_of_two : Claim → ℕ
nodes_of_two (atom e) = 2
nodes_of_two (no f) = nodes_of_two f
nodes_of_two (after f) = nodes_of_two f + 2
nodes_of_two (always f) = nodes_of_two f + 2
nodes_of_two (some_time f) = nodes_of_two f + 2
nodes_of_two (both o f g) = nodes_of_two f + nodes_of_two g + (if compares o then 6 else 2)

-- how many nodes say a formula, or its negation
abbrev pub nodes_of_one : Claim → ℕ
nodes_of_one (atom e) = 1
nodes_of_one (no f) = nodes_of_one f
nodes_of_one (after f) = nodes_of_one f + 1
nodes_of_one (always f) = nodes_of_one f + 1
nodes_of_one (some_time f) = nodes_of_one f + 1
nodes_of_one (both o f g) =
    if compares o then nodes_of_two f + nodes_of_two g + 3 else nodes_of_one f + nodes_of_one g + 1
