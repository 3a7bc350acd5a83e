-- Negation normal form.
use Rattle.std.specs.Prelude.{Bool, true, false}
use Rattle.smv_tree.specs.Models.{Claim, atom, no, after, always, some_time, both}
use Rattle.smv_tree.specs.declared.formula.FormOp.TheVariants as op

-- the first two hold, or the last two
abbrev pub either_pair : Claim → Claim → Claim → Claim → Claim
either_pair a b c d = both op.Or (both op.And a b) (both op.And c d)

-- a formula, or with `true` its negation, with negations at atoms alone
abbrev pub normal : Bool → Claim → Claim
normal false (atom e) = atom e
normal true (atom e) = no (atom e)
normal false (no f) = normal true f
normal true (no f) = normal false f
normal b (after f) = after (normal b f)
normal false (always f) = always (normal false f)
normal true (always f) = some_time (normal true f)
normal false (some_time f) = some_time (normal false f)
normal true (some_time f) = always (normal true f)
normal false (both op.Until f g) = both op.Until (normal false f) (normal false g)
normal true (both op.Until f g) = both op.Releases (normal true f) (normal true g)
normal false (both op.Releases f g) = both op.Releases (normal false f) (normal false g)
normal true (both op.Releases f g) = both op.Until (normal true f) (normal true g)
normal false (both op.And f g) = both op.And (normal false f) (normal false g)
normal true (both op.And f g) = both op.Or (normal true f) (normal true g)
normal false (both op.Or f g) = both op.Or (normal false f) (normal false g)
normal true (both op.Or f g) = both op.And (normal true f) (normal true g)
normal false (both op.Implies f g) = both op.Or (normal true f) (normal false g)
normal true (both op.Implies f g) = both op.And (normal false f) (normal true g)
normal false (both op.Xor f g) =
    either_pair (normal false f) (normal true g) (normal true f) (normal false g)
normal true (both op.Xor f g) =
    either_pair (normal false f) (normal false g) (normal true f) (normal true g)
normal false (both op.Xnor f g) =
    either_pair (normal false f) (normal false g) (normal true f) (normal true g)
normal true (both op.Xnor f g) =
    either_pair (normal false f) (normal true g) (normal true f) (normal false g)
normal false (both op.Iff f g) =
    either_pair (normal false f) (normal false g) (normal true f) (normal true g)
normal true (both op.Iff f g) =
    either_pair (normal false f) (normal true g) (normal true f) (normal false g)
