-- Formulas that say the same in other words.
use Rattle.smv_tree.specs.Models.{Claim, no, some_time, both}
use Rattle.smv_tree.specs.declared.formula.FormOp.TheVariants as op

-- what `G f` says: not at some time not f
abbrev pub never_not : Claim → Claim
never_not f = no (some_time (no f))

-- what `f V g` says: not g is not reached by way of not f
abbrev pub not_until : Claim → Claim → Claim
not_until f g = no (both op.Until (no f) (no g))
