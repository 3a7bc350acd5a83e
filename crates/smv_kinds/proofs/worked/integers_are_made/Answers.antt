-- The definitions compute.
use Rattle.std.proofs.Common.{refl}
use Rattle.smv_kinds.specs.Operators.{one_typing, two_typing}
use Rattle.smv_kinds.specs.Intervals.{kept, least, greatest}
use Rattle.smv_kinds.proofs.worked.integers_are_made.Goals as goal

pub returns-clause-product : goal.returns-clause-product
unfolding one_typing two_typing kept least greatest
returns-clause-product c = refl

pub returns-clause-quotient : goal.returns-clause-quotient
unfolding one_typing two_typing kept least greatest
returns-clause-quotient c = refl

pub returns-clause-remainder : goal.returns-clause-remainder
unfolding one_typing two_typing kept least greatest
returns-clause-remainder c = refl

pub returns-clause-number : goal.returns-clause-number
unfolding one_typing two_typing kept least greatest
returns-clause-number c = refl

pub returns-clause-outside : goal.returns-clause-outside
unfolding one_typing two_typing kept least greatest
returns-clause-outside c = refl
