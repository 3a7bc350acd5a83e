-- The definitions compute.
use Rattle.std.proofs.Common.{refl}
use Rattle.smv_kinds.specs.Operators.{one_typing, two_typing}
use Rattle.smv_kinds.specs.Intervals.{kept, least, greatest}
use Rattle.smv_kinds.proofs.worked.others_are_refused.Goals as goal

pub returns-clause-kinds : goal.returns-clause-kinds
unfolding one_typing two_typing kept least greatest
returns-clause-kinds c = refl

pub returns-clause-kind : goal.returns-clause-kind
unfolding one_typing two_typing kept least greatest
returns-clause-kind c = refl

pub returns-clause-set : goal.returns-clause-set
unfolding one_typing two_typing kept least greatest
returns-clause-set c = refl

pub returns-clause-member : goal.returns-clause-member
unfolding one_typing two_typing kept least greatest
returns-clause-member c = refl

pub returns-clause-wide : goal.returns-clause-wide
unfolding one_typing two_typing kept least greatest
returns-clause-wide c = refl
