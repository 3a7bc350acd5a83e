use Rattle.type_fault.proofs.Firsts.{earliest_first, first_earliest, nothing_first, first_of_nothing, earliest_both}
use Rattle.type_fault.proofs.first.first_fault_is_the_first.Goals as goal

pub returns-clause-first : goal.returns-clause-first
returns-clause-first c = λ fs f. (earliest_first fs f, first_earliest fs f)

pub returns-clause-none : goal.returns-clause-none
returns-clause-none c = λ fs. (nothing_first fs, first_of_nothing fs)

pub returns-clause-both : goal.returns-clause-both
returns-clause-both c = earliest_both
