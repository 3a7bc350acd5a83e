use Rattle.smv_kinds.proofs.Widths.{one_typing_width, two_typing_width, const_width, select_width, widen_width, next_width, set_width, cases_width}
use Rattle.smv_kinds.proofs.laws.results_have_a_width.Goals as goal

pub returns-clause-one : goal.returns-clause-one
returns-clause-one c = one_typing_width

pub returns-clause-two : goal.returns-clause-two
returns-clause-two c = two_typing_width

pub returns-clause-word : goal.returns-clause-word
returns-clause-word c = λ w. const_width w.signed w.width

pub returns-clause-constant : goal.returns-clause-constant
returns-clause-constant c = const_width

pub returns-clause-bits : goal.returns-clause-bits
returns-clause-bits c = select_width

pub returns-clause-widened : goal.returns-clause-widened
returns-clause-widened c = widen_width

pub returns-clause-next : goal.returns-clause-next
returns-clause-next c = next_width

pub returns-clause-set : goal.returns-clause-set
returns-clause-set c = set_width

pub returns-clause-cases : goal.returns-clause-cases
returns-clause-cases c = cases_width
