-- What is kept of a judgement: of all faults the first.
use Rattle.std.specs.Prelude.{Option, Result, Ok, Err}
use Rattle.type_fault.specs.declared.fault.TypeFault.{TypeFault}
use Rattle.type_fault.specs.First.{earliest}
use Rattle.smv_typing.specs.Judging.{Judgement}

-- what is found where nothing is wrong, or the first fault, if there is one
abbrev pub Kept : Type 0 → Type 0
Kept A = Result A (Option TypeFault)

abbrev pub firsts : {A : Type 0} → Judgement A → Kept A
firsts (Ok a) = Ok a
firsts (Err fs) = Err (earliest fs)
