-- Results that are words have a width within its limits.
use Rattle.std.specs.Prelude.{⊤, IsTrue, Result, Ok, Err}
use Rattle.smv_kinds.specs.declared.sort.Sort.{Sort}
use Rattle.smv_kinds.specs.declared.sort.Sort.TheVariants.{Word}
use Rattle.smv_kinds.specs.declared.typing.Typing.{Typing}
use Rattle.smv_kinds.specs.declared.typing.NodeFault.{NodeFault}
use Rattle.smv_kinds.specs.Results.{is_width}

-- a word has a width that a word may have
abbrev pub HasWidth : Sort → Type 0
HasWidth (Word s n) = IsTrue (is_width n)
HasWidth _ = ⊤

abbrev pub GivesWidth : Result Typing NodeFault → Type 0
GivesWidth (Ok t) = HasWidth t.sort
GivesWidth (Err f) = ⊤
