-- The fault of a text where the reading of its tokens halted.
use Rattle.std.specs.Prelude.{◌≡◌, ◌<◌, ◌≤◌, ℕ, List, Option}
use Rattle.smv_tree.specs.declared.place.Place.{Place}
use Rattle.smv_token.specs.declared.token.Flaw.{Flaw}
use Rattle.smv_token.specs.declared.token.Token.{Token}
use Rattle.smv_grammar.specs.declared.fault.ParseFault.{ParseFault}
use Rattle.smv_grammar.specs.declared.fault.ParseFault.TheVariants as faults
use Rattle.smv_rules.specs.Reading.{wrong, deep}
use Rattle.smv_rules.specs.Verdicts.{Unless, stop_fault}
use Rattle.smv_reader.specs.declared.halt.Halt.{Halt}
use Rattle.smv_reader.specs.declared.halt.Halt.TheVariants as halts

-- reading stopped within so many tokens
abbrev pub StopsWithin : ℕ → Halt → Type 0
StopsWithin n (halts.Wrong k) = k ≤ n
StopsWithin n (halts.Deep k) = k < n
StopsWithin n (halts.NoMemory e) = Unit {0}

-- the fault where it halted
abbrev pub HaltFault : List Token → Option (Place × Flaw) → Place → Halt → ParseFault → Type 0
HaltFault ts stop end (halts.Wrong k) f = Unless f (f ≡ stop_fault ts stop end (wrong k))
HaltFault ts stop end (halts.Deep k) f = Unless f (f ≡ stop_fault ts stop end (deep k))
HaltFault ts stop end (halts.NoMemory e) f = f ≡ faults.NoMemory e
