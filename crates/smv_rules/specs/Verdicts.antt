-- What a call answers, and the verdict on a text that the reading of its tokens gives.
use Rattle.std.specs.Prelude.{◌≡◌, ◌-◌, ◌==◌, ℕ, List, Option, Some, None, Result, Ok, Err, length, if◌then◌else◌}
use Rattle.smv_tree.specs.declared.place.Place.{Place}
use Rattle.smv_grammar.specs.declared.fault.ParseFault.{ParseFault}
use Rattle.smv_grammar.specs.declared.fault.ParseFault.TheVariants as faults
use Rattle.smv_token.specs.declared.token.Flaw.{Flaw}
use Rattle.smv_token.specs.declared.token.Token.{Token}
use Rattle.smv_grammar.specs.Faults.{end_of, fault_of, place_at}
use Rattle.smv_rules.specs.Reading.{Stop, wrong, deep}
use Rattle.smv_token.specs.Tokens.{scanned}

-- this, unless memory ran out
abbrev pub Unless : ParseFault → Type 0 → Type 0
Unless (faults.NoMemory e) P = Unit {0}
Unless f P = P

-- What a call returned, seen by view, is what is wanted, unless memory ran out.
abbrev pub Answers : {X Y : Type 0} → (X → Y) → Result X ParseFault → Result Y ParseFault → Type 0
Answers view (Ok x) want = want ≡ Ok (view x)
Answers view (Err f) want = Unless f (want ≡ Err f)

-- where all tokens are read, the place where no token begins decides
abbrev pub at_stop : {X : Type 0} → Option (Place × Flaw) → X → Result X ParseFault
at_stop None x = Ok x
at_stop (Some f) x = Err (fault_of f.0 f.1)

-- the fault where all tokens are read, and more is wanted
abbrev pub end_fault : Option (Place × Flaw) → Place → ParseFault
end_fault None end = faults.End end
end_fault (Some f) end = fault_of f.0 f.1

-- the fault where the reading of the tokens stopped
abbrev pub stop_fault : List Token → Option (Place × Flaw) → Place → Stop → ParseFault
stop_fault ts stop end (wrong k) = if k == 0 then end_fault stop end else faults.Unexpected (place_at ts (length ts - k))
stop_fault ts stop end (deep k) = faults.Deep (place_at ts (length ts - k - 1))

abbrev pub verdict : {X : Type 0} → List Token → Option (Place × Flaw) → Place → Result X Stop → Result X ParseFault
verdict ts stop end (Ok x) = at_stop stop x
verdict ts stop end (Err s) = Err (stop_fault ts stop end s)

-- the verdict on a text whose tokens are read so
unfoldable pub judged_by : {X : Type 0} → (List Token → Result X Stop) → List ℕ → Result X ParseFault
judged_by all bytes = verdict (scanned bytes).tokens (scanned bytes).stop (end_of bytes) (all (scanned bytes).tokens)
