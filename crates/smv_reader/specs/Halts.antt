-- What a step of reading answers, beside what the reading function gives.
use Rattle.std.specs.Prelude.{◌≡◌, Result, Ok, Err}
use Rattle.smv_reader.specs.declared.halt.Halt.{Halt}
use Rattle.smv_reader.specs.declared.halt.Halt.TheVariants as halts
use Rattle.smv_rules.specs.Reading.{Stop, wrong, deep}

abbrev pub Halts : {Y : Type 0} → Halt → Result Y Stop → Type 0
Halts (halts.Wrong n) out = out ≡ Err (wrong n)
Halts (halts.Deep n) out = out ≡ Err (deep n)
Halts (halts.NoMemory e) out = Unit {0}

-- What a step returned, seen by view, is what the function gives, unless memory ran out.
abbrev pub Reads : {X Y : Type 0} → (X → Y) → Result X Halt → Result Y Stop → Type 0
Reads view (Ok x) out = out ≡ Ok (view x)
Reads view (Err h) out = Halts h out

-- memory ran out
abbrev pub IsMemory : Halt → Type 0
IsMemory (halts.Wrong n) = ⊥
IsMemory (halts.Deep n) = ⊥
IsMemory (halts.NoMemory e) = Unit {0}
