-- What the objects in memory hold, and which of their calls fail.
use Rattle.std.specs.Prelude.{◌==◌, ℕ, Bool, false, List, [], ◌∷◌, Option, Some, None, if◌then◌else◌}
use Rattle.std.specs.List.{list_any}
use Rattle.std.specs.Str.{bytes_eq}
use Rattle.outside.specs.Told.{Disk, Input, Output, one_more}

-- the calls of an object: how many were made, which are to fail, counted from 1, and how many did
pub record Calls : Type 0 where
  pub made : ℕ
  pub failing : List ℕ
  pub faults : ℕ

-- the next call is one of those that are to fail
abbrev pub fails_next : Calls → Bool
fails_next calls = list_any (λ number. number == one_more calls.made) calls.failing

-- a call more, which failed or not
abbrev pub counted : Bool → Calls → Calls
counted failed calls = record { made = one_more calls.made; failing = calls.failing; faults = if failed then one_more calls.faults else calls.faults }

-- an input in memory: the bytes to come, and its calls
pub record HeldInput : Type 0 where
  pub left : List ℕ
  pub calls : Calls

abbrev pub told_input : HeldInput → Input
told_input held = record { left = Some held.left; faults = held.calls.faults }

-- an output in memory: the bytes written, how many more fit, and its calls
pub record HeldOutput : Type 0 where
  pub written : List ℕ
  pub room : ℕ
  pub calls : Calls

abbrev pub told_output : HeldOutput → Output
told_output held = record { written = Some held.written; faults = held.calls.faults }

-- none of some bytes fits
abbrev pub is_full : HeldOutput → List ℕ → Bool
is_full held [] = false
is_full held (byte ∷ bytes) = held.room == 0

-- files in memory: names and bytes, of which the first of a name counts, and their calls
pub record HeldFiles : Type 0 where
  pub files : List (List ℕ × List ℕ)
  pub calls : Calls

-- what is stored under a name
abbrev pub stored : List (List ℕ × List ℕ) → List ℕ → Option (List ℕ)
stored [] name = None
stored (file ∷ files) name = if bytes_eq file.0 name then Some file.1 else stored files name

abbrev pub told_files : HeldFiles → Disk
told_files held = record { held = Some (stored held.files); faults = held.calls.faults }

-- files of which no call fails
abbrev pub sound : List (List ℕ × List ℕ) → Disk
sound files = record { held = Some (stored files); faults = 0 }
