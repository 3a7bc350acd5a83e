-- Files that tell nothing of their contents.
use Rattle.std.specs.Prelude.{◌≡◌, ◌+◌, ◌≤◌, ℕ, List, None, Result, Ok, Err, length, ⊤}
use Rattle.outside.specs.Told.{Disk}
use Rattle.outside.specs.declared.files.FileFault.{FileFault}
use Rattle.outside.specs.declared.files.FileFault.TheVariants as fault

-- nothing is told but how often a call has failed
abbrev pub untold : ℕ → Disk
untold faults = record { held = None; faults = faults }

-- what a read of at most so many bytes may answer, as far as their number goes
abbrev pub IsWithin : ℕ → Result (List ℕ) FileFault → Type 0
IsWithin limit (Ok bytes) = length bytes ≤ limit
IsWithin limit (Err (fault.TooLong n)) = n ≡ limit + 1
IsWithin limit _ = ⊤
