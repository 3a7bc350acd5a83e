-- What reading and writing a file do.
use Rattle.std.specs.Prelude.{◌≡◌, ◌≢◌, ◌+◌, ◌<◌, ◌≤◌, ℕ, List, ◌++◌, ◌⊎◌, length, Option, Some, None, Result, Ok, Err, ⊤}
use Rattle.outside.specs.declared.files.FileFault.{FileFault}
use Rattle.outside.specs.declared.files.FileFault.TheVariants as fault
use Rattle.outside.specs.Told.{Disk, HasRisen}

-- what is told of a file has the fact, and where nothing is told the fact is as good as true
abbrev pub IfTold : Option (List ℕ → Option (List ℕ)) → List ℕ → (Option (List ℕ) → Type 0) → Type 0
IfTold None name P = ⊤
IfTold (Some held) name P = P (held name)

-- a refusal is what the store tells, without a fault, or, where it tells nothing, a fault
abbrev pub Refuses : Option (List ℕ → Option (List ℕ)) → List ℕ → ℕ → ℕ → (Option (List ℕ) → Type 0) → Type 0
Refuses None name before after P = HasRisen before after
Refuses (Some held) name before after P = P (held name) × (after ≡ before)

-- the file is there and longer than the limit
abbrev pub IsLonger : ℕ → Option (List ℕ) → Type 0
IsLonger limit file = (bytes : List ℕ) × (file ≡ Some bytes) × (limit < length bytes)

-- what a read of a whole file of at most so many bytes answers
abbrev pub ReadsFile : ℕ → List ℕ → Disk → Result (List ℕ) FileFault → Disk → Type 0
ReadsFile limit name old (Ok bytes) new = IfTold old.held name (λ file. file ≡ Some bytes) × (length bytes ≤ limit) × (new.faults ≡ old.faults)
ReadsFile limit name old (Err fault.NotThere) new = Refuses old.held name old.faults new.faults (λ file. file ≡ None)
ReadsFile limit name old (Err (fault.TooLong n)) new = Refuses old.held name old.faults new.faults (IsLonger limit) × (n ≡ limit + 1)
ReadsFile limit name old (Err fault.Failed) new = HasRisen old.faults new.faults
ReadsFile limit name old (Err (fault.NoMemory e)) new = new.faults ≡ old.faults

-- each file but this one holds what it held
abbrev pub KeepsOthers : List ℕ → (List ℕ → Option (List ℕ)) → (List ℕ → Option (List ℕ)) → Type 0
KeepsOthers name old new = (other : List ℕ) → other ≢ name → new other ≡ old other

-- the file has these bytes, and the others what they had
abbrev pub Stores : List ℕ → List ℕ → Option (List ℕ → Option (List ℕ)) → Option (List ℕ → Option (List ℕ)) → Type 0
Stores name bytes None new = new ≡ None
Stores name bytes (Some old) new = (held : List ℕ → Option (List ℕ)) × (new ≡ Some held) × (held name ≡ Some bytes) × KeepsOthers name old held

-- a write that broke off left the old bytes or a front of the new ones
abbrev pub BreaksOff : List ℕ → List ℕ → Option (List ℕ → Option (List ℕ)) → Option (List ℕ → Option (List ℕ)) → Type 0
BreaksOff name bytes None new = new ≡ None
BreaksOff name bytes (Some old) new = (held : List ℕ → Option (List ℕ)) × (new ≡ Some held) × KeepsOthers name old held
    × ((held name ≡ old name) ⊎ ((front : List ℕ) × (rest : List ℕ) × (bytes ≡ front ++ rest) × (held name ≡ Some front)))

-- what a write of a whole file answers and leaves
abbrev pub WritesFile : List ℕ → List ℕ → Disk → Result (Unit {0}) FileFault → Disk → Type 0
WritesFile name bytes old (Ok u) new = Stores name bytes old.held new.held × (new.faults ≡ old.faults)
WritesFile name bytes old (Err fault.Failed) new = BreaksOff name bytes old.held new.held × HasRisen old.faults new.faults
WritesFile name bytes old (Err (fault.NoMemory e)) new = BreaksOff name bytes old.held new.held × (new.faults ≡ old.faults)
WritesFile name bytes old (Err fault.NotThere) new = ⊥
WritesFile name bytes old (Err (fault.TooLong n)) new = ⊥
