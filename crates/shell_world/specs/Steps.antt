-- What commands are made of beside events: lines and files that are read.
use Rattle.std.specs.Prelude.{◌≡◌, ℕ, List, [], ◌∷◌, Result, Ok, Err}
use Rattle.outside.specs.declared.files.FileFault.{FileFault}
use Rattle.outside.specs.declared.files.FileFault.TheVariants as faults
use Rattle.outside.specs.declared.source.Line.{Line}
use Rattle.outside.specs.declared.source.LineFault.{LineFault}
use Rattle.outside.specs.Disk.{ReadsFile, WritesFile}
use Rattle.outside.specs.Lines.{ReadsLine}
use Rattle.shell_world.specs.declared.end.End.{End}
use Rattle.shell_world.specs.declared.end.End.TheVariants as ends
use Rattle.shell_world.specs.declared.refusal.Refusal.{Refusal}
use Rattle.shell_world.specs.declared.refusal.Refusal.TheVariants as refusal
use Rattle.shell_world.specs.Happenings.{Happening}
use Rattle.shell_world.specs.Processes.{Ends, ForSome, MayLack, Process, Refuses, Then}
use Rattle.shell_world.specs.Scenes.{Scene}

-- a line of at most so many bytes is read, with this answer
pub record IsLineRead (limit : ℕ) (answer : Result Line LineFault)
    (old : Scene) (events : List Happening) (end : End) (new : Scene) : Type 0 where
  pub told : events ≡ []
  pub ended : end ≡ ends.Went
  pub reads : ReadsLine limit old.input answer new.input
  pub others : new ≡ record old { input = new.input }

unfoldable pub TakesLine : ℕ → Result Line LineFault → Process
TakesLine limit answer old events end new = IsLineRead limit answer old events end new

-- a file of at most so many bytes is read, with this answer
pub record IsFileRead (limit : ℕ) (name : List ℕ) (answer : Result (List ℕ) FileFault)
    (old : Scene) (events : List Happening) (end : End) (new : Scene) : Type 0 where
  pub told : events ≡ []
  pub ended : end ≡ ends.Went
  pub reads : ReadsFile limit name old.disk answer new.disk
  pub held : new.disk.held ≡ old.disk.held
  pub others : new ≡ record old { disk = new.disk }

unfoldable pub ReadsWhole : ℕ → List ℕ → Result (List ℕ) FileFault → Process
ReadsWhole limit name answer old events end new = IsFileRead limit name answer old events end new

-- a file is written, with this answer
pub record IsFileWritten (name bytes : List ℕ) (answer : Result (Unit {0}) FileFault)
    (old : Scene) (events : List Happening) (end : End) (new : Scene) : Type 0 where
  pub told : events ≡ []
  pub ended : end ≡ ends.Went
  pub writes : WritesFile name bytes old.disk answer new.disk
  pub others : new ≡ record old { disk = new.disk }

unfoldable pub WritesWhole : List ℕ → List ℕ → Result (Unit {0}) FileFault → Process
WritesWhole name bytes answer old events end new =
    IsFileWritten name bytes answer old events end new

-- the refusal of a file that was not read, or not written
abbrev pub file_refusal : ℕ → List ℕ → FileFault → Refusal
file_refusal limit name faults.NotThere = refusal.NoFile name
file_refusal limit name (faults.TooLong size) = refusal.FileTooLong name limit
file_refusal limit name faults.Failed = refusal.FileFault name
file_refusal limit name (faults.NoMemory e) = refusal.NoMemory

abbrev pub RefusesFile : ℕ → List ℕ → FileFault → Process
RefusesFile limit name fault = MayLack (Refuses (file_refusal limit name fault))

-- what follows on the bytes of a file, which is refused where it was not read
abbrev pub AfterFile : ℕ → List ℕ → (List ℕ → Process) → Result (List ℕ) FileFault → Process
AfterFile limit name P (Ok text) = P text
AfterFile limit name P (Err fault) = RefusesFile limit name fault

abbrev pub WithFile : ℕ → List ℕ → (List ℕ → Process) → Process
WithFile limit name P =
    ForSome (λ answer. Then (ReadsWhole limit name answer) (AfterFile limit name P answer))

-- the file has these bytes then, or is refused
abbrev pub AfterStore : List ℕ → Result (Unit {0}) FileFault → Process
AfterStore name (Ok u) = Ends ends.Went
AfterStore name (Err fault) = RefusesFile 0 name fault

abbrev pub Stores : List ℕ → List ℕ → Process
Stores name bytes =
    ForSome (λ answer. Then (WritesWhole name bytes answer) (AfterStore name answer))

-- what follows on the first of the words, if there is one
abbrev pub WithFirst : (List ℕ → Process) → List (List ℕ) → Process
WithFirst P [] = Ends ends.Went
WithFirst P (word ∷ words) = P word
