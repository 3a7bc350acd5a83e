-- What the calls to the outside answer and leave, and how a function says what it does with them.
use Rattle.std.specs.Prelude.{◌≡◌, ℕ, List, Result}
use Rattle.outside.specs.declared.Failed.{Failed}
use Rattle.outside.specs.declared.files.FileFault.{FileFault}
use Rattle.outside.specs.declared.source.Line.{Line}
use Rattle.outside.specs.declared.source.LineFault.{LineFault}
use Rattle.outside.specs.Disk.{ReadsFile, WritesFile}
use Rattle.outside.specs.Lines.{ReadsLine}
use Rattle.outside.specs.Calls.{Writes}
use Rattle.shell_world.specs.declared.end.End.{End}
use Rattle.shell_world.specs.declared.event.Event.{Event}
use Rattle.shell_world.specs.declared.event.Side.{Side}
use Rattle.shell_world.specs.declared.event.Side.TheVariants.{Output, Errors}
use Rattle.shell_world.specs.declared.state.State.{State}
use Rattle.shell_world.specs.Processes.{Process}
use Rattle.shell_world.specs.Scenes.{Told, at}
use Rattle.shell_world.specs.Texts.{side_of, text_of}
use Rattle.shell_world.specs.Written.{Performs}

-- a line was read from the input
pub record ReadsInput (limit : ℕ)
    (old : Told) (result : Result Line LineFault) (new : Told) : Type 0 where
  pub reads : ReadsLine limit old.input result new.input
  pub others : new ≡ record old { input = new.input }

-- a file was read, and all files hold what they held
pub record ReadsDisk (limit : ℕ) (name : List ℕ)
    (old : Told) (result : Result (List ℕ) FileFault) (new : Told) : Type 0 where
  pub reads : ReadsFile limit name old.disk result new.disk
  pub held : new.disk.held ≡ old.disk.held
  pub others : new ≡ record old { disk = new.disk }

-- a file was written
pub record WritesDisk (name bytes : List ℕ)
    (old : Told) (result : Result (Unit {0}) FileFault) (new : Told) : Type 0 where
  pub writes : WritesFile name bytes old.disk result new.disk
  pub others : new ≡ record old { disk = new.disk }

-- a text was written on one side
abbrev pub WritesOn : Side → List ℕ → Told → Result (Unit {0}) Failed → Told → Type 0
WritesOn Output text old result new =
    Writes text old.out result new.out × (new ≡ record old { out = new.out })
WritesOn Errors text old result new =
    Writes text old.err result new.err × (new ≡ record old { err = new.err })

-- the text of an event was written, on its side
pub record Tells (event : Event)
    (old : Told) (result : Result (Unit {0}) Failed) (new : Told) : Type 0 where
  pub writes : WritesOn (side_of event) (text_of event) old result new

-- between a session with an outside, and these after it, the process is performed
abbrev pub Does : {W : Type 0} → (W → Told) → Process → State → W → End → State → W → Type 0
Does told P old world end new world' = Performs P (at old (told world)) end (at new (told world'))
