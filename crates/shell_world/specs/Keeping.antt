-- What a process leaves as it was: where it is refused, and always.
use Rattle.std.specs.Prelude.{◌≡◌, ◌⊎◌, ◌<◌, ◌≤◌, ℕ, Bool, true, false, List}
use Rattle.std.specs.List.{list_any}
use Rattle.outside.specs.declared.source.LineFault.TheVariants.{ReadFault}
use Rattle.outside.specs.Disk.{BreaksOff}
use Rattle.shell_world.specs.declared.end.End.{End}
use Rattle.shell_world.specs.declared.end.End.TheVariants as ends
use Rattle.shell_world.specs.declared.event.Event.TheVariants as event
use Rattle.shell_world.specs.declared.refusal.Refusal.TheVariants as refusal
use Rattle.shell_world.specs.Happenings.{Happening, tells}
use Rattle.shell_world.specs.Processes.{Process}
use Rattle.shell_world.specs.Scenes.{Scene}

-- all that the session keeps, the input and what the files hold is as before; of the files no more than
-- the count of faults may have changed
pub record IsKept (old new : Scene) : Type 0 where
  pub state : new.state ≡ old.state
  pub input : new.input ≡ old.input
  pub held : new.disk.held ≡ old.disk.held

-- the same, but that the file of this name may have a front of the bytes that it was to have
pub record IsKeptBut (name bytes : List ℕ) (old new : Scene) : Type 0 where
  pub state : new.state ≡ old.state
  pub input : new.input ≡ old.input
  pub held : BreaksOff name bytes old.disk.held new.disk.held

-- where a process ends refused, all is as before, or changed as it may be where these events happened
abbrev pub KeepsRefused : (Scene → List Happening → Scene → Type 0) → Process → Type 0
KeepsRefused MayChange P =
    (old : Scene) (events : List Happening) (end : End) (new : Scene) → end ≡ ends.Refused
    → P old events end new → IsKept old new ⊎ MayChange old events new

-- a fault of the files or of the input is told
abbrev pub tells_fault : Happening → Bool
tells_fault (tells (event.Refused (refusal.FileFault name))) = true
tells_fault (tells (event.Refused (refusal.Line ReadFault))) = true
tells_fault other = false

-- a count can rise no further
abbrev pub last_count : ℕ
last_count = 18446744073709551615

-- an end that a command may have
abbrev pub is_inner : End → Bool
is_inner ends.Misused = false
is_inner ends.InputFailed = false
is_inner other = true

-- a command reads no input, and a fault is told only where the count of the files rises
pub record IsCaused (old : Scene) (events : List Happening) (end : End) (new : Scene) : Type 0 where
  pub input : new.input ≡ old.input
  pub inner : is_inner end ≡ true
  pub rises :
      old.disk.faults ≤ last_count
      → (old.disk.faults ≤ new.disk.faults) × (new.disk.faults ≤ last_count)
  pub quiet :
      old.disk.faults < last_count → new.disk.faults ≡ old.disk.faults
      → list_any tells_fault events ≡ false

-- each performance of a process has the fact
abbrev pub Always : Process → Process → Type 0
Always P R =
    (old : Scene) (events : List Happening) (end : End) (new : Scene)
    → P old events end new → R old events end new
