-- What the two sinks gain by the events of a process, and what one performance of a process is.
use Rattle.std.specs.Prelude.{◌≡◌, ◌≢◌, ◌⊎◌, ℕ, List, [], ◌∷◌, ◌++◌}
use Rattle.std.specs.Io.KnownBytes.{append_known}
use Rattle.outside.specs.Told.{AddsFront, HasRisen, Output}
use Rattle.shell_world.specs.declared.end.End.{End}
use Rattle.shell_world.specs.declared.end.End.TheVariants as ends
use Rattle.shell_world.specs.declared.event.Event.{Event}
use Rattle.shell_world.specs.declared.event.Side.{Side}
use Rattle.shell_world.specs.declared.event.Side.TheVariants as side
use Rattle.shell_world.specs.Happenings.{Happening, tells, text_on}
use Rattle.shell_world.specs.Processes.{Process}
use Rattle.shell_world.specs.Scenes.{Moment, Told, scene_of}
use Rattle.shell_world.specs.Texts.{side_of, text_of}

-- all of the events were written, and no sink failed
pub record AreWritten (events : List Happening) (old new : Told) : Type 0 where
  pub out : new.out.written ≡ append_known old.out.written (text_on side.Output events)
  pub err : new.err.written ≡ append_known old.err.written (text_on side.Errors events)
  pub out_quiet : new.out.faults ≡ old.out.faults
  pub err_quiet : new.err.faults ≡ old.err.faults

-- a sink failed at a text, of which a front was written
pub record IsBroken (text : List ℕ) (old new : Output) : Type 0 where
  pub front : AddsFront old.written new.written text
  pub risen : HasRisen old.faults new.faults

-- the sink of this side failed, and nothing was asked of the other
abbrev pub Breaks : Side → List ℕ → Told → Told → Type 0
Breaks side.Output text old new = IsBroken text old.out new.out × (new.err ≡ old.err)
Breaks side.Errors text old new = IsBroken text old.err new.err × (new.out ≡ old.out)

-- a sink failed at the last event; all that happened before it was written
pub record BreakAtLast (events : List Happening) (old new : Told) : Type 0 where
  pub before : List Happening
  pub last : Event
  pub mid : Told
  pub are : events ≡ before ++ tells last ∷ []
  pub written : AreWritten before old mid
  pub breaks : Breaks (side_of last) (text_of last) mid new

-- what the sinks gained by these events, with this end
abbrev pub Written : List Happening → End → Told → Told → Type 0
Written events end old new =
    ((end ≢ ends.Cut) × AreWritten events old new) ⊎ ((end ≡ ends.Cut) × BreakAtLast events old new)

-- the process happens, and its events are written as they come
pub record Performs (P : Process) (old : Moment) (end : End) (new : Moment) : Type 0 where
  pub events : List Happening
  pub happens : P (scene_of old) events end (scene_of new)
  pub written : Written events end old.told new.told
  pub same : new.told.objects ≡ old.told.objects
