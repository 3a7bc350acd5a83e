-- What a session has at a moment, what it can see of it, and how a command ends.
use Rattle.std.specs.Prelude.{ℕ, Option, Some, None, ◌==◌, Bool, true, false, List, [], ◌∷◌, codes}
use Rattle.std.specs.Option.{option_map_or}
use Rattle.std.specs.Borrow.{GName}
use Rattle.outside.specs.Number.{number_of}
use Rattle.outside.specs.Told.{Disk, Input, Output}
use Rattle.shell_lang.specs.Keyed.{at_name}
use Rattle.shell_lang.specs.Known.{defaults}
use Rattle.shell_lang.specs.Past.{no_past}
use Rattle.shell_world.specs.declared.end.End.{End}
use Rattle.shell_world.specs.declared.end.End.TheVariants as ends
use Rattle.shell_world.specs.declared.end.Next.{Next}
use Rattle.shell_world.specs.declared.end.Next.TheVariants.{Go, Stop}
use Rattle.shell_world.specs.declared.phase.Phase.TheVariants.{Start}
use Rattle.shell_world.specs.declared.state.State.{State}
use Rattle.shell_world.specs.declared.work.Work.{Work}
use Rattle.trace_store.specs.Stored.{nothing_stored}

-- nothing is worked out of a model
abbrev pub no_work : Work
no_work = record {
  flat = None;
  traces = nothing_stored;
  gates = None;
  log = None;
  frames = 0;
  bound = None;
  gained = 0;
}

-- a session that was not told anything yet
abbrev pub fresh : State
fresh = record {
  vars = defaults;
  aliases = [];
  past = no_past;
  model = None;
  done = Start;
  work = no_work;
}

-- what the four objects outside tell, and which objects they are
pub record Told : Type 0 where
  pub input : Input
  pub disk : Disk
  pub out : Output
  pub err : Output
  pub objects : List GName

-- what a command can find: the session's state, the files and the input
pub record Scene : Type 0 where
  pub state : State
  pub disk : Disk
  pub input : Input

-- a session, and all that the outside tells
pub record Moment : Type 0 where
  pub state : State
  pub told : Told

abbrev pub at : State → Told → Moment
at state told = record { state = state; told = told }

abbrev pub scene_of : Moment → Scene
scene_of moment =
    record { state = moment.state; disk = moment.told.disk; input = moment.told.input }

-- the variable is set, empty or to 1
abbrev pub is_set : List ℕ → Bool
is_set [] = true
is_set (byte ∷ bytes) = option_map_or (λ n. n == 1) (number_of (byte ∷ bytes)) false

-- a refused command ends the session
abbrev pub quits : State → Bool
quits state = option_map_or is_set (at_name state.vars (codes "on_failure_script_quits")) false

abbrev pub after_refusal : Bool → Next
after_refusal true = Stop 1
after_refusal false = Go

-- the status that an end stops every session with
abbrev pub own_status : End → Option ℕ
own_status ends.Went = None
own_status ends.Refused = None
own_status ends.Quits = Some 0
own_status ends.Misused = Some 2
own_status ends.InputFailed = Some 3
own_status ends.Cut = Some 4
own_status ends.NoMemory = Some 5

-- whether the session goes on after such an end, or the status that it stops with
abbrev pub after : State → End → Next
after state ends.Refused = after_refusal (quits state)
after state end = option_map_or Stop (own_status end) Go

-- the next command of a line follows
abbrev pub goes_along : State → End → Bool
goes_along state ends.Went = true
goes_along state ends.Refused = false
goes_along state ends.Quits = false
goes_along state ends.Misused = false
goes_along state ends.InputFailed = false
goes_along state ends.Cut = false
goes_along state ends.NoMemory = false

abbrev pub is_go : Next → Bool
is_go Go = true
is_go (Stop status) = false

-- the next line follows
abbrev pub goes_on : State → End → Bool
goes_on state end = is_go (after state end)
