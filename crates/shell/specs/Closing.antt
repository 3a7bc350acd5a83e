-- How a whole session ends.
use Rattle.std.specs.Prelude.{◌≡◌, ℕ, []}
use Rattle.outside.specs.Told.{Disk, Input, Output}
use Rattle.shell_world.specs.declared.end.End.{End}
use Rattle.shell_world.specs.declared.end.Next.TheVariants.{Stop}
use Rattle.shell_world.specs.declared.state.State.{State}
use Rattle.shell_world.specs.Processes.{Process}
use Rattle.shell_world.specs.Scenes.{Told, after, at, fresh}
use Rattle.shell_world.specs.Written.{Performs}

-- what four objects tell
abbrev pub told_of : Input → Disk → Output → Output → Told
told_of input disk out err =
    record { input = input; disk = disk; out = out; err = err; objects = [] }

-- a new session performs the process, and stops with this status
abbrev pub Closes : Told → Process → ℕ → Told → Type 0
Closes old P status new =
    (end : End) × (state : State) × Performs P (at fresh old) end (at state new)
    × (after state end ≡ Stop status)
