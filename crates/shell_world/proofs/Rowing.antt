-- What follows on what the words of a command give by its row.
use Rattle.std.proofs.Common.{◌≡◌, ◌⊎◌, ℕ, List, inl, inr}
use Rattle.std.specs.Prelude.{Ok, Err}
use Rattle.cmd_table.specs.declared.given.Given.{Given}
use Rattle.cmd_table.specs.declared.table.Table.{Table}
use Rattle.shell_world.specs.declared.end.End.{End}
use Rattle.shell_world.specs.declared.phase.Phase.{Phase}
use Rattle.shell_world.specs.declared.refusal.Refusal.{Refusal}
use Rattle.shell_world.specs.Processes.{Knowing, Process, Refuses, Where}
use Rattle.shell_world.specs.Rows.{AfterRow, ByRow, Gives, WithRow}
use Rattle.shell_world.specs.Scenes.{Moment}
use Rattle.shell_world.specs.Texts.{refusal_number}
use Rattle.shell_world.specs.Written.{Performs}
use Rattle.shell_world.proofs.Combining.{lacked, lacked_not}
use Rattle.shell_world.proofs.Performing.{here, known, some}

-- what follows on what is given
pub with_row : {N : ℕ} (table : Table N) (needs : Phase) (words : List (List ℕ)) (P : Given → Process) (given : Given) {old new : Moment} {e : End} → Gives table needs words old.state (Ok given) → Performs (P given) old e new → Performs (WithRow table needs words P) old e new
with_row table needs words P given {old = old} is p =
    lacked_not (known (ByRow table needs words P) (some (λ answer. Where (Gives table needs words old.state answer) (AfterRow P answer)) (Ok given) (here is p)))

-- the command is refused
pub without_row : {N : ℕ} (table : Table N) (needs : Phase) (words : List (List ℕ)) (P : Given → Process) (r : Refusal) {old new : Moment} {e : End} → ((refusal_number r ≡ 900) ⊎ Gives table needs words old.state (Err r)) → Performs (Refuses r) old e new → Performs (WithRow table needs words P) old e new
without_row table needs words P r (inl n) p = lacked (Knowing (ByRow table needs words P)) r n p
without_row table needs words P r {old = old} (inr is) p =
    lacked_not (known (ByRow table needs words P) (some (λ answer. Where (Gives table needs words old.state answer) (AfterRow P answer)) (Err r) (here is p)))
