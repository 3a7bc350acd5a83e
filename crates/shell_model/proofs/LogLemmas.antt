-- What checking a log comes to.
use Rattle.std.proofs.Common.{◌≡◌, ℕ, List, inl, inr, refl}
use Rattle.std.specs.Prelude.{◌⊎◌, Ok, Err}
use Rattle.sat_log_text.specs.declared.fault.LogFault.{LogFault}
use Rattle.sat_log_text.specs.declared.fault.LogFault.TheVariants as log_fault
use Rattle.sat_log_text.specs.Answers.{IsNoMemory}
use Rattle.sat_log_text.specs.TextFault.{HasFault}
use Rattle.shell_world.specs.declared.end.End.{End}
use Rattle.shell_world.specs.declared.event.Event.TheVariants.{Log}
use Rattle.shell_world.specs.declared.log_event.LogEvent.{LogEvent}
use Rattle.shell_world.specs.declared.refusal.Refusal.TheVariants as refusal
use Rattle.shell_world.specs.Processes.{Refuses, Says}
use Rattle.shell_world.specs.Scenes.{Moment}
use Rattle.shell_world.specs.Texts.{refusal_number}
use Rattle.shell_world.specs.Written.{Performs}
use Rattle.shell_world.proofs.Combining.{lacked, lacked_not}
use Rattle.shell_world.proofs.Performing.{here, some}
use Rattle.shell_model.specs.LogCommands.{ChecksText, IsChecked}

-- a log was told
pub log_told : (text : List ℕ) (said : LogEvent) {old new : Moment} {e : End} → IsChecked text (Ok said) → Performs (Says (Log said)) old e new → Performs (ChecksText text) old e new
log_told text said is p = lacked_not (some _ (Ok said) (here is p))

-- a log was refused, or memory
pub log_refused : (text : List ℕ) (fault : LogFault) {old new : Moment} {e : End} → IsNoMemory fault ⊎ HasFault text fault → Performs (Refuses (refusal.Log fault)) old e new → Performs (ChecksText text) old e new
log_refused text fault (inl none) p = lacked _ (refusal.Log fault) (no_memory fault none) p
  where
    no_memory : (f : LogFault) → IsNoMemory f → refusal_number (refusal.Log f) ≡ 900
    no_memory (log_fault.NoMemory x) h = refl
    no_memory f h = absurd h
log_refused text fault (inr is) p = lacked_not (some _ (Err fault) (here is p))
