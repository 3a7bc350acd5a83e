-- The command that checks the log in a file.
use Rattle.std.specs.Prelude.{◌≡◌, ◌-◌, ℕ, List, length, Result, Ok, Err, codes}
use Rattle.sat_log.specs.declared.line.LogLine.{LogLine}
use Rattle.sat_log.specs.Accepted.{IsLog, originals}
use Rattle.sat_log_text.specs.declared.fault.LogFault.{LogFault}
use Rattle.sat_log_text.specs.LogText.{IsTextOf}
use Rattle.sat_log_text.specs.TextFault.{HasFault}
use Rattle.shell_world.specs.declared.event.Event.TheVariants.{Log}
use Rattle.shell_world.specs.declared.log_event.LogEvent.{LogEvent}
use Rattle.shell_world.specs.declared.refusal.Refusal.TheVariants as refusal
use Rattle.shell_world.specs.Processes.{ForSome, MayLack, Process, Refuses, Says, Where}
use Rattle.shell_world.specs.Steps.{WithFile, WithFirst}
use Rattle.shell_world.specs.Rows.{WithRow}
use Rattle.shell_model.specs.declared.log_commands.LogCommand.{LogCommand}
use Rattle.shell_model.specs.declared.log_commands.LogCommand.TheVariants as command
use Rattle.cmd_table.specs.declared.commands.TheConstants.{CHECK_LOG}
use Rattle.shell_world.specs.declared.phase.Phase.TheVariants.{Start}

-- the word that a command is called by
abbrev pub log_word : LogCommand → List ℕ
log_word command.CheckLog = codes "check_log"

-- the command as a user writes it
abbrev pub log_help : LogCommand → List ℕ
log_help command.CheckLog = codes "check_log file"

-- a log has at most so many bytes
abbrev pub log_limit : ℕ
log_limit = 268435456

-- what a text is: a log, of which so many lines are originals and so many others, or its first
-- fault
abbrev pub IsChecked : List ℕ → Result LogEvent LogFault → Type 0
IsChecked text (Ok said) =
    (log : List LogLine) × IsTextOf log text × IsLog log
    × (said.originals ≡ length (originals log)) × (said.others ≡ length log - said.originals)
IsChecked text (Err fault) = HasFault text fault

abbrev pub TellsLog : Result LogEvent LogFault → Process
TellsLog (Ok said) = Says (Log said)
TellsLog (Err fault) = Refuses (refusal.Log fault)

abbrev pub ChecksText : List ℕ → Process
ChecksText text = MayLack (ForSome (λ answer. Where (IsChecked text answer) (TellsLog answer)))

abbrev pub ChecksFile : List ℕ → Process
ChecksFile name = WithFile log_limit name ChecksText

-- the command `check_log`
abbrev pub DoesCheckLog : List (List ℕ) → Process
DoesCheckLog words = WithRow CHECK_LOG Start words (λ given. WithFirst ChecksFile given.rest)

-- a command of this topic, one case each
abbrev pub DoesLog : LogCommand → List (List ℕ) → Process
DoesLog command.CheckLog words = DoesCheckLog words
