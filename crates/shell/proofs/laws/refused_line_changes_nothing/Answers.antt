use Rattle.std.proofs.Common.{refl}
use Rattle.shell_world.specs.declared.end.End.TheVariants as ends
use Rattle.shell.proofs.Refusing.{TopicsKeep, input_kept, line_kept, named_little}
use Rattle.shell.proofs.laws.refused_line_changes_nothing.Goals as goal

pub returns-clause-command : goal.returns-clause-command
returns-clause-command c =
    let t : TopicsKeep = record { settings = c.refused_setting_changes_nothing.ensures; log = c.refused_command_changes_nothing.ensures.log; model = c.refused_command_changes_nothing.ensures.model; trace = c.refused_command_changes_nothing.ensures.trace } in
    λ depth command words old events new p. named_little t depth command words old events ends.Refused new refl p

pub returns-clause-line : goal.returns-clause-line
returns-clause-line c =
    let t : TopicsKeep = record { settings = c.refused_setting_changes_nothing.ensures; log = c.refused_command_changes_nothing.ensures.log; model = c.refused_command_changes_nothing.ensures.model; trace = c.refused_command_changes_nothing.ensures.trace } in
    λ depth line old events new p. line_kept t depth line old events ends.Refused new refl p

pub returns-clause-input : goal.returns-clause-input
returns-clause-input c =
    let t : TopicsKeep = record { settings = c.refused_setting_changes_nothing.ensures; log = c.refused_command_changes_nothing.ensures.log; model = c.refused_command_changes_nothing.ensures.model; trace = c.refused_command_changes_nothing.ensures.trace } in
    λ line old events new p. input_kept t line old events ends.Refused new refl p
