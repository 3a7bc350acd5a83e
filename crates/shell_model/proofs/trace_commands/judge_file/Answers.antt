use Rattle.std.proofs.Common.{sym}
use Rattle.shell_world.proofs.Combining.{with_file, without_file}
use Rattle.shell_model.specs.TraceCommands.{JudgesText}
use Rattle.shell_model.proofs.ModelLemmas.{within_limit}
use Rattle.shell_model.proofs.trace_commands.judge_file.Goals as goal

pub judge_text-requires : goal.judge_text-requires
judge_text-requires g c = rw c.as_slice.ensures (within_limit _ c.args.name.now c.in-Ok.text (c.in-Ok.ensures c.args.state.now))

pub returns-in-Ok : goal.returns-in-Ok
returns-in-Ok g c = with_file _ c.args.name.now (JudgesText c.args.changes c.args.model.now) c.in-Ok.text (c.in-Ok.ensures c.args.state.now) (rw (sym c.as_slice.ensures) c.judge_text.ensures)

pub returns-in-Err : goal.returns-in-Err
returns-in-Err g c = without_file _ c.args.name.now (JudgesText c.args.changes c.args.model.now) c.in-Err.fault (c.in-Err.ensures c.args.state.now) c.refuse_file.ensures
