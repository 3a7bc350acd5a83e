use Rattle.std.proofs.Common.{ap, sym}
use Rattle.outside.proofs.WriteLemmas.{writes_as}
use Rattle.shell_world.specs.TraceTexts.{trace_text}
use Rattle.shell_world.proofs.trace_event.TraceEvent.print.Goals as goal

pub returns-in-Stops : goal.returns-in-Stops
returns-in-Stops g c = writes_as (ap trace_text (sym c.in-Stops.is)) c.print_stop.ensures
