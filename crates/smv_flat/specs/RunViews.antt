-- The way from runs and partial traces to those of the definitions.
use Rattle.smv_meaning.specs.Marks.{MarkedRun, Partial}
use Rattle.smv_flat.specs.declared.runs.Run.{Run}
use Rattle.smv_flat.specs.declared.partial.Partial.{Partial as PartialTrace}

abbrev pub marked_run : Run → MarkedRun
marked_run r = record { states = r.states.items; inputs = r.inputs.items; mark = r.mark }

abbrev pub partial_of : PartialTrace → Partial
partial_of p = record { states = p.states.items; inputs = p.inputs.items; mark = p.mark }
