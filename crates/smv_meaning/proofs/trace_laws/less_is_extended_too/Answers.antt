use Rattle.std.proofs.Common.{sym, ◌∙◌}
use Rattle.smv_meaning.specs.Instances.{variables}
use Rattle.smv_meaning.specs.PartialTraces.{of_state, of_input}
use Rattle.smv_meaning.proofs.Partials.{less_stated}
use Rattle.smv_meaning.proofs.trace_laws.less_is_extended_too.Goals as goal

pub returns : goal.returns
returns c = λ program run few many less e. record {
  is_run = e.is_run;
  states_agree = less_stated of_state (variables program) run.states few.states many.states less.states_in e.states_agree;
  inputs_agree = less_stated of_input (variables program) run.inputs few.inputs many.inputs less.inputs_in e.inputs_agree;
  same_mark = e.same_mark ∙ sym less.same_mark;
  repeats = e.repeats;
}
