use Rattle.std.proofs.Common.{refl}
use Rattle.smv_meaning.specs.Instances.{variables}
use Rattle.smv_meaning.specs.PartialTraces.{of_state, of_input}
use Rattle.smv_meaning.proofs.Partials.{all_have}
use Rattle.smv_meaning.proofs.trace_laws.runs_extend_themselves.Goals as goal

pub returns : goal.returns
returns c = λ program run r m. record {
  is_run = r;
  states_agree = all_have of_state (variables program) run.states;
  inputs_agree = all_have of_input (variables program) run.inputs;
  same_mark = refl;
  repeats = m;
}
