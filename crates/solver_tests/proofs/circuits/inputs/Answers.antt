use Rattle.std.proofs.Common.{arith}
use Rattle.std.proofs.lemmas.Grind.{common_steps}
use Rattle.word_bits.proofs.Circuits.{circuits, belongs}
use Rattle.solver_tests.proofs.circuits.inputs.Goals as goal

pub loop-preserved : goal.loop-preserved
loop-preserved c = record {
  width = grind (arith, common_steps);
  belongs = grind (arith, belongs, c.in_ok-push.ensures.ok);
  grows = grind (arith, circuits);
}
