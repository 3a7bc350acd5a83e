use Rattle.smv_meaning.proofs.Settling.{naming_there, naming_one}
use Rattle.smv_meaning.proofs.NoCycle.{without_cycle_settled}
use Rattle.smv_meaning.proofs.one_naming.program_without_cycle_has_one_naming.Goals as goal

pub returns : goal.returns
returns c = record {
  there = λ program m none. naming_there program m (without_cycle_settled program none);
  one = λ program m now other none. naming_one program m now other (without_cycle_settled program none);
}
