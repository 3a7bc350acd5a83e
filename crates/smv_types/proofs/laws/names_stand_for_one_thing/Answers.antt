use Rattle.smv_meaning.proofs.NoCycle.{without_cycle_settled}
use Rattle.smv_types.proofs.Settling.{standings_there, standings_one}
use Rattle.smv_types.proofs.laws.names_stand_for_one_thing.Goals as goal

pub returns : goal.returns
returns c = record {
  there = λ program none. standings_there program (without_cycle_settled program none);
  one = λ program s r none. standings_one program s r (without_cycle_settled program none);
}
