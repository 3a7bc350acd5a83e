use Rattle.std.proofs.Common.{true, false, arith}
use Rattle.smv_meaning.specs.Places.{place}
use Rattle.smv_meaning.proofs.SettledTruths.{settled_so, settled_one_way}
use Rattle.smv_meaning.proofs.formula_laws.settled_is_so_on_lassos.Goals as goal

pub returns-clause-truth : goal.returns-clause-truth
unfolding place
returns-clause-truth g c = λ m k l f h begins s. settled_so k l m h g.S.Atoms.holds g.L.Atoms.holds begins f true 0 (omega arith) s

pub returns-clause-falsity : goal.returns-clause-falsity
unfolding place
returns-clause-falsity g c = λ m k l f h begins s. settled_so k l m h g.S.Atoms.holds g.L.Atoms.holds begins f false 0 (omega arith) s

pub returns-clause-one_way : goal.returns-clause-one_way
returns-clause-one_way g c = λ m p f w. settled_one_way m g.S.Atoms.holds f p w
