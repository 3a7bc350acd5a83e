use Rattle.std.proofs.Common.{take}
use Rattle.std.specs.List.{AllByRecursion}
use Rattle.sat_trail.specs.Trail.{literals}
use Rattle.sat_propagation.specs.Watching.{MayWatch}
use Rattle.sat_propagation.proofs.propagation.find.Given as goal

abbrev pub invariant-loop-literal : goal.invariant-loop-literal
invariant-loop-literal l = AllByRecursion (λ k. ¬ MayWatch (literals l.trail.entries) l.one l.other k) (take l.literal-index l.clause)
