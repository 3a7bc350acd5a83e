use Rattle.std.proofs.Common.{◌≡◌, ◌∷◌, map, take}
use Rattle.smv_tree.specs.Models.{bodies}
use Rattle.smv_modules.specs.CycleFaults.{name_of}
use Rattle.smv_modules.proofs.cycles.told_names.Given as goal

abbrev pub invariant-loop-one : goal.invariant-loop-one
invariant-loop-one l = l.names.items ≡ name_of (bodies l.p) l.number ∷ map (name_of (bodies l.p)) (take l.one-index l.between)
