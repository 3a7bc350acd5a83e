use Rattle.std.proofs.Common.{◌≡◌, ◌++◌, ◌≤◌, drop, map}
use Rattle.smv_flat.specs.FlatModels.{variable_of}
use Rattle.smv_flat.specs.Spots.{spots}
use Rattle.smv_flat.proofs.spots.spots.Given as goal

-- the spots that are there, and those of the variables that are left
abbrev pub invariant-loop-var : goal.invariant-loop-var
invariant-loop-var l =
    (l.states ≤ l.var-index) × (l.inputs ≤ l.var-index)
    × (spots 0 0 (map variable_of l.vars) ≡ l.all.items ++ spots l.states l.inputs (map variable_of (drop l.var-index l.vars)))
