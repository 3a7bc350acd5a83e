use Rattle.std.proofs.Common.{map, take}
use Rattle.smv_tree.specs.Models.{bodies, body_of}
use Rattle.smv_modules.proofs.Reached.{AreLookedAt}
use Rattle.smv_modules.proofs.references.first_reference_fault.Given as goal

abbrev pub invariant-loop-one : goal.invariant-loop-one
invariant-loop-one l = AreLookedAt (bodies l.p) (map body_of (take l.one-index l.one-items)) l.first
