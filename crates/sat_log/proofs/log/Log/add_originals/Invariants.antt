use Rattle.std.proofs.Common.{◌≡◌, ◌++◌, map, take}
use Rattle.sat_log.specs.Lines.{original}
use Rattle.sat_log.proofs.log.Log.add_originals.Given as goal

abbrev pub invariant-loop-clause : goal.invariant-loop-clause
invariant-loop-clause l = l.self ≡ l.initial.self ++ map original (take l.clause-index l.clauses)
