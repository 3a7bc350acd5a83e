use Rattle.sat_link.specs.Contents.{KeepsClauses}
use Rattle.sat_link.proofs.Searching.{keeps_searched}
use Rattle.sat_link.proofs.kept.Kept.search.Goals as goal

kept : (c : goal.After-solve) → KeepsClauses c.self.inside.nodes.items c.solve.new.self
kept c =
    let k = c.self.inside in
    let s = c.solve.ensures in
    keeps_searched k.nodes.items k.solver c.solve.new.self c.self.invariant s.variables s.gains.longer s.no_original s.gains.is_log

pub invariant_of-self : goal.invariant_of-self
invariant_of-self c = kept c

pub returns-clause-kept : goal.returns-clause-kept
returns-clause-kept c = let k = kept c in record { enough = k.variables; spare = k.spare; is_log = k.is_log; clauses = k.clauses }
