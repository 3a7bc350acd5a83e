use Rattle.std.proofs.Common.{◌≤◌, reverse, subst, arith}
use Rattle.std.proofs.lemmas.List.{length-reverse}
use Rattle.sat_trail.specs.Trail.{Trailed}
use Rattle.sat_trail.proofs.Tables.{true_few}
use Rattle.sat_trail.proofs.trail.Trail.len.Goals as goal

pub returns-clause-room : goal.returns-clause-room
returns-clause-room c =
    let t = c.self.inside in
    let few = true_few t.variables (reverse t.trail.items) c.self.invariant.distinct c.self.invariant.within in
    subst (λ (v : Trailed). c.len.result ≤ v.variables) c.self.view_is (omega (arith, c.len.ensures, few, length-reverse t.trail.items, t.trail.ok.0))
