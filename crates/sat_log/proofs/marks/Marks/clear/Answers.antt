use Rattle.std.proofs.Common.{◌≡◌, length, arith}
use Rattle.sat_log.proofs.MarkLemmas.{cleared}
use Rattle.sat_log.proofs.marks.Marks.clear.Goals as goal

pub invariant_of-self : goal.invariant_of-self
invariant_of-self c =
    let m = c.loop-literal.self-inside in
    let before : length m.trail.items ≡ 0 = omega (arith, c.in_default.ensures.cases, m.trail.ok.0) in
    let after : length c.pop.new.self.items ≡ 0 = omega (arith, c.in_default.ensures.cases, c.pop.new.self.ok.0) in
    cleared m.room m.far.keys m.truths.items m.trail.items c.pop.new.self.items _ _ c.loop-literal.invariant.covers before after c.pop.ensures.capacity
