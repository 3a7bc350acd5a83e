use Rattle.std.proofs.Common.{◌+◌, ap, sym, subst, ◌∙◌}
use Rattle.sat_trail.specs.Trail.{top, before}
use Rattle.sat_core.specs.Search.{AskedFirst}
use Rattle.sat_trail.proofs.Levels.{before_trail}
use Rattle.sat_core.proofs.Attaching.{attached_before}
use Rattle.sat_core.proofs.Steps.{reset_top, keeps_reset, asked_zero}
use Rattle.sat_core.proofs.search.Search.reset.Goals as goal

pub invariant_of-self : goal.invariant_of-self
invariant_of-self c =
    let s = c.self.inside in
    (keeps_reset s.log s.trail c.backjump.new.trail s.analysis.state c.self.invariant.0 c.backjump.ensures.entries c.backjump.ensures.variables, attached_before s.log s.trail c.backjump.new.trail s.propagation c.backjump.new.self s.attached 0 s.false_clause c.backjump.ensures.entries c.backjump.ensures.watched c.backjump.ensures.lines (c.backjump.ensures.ready s.log c.self.invariant.1.ready) c.self.invariant.1)

pub returns-clause-level : goal.returns-clause-level
returns-clause-level c = ap top c.backjump.ensures.entries ∙ reset_top c.self.inside.log c.self.inside.trail.entries c.self.invariant.0.trail_is

pub returns-clause-asked : goal.returns-clause-asked
returns-clause-asked c want =
    let s = c.self.inside in
    subst (AskedFirst want) (sym c.backjump.ensures.entries) (asked_zero s.log want (before (0 + 1) s.trail.entries) (before_trail s.log (0 + 1) s.trail.entries c.self.invariant.0.trail_is) (reset_top s.log s.trail.entries c.self.invariant.0.trail_is))
