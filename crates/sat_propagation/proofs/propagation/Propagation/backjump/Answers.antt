use Rattle.std.proofs.Common.{sym, subst, arith}
use Rattle.sat_propagation.specs.Watching.{IsReady}
use Rattle.sat_propagation.proofs.Ready.{ready_before}
use Rattle.sat_propagation.proofs.propagation.Propagation.backjump.Goals as goal

pub returns-then-level-clause-ready : goal.returns-then-level-clause-ready
returns-then-level-clause-ready c log h =
    let s = c.self.inside in
    ready_before log c.args.trail.now c.backjump.new.self (record { watched = s.watches; lines = s.lines.items; looked = s.looked }) c.args.level c.len-self-inside.result c.backjump.ensures.variables c.backjump.ensures.entries (omega (arith, c.if-level.true, c.level.ensures.value)) c.len-self-inside.ensures.count (subst (IsReady log c.args.trail.now) (sym c.self.view_is) h)
