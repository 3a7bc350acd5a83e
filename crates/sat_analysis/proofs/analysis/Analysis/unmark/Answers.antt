use Rattle.std.proofs.Common.{false, set, sym, subst}
use Rattle.sat_analysis.specs.Analysis.{Walk, Awaits}
use Rattle.sat_analysis.proofs.Awaited.{unmarked_awaits}
use Rattle.sat_analysis.proofs.analysis.Analysis.unmark.Goals as goal

pub returns-then-marked-clause-awaited : goal.returns-then-marked-clause-awaited
returns-then-marked-clause-awaited c rest a few =
    subst (λ (w : Walk). Awaits (record { state = record { seen = set w.state.seen c.args.var false; lits = w.state.lits; hints = w.state.hints }; positions = w.positions }) rest) (sym c.self.view_is) (unmarked_awaits c.args.self.now c.args.var rest c.requires a few)
