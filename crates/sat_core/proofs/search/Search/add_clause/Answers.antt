use Rattle.std.proofs.Common.{ap, sym, subst, ◌∙◌}
use Rattle.sat_log.specs.Checking.{IsUpTo}
use Rattle.sat_log.specs.Lines.{original}
use Rattle.sat_trail.specs.Trail.{top}
use Rattle.sat_core.specs.Search.{Searched, KeepsSearch}
use Rattle.sat_core.specs.Attached.{KeepsAttached}
use Rattle.sat_core.proofs.Attaching.{attached_line}
use Rattle.sat_core.proofs.Searches.{by_result, keeps_original}
use Rattle.sat_core.proofs.search.Search.add_clause.Goals as goal

pub invariant_of-self : goal.invariant_of-self
invariant_of-self c =
    let s = c.self.inside in
    let none = ap (λ (v : Searched). top v.entries) c.self.view_is ∙ c.requires.level in
    let up = subst (λ (v : Searched). IsUpTo v.variables c.args.lits.now) (sym c.self.view_is) c.requires.exist in
    by_result (λ log. KeepsSearch log s.trail s.analysis.state × KeepsAttached log s.trail s.propagation s.attached s.false_clause) c.add_original.result s.log c.add_original.new.self (original c.args.lits.now) c.add_original.ensures.ok c.add_original.ensures.err c.self.invariant (keeps_original s.log s.trail s.analysis.state (original c.args.lits.now) c.self.invariant.0 none up, attached_line s.log s.trail s.propagation s.attached s.false_clause (original c.args.lits.now) c.self.invariant.1)
