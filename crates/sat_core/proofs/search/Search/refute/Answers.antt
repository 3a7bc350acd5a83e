use Rattle.std.proofs.Common.{ap, sym, subst, ◌∙◌}
use Rattle.sat_log.specs.declared.line.LineKind.TheVariants.{Final}
use Rattle.sat_trail.specs.Trail.{top}
use Rattle.sat_core.specs.Search.{Searched, KeepsSearch, AddsFinal}
use Rattle.sat_core.specs.Attached.{KeepsAttached}
use Rattle.sat_core.proofs.Attaching.{attached_line}
use Rattle.sat_core.proofs.Searches.{by_result}
use Rattle.sat_core.proofs.Learning.{decided_none, keeps_marks, keeps_final, adds_final, on_ok}
use Rattle.sat_core.proofs.search.Search.refute.Goals as goal

pub invariant_of-self : goal.invariant_of-self
invariant_of-self c =
    let s = c.self.inside in
    let a = c.refute.new.self.state in
    by_result (λ log. KeepsSearch log s.trail a × KeepsAttached log s.trail s.propagation s.attached s.false_clause) c.append_final.result s.log c.append_final.new.log (record { kind = Final; lits = a.lits; hints = a.hints }) c.append_final.ensures.ok c.append_final.ensures.err
    (keeps_marks s.log s.trail s.analysis.state a c.self.invariant.0 c.refute.ensures.state c.refute.ensures.size, c.self.invariant.1)
    (keeps_final s.log s.trail s.analysis.state a c.self.invariant.0 c.refute.ensures.state c.refute.ensures.size, attached_line s.log s.trail s.propagation s.attached s.false_clause (record { kind = Final; lits = a.lits; hints = a.hints }) c.self.invariant.1)

pub returns-clause-ok : goal.returns-clause-ok
returns-clause-ok c want =
    let s = c.self.inside in
    let a = c.refute.new.self.state in
    let none = ap (λ (v : Searched). top v.entries) c.self.view_is ∙ c.requires.level in
    let negations = c.refute.ensures.kept want (decided_none s.log want s.trail.entries c.self.invariant.0.trail_is none) in
    let added = adds_final want s.log a c.refute.ensures.state negations in
    on_ok c.append_final.result (λ same. subst (λ (v : Searched). AddsFinal want v.log c.append_final.new.log) c.self.view_is (subst (AddsFinal want s.log) (sym same) added)) c.append_final.ensures.ok
