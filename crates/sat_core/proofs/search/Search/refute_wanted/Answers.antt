use Rattle.std.proofs.Common.{◌≤◌, sym, subst}
use Rattle.sat_log.specs.Literal.{negated}
use Rattle.sat_log.specs.Clause.{Among}
use Rattle.sat_log.specs.declared.line.LineKind.TheVariants.{Final}
use Rattle.sat_log.proofs.LiteralLemmas.{All-among}
use Rattle.sat_trail.specs.Trail.{literals}
use Rattle.sat_trail.specs.Units.{AreDecided}
use Rattle.sat_core.specs.Search.{Searched, KeepsSearch, AskedFirst, AddsFinal}
use Rattle.sat_trail.proofs.Trails.{consistent}
use Rattle.sat_trail.proofs.Levels.{trail_distinct}
use Rattle.sat_core.specs.Attached.{KeepsAttached}
use Rattle.sat_core.proofs.Attaching.{attached_line}
use Rattle.sat_core.proofs.Searches.{by_result}
use Rattle.sat_core.proofs.Learning.{decided_wanted, none_negated, keeps_marks, keeps_final, adds_final, on_ok}
use Rattle.sat_core.proofs.search.Search.refute_wanted.Goals as goal
use Rattle.sat_core.proofs.search.Search.refute_wanted.Goals.{After-self}

-- all decisions are wanted
decided : (c : After-self) → AreDecided c.args.want.now c.self.inside.trail.entries
decided c =
    let s = c.self.inside in
    let false_ = subst (λ (v : Searched). Among (literals v.entries) (negated c.args.wanted)) (sym c.self.view_is) c.requires.false_ in
    let asked = subst (λ (v : Searched). AskedFirst c.args.want.now v.entries) (sym c.self.view_is) c.requires.asked in
    decided_wanted c.args.want.now s.trail.entries c.args.wanted asked c.requires.wanted (λ m. consistent (literals s.trail.entries) (trail_distinct s.log s.trail.entries c.self.invariant.0.trail_is) c.args.wanted m false_)

pub refute_wanted-requires-clause-implied : goal.refute_wanted-requires-clause-implied
refute_wanted-requires-clause-implied c =
    none_negated c.args.want.now c.self.inside.trail.entries c.args.wanted c.requires.distinct c.requires.wanted (decided (goal.at.refute_wanted-requires-clause-implied c).After-self)

pub refute_wanted-requires-clause-exists : goal.refute_wanted-requires-clause-exists
refute_wanted-requires-clause-exists c =
    subst (λ (v : Searched). c.args.wanted.var ≤ v.variables) (sym c.self.view_is) (All-among (λ l. l.var ≤ c.args.self.now.variables) c.args.want.now c.args.wanted c.requires.exist c.requires.wanted)

pub invariant_of-self : goal.invariant_of-self
invariant_of-self c =
    let s = c.self.inside in
    let a = c.refute_wanted.new.self.state in
    by_result (λ log. KeepsSearch log s.trail a × KeepsAttached log s.trail s.propagation s.attached s.false_clause) c.append_final.result s.log c.append_final.new.log (record { kind = Final; lits = a.lits; hints = a.hints }) c.append_final.ensures.ok c.append_final.ensures.err
    (keeps_marks s.log s.trail s.analysis.state a c.self.invariant.0 c.refute_wanted.ensures.state c.refute_wanted.ensures.size, c.self.invariant.1)
    (keeps_final s.log s.trail s.analysis.state a c.self.invariant.0 c.refute_wanted.ensures.state c.refute_wanted.ensures.size, attached_line s.log s.trail s.propagation s.attached s.false_clause (record { kind = Final; lits = a.lits; hints = a.hints }) c.self.invariant.1)

pub returns-clause-ok : goal.returns-clause-ok
returns-clause-ok c =
    let s = c.self.inside in
    let a = c.refute_wanted.new.self.state in
    let negations = c.refute_wanted.ensures.kept c.args.want.now (decided (goal.at.returns-clause-ok c).After-self) c.requires.wanted in
    let added = adds_final c.args.want.now s.log a c.refute_wanted.ensures.state negations in
    on_ok c.append_final.result (λ same. subst (λ (v : Searched). AddsFinal c.args.want.now v.log c.append_final.new.log) c.self.view_is (subst (AddsFinal c.args.want.now s.log) (sym same) added)) c.append_final.ensures.ok
