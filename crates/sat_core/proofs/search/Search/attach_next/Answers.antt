use Rattle.std.proofs.Common.{◌≡◌, ◌<◌, ◌+◌, length, ap, sym, subst, ◌∙◌}
use Rattle.sat_trail.specs.Trail.{top}
use Rattle.sat_core.specs.Attached.{Attaches}
use Rattle.sat_core.specs.Search.{Searched, AskedFirst}
use Rattle.sat_core.proofs.Attaching.{attached_implied, attach_keeps, attach_refutes}
use Rattle.sat_core.proofs.Steps.{implied_level, keeps_implied, adds_asked}
use Rattle.sat_core.proofs.search.Search.attach_next.Goals as goal
use Rattle.sat_core.proofs.search.Search.attach_next.Goals.{After-attach_clause}

-- no level is open
level : (c : After-attach_clause) → top c.attach_clause.new.trail.entries ≡ 0
level c =
    let s = c.self.inside in
    implied_level s.log s.trail.entries c.attach_clause.new.trail.entries c.attach_clause.ensures.trail c.attach_clause.ensures.implied ∙ ap (λ (v : Searched). top v.entries) c.self.view_is ∙ c.requires.level

asked : (c : After-attach_clause) (want : _) → AskedFirst want c.args.self.now.entries → AskedFirst want c.attach_clause.new.trail.entries
asked c want a =
    adds_asked want c.self.inside.trail.entries c.attach_clause.new.trail.entries c.attach_clause.ensures.implied (subst (λ (v : Searched). AskedFirst want v.entries) (sym c.self.view_is) a)

pub invariant_of-self : goal.invariant_of-self
invariant_of-self c =
    let s = c.self.inside in
    let t = c.attach_clause.new.trail in (
      keeps_implied s.log s.trail t s.analysis.state c.self.invariant.0 c.attach_clause.ensures.trail c.attach_clause.ensures.implied c.attach_clause.ensures.variables,
      attached_implied s.log s.trail t s.propagation c.attach_clause.new.propagation s.attached s.false_clause c.attach_clause.ensures.implied c.attach_clause.ensures.watched c.attach_clause.ensures.ready c.self.invariant.1,
    )

pub returns-in_err-possible-clause-level : goal.returns-in_err-possible-clause-level
returns-in_err-possible-clause-level c = level (goal.at.returns-in_err-possible-clause-level c).After-attach_clause

pub returns-in_err-possible-clause-asked : goal.returns-in_err-possible-clause-asked
returns-in_err-possible-clause-asked c = asked (goal.at.returns-in_err-possible-clause-asked c).After-attach_clause

pub invariant_of-self-then-possible : goal.invariant_of-self-then-possible
invariant_of-self-then-possible c =
    let s = c.self.inside in
    let t = c.attach_clause.new.trail in
    let q = c.attach_clause.new.propagation in
    let below : s.attached < length s.log = subst (λ (v : Searched). v.attached < length v.log) (sym c.self.view_is) c.requires.inside in
    let here = subst (Attaches s.log t.entries q (s.attached + 1)) c.if-possible.true c.in_ok-possible.ensures.ok in (
      keeps_implied s.log s.trail t s.analysis.state c.self.invariant.0 c.attach_clause.ensures.trail c.attach_clause.ensures.implied c.attach_clause.ensures.variables,
      attach_keeps s.log s.trail t s.propagation q s.attached s.false_clause below (level (goal.at.invariant_of-self-then-possible c).After-attach_clause) c.attach_clause.ensures.implied c.attach_clause.ensures.watched c.attach_clause.ensures.ready here c.self.invariant.1,
    )

pub returns-then-possible-clause-level : goal.returns-then-possible-clause-level
returns-then-possible-clause-level c = level (goal.at.returns-then-possible-clause-level c).After-attach_clause

pub returns-then-possible-clause-asked : goal.returns-then-possible-clause-asked
returns-then-possible-clause-asked c = asked (goal.at.returns-then-possible-clause-asked c).After-attach_clause

pub invariant_of-self-2 : goal.invariant_of-self-2
invariant_of-self-2 c =
    let s = c.self.inside in
    let t = c.attach_clause.new.trail in
    let q = c.attach_clause.new.propagation in
    let below : s.attached < length s.log = subst (λ (v : Searched). v.attached < length v.log) (sym c.self.view_is) c.requires.inside in
    let here = subst (Attaches s.log t.entries q (s.attached + 1)) c.if-possible.false c.in_ok-possible.ensures.ok in (
      keeps_implied s.log s.trail t s.analysis.state c.self.invariant.0 c.attach_clause.ensures.trail c.attach_clause.ensures.implied c.attach_clause.ensures.variables,
      attach_refutes s.log t q s.attached below (level (goal.at.invariant_of-self-2 c).After-attach_clause) c.attach_clause.ensures.ready here,
    )

pub returns-clause-level : goal.returns-clause-level
returns-clause-level c = level (goal.at.returns-clause-level c).After-attach_clause

pub returns-clause-asked : goal.returns-clause-asked
returns-clause-asked c = asked (goal.at.returns-clause-asked c).After-attach_clause
