use Rattle.std.proofs.Common.{◌≡◌, ℕ, length, sym, subst, ◌∙◌}
use Rattle.std.specs.Prelude.{Option, None, IfSome}
use Rattle.sat_log.specs.Accepted.{IsLog}
use Rattle.sat_trail.specs.Trail.{literals}
use Rattle.sat_trail.specs.Units.{IsConflict}
use Rattle.sat_core.specs.Attached.{KeepsAttached}
use Rattle.sat_core.specs.Search.{Searched, AreAmong, AskedFirst}
use Rattle.sat_core.proofs.Attaching.{refuted_now, attached_propagated, attached_quiet, none_of, if_none}
use Rattle.sat_core.proofs.Steps.{adds_asked, adds_true, keeps_implied}
use Rattle.sat_core.proofs.search.Search.propagate.Goals as goal

pub invariant_of-self : goal.invariant_of-self
invariant_of-self c =
    let s = c.self.inside in
    let k = c.self.invariant in (
      keeps_implied s.log s.trail c.propagate.new.trail s.analysis.state k.0 c.propagate.ensures.trail c.propagate.ensures.implied c.propagate.ensures.variables,
      attached_propagated s.log s.trail c.propagate.new.trail s.propagation c.propagate.new.self s.attached s.false_clause c.propagate.ensures.implied c.propagate.ensures.lines c.propagate.ensures.ready k.1,
    )

pub returns-clause-asked : goal.returns-clause-asked
returns-clause-asked c want asked =
    adds_asked want c.self.inside.trail.entries c.propagate.new.trail.entries c.propagate.ensures.implied (subst (λ (v : Searched). AskedFirst want v.entries) (sym c.self.view_is) asked)

pub returns-clause-true_ : goal.returns-clause-true_
returns-clause-true_ c want true_ =
    adds_true c.self.inside.trail.entries c.propagate.new.trail.entries want c.propagate.ensures.implied (subst (λ (v : Searched). AreAmong (literals v.entries) want) (sym c.self.view_is) true_)

pub returns-then-is_some-clause-conflict : goal.returns-then-is_some-clause-conflict
returns-then-is_some-clause-conflict c =
    let s = c.self.inside in
    subst (λ (v : Searched). IfSome s.false_clause (IsConflict v.log (literals v.entries))) c.self.view_is (refuted_now s.log s.trail s.propagation s.attached s.false_clause c.self.invariant.1)

pub propagate-requires-clause-log : goal.propagate-requires-clause-log
propagate-requires-clause-log c = subst (λ (v : Searched). IsLog v.log) (sym c.self.view_is) c.requires.log

pub returns-clause-is_log : goal.returns-clause-is_log
returns-clause-is_log c = subst (λ (v : Searched). IsLog v.log) (sym c.self.view_is) c.requires.log

pub returns-clause-quiet : goal.returns-clause-quiet
returns-clause-quiet c =
    let s = c.self.inside in
    let t = c.propagate.new.trail in
    let q = c.propagate.new.self in
    let whole : s.attached ≡ length s.log = subst (λ (v : Searched). v.attached ≡ length v.log) (sym c.self.view_is) c.requires.attached in
    let none : s.false_clause ≡ None = none_of s.false_clause (sym c.is_some.ensures ∙ c.if-is_some.false) in
    let kept = attached_propagated s.log s.trail t s.propagation q s.attached s.false_clause c.propagate.ensures.implied c.propagate.ensures.lines c.propagate.ensures.ready c.self.invariant.1 in
    if_none c.propagate.result (λ all. attached_quiet s.log t q s.attached whole all (subst (λ (r : Option ℕ). KeepsAttached s.log t q s.attached r) none kept)) c.propagate.ensures.all
