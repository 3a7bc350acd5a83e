use Rattle.std.proofs.Common.{◌≡◌, ◌+◌, ◌≤◌, ◌∷◌, length, ap, sym, subst, ◌∙◌}
use Rattle.std.specs.Prelude.{None}
use Rattle.std.proofs.lemmas.Bool.{iff_false}
use Rattle.sat_log.specs.Literal.{Literal}
use Rattle.sat_log.specs.Clause.{Among, IsUnset}
use Rattle.sat_log.specs.Clauses.{clauses}
use Rattle.sat_log.specs.Checking.{IsUpTo}
use Rattle.sat_log.proofs.LiteralLemmas.{All-among}
use Rattle.sat_trail.specs.Trail.{Trailed, literals, top}
use Rattle.sat_trail.specs.Units.{AreQuiet}
use Rattle.sat_core.specs.Search.{Searched}
use Rattle.sat_trail.proofs.Levels.{top_length}
use Rattle.sat_core.proofs.Attaching.{attached_decided}
use Rattle.sat_core.proofs.Searches.{keeps_decision}
use Rattle.sat_core.proofs.search.Search.decide.Goals as goal

pub decide-requires-clause-level : goal.decide-requires-clause-level
decide-requires-clause-level c = top_length c.self.inside.log c.self.inside.trail.entries c.self.invariant.0.trail_is

pub decide-requires-in-Some-unset-clause-level : goal.decide-requires-in-Some-unset-clause-level
decide-requires-in-Some-unset-clause-level c =
    subst (λ (t : Trailed). top t.entries ≤ length t.entries) (sym c.unset.ensures.same) (top_length c.self.inside.log c.self.inside.trail.entries c.self.invariant.0.trail_is)

pub is_true-requires : goal.is_true-requires
is_true-requires c =
    let up = subst (λ (v : Searched). IsUpTo v.variables c.args.want.now) (sym c.self.view_is) c.requires.exist in
    subst (λ (l : Literal). l.var ≤ c.self.inside.trail.variables) (sym c.negated.ensures) (All-among (λ l. l.var ≤ c.self.inside.trail.variables) c.args.want.now c.in-Some.literal up c.in-Some.ensures.wanted)

pub decide-requires-clause-exists : goal.decide-requires-clause-exists
decide-requires-clause-exists c =
    let up = subst (λ (v : Searched). IsUpTo v.variables c.args.want.now) (sym c.self.view_is) c.requires.exist in
    All-among (λ l. l.var ≤ c.self.inside.trail.variables) c.args.want.now c.in-Some.literal up c.in-Some.ensures.wanted

pub invariant_of-self : goal.invariant_of-self
invariant_of-self c =
    let s = c.self.inside in
    let quiet = subst (λ (v : Searched). AreQuiet (literals v.entries) (clauses v.log)) (sym c.self.view_is) c.requires.quiet in
    let free : IsUnset (literals s.trail.entries) c.in-Some.literal =
    (c.in-Some.ensures.open_, (λ m. iff_false c.is_true.ensures c.if-is_true.false (subst (Among (literals s.trail.entries)) (sym c.negated.ensures) m))) in
    let all : length s.trail.entries ≤ s.propagation.looked = subst (λ (v : Searched). length v.entries ≤ v.looked) (sym c.self.view_is) c.requires.all in
    (keeps_decision s.log s.trail c.decide.new.self s.analysis.state c.in-Some.literal c.self.invariant.0 free quiet c.decide.ensures.entries c.decide.ensures.variables, attached_decided s.log s.trail c.decide.new.self s.propagation s.attached s.false_clause c.in-Some.literal c.decide.ensures.variables c.decide.ensures.entries all c.self.invariant.1)

pub invariant_of-self-in-Some-unset : goal.invariant_of-self-in-Some-unset
invariant_of-self-in-Some-unset c =
    let s = c.self.inside in
    let t = c.decide-in-Some-unset.new.self in
    let l = c.in-Some-unset.literal in
    let same = c.unset.ensures.same in
    let quiet = subst (λ (v : Searched). AreQuiet (literals v.entries) (clauses v.log)) (sym c.self.view_is) c.requires.quiet in
    let all : length s.trail.entries ≤ s.propagation.looked = subst (λ (v : Searched). length v.entries ≤ v.looked) (sym c.self.view_is) c.requires.all in
    let entries : t.entries ≡ record { literal = l; level = top s.trail.entries + 1; reason = None } ∷ s.trail.entries =
    c.decide-in-Some-unset.ensures.entries ∙ ap (λ (u : Trailed). record { literal = l; level = top u.entries + 1; reason = None } ∷ u.entries) same in
    let variables : t.variables ≡ s.trail.variables = c.decide-in-Some-unset.ensures.variables ∙ ap (λ (u : Trailed). u.variables) same in
    (keeps_decision s.log s.trail t s.analysis.state l c.self.invariant.0 c.in-Some-unset.ensures.unset quiet entries variables, attached_decided s.log s.trail t s.propagation s.attached s.false_clause l variables entries all c.self.invariant.1)
