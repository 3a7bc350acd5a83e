use Rattle.std.proofs.Common.{◌≡◌, ℕ, ◌+◌, List, ◌∷◌, length, inl, refl, ap, sym, subst, ◌∙◌, arith}
use Rattle.sat_log.specs.Literal.{Literal, negated}
use Rattle.sat_log.specs.Clause.{Among}
use Rattle.sat_log.proofs.LiteralLemmas.{negated-negated}
use Rattle.sat_trail.specs.Trail.{literals, bottom}
use Rattle.sat_trail.proofs.Levels.{bottom_inside}
use Rattle.sat_trail.proofs.Growth.{adds_twice, adds_longer}
use Rattle.sat_trail.specs.declared.trail.Entry.{Entry}
use Rattle.sat_propagation.specs.Watching.{Propagated, AreStanding, KeepsRule, KeepsLines}
use Rattle.sat_propagation.proofs.Rules.{looked_rule, bottom_grown, entry_below, lines_twice, lines_looked}
use Rattle.sat_propagation.proofs.propagation.Propagation.propagate.Goals as goal

pub walk-requires-clause-false_ : goal.walk-requires-clause-false_
walk-requires-clause-false_ c =
    let entries = c.loop-self.trail.entries in
    let e = c.entry-entry.result in
    let inside = bottom_inside (c.self.inside.looked + 1) entries e.literal (subst (λ (es : List Entry). Among (literals es) e.literal) (sym c.entry-entry.ensures.entry) (inl refl)) in
    subst (λ (k : Literal). Among (literals entries) (negated k)) (sym c.negated.ensures) (subst (Among (literals entries)) (sym (negated-negated e.literal)) inside)

pub walk-requires-clause-places : goal.walk-requires-clause-places
walk-requires-clause-places c = c.loop-self.invariant.ready.lists

pub walk-requires-clause-standing : goal.walk-requires-clause-standing
walk-requires-clause-standing c = c.loop-self.invariant.ready.standing

pub returns-in-Some-clause-ready : goal.returns-in-Some-clause-ready
returns-in-Some-clause-ready c =
    let entries = c.loop-self.trail.entries in
    let new = c.walk.new.trail.entries in
    let i = c.loop-self.self.looked in
    let looked_is : c.self.inside.looked ≡ i = ap (λ (v : Propagated). v.looked) c.self.view_is in
    let below = entry_below entries c.entry-entry.result c.self.inside.looked c.entry-entry.ensures.entry in
    let ready = c.loop-self.invariant.ready in
    let rule = c.walk.ensures.rule (bottom i entries) (λ l m. bottom_inside i entries l m) ready.rule in
    record {
      lists = omega (arith, ready.lists, c.walk.ensures.variables, c.walk.ensures.lines.lists);
      standing = c.walk.ensures.standing;
      within = omega (arith, below, looked_is, c.walk.ensures.looked, adds_longer entries new c.walk.ensures.implied);
      rule = subst (λ (part : List Entry). KeepsRule part new c.walk.new.self) (sym (ap (λ (n : ℕ). bottom n new) c.walk.ensures.looked ∙ bottom_grown entries new i c.walk.ensures.implied (omega (arith, below, looked_is)))) rule;
    }

pub returns-in-Some-clause-lines : goal.returns-in-Some-clause-lines
returns-in-Some-clause-lines c = lines_twice c.args.self.now c.loop-self.self c.walk.new.self c.loop-self.invariant.lines c.walk.ensures.lines

pub returns-in-Some-clause-implied : goal.returns-in-Some-clause-implied
returns-in-Some-clause-implied c = adds_twice c.args.trail.now.entries c.loop-self.trail.entries c.walk.new.trail.entries c.loop-self.invariant.implied c.walk.ensures.implied

pub loop-self-preserved : goal.loop-self-preserved
loop-self-preserved c =
    let entries = c.loop-self.trail.entries in
    let new = c.walk.new.trail.entries in
    let i = c.loop-self.self.looked in
    let e = c.entry-entry.result in
    let kept = c.loop-self.invariant in
    let looked_is : c.self.inside.looked ≡ i = ap (λ (v : Propagated). v.looked) c.self.view_is in
    let entry_is : bottom (i + 1) entries ≡ e ∷ bottom i entries = subst (λ (n : ℕ). bottom (n + 1) entries ≡ e ∷ bottom n entries) looked_is c.entry-entry.ensures.entry in
    let rule = c.walk.ensures.rule (bottom i entries) (λ k m. bottom_inside i entries k m) kept.ready.rule in
    let literal_is : e.literal ≡ negated c.negated.result = sym (ap negated c.negated.ensures ∙ negated-negated e.literal) in
    let more : KeepsRule (e ∷ bottom i entries) new c.walk.new.self = looked_rule (bottom i entries) new e c.negated.result c.walk.new.self literal_is c.in_default.ensures.settled rule in
    let below = entry_below entries e i entry_is in
    let grown : bottom (i + 1) new ≡ bottom (i + 1) entries = bottom_grown entries new (i + 1) c.walk.ensures.implied below in
    let s = c.self-in-loop-self.inside in
    let same : record { watched = s.watches; lines = s.lines.items; looked = s.looked } ≡ c.walk.new.self = c.self-in-loop-self.view_is in
    let now_looked : s.looked ≡ i = ap (λ (p : Propagated). p.looked) same ∙ c.walk.ensures.looked in
    let part_is : bottom (s.looked + 1) new ≡ e ∷ bottom i entries = ap (λ (n : ℕ). bottom (n + 1) new) now_looked ∙ grown ∙ entry_is in
    record {
      ready = record {
        lists = omega (arith, kept.ready.lists, c.walk.ensures.variables, c.walk.ensures.lines.lists, ap (λ (p : Propagated). length p.watched.lists) same);
        standing = subst (AreStanding c.args.log.now) (sym same) c.walk.ensures.standing;
        within = omega (arith, below, now_looked, adds_longer entries new c.walk.ensures.implied);
        rule = subst (λ (part : List Entry). KeepsRule part new (record { watched = s.watches; lines = s.lines.items; looked = s.looked })) (sym part_is) (subst (λ (p : Propagated). KeepsRule (e ∷ bottom i entries) new p) (sym same) more);
      };
      trail = c.walk.ensures.trail;
      implied = adds_twice c.args.trail.now.entries entries new kept.implied c.walk.ensures.implied;
      variables = c.walk.ensures.variables ∙ kept.variables;
      lines = subst (λ (p : Propagated). KeepsLines c.args.self.now (record { watched = p.watched; lines = p.lines; looked = s.looked + 1 })) (sym same) (lines_looked c.args.self.now c.walk.new.self (s.looked + 1) (lines_twice c.args.self.now c.loop-self.self c.walk.new.self kept.lines c.walk.ensures.lines));
    }
