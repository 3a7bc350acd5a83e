use Rattle.std.proofs.Common.{◌≡◌, ◌+◌, ◌<◌, ◌≤◌, ◌∷◌, length, get_or, reverse, subst, sym, ap, ◌∙◌, arith}
use Rattle.std.specs.Prelude.{None}
use Rattle.std.proofs.lemmas.List.{get_or_default, length-reverse, length-map}
use Rattle.sat_log.specs.Literal.{Literal}
use Rattle.sat_trail.specs.Trail.{Trailed, bottom, entry_of}
use Rattle.sat_trail.proofs.Tables.{true_few}
use Rattle.sat_trail.proofs.Trails.{bottom_more, All-reverse_at}
use Rattle.sat_trail.proofs.trail.Trail.entry.Goals as goal
use Rattle.sat_trail.proofs.trail.Trail.entry.Goals.{After-var-var}

below : (c : After-var-var) → c.var-var.result ≤ c.self.inside.variables
below c =
    let t = c.self.inside in
    let count : length c.args.self.now.entries ≡ length t.trail.items =
    ap (λ (v : Trailed). length v.entries) (sym c.self.view_is) ∙ length-map (reverse t.trail.items) (entry_of t.levels.items t.reasons.items) ∙ length-reverse t.trail.items in
    let i_in : c.args.i < length t.trail.items = omega (arith, c.requires, count) in
    let upper = (All-reverse_at (λ (l : Literal). (1 ≤ l.var) × (l.var ≤ t.variables)) t.trail.items c.args.i c.index-literal.result.now i_in c.index-literal.ensures c.self.invariant.within).1 in
    subst (λ v. v ≤ t.variables) (sym c.var-var.ensures.value) upper

pub index-requires : goal.index-requires
index-requires c =
    let upper = below (goal.at.index-requires c).After-var-var in
    let size = c.self.invariant.levels_size in
    omega (arith, c.self.inside.levels.ok.0)

pub index-requires-2 : goal.index-requires-2
index-requires-2 c =
    let upper = below (goal.at.index-requires-2 c).After-var-var in
    let size = c.self.invariant.reasons_size in
    omega (arith, c.self.inside.reasons.ok.0)

pub returns-clause-exists : goal.returns-clause-exists
returns-clause-exists c =
    let upper = below (goal.at.returns-clause-exists c).After-var-var in
    subst (λ (v : Trailed). c.index-literal.result.now.var ≤ v.variables) c.self.view_is (subst (λ v. v ≤ c.self.inside.variables) c.var-var.ensures.value upper)

pub returns-clause-entry : goal.returns-clause-entry
returns-clause-entry c =
    let t = c.self.inside in
    let upper = below (goal.at.returns-clause-entry c).After-var-var in
    let count : length c.args.self.now.entries ≡ length t.trail.items =
    ap (λ (v : Trailed). length v.entries) (sym c.self.view_is) ∙ length-map (reverse t.trail.items) (entry_of t.levels.items t.reasons.items) ∙ length-reverse t.trail.items in
    let i_in : c.args.i < length t.trail.items = omega (arith, c.requires, count) in
    let levels = c.self.invariant.levels_size in
    let reasons = c.self.invariant.reasons_size in
    let l = c.index-literal.result.now in
    let level : c.index.result.now ≡ get_or t.levels.items l.var 0 =
    c.index.ensures ∙ get_or_default t.levels.items c.var-var.result c.index.result.now 0 (omega arith) ∙ ap (λ v. get_or t.levels.items v 0) c.var-var.ensures.value in
    let reason : c.index-2.result.now ≡ get_or t.reasons.items l.var None =
    c.index-2.ensures ∙ get_or_default t.reasons.items c.var-var.result c.index-2.result.now None (omega arith) ∙ ap (λ v. get_or t.reasons.items v None) c.var-var.ensures.value in
    subst (λ (v : Trailed). bottom (c.args.i + 1) v.entries ≡ record { literal = l; level = c.index.result.now; reason = c.index-2.result.now } ∷ bottom c.args.i v.entries) c.self.view_is
    (rw (level, reason) (bottom_more (entry_of t.levels.items t.reasons.items) t.trail.items c.args.i l i_in c.index-literal.ensures))

pub returns-clause-room : goal.returns-clause-room
returns-clause-room c =
    let t = c.self.inside in
    let count : length c.args.self.now.entries ≡ length t.trail.items =
    ap (λ (v : Trailed). length v.entries) (sym c.self.view_is) ∙ length-map (reverse t.trail.items) (entry_of t.levels.items t.reasons.items) ∙ length-reverse t.trail.items in
    let few = true_few t.variables (reverse t.trail.items) c.self.invariant.distinct c.self.invariant.within in
    subst (λ (v : Trailed). c.args.i < v.variables) c.self.view_is (omega (arith, c.requires, count, few, length-reverse t.trail.items))
