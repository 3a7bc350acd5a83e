use Rattle.std.proofs.Common.{◌≡◌, ◌≤◌, ◌<◌, ◌+◌, List, ◌∷◌, length, reverse, ap, sym, subst, ◌∙◌, arith}
use Rattle.std.proofs.lemmas.List.{reverse-append, length-reverse, length-map, length_push}
use Rattle.std.specs.Prelude.{vec_capacity}
use Rattle.sat_log.specs.Literal.{Literal}
use Rattle.sat_log.specs.Clause.{IsUnset}
use Rattle.sat_trail.specs.Trail.{Trailed, literals}
use Rattle.sat_trail.proofs.Tables.{literals_of, room_left, tables_push, entries_push}
use Rattle.sat_trail.proofs.trail.Trail.push.Goals as goal
use Rattle.sat_trail.proofs.trail.Trail.push.Goals.{After-index}

-- the variable exists
upper : (c : After-index) → c.args.literal.var ≤ c.self.inside.variables
upper c = subst (λ (v : Trailed). c.args.literal.var ≤ v.variables) (sym c.self.view_is) c.requires.exists

first : (c : After-index) → 1 ≤ c.args.literal.var
first c = subst (λ v. 1 ≤ v) c.var-var.ensures.value c.var-var.ensures.range.0

unset : (c : After-index) → IsUnset (reverse c.self.inside.trail.items) c.args.literal
unset c =
    let t = c.self.inside in
    subst (λ (s : List Literal). IsUnset s c.args.literal) (ap (λ (v : Trailed). literals v.entries) (sym c.self.view_is) ∙ literals_of t.levels.items t.reasons.items (reverse t.trail.items)) c.requires.unset

-- fewer literals than variables are true
left : (c : After-index) → length (reverse c.self.inside.trail.items) < c.self.inside.variables
left c =
    let t = c.self.inside in
    room_left t.variables t.truths.items t.levels.items t.reasons.items t.positions.items (reverse t.trail.items) (vec_capacity t.trail) c.args.literal c.self.invariant (first c) (upper c) (unset c)

pub push_reserved-requires : goal.push_reserved-requires
push_reserved-requires c =
    let t = c.self.inside in
    let few = left (goal.at.push_reserved-requires c).After-index in
    let spare = c.self.invariant.spare in
    omega (arith, length-reverse t.trail.items, t.trail.ok.0)

pub invariant_of-self : goal.invariant_of-self
invariant_of-self c =
    let t = c.self.inside in
    let l = c.args.literal in
    let d = (goal.at.invariant_of-self c).After-index in
    let count : c.len.result ≡ length (reverse t.trail.items) = omega (arith, c.len.ensures, length-reverse t.trail.items, t.trail.ok.0) in
    rw (c.push_reserved.ensures.items, c.push_reserved.ensures.capacity, c.index.ensures.value, c.var-var.ensures.value, reverse-append, count) (tables_push t.variables t.truths.items t.levels.items t.reasons.items t.positions.items (reverse t.trail.items) (vec_capacity t.trail) l c.args.level c.args.reason c.self.invariant (first d) (upper d) (unset d))

pub returns-clause-entries : goal.returns-clause-entries
returns-clause-entries c =
    let t = c.self.inside in
    let l = c.args.literal in
    let d = (goal.at.returns-clause-entries c).After-index in
    let exists = upper d in
    let levels = c.self.invariant.levels_size in
    let reasons = c.self.invariant.reasons_size in
    rw (c.push_reserved.ensures.items, c.var-var.ensures.value, reverse-append) (entries_push t.levels.items t.reasons.items (reverse t.trail.items) l c.args.level c.args.reason (omega arith) (omega arith) (unset d) ∙ ap (λ (v : Trailed). record { literal = l; level = c.args.level; reason = c.args.reason } ∷ v.entries) c.self.view_is)

pub returns-clause-room : goal.returns-clause-room
returns-clause-room c =
    let t = c.self.inside in
    let few = left (goal.at.returns-clause-room c).After-index in
    let pushed : length c.push_reserved.new.self.items ≡ length t.trail.items + 1 = ap length c.push_reserved.ensures.items ∙ length_push t.trail.items c.args.literal in
    let size : length (reverse t.trail.items) ≡ length t.trail.items = length-reverse t.trail.items in
    simp (length-map, length-reverse) (omega arith)
