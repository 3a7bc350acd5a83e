use Rattle.std.proofs.Common.{◌+◌, ◌≤◌, List, reverse, ap, ◌∙◌, arith}
use Rattle.std.specs.Prelude.{vec_capacity}
use Rattle.sat_trail.specs.Trail.{Trailed}
use Rattle.sat_trail.proofs.Tables.{tables_widen}
use Rattle.sat_trail.proofs.Trails.{entries_widen}
use Rattle.sat_trail.specs.declared.trail.Entry.{Entry}
use Rattle.sat_trail.proofs.trail.Trail.add_variable.Goals as goal

pub invariant_of-self-2 : goal.invariant_of-self-2
invariant_of-self-2 c =
    let t = c.self.inside in
    let size = c.self.invariant.levels_size in
    let room : t.variables + 1 ≤ vec_capacity c.reserve-5.new.self = omega (arith, c.in_ok-reserve-5.ensures.ok, c.saturating_sub-spare.ensures, c.len.ensures, c.len-2.ensures, c.reserve-2.ensures.len, t.levels.ok.0) in
    rw (c.push_reserved-2.ensures.items, c.push_reserved.ensures.items, c.reserve.ensures.items, c.push_reserved-3.ensures.items, c.reserve-2.ensures.items, c.push_reserved-4.ensures.items, c.reserve-3.ensures.items, c.push_reserved-5.ensures.items, c.reserve-4.ensures.items, c.reserve-5.ensures.items)
    (tables_widen t.variables t.truths.items t.levels.items t.reasons.items t.positions.items (reverse t.trail.items) (vec_capacity t.trail) (vec_capacity c.reserve-5.new.self) c.self.invariant room)

pub returns-clause-ok : goal.returns-clause-ok
returns-clause-ok c =
    let t = c.self.inside in
    rw (c.push_reserved-3.ensures.items, c.reserve-2.ensures.items, c.push_reserved-4.ensures.items, c.reserve-3.ensures.items, c.reserve-5.ensures.items)
    (ap (λ (es : List Entry). record { variables = t.variables + 1; entries = es }) (entries_widen t.variables t.levels.items t.reasons.items (reverse t.trail.items) c.self.invariant.levels_size c.self.invariant.reasons_size c.self.invariant.within) ∙ ap (λ (v : Trailed). record { variables = v.variables + 1; entries = v.entries }) c.self.view_is)
