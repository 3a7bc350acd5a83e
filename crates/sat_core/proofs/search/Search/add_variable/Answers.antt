use Rattle.std.proofs.Common.{◌+◌, ◌<◌, length, refl, arith}
use Rattle.sat_trail.specs.Trail.{Trailed}
use Rattle.sat_core.specs.Search.{KeepsSearch}
use Rattle.sat_core.specs.Attached.{KeepsAttached}
use Rattle.sat_core.proofs.Attaching.{attached_wider}
use Rattle.sat_core.proofs.Searches.{by_added, keeps_variable}
use Rattle.sat_core.proofs.search.Search.add_variable.Goals as goal

pub invariant_of-self-in_err-add_variable : goal.invariant_of-self-in_err-add_variable
invariant_of-self-in_err-add_variable c =
    let s = c.self.inside in
    let k = c.self.invariant in
    let q = c.add_variable.new.self in (
      keeps_variable s.log s.trail s.trail s.analysis.state c.make_room.new.self.state k.0 refl (omega arith) (omega (arith, k.0.size, c.make_room.ensures.longer)) (c.make_room.ensures.clear k.0.clear),
      attached_wider s.log s.trail s.trail s.propagation q s.attached s.false_clause refl (omega (arith, k.1.ready.lists, c.add_variable.ensures.lists)) c.add_variable.ensures.pairs c.add_variable.ensures.lines c.add_variable.ensures.looked k.1,
    )

pub invariant_of-self-2 : goal.invariant_of-self-2
invariant_of-self-2 c =
    let s = c.self.inside in
    let k = c.self.invariant in
    let q = c.add_variable.new.self in
    let more : Trailed = record { variables = s.trail.variables + 1; entries = s.trail.entries } in
    let room : s.trail.variables + 1 < length c.make_room.new.self.state.seen = omega (arith, c.in_ok-make_room.ensures.ok, c.variables.ensures.count) in
    let clear = c.make_room.ensures.clear k.0.clear in
    by_added (λ t. KeepsSearch s.log t c.make_room.new.self.state × KeepsAttached s.log t q s.attached s.false_clause) c.add_variable-2.result s.trail c.add_variable-2.new.self more c.add_variable-2.ensures.ok c.add_variable-2.ensures.err (
      keeps_variable s.log s.trail s.trail s.analysis.state c.make_room.new.self.state k.0 refl (omega arith) (omega arith) clear,
      attached_wider s.log s.trail s.trail s.propagation q s.attached s.false_clause refl (omega (arith, k.1.ready.lists, c.add_variable.ensures.lists)) c.add_variable.ensures.pairs c.add_variable.ensures.lines c.add_variable.ensures.looked k.1,
    ) (
      keeps_variable s.log s.trail more s.analysis.state c.make_room.new.self.state k.0 refl (omega arith) room clear,
      attached_wider s.log s.trail more s.propagation q s.attached s.false_clause refl (omega (arith, k.1.ready.lists, c.in_ok-add_variable.ensures.ok)) c.add_variable.ensures.pairs c.add_variable.ensures.lines c.add_variable.ensures.looked k.1,
    )
