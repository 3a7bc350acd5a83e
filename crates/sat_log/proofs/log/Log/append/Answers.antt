use Rattle.std.proofs.Common.{◌∙◌, ap, refl, subst, arith}
use Rattle.sat_log.specs.Marked.{HasRoomFor}
use Rattle.sat_log.specs.Clause.{AreLiterals}
use Rattle.sat_log.specs.Accepted.{Accepts}
use Rattle.sat_log.specs.Checking.{last_of}
use Rattle.sat_log.proofs.LogLemmas.{accepted_follows, keeps_push, keeps_room}
use Rattle.sat_log.proofs.log.Log.append.Goals as goal

pub invariant_of-self : goal.invariant_of-self
invariant_of-self c =
    let log = c.self.inside in
    keeps_room log.lines.items log.marks c.make_room_for.new.self log.last c.self.invariant c.make_room_for.ensures.clear c.make_room_for.ensures.keeps

pub invariant_of-self-then-not-accepts_line : goal.invariant_of-self-then-not-accepts_line
invariant_of-self-then-not-accepts_line c =
    let log = c.self.inside in
    rw c.accepts_line.ensures.marks (keeps_room log.lines.items log.marks c.make_room_for.new.self log.last c.self.invariant c.make_room_for.ensures.clear c.make_room_for.ensures.keeps)

pub invariant_of-self-in_err-push : goal.invariant_of-self-in_err-push
invariant_of-self-in_err-push c =
    let log = c.self.inside in
    rw (c.in_err-push.ensures.items, c.accepts_line.ensures.marks) (keeps_room log.lines.items log.marks c.make_room_for.new.self log.last c.self.invariant c.make_room_for.ensures.clear c.make_room_for.ensures.keeps)

pub invariant_of-self-2 : goal.invariant_of-self-2
invariant_of-self-2 c =
    let log = c.self.inside in
    let new = c.make_room_for.new.self in
    let most = c.last_variable.ensures.last ∙ ap last_of (c.as_slice-3.ensures) in
    let literals = subst AreLiterals c.as_slice-3.ensures c.last_variable.ensures.literals in
    let room = subst (HasRoomFor new) c.as_slice.ensures c.in_ok-make_room_for.ensures.ok in
    let accepted = subst (λ lines. Accepts lines c.args.line) c.as_slice-2.ensures.value (c.if-not-accepts_line.ensures.answer.0 refl) in
    rw (c.in_ok-push.ensures.items, c.accepts_line.ensures.marks) (keeps_push log.lines.items c.args.line log.marks new log.last c.last_variable.result c.max-last.result c.self.invariant c.make_room_for.ensures.clear c.make_room_for.ensures.keeps (accepted_follows _ _ literals c.requires accepted) room most (omega (arith, c.max-last.ensures)))
