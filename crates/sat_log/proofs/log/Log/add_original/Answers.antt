use Rattle.std.proofs.Common.{ap, refl, subst, ◌∙◌, arith}
use Rattle.sat_log.specs.Clause.{AreLiterals}
use Rattle.sat_log.specs.Checking.{last_of}
use Rattle.sat_log.specs.Marked.{HasRoomFor}
use Rattle.sat_log.specs.Accepted.{IsOriginal}
use Rattle.sat_log.proofs.LogLemmas.{keeps_push, keeps_room}
use Rattle.sat_log.specs.Lines.{original}
use Rattle.sat_log.proofs.log.Log.add_original.Goals as goal

pub invariant_of-self : goal.invariant_of-self
invariant_of-self c =
    let log = c.self.inside in
    keeps_room log.lines.items log.marks c.make_room_for.new.self log.last c.self.invariant c.make_room_for.ensures.clear c.make_room_for.ensures.keeps

pub invariant_of-self-in_err-push : goal.invariant_of-self-in_err-push
invariant_of-self-in_err-push c =
    let log = c.self.inside in
    rw c.in_err-push.ensures.items (keeps_room log.lines.items log.marks c.make_room_for.new.self log.last c.self.invariant c.make_room_for.ensures.clear c.make_room_for.ensures.keeps)

pub invariant_of-self-2 : goal.invariant_of-self-2
invariant_of-self-2 c =
    let log = c.self.inside in
    let lits = c.args.lits.now in
    let new = c.make_room_for.new.self in
    let same = c.as_slice-2.ensures ∙ c.in_ok-copy.ensures in
    let most = c.last_variable.ensures.last ∙ ap last_of (same) in
    let literals = subst AreLiterals same c.last_variable.ensures.literals in
    let room = subst (HasRoomFor new) (c.as_slice.ensures ∙ c.in_ok-copy.ensures) c.in_ok-make_room_for.ensures.ok in
    let proper : IsOriginal (original lits) = record { nonempty = c.requires.nonempty; distinct = c.requires.distinct; unhinted = refl } in
    rw (c.in_ok-push.ensures.items, c.in_ok-copy.ensures, c.new.ensures) (keeps_push log.lines.items (original lits) log.marks new log.last c.last_variable.result c.max-last.result c.self.invariant c.make_room_for.ensures.clear c.make_room_for.ensures.keeps (literals, proper) room most (omega (arith, c.max-last.ensures)))
