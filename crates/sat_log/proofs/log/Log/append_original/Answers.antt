use Rattle.std.proofs.Common.{ap, sym, subst, ◌∙◌, arith}
use Rattle.std.proofs.lemmas.Bool.{false≢true}
use Rattle.sat_log.specs.Marked.{HasRoomFor}
use Rattle.sat_log.specs.Clause.{AreLiterals, HasDistinctVariables}
use Rattle.sat_log.specs.Checking.{last_of}
use Rattle.sat_log.proofs.Decided.{distinct_sound, distinct_complete}
use Rattle.sat_log.proofs.LogLemmas.{is_original, original_follows, keeps_push, keeps_room}
use Rattle.sat_log.proofs.log.Log.append_original.Goals as goal

pub invariant_of-self : goal.invariant_of-self
invariant_of-self c =
    let log = c.self.inside in
    keeps_room log.lines.items log.marks c.make_room_for.new.self log.last c.self.invariant c.make_room_for.ensures.clear c.make_room_for.ensures.keeps

pub invariant_of-self-then-not-is_distinct : goal.invariant_of-self-then-not-is_distinct
invariant_of-self-then-not-is_distinct c =
    let log = c.self.inside in
    rw c.is_distinct.ensures.marks (keeps_room log.lines.items log.marks c.make_room_for.new.self log.last c.self.invariant c.make_room_for.ensures.clear c.make_room_for.ensures.keeps)

pub invariant_of-self-in_err-push : goal.invariant_of-self-in_err-push
invariant_of-self-in_err-push c =
    let log = c.self.inside in
    rw (c.in_err-push.ensures.items, c.is_distinct.ensures.marks) (keeps_room log.lines.items log.marks c.make_room_for.new.self log.last c.self.invariant c.make_room_for.ensures.clear c.make_room_for.ensures.keeps)

pub invariant_of-self-2 : goal.invariant_of-self-2
invariant_of-self-2 c =
    let log = c.self.inside in
    let new = c.make_room_for.new.self in
    let most = c.last_variable.ensures.last ∙ ap last_of (c.as_slice-3.ensures) in
    let literals = subst AreLiterals c.as_slice-3.ensures c.last_variable.ensures.literals in
    let room = subst (HasRoomFor new) c.as_slice.ensures c.in_ok-make_room_for.ensures.ok in
    let proper = is_original c.args.line (omega arith) (omega arith) (subst HasDistinctVariables c.as_slice-2.ensures (distinct_sound _ (sym c.if-not-is_distinct.ensures.value))) in
    rw (c.in_ok-push.ensures.items, c.is_distinct.ensures.marks) (keeps_push log.lines.items c.args.line log.marks new log.last c.last_variable.result c.max-last.result c.self.invariant c.make_room_for.ensures.clear c.make_room_for.ensures.keeps (original_follows log.lines.items c.args.line literals c.requires proper) room most (omega (arith, c.max-last.ensures)))

pub returns-clause-original : goal.returns-clause-original
returns-clause-original c =
    is_original c.args.line (omega arith) (omega arith) (subst HasDistinctVariables c.as_slice-2.ensures (distinct_sound _ (sym c.if-not-is_distinct.ensures.value)))

pub returns-then-not-is_distinct-clause-refused : goal.returns-then-not-is_distinct-clause-refused
returns-then-not-is_distinct-clause-refused c _ h =
    false≢true (c.if-not-is_distinct.ensures.value ∙ distinct_complete _ (subst HasDistinctVariables (sym c.as_slice-2.ensures) h.distinct))
