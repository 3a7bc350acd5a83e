use Rattle.std.proofs.Common.{◌≡◌, [], take}
use Rattle.sat_log.specs.Marked.{HasRoomFor, KeepsRoom}
use Rattle.sat_log.proofs.marks.Marks.make_room_for.Given as goal

abbrev pub invariant-loop-literal : goal.invariant-loop-literal
invariant-loop-literal l = record {
  so_far : HasRoomFor l.self (take l.literal-index l.clause);
  keeps : KeepsRoom l.initial.self l.self;
  clear : l.self.set ≡ [];
}
