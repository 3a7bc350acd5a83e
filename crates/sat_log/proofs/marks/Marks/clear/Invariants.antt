use Rattle.std.proofs.Common.{◌≡◌, length}
use Rattle.std.specs.Prelude.{vec_capacity}
use Rattle.sat_log.proofs.MarkLemmas.{Covers}
use Rattle.sat_log.proofs.marks.Marks.clear.Given as goal

abbrev pub invariant-loop-literal : goal.invariant-loop-literal
invariant-loop-literal l = record {
  covers : Covers l.self-inside.room l.self-inside.far.keys l.self-inside.truths.items l.self-inside.trail.items (vec_capacity l.self-inside.trail);
  room : l.self-inside.room ≡ l.fn.self.room;
  far : l.self-inside.far.keys ≡ l.fn.self.far;
}

abbrev pub decreases-loop-literal : goal.decreases-loop-literal
decreases-loop-literal l = length l.self-inside.trail.items
