use Rattle.std.proofs.Common.{◌≡◌, ◌<◌, ◌≤◌, ℕ, length, reverse}
use Rattle.std.specs.Prelude.{vec_capacity}
use Rattle.std.specs.BinaryHeap.{IsHeap, heap_items, heap_len, heap_capacity}
use Rattle.std.specs.List.{Contains}
use Rattle.std.specs.Ordering.{nat_cmp}
use Rattle.sat_analysis.proofs.analysis.Analysis.next.Given as goal

abbrev pub invariant-loop-position : goal.invariant-loop-position
invariant-loop-position l = record {
  kept : (q : ℕ) → q < l.limit → Contains l.fn.self.positions q → Contains (heap_items l.self-inside.positions) q;
  fewer : heap_len l.self-inside.positions ≤ length l.fn.self.positions;
  heap : IsHeap nat_cmp (heap_items l.self-inside.positions);
  room : length l.self-inside.seen.items ≤ heap_capacity l.self-inside.positions;
  lits : length l.self-inside.seen.items ≤ vec_capacity l.self-inside.lits;
  hints : length l.self-inside.seen.items ≤ vec_capacity l.self-inside.hints;
  state : record { seen = l.self-inside.seen.items; lits = l.self-inside.lits.items; hints = reverse l.self-inside.hints.items } ≡ l.fn.self.state;
}

abbrev pub decreases-loop-position : goal.decreases-loop-position
decreases-loop-position l = heap_len l.self-inside.positions
