use Rattle.std.proofs.Common.{◌≡◌, ◌+◌, ◌≤◌, ℕ, take}
use Rattle.std.specs.BinaryHeap.{heap_items, heap_len, heap_capacity, KeepsHeap}
use Rattle.std.specs.Ordering.{nat_cmp}
use Rattle.sat_trail.specs.Trail.{literals, bottom}
use Rattle.sat_analysis.specs.Analysis.{marked_at, marked_count, MarksOthers, AreFalseIn, AreAwaited}
use Rattle.sat_analysis.proofs.analysis.mark_others.Given as goal

abbrev pub invariant-loop-literal : goal.invariant-loop-literal
invariant-loop-literal l = record {
  marks : MarksOthers (literals l.trail.entries) (take l.literal-index l.clause) l.fn.seen l.seen;
  count : (i : ℕ) → AreFalseIn (literals l.trail.entries) l.clause (literals (bottom i l.trail.entries)) → marked_at l.level l.seen (bottom i l.trail.entries) ≡ marked_at l.level l.fn.seen (bottom i l.trail.entries) + l.found;
  awaited : (i : ℕ) → AreAwaited (heap_items l.fn.positions) l.fn.seen (bottom i l.trail.entries) → AreAwaited (heap_items l.positions) l.seen (bottom i l.trail.entries);
  few : heap_len l.positions ≤ marked_count l.seen;
  heap : KeepsHeap nat_cmp (heap_items l.fn.positions) (heap_items l.positions);
  room : heap_capacity l.fn.positions ≤ heap_capacity l.positions;
  bound : l.found ≤ l.literal-index;
}
