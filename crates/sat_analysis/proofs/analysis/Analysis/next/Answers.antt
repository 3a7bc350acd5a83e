use Rattle.std.proofs.Common.{◌≡◌, ◌<◌, ◌≤◌, ℕ, ◌⊎◌, inl, inr, arith}
use Rattle.std.proofs.lemmas.Bool.{cases_eq}
use Rattle.std.proofs.Math.Arith.{lt_of_le-ne}
use Rattle.std.specs.BinaryHeap.{heap_items}
use Rattle.std.specs.List.{Contains}
use Rattle.sat_analysis.proofs.Awaited.{popped}
use Rattle.sat_analysis.proofs.analysis.Analysis.next.Goals as goal
use Rattle.sat_analysis.proofs.analysis.Analysis.next.Goals.{In-Some}

-- what was there is no later than what is taken out, and is that or stays
taken : (c : In-Some) (q : ℕ) → q < c.args.limit → Contains c.args.self.now.positions q → (q ≤ c.in-Some.position) × ((q ≡ c.in-Some.position) ⊎ Contains (heap_items c.pop.new.self) q)
taken c q h m =
    popped (heap_items c.loop-position.self-inside.positions) (heap_items c.pop.new.self) c.in-Some.position q c.in-Some.ensures.permutation (c.in-Some.ensures.heap_order c.loop-position.invariant.heap).1 (c.loop-position.invariant.kept q h m)

pub returns-then-position-limit-clause-others : goal.returns-then-position-limit-clause-others
returns-then-position-limit-clause-others c q h m = by (taken (goal.at.returns-then-position-limit-clause-others c).In-Some q h m)
  where
    by : (q ≤ c.in-Some.position) × ((q ≡ c.in-Some.position) ⊎ Contains (heap_items c.pop.new.self) q) → (q ≡ c.in-Some.position) ⊎ ((q < c.in-Some.position) × Contains (heap_items c.pop.new.self) q)
    by (most, inl same) = inl same
    by (most, inr stays) = later (cases_eq q c.in-Some.position)
      where
        later : (q ≡ c.in-Some.position) ⊎ (q ≡ c.in-Some.position → ⊥) → (q ≡ c.in-Some.position) ⊎ ((q < c.in-Some.position) × Contains (heap_items c.pop.new.self) q)
        later (inl same) = inl same
        later (inr ne) = inr (lt_of_le-ne most ne, stays)

pub loop-position-preserved : goal.loop-position-preserved
loop-position-preserved c = record {
  kept = (λ q h m. by q h (taken (goal.at.loop-position-preserved c).In-Some q h m));
  fewer = omega (arith, c.in-Some.ensures.len, c.loop-position.invariant.fewer);
  heap = (c.in-Some.ensures.heap_order c.loop-position.invariant.heap).0;
  room = omega (arith, c.pop.ensures.capacity, c.loop-position.invariant.room);
  lits = c.loop-position.invariant.lits;
  hints = c.loop-position.invariant.hints;
  state = c.loop-position.invariant.state;
}
  where
    by : (q : ℕ) → q < c.args.limit → (q ≤ c.in-Some.position) × ((q ≡ c.in-Some.position) ⊎ Contains (heap_items c.pop.new.self) q) → Contains (heap_items c.pop.new.self) q
    by q h (most, inl same) = absurd (omega (arith, c.if-position-limit.false))
    by q h (most, inr stays) = stays

pub returns-clause-none : goal.returns-clause-none
returns-clause-none c q h m =
    let there = c.loop-position.invariant.kept q h m in
    let inside = there.1 in
    absurd (omega (arith, c.in_default.ensures.none, c.loop-position.self-inside.positions.data.ok.0))
