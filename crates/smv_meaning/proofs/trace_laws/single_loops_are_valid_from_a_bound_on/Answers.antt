use Rattle.std.proofs.Common.{ℕ, ◌-◌, ◌<◌, ◌≤◌, Some, None, refl, arith}
use Rattle.std.specs.Prelude.{Option}
use Rattle.smv_meaning.specs.Counterexamples.{Admits}
use Rattle.smv_meaning.specs.Marks.{loop_to, loop_back}
use Rattle.smv_meaning.proofs.trace_laws.single_loops_are_valid_from_a_bound_on.Goals as goal

to_below : (l k : ℕ) (mark : Option ℕ) → Admits (loop_to l) k mark → l < k
to_below l k None a = absurd a
to_below l k (Some m) a = omega arith

back_within : (m k : ℕ) (mark : Option ℕ) → Admits (loop_back m) k mark → (0 < m) × (m ≤ k)
back_within m k None a = absurd a
back_within m k (Some l) a = (omega arith, omega arith)

pub returns-clause-loop_to : goal.returns-clause-loop_to
returns-clause-loop_to c = λ l k. (λ v. to_below l k v.0 v.1, λ h. (Some l, (refl, h)))

pub returns-clause-loop_back : goal.returns-clause-loop_back
returns-clause-loop_back c = λ m k. (λ v. back_within m k v.0 v.1, λ h. (Some (k - m), (omega arith, omega arith)))
