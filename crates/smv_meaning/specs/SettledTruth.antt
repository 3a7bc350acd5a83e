-- Truth of a formula that is settled by finitely many states, whatever comes after them.
use Rattle.std.specs.Prelude.{ℕ, ◌+◌, ◌<◌, ◌≤◌, Bool, true, false, ◌⊎◌, ◌↔◌}
use Rattle.smv_tree.specs.Trees.{Tree}
use Rattle.smv_tree.specs.Models.{Claim, atom, no, after, always, some_time, both}
use Rattle.smv_tree.specs.declared.formula.FormOp.TheVariants as op
use Rattle.smv_meaning.specs.Places.{place}

-- at some place from p to k it holds
pub record Sometime (k : ℕ) (holds : ℕ → Type 0) (p : ℕ) : Type 0 where
  pub when : ℕ
  pub from : p ≤ when
  pub to : when ≤ k
  pub there : holds when

-- at some place from p to k the second holds, and at each place from p to the one before it the first
pub record HoldsBefore (k : ℕ) (first second : ℕ → Type 0) (p : ℕ) : Type 0 where
  pub when : ℕ
  pub from : p ≤ when
  pub to : when ≤ k
  pub there : second when
  pub before : (q : ℕ) → p ≤ q → q < when → first q

-- at some place from p to k the first holds, and at each place from p to that one the second
pub record HoldsUpTo (k : ℕ) (first second : ℕ → Type 0) (p : ℕ) : Type 0 where
  pub when : ℕ
  pub from : p ≤ when
  pub to : when ≤ k
  pub there : first when
  pub up_to : (q : ℕ) → p ≤ q → q ≤ when → second q

-- two formulas are settled the same way, or opposite ways; the formulas are given by where each
-- truth of them is settled
abbrev pub Agree : (Bool → ℕ → Type 0) → (Bool → ℕ → Type 0) → ℕ → Type 0
Agree f g p = (f true p × g true p) ⊎ (f false p × g false p)

abbrev pub Differ : (Bool → ℕ → Type 0) → (Bool → ℕ → Type 0) → ℕ → Type 0
Differ f g p = (f true p × g false p) ⊎ (f false p × g true p)

-- the states 0 to k settle that a formula is true at place p, or that it is false there; holds says
-- at which places an expression does
abbrev pub Settled : (Tree → ℕ → Type 0) → ℕ → Claim → Bool → ℕ → Type 0
Settled holds k (atom e) true p = holds e p
Settled holds k (atom e) false p = ¬ holds e p
Settled holds k (no f) true p = Settled holds k f false p
Settled holds k (no f) false p = Settled holds k f true p
Settled holds k (both op.And f g) true p = Settled holds k f true p × Settled holds k g true p
Settled holds k (both op.And f g) false p = Settled holds k f false p ⊎ Settled holds k g false p
Settled holds k (both op.Or f g) true p = Settled holds k f true p ⊎ Settled holds k g true p
Settled holds k (both op.Or f g) false p = Settled holds k f false p × Settled holds k g false p
Settled holds k (both op.Implies f g) true p = Settled holds k f false p ⊎ Settled holds k g true p
Settled holds k (both op.Implies f g) false p = Settled holds k f true p × Settled holds k g false p
Settled holds k (both op.Xor f g) true p = Differ (Settled holds k f) (Settled holds k g) p
Settled holds k (both op.Xor f g) false p = Agree (Settled holds k f) (Settled holds k g) p
Settled holds k (both op.Xnor f g) true p = Agree (Settled holds k f) (Settled holds k g) p
Settled holds k (both op.Xnor f g) false p = Differ (Settled holds k f) (Settled holds k g) p
Settled holds k (both op.Iff f g) true p = Agree (Settled holds k f) (Settled holds k g) p
Settled holds k (both op.Iff f g) false p = Differ (Settled holds k f) (Settled holds k g) p
Settled holds k (after f) true p = (p < k) × Settled holds k f true (p + 1)
Settled holds k (after f) false p = (p < k) × Settled holds k f false (p + 1)
Settled holds k (some_time f) true p = Sometime k (Settled holds k f true) p
Settled holds k (some_time f) false p = ⊥
Settled holds k (always f) true p = ⊥
Settled holds k (always f) false p = Sometime k (Settled holds k f false) p
Settled holds k (both op.Until f g) true p = HoldsBefore k (Settled holds k f true) (Settled holds k g true) p
Settled holds k (both op.Until f g) false p =
    HoldsUpTo k (Settled holds k f false) (Settled holds k g false) p
Settled holds k (both op.Releases f g) true p =
    HoldsUpTo k (Settled holds k f true) (Settled holds k g true) p
Settled holds k (both op.Releases f g) false p =
    HoldsBefore k (Settled holds k f false) (Settled holds k g false) p

-- the infinite word of the lasso k, l begins with the states 0 to m: the same expressions hold;
-- seen says which do on those states
abbrev pub BeginsSo : ℕ → ℕ → ℕ → (Tree → ℕ → Type 0) → (Tree → ℕ → Type 0) → Type 0
BeginsSo m k l seen holds = (e : Tree) (p : ℕ) → p ≤ m → seen e p ↔ holds e (place k l 0 p)
