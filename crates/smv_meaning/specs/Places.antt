-- The places of a lasso, and what is reached along it.
use Rattle.std.specs.Prelude.{ℕ, zero, suc, ◌+◌, ◌<◌, ◌≤◌, ◌==◌, if◌then◌else◌}

-- the place after a place of the lasso with places below k: it goes from the last one, k - 1, back to l
unfoldable pub next_place : ℕ → ℕ → ℕ → ℕ
next_place k l p = if p + 1 == k then l else p + 1

-- the place so many steps after a place
unfoldable pub place : ℕ → ℕ → ℕ → ℕ → ℕ
place k l p zero = p
place k l p (suc n) = place k l (next_place k l p) n

-- from p on, the second holds after n steps, and the first after every smaller number of steps
pub record Reaches (k l : ℕ) (first second : ℕ → Type 0) (p n : ℕ) : Type 0 where
  pub reached : second (place k l p n)
  pub before : (j : ℕ) → j < n → first (place k l p j)

-- from p on, the first holds until the second does, which takes no more than limit steps
pub record Until (limit k l : ℕ) (first second : ℕ → Type 0) (p : ℕ) : Type 0 where
  pub steps : ℕ
  pub within : steps ≤ limit
  pub reaches : Reaches k l first second p steps
