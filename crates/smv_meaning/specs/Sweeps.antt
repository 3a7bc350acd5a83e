-- Tests of what is reached from a place on, made in one sweep over the places from the last to the first.
use Rattle.std.specs.Prelude.{ℕ, zero, suc, ◌+◌, ◌-◌, ◌<◌, Bool, false, ◌||◌, ◌&&◌, Decides}

-- at one of the next so many places, from p on, the second test passes and at each place before it
-- the first; or the first passes at all of them, and last is true
unfoldable pub swept : (ℕ → Bool) → (ℕ → Bool) → Bool → ℕ → ℕ → Bool
swept first second last p zero = last
swept first second last p (suc m) = second p || (first p && swept first second last (p + 1) m)

-- the same for the places from p on that are below k
unfoldable pub ahead : ℕ → (ℕ → Bool) → (ℕ → Bool) → Bool → ℕ → Bool
ahead k first second last p = swept first second last p (k - p)

-- a test decides a statement at each place below k
abbrev pub DecidesBelow : ℕ → (ℕ → Bool) → (ℕ → Type 0) → Type 0
DecidesBelow k test holds = (p : ℕ) → p < k → Decides (test p) (holds p)

-- what two sweeps around the lasso k, l test: the second begins with what the first found at l
abbrev pub around : ℕ → ℕ → (ℕ → Bool) → (ℕ → Bool) → ℕ → Bool
around k l first second = ahead k first second (ahead k first second false l)

-- what one sweep over the places 0 to k of a path tests: the second at some place, and the first at
-- each place before it
abbrev pub along : ℕ → (ℕ → Bool) → (ℕ → Bool) → ℕ → Bool
along k first second = ahead (k + 1) first second false

-- and the first at some place, and the second up to it
abbrev pub along_both : ℕ → (ℕ → Bool) → (ℕ → Bool) → ℕ → Bool
along_both k first second = along k second (λ p. first p && second p)
