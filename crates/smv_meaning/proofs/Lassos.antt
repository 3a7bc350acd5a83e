-- Steps along a lasso: where they lead, that they never leave it, and that a loop comes round.
use Rattle.std.proofs.Common.{◌≡◌, ℕ, zero, suc, ◌+◌, ◌-◌, ◌<◌, ◌≤◌, Bool, true, false, ◌==◌, refl, ap, subst, ◌∙◌, ◌⊎◌, inl, inr, arith}
use Rattle.std.specs.Prelude.{if◌then◌else◌}
use borrow.Author.Tests.{eqb-true, eqb-false}
use Rattle.std.proofs.lemmas.Bool.{cases_lt}
use Rattle.smv_meaning.specs.Places.{next_place, place, Reaches, Until}

-- a step from the last place, and from any other
pub next_last : (k l p : ℕ) → p + 1 ≡ k → next_place k l p ≡ l
unfolding next_place
next_last k l p e = by (p + 1 == k) refl
  where
    by : (t : Bool) → (p + 1 == k) ≡ t → (if t then l else p + 1) ≡ l
    by true _ = refl
    by false d = absurd (eqb-false (p + 1) k d e)

pub next_other : (k l p : ℕ) → p + 1 < k → next_place k l p ≡ p + 1
unfolding next_place
next_other k l p h = by (p + 1 == k) refl
  where
    by : (t : Bool) → (p + 1 == k) ≡ t → (if t then l else p + 1) ≡ p + 1
    by true d = let e : p + 1 ≡ k = eqb-true (p + 1) k d in absurd (omega arith)
    by false _ = refl

-- a place is the last one, or there is a further one
which : (k p : ℕ) → p < k → (p + 1 ≡ k) ⊎ (p + 1 < k)
which k p h = elim (cases_lt (p + 1) k) [ inl more ↦ inr more | inr least ↦ inl (omega arith) ]

pub next_below : (k l p : ℕ) → l < k → p < k → next_place k l p < k
next_below k l p h b = elim (which k p b) [ inl e ↦ rw (next_last k l p e) h | inr o ↦ rw (next_other k l p o) o ]

pub place_below : (k l p n : ℕ) → l < k → p < k → place k l p n < k
unfolding place
place_below k l p zero h b = b
place_below k l p (suc n) h b = place_below k l (next_place k l p) n h (next_below k l p h b)

pub place_add : (k l p m n : ℕ) → place k l p (m + n) ≡ place k l (place k l p m) n
unfolding place
place_add k l p zero n = let e : 0 + n ≡ n = omega arith in ap (place k l p) e
place_add k l p (suc m) n = let e : suc m + n ≡ suc (m + n) = omega arith in ap (place k l p) e ∙ place_add k l (next_place k l p) m n

pub place_step : (k l p : ℕ) → place k l p 1 ≡ next_place k l p
unfolding place
place_step k l p = refl

-- before the last place, steps go straight on
pub place_straight : (k l p n : ℕ) → p + n < k → place k l p n ≡ p + n
unfolding place
place_straight k l p zero h = omega arith
place_straight k l p (suc n) h =
    let e : p + 1 + n ≡ p + suc n = omega arith in
    ap (λ q. place k l q n) (next_other k l p (omega arith)) ∙ place_straight k l (p + 1) n (omega arith) ∙ e

-- behind the last place they go on at l
pub place_back : (k l p : ℕ) → p < k → place k l p (k - p) ≡ l
place_back k l p b =
    let n : ℕ = k - p - 1 in
    let e : k - p ≡ n + 1 = omega arith in
    ap (place k l p) e ∙ place_add k l p n 1 ∙ place_step k l (place k l p n) ∙ ap (next_place k l) (place_straight k l p n (omega arith)) ∙ next_last k l (p + n) (omega arith)

-- what is on the loop stays on it
on_loop : (k l p n : ℕ) → l < k → p < k → l ≤ p + n → l ≤ place k l p n
unfolding place
on_loop k l p zero h b a = omega arith
on_loop k l p (suc n) h b a = elim (which k p b) [
  | inl e ↦ rw (next_last k l p e) (on_loop k l l n h h (omega arith))
  | inr o ↦ rw (next_other k l p o) (on_loop k l (p + 1) n h o (omega arith))
]

-- and comes back to where it was
pub comes_round : (k l p : ℕ) → l ≤ p → p < k → place k l p (k - l) ≡ p
comes_round k l p a b =
    let e : k - l ≡ (k - p) + (p - l) = omega arith in
    let f : l + (p - l) ≡ p = omega arith in
    ap (place k l p) e ∙ place_add k l p (k - p) (p - l) ∙ ap (λ q. place k l q (p - l)) (place_back k l p b) ∙ place_straight k l l (p - l) (omega arith) ∙ f

-- a place that is reached late was reached one round earlier
round_less : (k l p n : ℕ) → l < k → p < k → k ≤ n → place k l p n ≡ place k l p (n - (k - l))
round_less k l p n h b late =
    let e : n ≡ (n - (k - l)) + (k - l) = omega arith in
    ap (place k l p) e ∙ place_add k l p (n - (k - l)) (k - l) ∙ comes_round k l (place k l p (n - (k - l))) (on_loop k l p (n - (k - l)) h b (omega arith)) (place_below k l p (n - (k - l)) h b)

-- what is reached is reached within k steps
module _ (k l : ℕ) (F G : ℕ → Type 0) (h : l < k) where
  pub shortened : (more p n : ℕ) → p < k → n ≤ k + more → Reaches k l F G p n → Until k k l F G p
  shortened zero p n b few r = record { steps = n; within = omega arith; reaches = r }
  shortened (suc more) p n b few r = elim (cases_lt k n) [
    | inl late ↦ shortened more p (n - (k - l)) b (omega arith) (record {
      reached = subst G (round_less k l p n h b (omega arith)) r.reached;
      before = λ j i. r.before j (omega arith);
    })
    | inr early ↦ record { steps = n; within = omega arith; reaches = r }
  ]
