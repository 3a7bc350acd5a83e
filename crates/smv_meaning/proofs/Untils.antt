-- Until along a lasso: step by step, with other truths of its parts, with another limit, and decided.
use Rattle.std.proofs.Common.{ℕ, zero, suc, ◌<◌, ◌≤◌, ◌⊎◌, inl, inr, ⊎_elim, arith}
use Rattle.smv_meaning.specs.Places.{next_place, place, Reaches, Until}
use Rattle.smv_meaning.proofs.Lassos.{place_below, shortened, next_below}

module _ (k l : ℕ) (F G : ℕ → Type 0) where
  pub until_now : (n p : ℕ) → G p → Until n k l F G p
  unfolding place
  until_now n p g = record { steps = 0; within = omega arith; reaches = record { reached = g; before = λ j i. absurd (omega arith) } }

  pub until_later : (n p : ℕ) → F p → Until n k l F G (next_place k l p) → Until (suc n) k l F G p
  unfolding place
  until_later n p f u = record { steps = suc u.steps; within = (let w : u.steps ≤ n = u.within in omega arith); reaches = record { reached = u.reaches.reached; before = before } }
    where
      before : (j : ℕ) → j < suc u.steps → F (place k l p j)
      before zero i = f
      before (suc j) i = u.reaches.before j (omega arith)

  at_once : (p s : ℕ) → s ≤ 0 → Reaches k l F G p s → G p
  unfolding place
  at_once p zero w r = r.reached
  at_once p (suc s) w r = absurd (omega arith)

  at_first : (n p s : ℕ) → s ≤ suc n → Reaches k l F G p s → G p ⊎ (F p × Until n k l F G (next_place k l p))
  unfolding place
  at_first n p zero w r = inl r.reached
  at_first n p (suc s) w r = inr (r.before 0 (omega arith), record { steps = s; within = omega arith; reaches = record { reached = r.reached; before = λ j i. r.before (suc j) (omega arith) } })

  pub until_last : (p : ℕ) → Until 0 k l F G p → G p
  until_last p u = at_once p u.steps u.within u.reaches

  pub until_first : (n p : ℕ) → Until (suc n) k l F G p → G p ⊎ (F p × Until n k l F G (next_place k l p))
  until_first n p u = at_first n p u.steps u.within u.reaches

  -- it is decided where its parts are
  module _ (h : l < k) (f : (q : ℕ) → q < k → F q ⊎ (¬ F q)) (g : (q : ℕ) → q < k → G q ⊎ (¬ G q)) where
    pub until_decided : (n p : ℕ) → p < k → Until n k l F G p ⊎ (¬ Until n k l F G p)
    until_decided zero p b = ⊎_elim (λ y. inl (until_now zero p y)) (λ x. inr (λ u. x (until_last p u))) (g p b)
    until_decided (suc n) p b = elim (g p b) [
      | inl y ↦ inl (until_now (suc n) p y)
      | inr x ↦ elim (f p b) [
        | inl z ↦ ⊎_elim (λ u. inl (until_later n p z u)) (λ v. inr (λ u. ⊎_elim x (λ r. v r.1) (until_first n p u))) (until_decided n (next_place k l p) (next_below k l p h b))
        | inr z ↦ inr (λ u. ⊎_elim x (λ r. z r.0) (until_first n p u))
      ]
    ]

-- it is kept where its parts are, and its limit does not fall
pub until_kept : {F G H I : ℕ → Type 0} (k l m n p : ℕ) → l < k → p < k → m ≤ n → ((q : ℕ) → q < k → F q → H q) → ((q : ℕ) → q < k → G q → I q) → Until m k l F G p → Until n k l H I p
until_kept k l m n p h b w f g u =
    let s : u.steps ≤ m = u.within in
    record {
      steps = u.steps;
      within = omega arith;
      reaches = record {
        reached = g (place k l p u.steps) (place_below k l p u.steps h b) u.reaches.reached;
        before = λ j i. f (place k l p j) (place_below k l p j h b) (u.reaches.before j i);
      };
    }

-- k steps are as good as any number
pub until_enough : (F G : ℕ → Type 0) (k l m p : ℕ) → l < k → p < k → Until m k l F G p → Until k k l F G p
until_enough F G k l m p h b u = shortened k l F G h u.steps p u.steps b (omega arith) u.reaches
