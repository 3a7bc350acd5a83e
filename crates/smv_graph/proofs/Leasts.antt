-- The least of some numbers, and the first step of a row to a module at a distance.
use Rattle.std.proofs.Common.{◌≡◌, ◌<◌, ◌≤◌, ℕ, List, [], ◌∷◌, ◌++◌, length, refl, ap, sym, ◌∙◌, subst, arith, inl, inr, eqb, min, take, get_or}
use Rattle.std.specs.Prelude.{◌⊎◌, ◌↔◌, Contains, Option, Some, None, slice_get}
use Rattle.std.specs.Map.{lookup}
use Rattle.std.proofs.lemmas.Bool.{cases_order}
use Rattle.std.proofs.lemmas.List.{length-take, get_or-take, get_or_default}
use Rattle.std.proofs.lemmas.List.Elements.{Contains-append_left, Contains-push, Contains-push_cases}
use Rattle.std.proofs.lemmas.Option.{slice_get_within, get_or_from_slice_get, slice_get-get_or}
use Rattle.smv_meaning.specs.FirstCycles.{StandsBefore}
use Rattle.smv_meaning.proofs.Lists.{contains_none}
use Rattle.smv_graph.specs.Choices.{LeadsAt, IsChosen, IsLeast, lesser}
use Rattle.smv_graph.specs.declared.choice.StepOrder.TheVariants.{ByNumber, ByRow}

-- one number more
least_more : (P Q : ℕ → Type 0) (best new : Option ℕ) → IsLeast P best → ((n : ℕ) → Q n → P n ⊎ (new ≡ Some n)) → ((n : ℕ) → P n → Q n) → ((n : ℕ) → new ≡ Some n → Q n) → IsLeast Q (lesser best new)
least_more P Q None None l split keep own = λ n q. elim (split n q) [ inl p ↦ l n p | inr e ↦ absurd (cc) ]
least_more P Q None (Some m) l split keep own = (own m refl, λ n q. elim (split n q) [ inl p ↦ absurd (l n p) | inr e ↦ (let s : m ≡ n = cc in omega (arith, s)) ])
least_more P Q (Some k) None l split keep own = (keep k l.0, λ n q. elim (split n q) [ inl p ↦ l.1 n p | inr e ↦ absurd (cc) ])
least_more P Q (Some k) (Some m) l split keep own = (
  by_order (cases k m),
  λ n q. elim (split n q) [
    | inl p ↦ (let b = l.1 n p in omega (arith, b))
    | inr e ↦ (let s : m ≡ n = cc in omega (arith, s))
  ],
)
  where
    cases : (i j : ℕ) → (i ≤ j) ⊎ (j ≤ i)
    cases i j = grind arith

    by_order : (k ≤ m) ⊎ (m ≤ k) → Q (min k m)
    by_order (inl h) = let e : min k m ≡ k = omega (arith, h) in subst Q (sym e) (keep k l.0)
    by_order (inr h) = let e : min k m ≡ m = omega (arith, h) in subst Q (sym e) (own m refl)

module _ (entries : List (ℕ × ℕ)) where
  longer_at : (row : List (Option ℕ)) (x : Option ℕ) (d b : ℕ) → LeadsAt entries row d b → LeadsAt entries (row ++ x ∷ []) d b
  longer_at row x d b h = (Contains-append_left row (x ∷ []) (Some b) h.0, h.1)

  last_at : (row : List (Option ℕ)) (x : Option ℕ) (d b : ℕ) → x ≡ Some b → lookup (eqb b) entries ≡ Some d → LeadsAt entries (row ++ x ∷ []) d b
  last_at row x d b e f = (subst (Contains (row ++ x ∷ [])) e (Contains-push row x), f)

  split_at : (row : List (Option ℕ)) (x : Option ℕ) (d b : ℕ) → LeadsAt entries (row ++ x ∷ []) d b → LeadsAt entries row d b ⊎ ((x ≡ Some b) × (lookup (eqb b) entries ≡ Some d))
  split_at row x d b h = elim (Contains-push_cases row x (Some b) h.0) [ inl c ↦ inl (c, h.1) | inr e ↦ inr (e, h.1) ]

  -- the least distance, with one part of the row more
  pub nearest_none : IsLeast (λ d. (b : ℕ) × LeadsAt entries [] d b) None
  nearest_none d (b, h) = contains_none (Some b) h.0

  pub nearest_more : (row : List (Option ℕ)) (x best new : Option ℕ) → IsLeast (λ d. (b : ℕ) × LeadsAt entries row d b) best
      → ((d : ℕ) → (new ≡ Some d) ↔ ((b : ℕ) × (x ≡ Some b) × (lookup (eqb b) entries ≡ Some d)))
      → IsLeast (λ d. (b : ℕ) × LeadsAt entries (row ++ x ∷ []) d b) (lesser best new)
  nearest_more row x best new l is = least_more (λ d. (b : ℕ) × LeadsAt entries row d b) (λ d. (b : ℕ) × LeadsAt entries (row ++ x ∷ []) d b) best new l split (λ d h. (h.0, longer_at row x d h.0 h.1)) own
    where
      split : (d : ℕ) → (b : ℕ) × LeadsAt entries (row ++ x ∷ []) d b → ((b : ℕ) × LeadsAt entries row d b) ⊎ (new ≡ Some d)
      split d (b, h) = elim (split_at row x d b h) [ inl g ↦ inl (b, g) | inr g ↦ inr ((is d).1 (b, g.0, g.1)) ]

      own : (d : ℕ) → new ≡ Some d → (b : ℕ) × LeadsAt entries (row ++ x ∷ []) d b
      own d e = let h = (is d).0 e in (h.0, last_at row x d h.0 h.1 h.2)

  -- the least number at a distance, with one part of the row more
  pub least_at_none : (d : ℕ) → IsLeast (LeadsAt entries [] d) None
  least_at_none d b h = contains_none (Some b) h.0

  pub least_at_more : (row : List (Option ℕ)) (d : ℕ) (x best new : Option ℕ) → IsLeast (LeadsAt entries row d) best
      → ((b : ℕ) → (new ≡ Some b) ↔ ((x ≡ Some b) × (lookup (eqb b) entries ≡ Some d)))
      → IsLeast (LeadsAt entries (row ++ x ∷ []) d) (lesser best new)
  least_at_more row d x best new l is = least_more (LeadsAt entries row d) (LeadsAt entries (row ++ x ∷ []) d) best new l split (longer_at row x d) own
    where
      split : (b : ℕ) → LeadsAt entries (row ++ x ∷ []) d b → LeadsAt entries row d b ⊎ (new ≡ Some b)
      split b h = elim (split_at row x d b h) [ inl g ↦ inl g | inr g ↦ inr ((is b).1 g) ]

      own : (b : ℕ) → new ≡ Some b → LeadsAt entries (row ++ x ∷ []) d b
      own b e = let h = (is b).0 e in last_at row x d b h.0 h.1

  pub least_chosen : (row : List (Option ℕ)) (d : ℕ) (o : Option ℕ) → IsLeast (LeadsAt entries row d) o → IsChosen ByNumber entries row d o
  least_chosen row d None l = l
  least_chosen row d (Some b) l = (l.0, λ c h. cases b c (l.1 c h))
    where
      cases : (b c : ℕ) → b ≤ c → (c ≡ b) ⊎ (b < c)
      cases b c h = grind arith

  -- none so far, and one part of the row more
  pub none_more : (row : List (Option ℕ)) (d : ℕ) (x : Option ℕ) → ((b : ℕ) → LeadsAt entries row d b → ⊥) → ((b : ℕ) → (x ≡ Some b) × (lookup (eqb b) entries ≡ Some d) → ⊥) → (b : ℕ) → LeadsAt entries (row ++ x ∷ []) d b → ⊥
  none_more row d x none last b h = elim (split_at row x d b h) [ inl g ↦ none b g | inr g ↦ last b g ]

  taken : (row : List (Option ℕ)) (i j : ℕ) (x : Option ℕ) → j < i → slice_get row j ≡ Some x → Contains (take i row) x
  taken row i j x l e =
      let w = slice_get_within row j x e in
      let size = length-take i row in
      (j, omega (arith, w, size, l), get_or-take i row j x l ∙ get_or_from_slice_get row j x x e)

  pub first_chosen : (row : List (Option ℕ)) (d i b : ℕ) → ((c : ℕ) → LeadsAt entries (take i row) d c → ⊥) → i < length row → get_or row i None ≡ Some b → lookup (eqb b) entries ≡ Some d → IsChosen ByRow entries row d (Some b)
  first_chosen row d i b none l e f = (((i, l, get_or_default row i (Some b) None l ∙ e), f), λ c h. by_order c h (cases_order c b))
    where
      stands : slice_get row i ≡ Some (Some b)
      stands = slice_get-get_or row i None l ∙ ap (λ o. Some o) e

      apart : (c : ℕ) → (c ≡ b → ⊥) → LeadsAt entries row d c → StandsBefore row (Some b) (Some c)
      apart c n h = record { number = i; stands = stands; later = λ j g. by_place j g (cases_order i j) }
        where
          by_place : (j : ℕ) → slice_get row j ≡ Some (Some c) → (i ≡ j) ⊎ ((i < j) ⊎ (j < i)) → i < j
          by_place j g (inl s) = absurd (n (let at_it : slice_get row j ≡ Some (Some b) = subst (λ k. slice_get row k ≡ Some (Some b)) s stands in cc))
          by_place j g (inr (inl less)) = less
          by_place j g (inr (inr more)) = absurd (none c (taken row i j (Some c) more g, h.1))

      by_order : (c : ℕ) → LeadsAt entries row d c → (c ≡ b) ⊎ ((c < b) ⊎ (b < c)) → (c ≡ b) ⊎ StandsBefore row (Some b) (Some c)
      by_order c h (inl s) = inl s
      by_order c h (inr (inl less)) = inr (apart c (λ s. omega (arith, less, s)) h)
      by_order c h (inr (inr more)) = inr (apart c (λ s. omega (arith, more, s)) h)

  -- whether a part of a row leads to a module at a distance, by its own distance
  module _ (x far : Option ℕ) (distance : ℕ) (is : (d : ℕ) → (far ≡ Some d) ↔ ((b : ℕ) × (x ≡ Some b) × (lookup (eqb b) entries ≡ Some d))) where
    pub here_at : far ≡ Some distance → (b : ℕ) → (x ≡ Some b) ↔ ((x ≡ Some b) × (lookup (eqb b) entries ≡ Some distance))
    here_at e b = (λ h. (h, (let w = (is distance).0 e in let there = w.1 in let same : w.0 ≡ b = cc in subst (λ c. lookup (eqb c) entries ≡ Some distance) same w.2)), λ h. h.0)

    pub not_here_at : (far ≡ Some distance → ⊥) → (b : ℕ) → (◌≡◌ {A = Option ℕ} None (Some b)) ↔ ((x ≡ Some b) × (lookup (eqb b) entries ≡ Some distance))
    not_here_at n b = (λ h. absurd (cc), λ h. absurd (n ((is distance).1 (b, h.0, h.1))))
