-- Arrows that are added one after the other.
use Rattle.std.proofs.Common.{◌≡◌, ◌+◌, ◌<◌, ◌≤◌, ℕ, zero, suc, List, [], ◌∷◌, ◌++◌, length, map, set, replicate, refl, ap, sym, ◌∙◌, subst, arith, inl, inr}
use Rattle.std.specs.Prelude.{◌⊎◌, ◌↔◌, Contains, Option, Some, None}
use Rattle.std.proofs.lemmas.Bool.{cases_order}
use Rattle.std.proofs.lemmas.List.{length-set, length-replicate}
use Rattle.std.proofs.lemmas.List.Elements.{Contains-append_left, Contains-push, Contains-push_cases}
use Rattle.smv_meaning.proofs.Lists.{contains_none}
use Rattle.smv_graph.specs.Graph.{Leads, IsClosed, row_of}
use Rattle.smv_graph.specs.Arrows.{AreAdded, IsBack}

pub map_written : {X Y : Type 0} (f : X → Y) (xs : List X) (k : ℕ) (x : X) → map f (set xs k x) ≡ set (map f xs) k (f x)
map_written f [] k x = refl
map_written f (y ∷ ys) zero x = refl
map_written f (y ∷ ys) (suc k) x = ap (λ l. f y ∷ l) (map_written f ys k x)

same_row : (xs : List (List (Option ℕ))) (k : ℕ) (r : List (Option ℕ)) → k < length xs → row_of (set xs k r) k ≡ r
same_row [] k r l = absurd (omega arith)
same_row (x ∷ xs) zero r l = refl
same_row (x ∷ xs) (suc k) r l = same_row xs k r (omega arith)

other_row : (xs : List (List (Option ℕ))) (k a : ℕ) (r : List (Option ℕ)) → (a ≡ k → ⊥) → row_of (set xs k r) a ≡ row_of xs a
other_row [] k a r n = refl
other_row (x ∷ xs) zero zero r n = absurd (n refl)
other_row (x ∷ xs) zero (suc a) r n = refl
other_row (x ∷ xs) (suc k) zero r n = refl
other_row (x ∷ xs) (suc k) (suc a) r n = other_row xs k a r (λ e. n (ap suc e))

-- an arrow behind those of a row
pub one_added : (old : List (List (Option ℕ))) (k c : ℕ) (new : List (List (Option ℕ))) → k < length old → new ≡ set old k (row_of old k ++ Some c ∷ []) → AreAdded old (λ a b. (a ≡ k) × (b ≡ c)) new
one_added old k c new l e = (ap length e ∙ length-set old k (row_of old k ++ Some c ∷ []), λ a b. (forth a b, back a b))
  where
    longer : row_of new k ≡ row_of old k ++ Some c ∷ []
    longer = ap (λ xs. row_of xs k) e ∙ same_row old k (row_of old k ++ Some c ∷ []) l

    apart : (a : ℕ) → (a ≡ k → ⊥) → row_of new a ≡ row_of old a
    apart a n = ap (λ xs. row_of xs a) e ∙ other_row old k a (row_of old k ++ Some c ∷ []) n

    by_row : (a : ℕ) → (a ≡ k) ⊎ (a ≡ k → ⊥)
    by_row a = elim (cases_order a k) [ inl s ↦ inl s | inr n ↦ inr (λ s. elim n [ inl l ↦ absurd (omega arith) | inr l ↦ absurd (omega arith) ]) ]

    at_it : (a b : ℕ) → a ≡ k → Contains (row_of old k) (Some b) ⊎ (Some c ≡ Some b) → Leads old a b ⊎ ((a ≡ k) × (b ≡ c))
    at_it a b s (inl h) = inl (subst (λ j. Leads old j b) (sym s) h)
    at_it a b s (inr h) = inr (s, cc)

    forth : (a b : ℕ) → Leads new a b → Leads old a b ⊎ ((a ≡ k) × (b ≡ c))
    forth a b h = elim (by_row a) [
      | inl s ↦ at_it a b s (Contains-push_cases (row_of old k) (Some c) (Some b) (subst (λ r. Contains r (Some b)) longer (subst (λ j. Leads new j b) s h)))
      | inr n ↦ inl (subst (λ r. Contains r (Some b)) (apart a n) h)
    ]

    kept : (a b : ℕ) → (a ≡ k) ⊎ (a ≡ k → ⊥) → Leads old a b → Leads new a b
    kept a b (inl s) h = subst (λ j. Leads new j b) (sym s) (subst (λ r. Contains r (Some b)) (sym longer) (Contains-append_left (row_of old k) (Some c ∷ []) (Some b) (subst (λ j. Leads old j b) s h)))
    kept a b (inr n) h = subst (λ r. Contains r (Some b)) (sym (apart a n)) h

    back : (a b : ℕ) → Leads old a b ⊎ ((a ≡ k) × (b ≡ c)) → Leads new a b
    back a b (inl h) = kept a b (by_row a) h
    back a b (inr (s, t)) = subst (λ j. Leads new j b) (sym s) (subst (λ j. Leads new k j) (sym t) (subst (λ r. Contains r (Some c)) (sym longer) (Contains-push (row_of old k) (Some c))))

pub none_back : (old : List (List (Option ℕ))) (n : ℕ) → AreAdded old (IsBack [] n) old
none_back old n = (refl, λ a b. (λ h. inl h, λ h. elim h [ inl g ↦ g | inr (c, e) ↦ absurd (contains_none (Some a) c) ]))

module _ (old mid : List (List (Option ℕ))) (row : List (Option ℕ)) (n : ℕ) (so_far : AreAdded old (IsBack row n) mid) where
  pub nowhere_back : AreAdded old (IsBack (row ++ None ∷ []) n) mid
  nowhere_back = (so_far.0, λ a b. (λ h. forth a b ((so_far.1 a b).0 h), λ h. (so_far.1 a b).1 (back a b h)))
    where
      forth : (a b : ℕ) → Leads old a b ⊎ IsBack row n a b → Leads old a b ⊎ IsBack (row ++ None ∷ []) n a b
      forth a b (inl h) = inl h
      forth a b (inr (c, e)) = inr (Contains-append_left row (None ∷ []) (Some a) c, e)

      there : (a b : ℕ) → b ≡ n → Contains row (Some a) ⊎ (None ≡ Some a) → Leads old a b ⊎ IsBack row n a b
      there a b e (inl c) = inr (c, e)
      there a b e (inr d) = absurd (cc)

      back : (a b : ℕ) → Leads old a b ⊎ IsBack (row ++ None ∷ []) n a b → Leads old a b ⊎ IsBack row n a b
      back a b (inl h) = inl h
      back a b (inr (c, e)) = there a b e (Contains-push_cases row None (Some a) c)

  pub one_back : (new : List (List (Option ℕ))) (v : ℕ) → AreAdded mid (λ a b. (a ≡ v) × (b ≡ n)) new → AreAdded old (IsBack (row ++ Some v ∷ []) n) new
  one_back new v more = (more.0 ∙ so_far.0, λ a b. (λ h. forth a b ((more.1 a b).0 h), λ h. (more.1 a b).1 (back a b h)))
    where
      before : (a b : ℕ) → Leads old a b ⊎ IsBack row n a b → Leads old a b ⊎ IsBack (row ++ Some v ∷ []) n a b
      before a b (inl h) = inl h
      before a b (inr (c, e)) = inr (Contains-append_left row (Some v ∷ []) (Some a) c, e)

      forth : (a b : ℕ) → Leads mid a b ⊎ ((a ≡ v) × (b ≡ n)) → Leads old a b ⊎ IsBack (row ++ Some v ∷ []) n a b
      forth a b (inl h) = before a b ((so_far.1 a b).0 h)
      forth a b (inr (s, e)) = inr (subst (λ j. Contains (row ++ Some v ∷ []) (Some j)) (sym s) (Contains-push row (Some v)), e)

      there : (a b : ℕ) → b ≡ n → Contains row (Some a) ⊎ (Some v ≡ Some a) → Leads mid a b ⊎ ((a ≡ v) × (b ≡ n))
      there a b e (inl c) = inl ((so_far.1 a b).1 (inr (c, e)))
      there a b e (inr d) = inr (cc, e)

      back : (a b : ℕ) → Leads old a b ⊎ IsBack (row ++ Some v ∷ []) n a b → Leads mid a b ⊎ ((a ≡ v) × (b ≡ n))
      back a b (inl h) = inl ((so_far.1 a b).1 (inl h))
      back a b (inr (c, e)) = there a b e (Contains-push_cases row (Some v) (Some a) c)

empty_row : (n a : ℕ) → row_of (replicate n []) a ≡ []
empty_row zero a = refl
empty_row (suc n) zero = refl
empty_row (suc n) (suc a) = empty_row n a

-- the arrows of the first rows are there, the other way round
pub record AreReversed (graph : List (List (Option ℕ))) (n : ℕ) (rows : List (List (Option ℕ))) : Type 0 where
  pub size : length rows ≡ length graph
  pub arrows : (a b : ℕ) → Leads rows a b ↔ ((b < n) × Leads graph b a)

pub leads_within : (graph : List (List (Option ℕ))) (a b : ℕ) → Leads graph a b → a < length graph
leads_within [] a b c = absurd (contains_none (Some b) c)
leads_within (row ∷ rows) zero b c = omega arith
leads_within (row ∷ rows) (suc a) b c = let r = leads_within rows a b c in omega arith

pub none_reversed : (graph rows : List (List (Option ℕ))) (n : ℕ) → n ≡ length graph → rows ≡ replicate n [] → AreReversed graph 0 rows
none_reversed graph rows n l e = record {
  size = ap length e ∙ (length-replicate n [] ∙ l);
  arrows = λ a b. (λ h. absurd (contains_none (Some b) (subst (λ r. Contains r (Some b)) (ap (λ xs. row_of xs a) e ∙ empty_row n a) h)), λ h. absurd (let less = h.0 in omega arith));
}

module _ (graph rows : List (List (Option ℕ))) (n : ℕ) (r : AreReversed graph n rows) where
  pub one_reversed : (new : List (List (Option ℕ))) → AreAdded rows (IsBack (row_of graph n) n) new → AreReversed graph (n + 1) new
  one_reversed new more = record {
    size = more.0 ∙ r.size;
    arrows = λ a b. (λ h. forth a b ((more.1 a b).0 h), λ h. (more.1 a b).1 (back a b (last b h.0) h.1));
  }
    where
      forth : (a b : ℕ) → Leads rows a b ⊎ IsBack (row_of graph n) n a b → (b < n + 1) × Leads graph b a
      forth a b (inl h) = let g = (r.arrows a b).0 h in let less = g.0 in (omega arith, g.1)
      forth a b (inr (c, e)) = (omega arith, subst (λ j. Leads graph j a) (sym e) c)

      last : (b : ℕ) → b < n + 1 → (b < n) ⊎ (b ≡ n)
      last b l = grind arith

      back : (a b : ℕ) → (b < n) ⊎ (b ≡ n) → Leads graph b a → Leads rows a b ⊎ IsBack (row_of graph n) n a b
      back a b (inl l) h = inl ((r.arrows a b).1 (l, h))
      back a b (inr e) h = inr (subst (λ j. Leads graph j a) e h, e)

  pub all_reversed : length graph ≤ n → (a b : ℕ) → Leads rows a b ↔ Leads graph b a
  all_reversed l a b = (λ h. ((r.arrows a b).0 h).1, λ h. (r.arrows a b).1 (let w = leads_within graph b a h in omega arith, h))

  pub reversed_closed : IsClosed rows
  reversed_closed a b h = let g = ((r.arrows a b).0 h).1 in let w = leads_within graph b a g in let s = r.size in omega arith

  pub targets_within : IsClosed graph → (a : ℕ) → Contains (row_of graph n) (Some a) → a < length rows
  targets_within closed a c = let w = closed n a c in let s = r.size in omega arith
