-- The first of the shortest walks to a module, step by step.
use Rattle.std.proofs.Common.{◌≡◌, ◌≤◌, ℕ, zero, suc, List, [], ◌∷◌, ◌++◌, length, refl, ap, sym, ◌∙◌, subst, arith, inl, inr, eqb, append_assoc}
use Rattle.std.specs.Prelude.{◌⊎◌, Option, Some, None}
use Rattle.std.specs.Map.{lookup}
use Rattle.std.proofs.lemmas.List.{append-nil, nil_from_length}
use Rattle.smv_meaning.specs.Walks.{IsWalk, IsOnCycle}
use Rattle.smv_meaning.specs.FirstCycles.{PartsBefore, IsFirstCycle}
use Rattle.smv_graph.specs.Graph.{Leads, row_of}
use Rattle.smv_graph.specs.Distances.{Steps, AreDistances}
use Rattle.smv_graph.specs.declared.choice.StepOrder.{StepOrder}
use Rattle.smv_graph.specs.Choices.{GoesBefore, LeadsAt, IsChosen, IsLeast}

-- steps as a walk
steps_walk : {A : Type 0} (R : A → A → Type 0) (n : ℕ) (a b : A) → Steps R (suc n) a b → (xs : List A) × IsWalk R a xs b × (length xs ≡ n)
steps_walk R zero a b (x, r, s) = ([], subst (R a) s r, refl)
steps_walk R (suc n) a b (x, r, s) = let w = steps_walk R n x b s in (x ∷ w.0, (r, w.1), ap suc w.2)

walk_steps : {A : Type 0} (R : A → A → Type 0) (a : A) (xs : List A) (b : A) → IsWalk R a xs b → Steps R (suc (length xs)) a b
walk_steps R a [] b w = (b, w, refl)
walk_steps R a (x ∷ xs) b w = (x, w.0, walk_steps R x xs b w.1)

-- a walk of this length, and of all of this length the first
pub record IsFirstWalk {A : Type 0} (R : A → A → Type 0) (before : A → A → A → Type 0) (target a : A) (n : ℕ) (xs : List A) : Type 0 where
  pub walk : IsWalk R a xs target
  pub size : length xs ≡ n
  pub first : (ys : List A) → IsWalk R a ys target → length ys ≡ n → (ys ≡ xs) ⊎ PartsBefore before a xs ys

-- no walk to the target has fewer between, and one has so many
pub record IsAway {A : Type 0} (R : A → A → Type 0) (target a : A) (n : ℕ) : Type 0 where
  pub there : (xs : List A) × IsWalk R a xs target × (length xs ≡ n)
  pub least : (xs : List A) → IsWalk R a xs target → n ≤ length xs

-- what completes the rest of a walk completes the whole
pub record IsOnTheWay {A : Type 0} (R : A → A → Type 0) (before : A → A → A → Type 0) (target : A) (count : ℕ) (between : List A) (here : A) (left : ℕ) : Type 0 where
  pub away : IsAway R target here left
  pub onwards : (zs : List A) → IsFirstWalk R before target here left zs → IsFirstWalk R before target target count (between ++ zs)

module _ (graph : List (List (Option ℕ))) (order : StepOrder) (target : ℕ) (entries : List (ℕ × ℕ)) (d : AreDistances graph target entries) where
  abbrev First : ℕ → ℕ → List ℕ → Type 0
  First = IsFirstWalk (Leads graph) (GoesBefore order graph) target

  pub way_begun : (count : ℕ) → ((xs : List ℕ) × IsWalk (Leads graph) target xs target × (length xs ≡ count)) → ((xs : List ℕ) → IsWalk (Leads graph) target xs target → count ≤ length xs)
      → IsOnTheWay (Leads graph) (GoesBefore order graph) target count [] target count
  way_begun count there least = record { away = record { there = there; least = least }; onwards = λ zs f. f }

  module _ (here left : ℕ) (away : IsAway (Leads graph) target here (suc left)) where
    -- each step of a walk that is as short leads to a module that is as far away as is left
    step_at : (y : ℕ) (ys : List ℕ) → Leads graph here y → IsWalk (Leads graph) y ys target → length ys ≡ left → LeadsAt entries (row_of graph here) (suc left) y
    step_at y ys r w size = by_found (d.least y (suc (length ys)) (walk_steps (Leads graph) y ys target w))
      where
        by_found : (f : ℕ) × (lookup (eqb y) entries ≡ Some f) × (f ≤ suc (length ys)) → LeadsAt entries (row_of graph here) (suc left) y
        by_found (zero, e, l) = absurd (let s : y ≡ target = d.sound y zero e in let m = away.least [] (subst (Leads graph here) s r) in omega (arith, m))
        by_found (suc f, e, l) =
            let v = steps_walk (Leads graph) f y target (d.sound y (suc f) e) in
            let m = away.least (y ∷ v.0) (r, v.1) in
            let size_v = v.2 in
            let same : f ≡ left = omega (arith, m, size_v, size, l) in
            (r, e ∙ ap (λ n. Some (suc n)) same)

    pub step_there : (b : ℕ) × LeadsAt entries (row_of graph here) (suc left) b
    step_there = by_walk away.there
      where
        by_walk : (xs : List ℕ) × IsWalk (Leads graph) here xs target × (length xs ≡ suc left) → (b : ℕ) × LeadsAt entries (row_of graph here) (suc left) b
        by_walk ([], w, size) = absurd (omega (arith, size))
        by_walk (x ∷ xs, w, size) = (x, step_at x xs w.0 w.1 (omega (arith, size)))

    module _ (x : ℕ) (chosen : IsChosen order entries (row_of graph here) (suc left) (Some x)) where
      next_away : IsAway (Leads graph) target x left
      next_away = record {
        there = steps_walk (Leads graph) left x target (d.sound x (suc left) chosen.0.1);
        least = λ zs w. let m = away.least (x ∷ zs) (chosen.0.0, w) in omega (arith, m);
      }

      longer : (zs : List ℕ) → First x left zs → First here (suc left) (x ∷ zs)
      longer zs f = record { walk = (chosen.0.0, f.walk); size = ap suc f.size; first = first }
        where
          first : (ys : List ℕ) → IsWalk (Leads graph) here ys target → length ys ≡ suc left → (ys ≡ x ∷ zs) ⊎ PartsBefore (GoesBefore order graph) here (x ∷ zs) ys
          first [] w size = absurd (omega (arith, size))
          first (y ∷ ys) w size = by_choice (chosen.1 y (step_at y ys w.0 w.1 (omega (arith, size))))
            where
              by_rest : y ≡ x → (ys ≡ zs) ⊎ PartsBefore (GoesBefore order graph) x zs ys → (y ∷ ys ≡ x ∷ zs) ⊎ PartsBefore (GoesBefore order graph) here (x ∷ zs) (y ∷ ys)
              by_rest s (inl e) = inl (cc)
              by_rest s (inr p) = inr (inr (sym s, p))

              by_choice : (y ≡ x) ⊎ GoesBefore order graph here x y → (y ∷ ys ≡ x ∷ zs) ⊎ PartsBefore (GoesBefore order graph) here (x ∷ zs) (y ∷ ys)
              by_choice (inr b) = inr (inl b)
              by_choice (inl s) = by_rest s (f.first ys (subst (λ j. IsWalk (Leads graph) j ys target) s w.1) (omega (arith, size)))

      pub way_on : (count : ℕ) (between : List ℕ) → IsOnTheWay (Leads graph) (GoesBefore order graph) target count between here (suc left)
          → IsOnTheWay (Leads graph) (GoesBefore order graph) target count (between ++ x ∷ []) x left
      way_on count between way = record {
        away = next_away;
        onwards = λ zs f. subst (First target count) (sym (append_assoc between (x ∷ []) zs)) (way.onwards (x ∷ zs) (longer zs f));
      }

  -- at the end the cycle is the first of the shortest ones
  pub way_done : (count : ℕ) (between : List ℕ) (here : ℕ) → ((xs : List ℕ) → IsWalk (Leads graph) target xs target → count ≤ length xs)
      → IsOnTheWay (Leads graph) (GoesBefore order graph) target count between here 0 → IsFirstCycle (Leads graph) (GoesBefore order graph) target between
  way_done count between here least way = record {
    shortest = (whole.walk, λ ys w. let m = least ys w in let s = whole.size in omega (arith, m, s));
    first = λ ys s. whole.first ys s.0 (let m = least ys s.0 in let n = s.1 between whole.walk in let k = whole.size in omega (arith, m, n, k));
  }
    where
      last : (ys : List ℕ) → length ys ≡ 0 → IsWalk (Leads graph) here ys target → IsWalk (Leads graph) here [] target
      last ys e w = subst (λ l. IsWalk (Leads graph) here l target) (nil_from_length ys e) w

      whole : First target count between
      whole = subst (First target count) (append-nil between) (way.onwards [] (record {
        walk = last way.away.there.0 way.away.there.2 way.away.there.1;
        size = refl;
        first = λ ys w size. inl (nil_from_length ys size);
      }))

  -- how many stand between on a shortest cycle
  pub nearest_walk : (n : ℕ) → IsLeast (λ f. (b : ℕ) × LeadsAt entries (row_of graph target) f b) (Some n)
      → ((xs : List ℕ) × IsWalk (Leads graph) target xs target × (length xs ≡ n)) × ((xs : List ℕ) → IsWalk (Leads graph) target xs target → n ≤ length xs)
  nearest_walk n l = (there n l.0, least)
    where
      there : (f : ℕ) → (b : ℕ) × LeadsAt entries (row_of graph target) f b → (xs : List ℕ) × IsWalk (Leads graph) target xs target × (length xs ≡ f)
      there zero (b, h) = ([], subst (Leads graph target) (d.sound b zero h.1) h.0, refl)
      there (suc f) (b, h) = let w = steps_walk (Leads graph) f b target (d.sound b (suc f) h.1) in (b ∷ w.0, (h.0, w.1), ap suc w.2)

      at_step : (y k : ℕ) → Leads graph target y → Steps (Leads graph) k y target → n ≤ k
      at_step y k r s = let f = d.least y k s in let m = l.1 f.0 (y, (r, f.1)) in let le = f.2 in omega (arith, m, le)

      least : (xs : List ℕ) → IsWalk (Leads graph) target xs target → n ≤ length xs
      least [] w = at_step target zero w refl
      least (y ∷ ys) w = at_step y (suc (length ys)) w.0 (walk_steps (Leads graph) y ys target w.1)

  pub nearest_none_cycle : IsLeast (λ f. (b : ℕ) × LeadsAt entries (row_of graph target) f b) None → IsOnCycle (Leads graph) target → ⊥
  nearest_none_cycle none ([], w) = let f = d.least target zero refl in none f.0 (target, (w, f.1))
  nearest_none_cycle none (y ∷ ys, w) = let f = d.least y (suc (length ys)) (walk_steps (Leads graph) y ys target w.1) in none f.0 (y, (w.0, f.1))
