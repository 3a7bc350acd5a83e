-- Where no definition is on a cycle, names come to an end: a walk that goes on comes to a definition again.
use Rattle.std.proofs.Common.{◌≡◌, ◌<◌, ◌≤◌, ◌+◌, ℕ, zero, suc, Bool, true, false, ◌||◌, List, [], ◌∷◌, ◌++◌, length, refl, ap, sym, subst, arith, inl, inr}
use Rattle.std.specs.Prelude.{Contains, Some, slice_get, ◌⊎◌}
use Rattle.std.specs.List.{AllByRecursion, IsDistinct, list_any}
use Rattle.std.proofs.Math.Dec.{eqb}
use Rattle.std.proofs.lemmas.Bool.{false≢true, eqb-true}
use Rattle.std.proofs.lemmas.Map.Steps.{length-le_from_distinct_below}
use Rattle.std.proofs.lemmas.Option.{slice_get_within}
use Rattle.smv_tree.specs.Models.{Body}
use Rattle.smv_meaning.specs.Names.{resolve}
use Rattle.smv_meaning.specs.Walks.{IsWalk}
use Rattle.smv_meaning.specs.Definitions.{Definition, definitions, Uses}
use Rattle.smv_meaning.specs.Cycles.{IsSettled, HasDefinitionCycle}
use Rattle.smv_meaning.proofs.Lists.{contains_none, contains_cases}
use Rattle.smv_meaning.proofs.NamedOrNot.{named_or_not, named_is_listed}
use Rattle.smv_meaning.proofs.Orders.{BodySettles, walk_on, no_body_settles, named_settles}

-- what a list contains stands at a place of it
contained_at : {X : Type 0} (xs : List X) (x : X) → Contains xs x → (k : ℕ) × (slice_get xs k ≡ Some x)
contained_at [] x c = absurd (contains_none x c)
contained_at (y ∷ ys) x c = elim (contains_cases y ys x c) [
  | inl e ↦ (0, ap (λ z. Some z) e)
  | inr h ↦ (let r = contained_at ys x h in (suc r.0, r.1))
]

-- a number that is not found differs from each
all_apart : (k : ℕ) (ks : List ℕ) → list_any (eqb k) ks ≡ false → AllByRecursion (λ j. eqb k j ≡ false) ks
all_apart k [] e = tt
all_apart k (j ∷ ks) e = by_test (eqb k j) refl e (all_apart k ks)
  where
    by_test : (b : Bool) → eqb k j ≡ b → (b || list_any (eqb k) ks) ≡ false → (list_any (eqb k) ks ≡ false → AllByRecursion (λ i. eqb k i ≡ false) ks) → AllByRecursion (λ i. eqb k i ≡ false) (j ∷ ks)
    by_test true h e rest = absurd (false≢true (sym e))
    by_test false h e rest = (h, rest e)

module _ (program : List Body) (none : HasDefinitionCycle program → ⊥) where
  -- a definition is another one, or a walk leads to it
  abbrev ComesTo : Definition → Definition → Type 0
  ComesTo e d = (e ≡ d) ⊎ ((xs : List Definition) × IsWalk (Uses program) e xs d)

  comes_on : (e d f : Definition) → ComesTo e d → Uses program d f → ComesTo e f
  comes_on e d f (inl same) u = inr ([], subst (λ x. Uses program x f) (sym same) u)
  comes_on e d f (inr (xs, w)) u = inr (xs ++ d ∷ [], walk_on (Uses program) e xs d f w u)

  comes_not_back : (d f : Definition) → ComesTo f d → Uses program d f → ⊥
  comes_not_back d f (inl same) u = none (d, ([], subst (λ x. Uses program d x) same u))
  comes_not_back d f (inr (xs, w)) u = none (f, (xs ++ d ∷ [], walk_on (Uses program) f xs d f w u))

  -- the definition of this number comes to another one
  record ComesFrom (d : Definition) (k : ℕ) : Type 0 where
    from : Definition
    stands : slice_get (definitions program) k ≡ Some from
    comes : ComesTo from d

  -- the numbers of definitions that come to this one, each once
  record Visited (d : Definition) (ks : List ℕ) : Type 0 where
    once : IsDistinct eqb ks
    each : (k : ℕ) → list_any (eqb k) ks ≡ true → ComesFrom d k

  few : (d : Definition) (ks : List ℕ) → Visited d ks → length ks ≤ length (definitions program)
  few d ks v =
      length-le_from_distinct_below ks (length (definitions program)) v.once (λ k h. slice_get_within (definitions program) k (v.each k h).from (v.each k h).stands)

  -- what comes next is new
  unseen : (d f : Definition) (ks : List ℕ) (k : ℕ) → Visited d ks → Uses program d f → slice_get (definitions program) k ≡ Some f → list_any (eqb k) ks ≡ false
  unseen d f ks k v u s = by_test (list_any (eqb k) ks) refl
    where
      again : ComesFrom d k → ⊥
      again c =
          let other : slice_get (definitions program) k ≡ Some c.from = c.stands in
          let same : c.from ≡ f = cc in
          comes_not_back d f (subst (λ x. ComesTo x d) same c.comes) u

      by_test : (b : Bool) → list_any (eqb k) ks ≡ b → list_any (eqb k) ks ≡ false
      by_test true h = absurd (again (v.each k h))
      by_test false h = h

  visit : (d f : Definition) (ks : List ℕ) (k : ℕ) → Visited d ks → Uses program d f → slice_get (definitions program) k ≡ Some f → Visited f (k ∷ ks)
  unfolding IsDistinct
  visit d f ks k v u s = record { once = (all_apart k ks (unseen d f ks k v u s), v.once); each = λ j h. by_test j (eqb j k) refl h }
    where
      by_test : (j : ℕ) (b : Bool) → eqb j k ≡ b → (b || list_any (eqb j) ks) ≡ true → ComesFrom f j
      by_test j true h e =
          let same : j ≡ k = eqb-true j k h in
          record { from = f; stands = subst (λ i. slice_get (definitions program) i ≡ Some f) (sym same) s; comes = inl refl }
      by_test j false h e = let c = v.each j e in record { from = c.from; stands = c.stands; comes = comes_on c.from d f c.comes u }

  settle : (fuel : ℕ) (d : Definition) (ks : List ℕ) → Visited d ks → length (definitions program) < fuel + length ks → BodySettles program fuel d
  settle zero d ks v l names c = let h : length ks ≤ length (definitions program) = few d ks v in absurd (omega arith)
  settle (suc n) d ks v l names c =
      elim (named_or_not program d.around names) [
        | inl (f, named) ↦ (let u : Uses program d f = (names, c, named) in
            let at = contained_at (definitions program) f (named_is_listed program d.around names f named) in
            named_settles program n d.around names f named (settle n f (at.0 ∷ ks) (visit d f ks at.0 v u at.1) (omega arith)))
        | inr plain ↦ no_body_settles program n (resolve program d.around names) plain
      ]

  pub without_cycle_settled : IsSettled program
  unfolding IsDistinct
  without_cycle_settled up names =
      elim (named_or_not program up names) [
        | inl (d, named) ↦ (let start : Visited d [] = record { once = tt; each = λ k h. absurd (false≢true h) } in
            let n : ℕ = suc (length (definitions program)) in
            (suc n, named_settles program n up names d named (settle n d [] start (omega arith))))
        | inr plain ↦ (1, no_body_settles program 0 (resolve program up names) plain)
      ]
