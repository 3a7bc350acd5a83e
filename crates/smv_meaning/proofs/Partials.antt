-- A run has all that it states, and what has more has less.
use Rattle.std.proofs.Common.{◌≡◌, ℕ, zero, suc, ◌-◌, ◌<◌, ◌≤◌, Bool, true, false, List, [], ◌∷◌, length, get_or, refl, subst, arith}
use Rattle.std.specs.Prelude.{map, if◌then◌else◌}
use Rattle.std.specs.List.{AllByRecursion}
use Rattle.smv_tree.specs.declared.value.Value.{Value}
use Rattle.smv_meaning.specs.Instances.{Variable}
use Rattle.smv_meaning.specs.PartialTraces.{HasStated, HaveStated, all_stated, IsIn, AreIn}
use Rattle.smv_meaning.specs.Marks.{Stated}

module _ {X : Type 0} {P Q : X → Type 0} where
  all_kept : ((x : X) → P x → Q x) → (xs : List X) → AllByRecursion P xs → AllByRecursion Q xs
  all_kept f [] a = tt
  all_kept f (x ∷ xs) a = (f x a.0, all_kept f xs a.1)

all_at : {X : Type 0} (P : X → Type 0) (xs : List X) (k : ℕ) (x : X) → AllByRecursion P xs → k < length xs → P (get_or xs k x)
all_at P [] k x a h = absurd (omega arith)
all_at P (y ∷ xs) zero x a h = a.0
all_at P (y ∷ xs) (suc k) x a h = all_at P xs k x a.1 (omega arith)

all_in : (P : Stated → Type 0) (few many : List Stated) → IsIn few many → AllByRecursion P many → AllByRecursion P few
all_in P [] many i a = tt
all_in P (s ∷ few) many i a = (subst P i.0.2 (all_at P many i.0.0 s a i.0.1), all_in P few many i.1 a)

pub less_stated : (chosen : Variable → Bool) (vars : List Variable) (xss : List (List Value)) (few many : List (List Stated)) → AreIn few many → HaveStated chosen vars xss many → HaveStated chosen vars xss few
less_stated chosen vars [] [] many i h = tt
less_stated chosen vars [] (f ∷ few) [] i h = absurd i
less_stated chosen vars [] (f ∷ few) (m ∷ many) i h = absurd h
less_stated chosen vars (xs ∷ xss) [] [] i h = absurd h
less_stated chosen vars (xs ∷ xss) [] (m ∷ many) i h = absurd i
less_stated chosen vars (xs ∷ xss) (f ∷ few) [] i h = absurd i
less_stated chosen vars (xs ∷ xss) (f ∷ few) (m ∷ many) i h = (all_in (HasStated chosen vars xs) f m i.0 h.0, less_stated chosen vars xss few many i.1 h.1)

module _ (chosen : Variable → Bool) where
  -- a stated value whose number counts from n on
  From : ℕ → List Variable → List Value → Stated → Type 0
  From n vars xs s = (n ≤ s.variable) × HasStated chosen vars xs (record { variable = s.variable - n; value = s.value })

  -- the same with one more variable in front
  taken : (n : ℕ) (v : Variable) (vars : List Variable) (x : Value) (xs : List Value) → chosen v ≡ true → (s : Stated) → From (suc n) vars xs s → From n (v ∷ vars) (x ∷ xs) s
  unfolding From
  taken n v vars x xs t s f =
      let e : suc (s.variable - suc n) ≡ s.variable - n = omega arith in
      (omega arith, subst (λ i. HasStated chosen (v ∷ vars) (x ∷ xs) (record { variable = i; value = s.value })) e (record { is_chosen = f.1.is_chosen; has_value = rw t f.1.has_value }))

  passed : (n : ℕ) (v : Variable) (vars : List Variable) (xs : List Value) → chosen v ≡ false → (s : Stated) → From (suc n) vars xs s → From n (v ∷ vars) xs s
  unfolding From
  passed n v vars xs t s f =
      let e : suc (s.variable - suc n) ≡ s.variable - n = omega arith in
      (omega arith, subst (λ i. HasStated chosen (v ∷ vars) xs (record { variable = i; value = s.value })) e (record { is_chosen = f.1.is_chosen; has_value = rw t f.1.has_value }))

  first : (n : ℕ) (v : Variable) (vars : List Variable) (x : Value) (xs : List Value) → chosen v ≡ true → From n (v ∷ vars) (x ∷ xs) (record { variable = n; value = x })
  unfolding From
  first n v vars x xs t =
      let e : 0 ≡ n - n = omega arith in
      (omega arith, subst (λ i. HasStated chosen (v ∷ vars) (x ∷ xs) (record { variable = i; value = x })) e (record { is_chosen = t; has_value = refl }))

  from_first : (vars : List Variable) (xs : List Value) (s : Stated) → From 0 vars xs s → HasStated chosen vars xs s
  unfolding From
  from_first vars xs s f = let e : s.variable - 0 ≡ s.variable = omega arith in subst (λ i. HasStated chosen vars xs (record { variable = i; value = s.value })) e f.1

  stated_from : (n : ℕ) (vars : List Variable) (xs : List Value) → AllByRecursion (From n vars xs) (all_stated chosen n vars xs)
  stated_from n [] xs = tt
  stated_from n (v ∷ vars) [] = tt
  stated_from n (v ∷ vars) (x ∷ xs) = by (chosen v) refl (stated_from (suc n) vars xs) (stated_from (suc n) vars (x ∷ xs))
    where
      by : (b : Bool) → chosen v ≡ b → AllByRecursion (From (suc n) vars xs) (all_stated chosen (suc n) vars xs)
          → AllByRecursion (From (suc n) vars (x ∷ xs)) (all_stated chosen (suc n) vars (x ∷ xs))
          → AllByRecursion (From n (v ∷ vars) (x ∷ xs)) (if b then record { variable = n; value = x } ∷ all_stated chosen (suc n) vars xs else all_stated chosen (suc n) vars (x ∷ xs))
      by true t a _ = (first n v vars x xs t, all_kept (taken n v vars x xs t) (all_stated chosen (suc n) vars xs) a)
      by false t _ a = all_kept (passed n v vars (x ∷ xs) t) (all_stated chosen (suc n) vars (x ∷ xs)) a

  pub all_have : (vars : List Variable) (xss : List (List Value)) → HaveStated chosen vars xss (map (all_stated chosen 0 vars) xss)
  all_have vars [] = tt
  all_have vars (xs ∷ xss) = (all_kept (from_first vars xs) (all_stated chosen 0 vars xs) (stated_from 0 vars xs), all_have vars xss)
