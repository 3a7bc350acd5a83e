-- There is at most one first cycle; and where modules have an order, there is none.
use Rattle.std.proofs.Common.{◌≡◌, ◌<◌, ℕ, List, [], ◌∷◌, ◌++◌, sym, subst, arith, append_assoc, inl, inr, ap, map, ◌∙◌}
use Rattle.std.specs.Prelude.{Contains, Some, slice_get, codes}
use Rattle.std.proofs.lemmas.Bool.{cases_order}
use Rattle.std.proofs.lemmas.List.{append-nil}
use Rattle.std.proofs.lemmas.List.Elements.{Contains-append_left, Contains-append_cases}
use Rattle.smv_tree.specs.declared.place.Place.{Place}
use Rattle.smv_tree.specs.Models.{Body}
use Rattle.smv_meaning.specs.Instances.{find_body}
use Rattle.smv_meaning.specs.Walks.{IsWalk, IsOnCycle, IsTopological}
use Rattle.smv_meaning.specs.FirstCycles.{IsFirstOf, StandsBefore, PartsBefore, IsFirstCycle}
use Rattle.smv_meaning.specs.Definitions.{Definition, definitions, Uses}
use Rattle.smv_meaning.specs.Cycles.{UsesBefore, IsDefinitionCycle, definition_path, IsToldDefinitionCycle}
use Rattle.smv_meaning.specs.ModuleCycles.{Instantiates, IsReached, ContainsItself, module_names, HasModuleCycle, IsModuleOrder, IsModuleCycle, IsToldModuleCycle}
use Rattle.smv_meaning.proofs.Lists.{contains_none, contains_cases, only_contained}
use Rattle.smv_meaning.proofs.Orders.{cycle_on}

-- a list has at most one first element of which something holds
first_is_one : {A : Type 0} (holds : A → Type 0) (all : List A) (a b : A) → IsFirstOf holds all a → IsFirstOf holds all b → a ≡ b
first_is_one {A} holds all a b f g = elim (cases_order f.number g.number) [
  | inl same ↦ same_found (subst (λ n. slice_get all n ≡ Some a) same f.stands)
  | inr apart ↦ elim apart [
    | inl less ↦ absurd (g.none_before f.number a less f.stands f.so)
    | inr more ↦ absurd (f.none_before g.number b more g.stands g.so)
  ]
]
  where
    same_found : slice_get all g.number ≡ Some a → a ≡ b
    same_found e = let h : slice_get all g.number ≡ Some b = g.stands in cc

-- no two steps are each before the other
abbrev IsOneWay : {A : Type 0} → (A → A → A → Type 0) → Type 0
IsOneWay {A} before = (a x y : A) → before a x y → before a y x → ⊥

parts_one_way : {A : Type 0} (before : A → A → A → Type 0) → IsOneWay before → (a : A) (xs ys : List A) → PartsBefore before a xs ys → PartsBefore before a ys xs → ⊥
parts_one_way before one a [] ys p q = p
parts_one_way before one a (x ∷ xs) [] p q = p
parts_one_way before one a (x ∷ xs) (y ∷ ys) (inl p) (inl q) = one a x y p q
parts_one_way before one a (x ∷ xs) (y ∷ ys) (inl p) (inr q) = let s = subst (λ z. before a x z) q.0 p in one a x x s s
parts_one_way before one a (x ∷ xs) (y ∷ ys) (inr p) (inl q) = let s = subst (λ z. before a y z) p.0 q in one a y y s s
parts_one_way before one a (x ∷ xs) (y ∷ ys) (inr p) (inr q) = parts_one_way before one x xs ys p.1 (subst (λ z. PartsBefore before z ys xs) q.0 q.1)

first_cycle_is_one : {A : Type 0} (R : A → A → Type 0) (before : A → A → A → Type 0) → IsOneWay before → (a : A) (xs ys : List A) → IsFirstCycle R before a xs → IsFirstCycle R before a ys → xs ≡ ys
first_cycle_is_one R before one a xs ys f g = elim (f.first ys g.shortest) [
  | inl e ↦ sym e
  | inr p ↦ elim (g.first xs f.shortest) [ inl e ↦ e | inr q ↦ absurd (parts_one_way before one a xs ys p q) ]
]

standing_one_way : {A : Type 0} (all : List A) → IsOneWay (λ (n : A). StandsBefore all)
standing_one_way all n x y s t =
    let i : s.number < t.number = s.later t.number t.stands in
    let j : t.number < s.number = t.later s.number s.stands in
    omega arith

using_one_way : (program : List Body) → IsOneWay (UsesBefore program)
using_one_way program d e f s t =
    let i : s.number < t.number = s.later t.number t.names t.stands t.named in
    let j : t.number < s.number = t.later s.number s.names s.stands s.named in
    omega arith

module_cycle_is_one : (program : List Body) (m n : List ℕ) (xs ys : List (List ℕ)) → IsModuleCycle program m xs → IsModuleCycle program n ys → (m ≡ n) × (xs ≡ ys)
module_cycle_is_one program m n xs ys f g =
    let same : m ≡ n = first_is_one (ContainsItself program) (module_names program) m n f.through g.through in
    let cycle = subst (λ o. IsFirstCycle (Instantiates program) (λ k. StandsBefore (module_names program)) o ys) (sym same) g.cycle in
    (same, first_cycle_is_one (Instantiates program) (λ k. StandsBefore (module_names program)) (standing_one_way (module_names program)) m xs ys f.cycle cycle)

definition_cycle_is_one : (program : List Body) (d e : Definition) (xs ys : List Definition) → IsDefinitionCycle program d xs → IsDefinitionCycle program e ys → (d ≡ e) × (xs ≡ ys)
definition_cycle_is_one program d e xs ys f g =
    let same : d ≡ e = first_is_one (IsOnCycle (Uses program)) (definitions program) d e f.through g.through in
    let cycle = subst (λ o. IsFirstCycle (Uses program) (UsesBefore program) o ys) (sym same) g.cycle in
    (same, first_cycle_is_one (Uses program) (UsesBefore program) (using_one_way program) d xs ys f.cycle cycle)

-- so at most one cycle is told
pub told_module_is_one : (program : List Body) (p q : Place) (ns os : List (List ℕ)) → IsToldModuleCycle program p ns → IsToldModuleCycle program q os → (p ≡ q) × (ns ≡ os)
told_module_is_one program p q ns os f g =
    let one = module_cycle_is_one program f.first.name g.first.name f.between g.between f.cycle g.cycle in
    let name : f.first.name ≡ g.first.name = one.0 in
    let between : f.between ≡ g.between = one.1 in
    let there : find_body g.first.name program ≡ Some f.first = subst (λ n. find_body n program ≡ Some f.first) name f.found in
    let here : find_body g.first.name program ≡ Some g.first = g.found in
    let same : f.first ≡ g.first = cc in
    let told : ns ≡ f.first.name ∷ (f.between ++ f.first.name ∷ []) = f.told in
    let other : os ≡ g.first.name ∷ (g.between ++ g.first.name ∷ []) = g.told in
    (f.at_it ∙ (ap (λ b. b.place) same ∙ sym g.at_it), cc)

pub told_definition_is_one : (program : List Body) (p q : Place) (ns os : List (List (List ℕ))) → IsToldDefinitionCycle program p ns → IsToldDefinitionCycle program q os → (p ≡ q) × (ns ≡ os)
told_definition_is_one program p q ns os f g =
    let one = definition_cycle_is_one program f.first g.first f.between g.between f.cycle g.cycle in
    let parts : (c : Definition) (xs : List Definition) → c ≡ g.first → xs ≡ g.between → map definition_path (c ∷ (xs ++ c ∷ [])) ≡ map definition_path (g.first ∷ (g.between ++ g.first ∷ [])) = λ c xs d e. (cc) in
    (f.at_it ∙ (ap (λ d. d.place) one.0 ∙ sym g.at_it), f.told ∙ (parts f.first f.between one.0 one.1 ∙ sym g.told))

module _ (program : List Body) where
  abbrev In : List (List ℕ) → List (List ℕ) → Type 0
  In = IsTopological (Instantiates program) Contains

  -- none in the order is on a cycle
  none_on_cycle : (before rest : List (List ℕ)) → ((m : List ℕ) → Contains before m → IsOnCycle (Instantiates program) m → ⊥) → In before rest → (m : List ℕ) → Contains (before ++ rest) m → IsOnCycle (Instantiates program) m → ⊥
  none_on_cycle before [] none o m c = none m (subst (λ ms. Contains ms m) (append-nil before) c)
  none_on_cycle before (n ∷ rest) none o m c =
      none_on_cycle (before ++ n ∷ []) rest (λ k l y. elim (Contains-append_cases before (n ∷ []) k l) [
        | inl earlier ↦ none k earlier y
        | inr last ↦ (let next = cycle_on (Instantiates program) k y in
            none next.0 (o.0 next.0 (subst (λ z. Instantiates program z next.0) (sym (only_contained n k last)) next.1)) next.2)
      ]) o.1 m (subst (λ ms. Contains ms m) (sym (append_assoc before (n ∷ []) rest)) c)

  -- what a module of the order contains is in the order
  stays_in : (before rest : List (List ℕ)) → In before rest → (m n : List ℕ) → Contains rest m → Instantiates program m n → Contains (before ++ rest) n
  stays_in before [] o m n c i = absurd (contains_none m c)
  stays_in before (k ∷ rest) o m n c i = elim (contains_cases k rest m c) [
    | inl e ↦ Contains-append_left before (k ∷ rest) n (o.0 n (subst (λ z. Instantiates program z n) (sym e) i))
    | inr l ↦ subst (λ ms. Contains ms n) (append_assoc before (k ∷ []) rest) (stays_in (before ++ k ∷ []) rest o.1 m n l i)
  ]

  walks_in : (order : List (List ℕ)) → In [] order → (m : List ℕ) (xs : List (List ℕ)) (n : List ℕ) → Contains order m → IsWalk (Instantiates program) m xs n → Contains order n
  walks_in order o m [] n c w = stays_in [] order o m n c w
  walks_in order o m (x ∷ xs) n c w = walks_in order o x xs n (stays_in [] order o m x c w.0) w.1

  pub ordered_modules : (order : List (List ℕ)) → IsModuleOrder program order → HasModuleCycle program → ⊥
  ordered_modules order o (m, (reached, cycle)) = none_on_cycle [] order (λ k c y. contains_none k c) o.ordered m (there reached) cycle
    where
      there : IsReached program m → Contains order m
      there (inl e) = subst (Contains order) (sym e) o.main
      there (inr (xs, w)) = walks_in order o.ordered (codes "main") xs m o.main w
