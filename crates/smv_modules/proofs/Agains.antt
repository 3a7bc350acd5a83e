-- The faults of names that are declared twice are those of declarations behind others of their name.
use Rattle.std.proofs.Common.{◌≡◌, Bool, true, false, List, [], ◌∷◌, ◌++◌, refl, ap, sym, subst, append_assoc, inl, inr}
use Rattle.std.specs.Prelude.{◌⊎◌, Contains, if◌then◌else◌}
use Rattle.std.proofs.lemmas.List.{append-nil}
use Rattle.std.proofs.lemmas.List.Elements.{Contains-append_left, Contains-append_right, Contains-append_cases}
use Rattle.smv_meaning.proofs.Lists.{contains_none, contains_only, only_contained}
use Rattle.type_fault.specs.declared.fault.TypeFault.{TypeFault}
use Rattle.type_fault.specs.declared.fault.TypeFault.TheVariants.{Twice}
use Rattle.smv_modules.specs.Declarations.{Declaration, declares, doubled_behind, doubled}
use Rattle.smv_modules.specs.Again.{IsAgain}

record IsBehind (before ds : List Declaration) (f : TypeFault) : Type 0 where
  front : List Declaration
  again : Declaration
  rest : List Declaration
  listed : ds ≡ front ++ again ∷ rest
  earlier : declares (before ++ front) again.name ≡ true
  fault : f ≡ Twice again.place again.name

listed_behind : (before ds : List Declaration) (f : TypeFault) → Contains (doubled_behind before ds) f → IsBehind before ds f
listed_behind before [] f c = absurd (contains_none f c)
listed_behind before (d ∷ ds) f c = by_place (Contains-append_cases (if declares before d.name then Twice d.place d.name ∷ [] else []) (doubled_behind (before ++ d ∷ []) ds) f c) (listed_behind (before ++ d ∷ []) ds f)
  where
    by_test : (b : Bool) → declares before d.name ≡ b → Contains (if b then Twice d.place d.name ∷ [] else []) f → IsBehind before (d ∷ ds) f
    by_test true t h = record { front = []; again = d; rest = ds; listed = refl; earlier = subst (λ l. declares l d.name ≡ true) (sym (append-nil before)) t; fault = sym (only_contained (Twice d.place d.name) f h) }
    by_test false t h = absurd (contains_none f h)

    by_place : Contains (if declares before d.name then Twice d.place d.name ∷ [] else []) f ⊎ Contains (doubled_behind (before ++ d ∷ []) ds) f → (Contains (doubled_behind (before ++ d ∷ []) ds) f → IsBehind (before ++ d ∷ []) ds f) → IsBehind before (d ∷ ds) f
    by_place (inl h) go = by_test (declares before d.name) refl h
    by_place (inr h) go =
        let r = go h in
        record { front = d ∷ r.front; again = r.again; rest = r.rest; listed = ap (λ l. d ∷ l) r.listed; earlier = subst (λ l. declares l r.again.name ≡ true) (append_assoc before (d ∷ []) r.front) r.earlier; fault = r.fault }

behind_listed : (before front : List Declaration) (d : Declaration) (rest : List Declaration) → declares (before ++ front) d.name ≡ true → Contains (doubled_behind before (front ++ d ∷ rest)) (Twice d.place d.name)
behind_listed before [] d rest t =
    Contains-append_left (if declares before d.name then Twice d.place d.name ∷ [] else []) (doubled_behind (before ++ d ∷ []) rest) (Twice d.place d.name)
    (subst (λ b. Contains (if b then Twice d.place d.name ∷ [] else []) (Twice d.place d.name)) (sym (subst (λ l. declares l d.name ≡ true) (append-nil before) t)) (contains_only (Twice d.place d.name)))
behind_listed before (x ∷ xs) d rest t =
    Contains-append_right (if declares before x.name then Twice x.place x.name ∷ [] else []) (doubled_behind (before ++ x ∷ []) (xs ++ d ∷ rest)) (Twice d.place d.name)
    (behind_listed (before ++ x ∷ []) xs d rest (subst (λ l. declares l d.name ≡ true) (sym (append_assoc before (x ∷ []) xs)) t))

pub listed_again : (ds : List Declaration) (f : TypeFault) → Contains (doubled ds) f → IsAgain ds f
listed_again ds f c = let b = listed_behind [] ds f c in record { front = b.front; again = b.again; rest = b.rest; listed = b.listed; earlier = b.earlier; fault = b.fault }

pub again_listed : (ds : List Declaration) (f : TypeFault) → IsAgain ds f → Contains (doubled ds) f
again_listed ds f a =
    subst (λ l. Contains (doubled l) f) (sym a.listed)
    (subst (Contains (doubled (a.front ++ a.again ∷ a.rest))) (sym a.fault) (behind_listed [] a.front a.again a.rest a.earlier))
