-- The cycle of the modules that contain one another.
use Rattle.std.proofs.Common.{◌≡◌, ◌<◌, ◌≤◌, ℕ, zero, suc, List, [], ◌∷◌, length, refl, ap, sym, subst, arith, inl, inr}
use Rattle.std.specs.Prelude.{◌⊎◌, Some, codes, slice_get}
use Rattle.std.proofs.lemmas.Bool.{false≢true}
use Rattle.std.proofs.lemmas.Slice.Eq.{bytes_eq-Decides}
use Rattle.smv_meaning.specs.Walks.{IsWalk, IsShortestCycle}
use Rattle.smv_meaning.specs.FirstCycles.{StandsBefore, PartsBefore}
use Rattle.smv_meaning.specs.ModuleCycles.{Instantiates, ContainsItself, module_names, IsToldModuleCycle}
use Rattle.smv_meaning.specs.NestedExample.{at_line, with_one, m, n, nested}
use Rattle.smv_meaning.proofs.Lists.{contains_only, only_contained}

abbrev main : List ℕ
main = codes "main"

n_is_not_m : n ≡ m → ⊥
n_is_not_m e = false≢true ((bytes_eq-Decides n m).1 e)

m_is_not_main : m ≡ main → ⊥
m_is_not_main e = false≢true ((bytes_eq-Decides m main).1 e)

n_is_not_main : n ≡ main → ⊥
n_is_not_main e = false≢true ((bytes_eq-Decides n main).1 e)

-- no walk leads back to main
mutual
  m_leads_on : (xs : List (List ℕ)) → IsWalk (Instantiates nested) m xs main → ⊥
  m_leads_on [] w = n_is_not_main (only_contained n main w)
  m_leads_on (x ∷ xs) w = n_leads_on xs (subst (λ y. IsWalk (Instantiates nested) y xs main) (sym (only_contained n x w.0)) w.1)

  n_leads_on : (xs : List (List ℕ)) → IsWalk (Instantiates nested) n xs main → ⊥
  n_leads_on [] w = m_is_not_main (only_contained m main w)
  n_leads_on (x ∷ xs) w = m_leads_on xs (subst (λ y. IsWalk (Instantiates nested) y xs main) (sym (only_contained m x w.0)) w.1)

main_not_in_itself : (xs : List (List ℕ)) → IsWalk (Instantiates nested) main xs main → ⊥
main_not_in_itself [] w = m_is_not_main (only_contained m main w)
main_not_in_itself (x ∷ xs) w = m_leads_on xs (subst (λ y. IsWalk (Instantiates nested) y xs main) (sym (only_contained m x w.0)) w.1)

around_once : IsWalk (Instantiates nested) m (n ∷ []) m
around_once = (contains_only n, contains_only m)

m_not_in_itself : IsWalk (Instantiates nested) m [] m → ⊥
m_not_in_itself w = n_is_not_m (only_contained n m w)

none_earlier : (j : ℕ) (b : List ℕ) → j < 1 → slice_get (module_names nested) j ≡ Some b → ContainsItself nested b → ⊥
none_earlier zero b l e c = let same : main ≡ b = cc in main_not_in_itself c.1.0 (subst (λ y. IsWalk (Instantiates nested) y c.1.0 y) (sym same) c.1.1)
none_earlier (suc j) b l e c = omega arith

shortest : (ys : List (List ℕ)) → IsWalk (Instantiates nested) m ys m → length (n ∷ []) ≤ length ys
shortest [] w = absurd (m_not_in_itself w)
shortest (y ∷ ys) w = omega arith

only : (ys : List (List ℕ)) → IsShortestCycle (Instantiates nested) m ys → (ys ≡ n ∷ []) ⊎ PartsBefore (λ k. StandsBefore (module_names nested)) m (n ∷ []) ys
only [] s = absurd (m_not_in_itself s.0)
only (y ∷ []) s = inl (ap (λ z. z ∷ []) (sym (only_contained n y s.0.0)))
only (y ∷ z ∷ ys) s = let h : length (y ∷ z ∷ ys) ≤ length (n ∷ []) = s.1 (n ∷ []) around_once in absurd (omega arith)

pub nested_told : IsToldModuleCycle nested (at_line 3) (m ∷ n ∷ m ∷ [])
nested_told = record {
  first = with_one m (at_line 3) (codes "b") n;
  between = n ∷ [];
  found = refl;
  cycle = record {
    through = record { number = 1; stands = refl; so = (inr ([], contains_only m), (n ∷ [], around_once)); none_before = none_earlier };
    cycle = record { shortest = (around_once, shortest); first = only };
  };
  at_it = refl;
  told = refl;
}
