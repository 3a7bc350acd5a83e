-- Where no two variables have one path, values by number are values by path.
use Rattle.std.proofs.Common.{◌≡◌, ℕ, Bool, true, false, cond, List, [], ◌∷◌, ◌++◌, map, take, drop, refl, sym, ap, ◌∙◌}
use Rattle.std.specs.Prelude.{filter, not}
use Rattle.std.specs.List.{AllByRecursion, IsDistinct}
use Rattle.std.specs.Str.{bytes_eq}
use Rattle.std.proofs.lemmas.Bool.{false≢true}
use Rattle.std.proofs.lemmas.Slice.Eq.{bytes_eq-Decides}
use Rattle.smv_tree.specs.declared.value.Value.{Value}
use Rattle.smv_meaning.specs.Instances.{Variable}
use Rattle.smv_meaning.specs.Names.{same_names}
use Rattle.smv_meaning.specs.Values.{Snapshot, is_of_state, state_variables, input_variables, value_at, variable_values}
use Rattle.smv_meaning.proofs.Lists.{same_names-true}
use Rattle.smv_flat.specs.Slots.{slots_of}

same_self : (p : List (List ℕ)) → same_names p p ≡ true
same_self [] = refl
same_self (n ∷ p) = ap (λ b. cond b (same_names p p) false) ((bytes_eq-Decides n n).1 refl) ∙ same_self p

not_same : (p q : List (List ℕ)) → same_names p q ≡ false → same_names q p ≡ false
not_same p q e = by_test (same_names q p) refl
  where
    by_test : (b : Bool) → same_names q p ≡ b → b ≡ false
    by_test false h = refl
    by_test true h = absurd (false≢true (sym e ∙ ap (same_names p) (same_names-true q p h) ∙ same_self p))

-- these variables have other paths
abbrev Apart : List (List ℕ) → List Variable → Type 0
Apart p vars = AllByRecursion (λ q. same_names p q ≡ false) (map (λ v. v.path) vars)

-- of these variables none has the path
none_at : (chosen : Variable → Bool) (p : List (List ℕ)) (vars : List Variable) (xs : List Value) → Apart p vars
    → value_at (filter chosen vars) p xs ≡ []
none_at chosen p [] xs d = refl
none_at chosen p (w ∷ vars) xs d = by_test (chosen w) xs (λ ys. none_at chosen p vars ys d.1)
  where
    by_test : (b : Bool) (xs : List Value) → ((ys : List Value) → value_at (filter chosen vars) p ys ≡ [])
        → value_at (cond b (w ∷ filter chosen vars) (filter chosen vars)) p xs ≡ []
    by_test true [] rest = refl
    by_test true (x ∷ xs) rest = ap (λ b. cond b (x ∷ []) (value_at (filter chosen vars) p xs)) (not_same p w.path d.0) ∙ rest xs
    by_test false xs rest = rest xs

without_values : (vars : List Variable) (p : List (List ℕ)) → value_at vars p [] ≡ []
without_values [] p = refl
without_values (v ∷ vars) p = refl

-- the values of variables in a state and an input
abbrev both_at : List Variable → List Variable → List Value → List Value → List (List ℕ) → List Value
both_at states inputs s i p = value_at states p s ++ value_at inputs p i

alike : (f g : List (List ℕ) → List Value) (p : List (List ℕ)) (vars : List Variable)
    → ((q : List (List ℕ)) → same_names p q ≡ false → f q ≡ g q) → Apart p vars
    → map (λ v. f v.path) vars ≡ map (λ v. g v.path) vars
alike f g p [] same d = refl
alike f g p (w ∷ vars) same d = (λ i. same w.path d.0 i ∷ alike f g p vars same d.1 i)

-- the first variable has its value, and the others have theirs behind it
passed : (v : Variable) (vars : List Variable) (x : Value) (xs : List Value) (q : List (List ℕ)) → same_names v.path q ≡ false
    → value_at (v ∷ vars) q (x ∷ xs) ≡ value_at vars q xs
passed v vars x xs q e = ap (λ b. cond b (x ∷ []) (value_at vars q xs)) e

met : (v : Variable) (vars : List Variable) (x : Value) (xs : List Value) → value_at (v ∷ vars) v.path (x ∷ xs) ≡ x ∷ []
met v vars x xs = ap (λ b. cond b (x ∷ []) (value_at vars v.path xs)) (same_self v.path)

abbrev Same : List Variable → List Value → List Value → Type 0
Same vars s i = slots_of vars s i ≡ map (λ v. both_at (state_variables vars) (input_variables vars) s i v.path) vars

state_step : (v : Variable) (vars : List Variable) (s i : List Value) → Apart v.path vars → ((s : List Value) → Same vars s i)
    → take 1 s ∷ slots_of vars (drop 1 s) i ≡ map (λ w. both_at (v ∷ state_variables vars) (input_variables vars) s i w.path) (v ∷ vars)
state_step v vars s i d rest = goes s
  where
    states : List Variable
    states = state_variables vars

    inputs : List Variable
    inputs = input_variables vars

    none : value_at inputs v.path i ≡ []
    none = none_at (λ w. not (is_of_state w.kind)) v.path vars i d

    goes : (s : List Value) → take 1 s ∷ slots_of vars (drop 1 s) i ≡ map (λ w. both_at (v ∷ states) inputs s i w.path) (v ∷ vars)
    goes [] =
        let tails = alike (both_at states inputs [] i) (both_at (v ∷ states) inputs [] i) v.path vars
        (λ q e. ap (λ vs. vs ++ value_at inputs q i) (without_values states q)) d in
        (λ j. sym none j ∷ (rest [] ∙ tails) j)
    goes (x ∷ xs) =
        let head : x ∷ [] ≡ both_at (v ∷ states) inputs (x ∷ xs) i v.path =
        sym (ap (λ vs. vs ++ value_at inputs v.path i) (met v states x xs) ∙ ap (λ vs. x ∷ vs) none) in
        let tails = alike (both_at states inputs xs i) (both_at (v ∷ states) inputs (x ∷ xs) i) v.path vars
        (λ q e. ap (λ vs. vs ++ value_at inputs q i) (sym (passed v states x xs q e))) d in
        (λ j. head j ∷ (rest xs ∙ tails) j)

input_step : (v : Variable) (vars : List Variable) (s i : List Value) → Apart v.path vars → ((i : List Value) → Same vars s i)
    → take 1 i ∷ slots_of vars s (drop 1 i) ≡ map (λ w. both_at (state_variables vars) (v ∷ input_variables vars) s i w.path) (v ∷ vars)
input_step v vars s i d rest = goes i
  where
    states : List Variable
    states = state_variables vars

    inputs : List Variable
    inputs = input_variables vars

    none : value_at states v.path s ≡ []
    none = none_at (λ w. is_of_state w.kind) v.path vars s d

    goes : (i : List Value) → take 1 i ∷ slots_of vars s (drop 1 i) ≡ map (λ w. both_at states (v ∷ inputs) s i w.path) (v ∷ vars)
    goes [] =
        let tails = alike (both_at states inputs s []) (both_at states (v ∷ inputs) s []) v.path vars
        (λ q e. ap (λ vs. value_at states q s ++ vs) (without_values inputs q)) d in
        (λ j. sym (ap (λ vs. vs ++ []) none) j ∷ (rest [] ∙ tails) j)
    goes (x ∷ xs) =
        let head : x ∷ [] ≡ both_at states (v ∷ inputs) s (x ∷ xs) v.path =
        sym ((λ j. none j ++ met v inputs x xs j)) in
        let tails = alike (both_at states inputs s xs) (both_at states (v ∷ inputs) s (x ∷ xs)) v.path vars
        (λ q e. ap (λ vs. value_at states q s ++ vs) (sym (passed v inputs x xs q e))) d in
        (λ j. head j ∷ (rest xs ∙ tails) j)

by_number : (vars : List Variable) (s i : List Value) → IsDistinct same_names (map (λ v. v.path) vars) → Same vars s i
unfolding IsDistinct
by_number [] s i d = refl
by_number (v ∷ vars) s i d = by_test (is_of_state v.kind) d.0 (λ s i. by_number vars s i d.1)
  where
    by_test : (b : Bool) → Apart v.path vars → ((s i : List Value) → Same vars s i)
        → cond b (take 1 s ∷ slots_of vars (drop 1 s) i) (take 1 i ∷ slots_of vars s (drop 1 i))
        ≡ map (λ w. both_at (cond b (v ∷ state_variables vars) (state_variables vars)) (cond (not b) (v ∷ input_variables vars) (input_variables vars)) s i w.path) (v ∷ vars)
    by_test true apart rest = state_step v vars s i apart (λ t. rest t i)
    by_test false apart rest = input_step v vars s i apart (λ j. rest s j)

pub path_law : (vars : List Variable) (m : Snapshot) → IsDistinct same_names (map (λ v. v.path) vars)
    → slots_of vars m.state m.input ≡ map (λ v. variable_values vars m v.path) vars
path_law vars m d = by_number vars m.state m.input d
