-- States that are read value by value, and section by section.
use Rattle.std.proofs.Common.{◌≡◌, ◌+◌, ◌<◌, ℕ, zero, suc, Bool, false, cond, List, [], ◌∷◌, ◌++◌, map, length, drop, get_or, refl, ap, sym, ◌∙◌, add-one, append_assoc, arith}
use Rattle.std.specs.Prelude.{Option, Some, None, slice_get, unwrap_or, is_none, find}
use Rattle.std.specs.Option.{option_map}
use Rattle.std.proofs.lemmas.List.{append-nil, drop_all}
use Rattle.std.proofs.lemmas.Option.{same_Some, none-some, slice_get-get_or}
use Rattle.bool_replay.specs.TraceTexts.{Section, value_of, lacking, truths_of, first_gap, gap_or}

-- what stands from a place on, where the element there is known
drop_at_get : {A : Type 0} (xs : List A) (i : ℕ) (x : A) → slice_get xs i ≡ Some x → drop i xs ≡ x ∷ drop (i + 1) xs
drop_at_get [] i x e = absurd (none-some x e)
drop_at_get (y ∷ xs) zero x e = ap (λ z. z ∷ xs) (same_Some y x e)
drop_at_get (y ∷ xs) (suc i) x e = rw add-one (drop_at_get xs i x e ∙ rw add-one refl)

abbrev pub truth_in : Section → List ℕ → Bool
truth_in s n = unwrap_or (value_of s.stated n) false

abbrev pub lacks_in : Section → List ℕ → Bool
lacks_in s n = is_none (value_of s.stated n)

-- the values of the names before a place, none of which lacks
pub record ReadTo (names : List (List ℕ)) (s : Section) (i : ℕ) (items : List Bool) : Type 0 where
  pub truths : items ++ map (truth_in s) (drop i names) ≡ map (truth_in s) names
  pub lacks : find (lacks_in s) (drop i names) ≡ find (lacks_in s) names

pub read_start : (names : List (List ℕ)) (s : Section) → ReadTo names s 0 []
read_start names s = record { truths = refl; lacks = refl }

pub read_more : (names : List (List ℕ)) (s : Section) (i : ℕ) (items new : List Bool) (n : List ℕ) (b : Bool) → slice_get names i ≡ Some n → Some b ≡ value_of s.stated n → new ≡ items ++ b ∷ [] → ReadTo names s i items → ReadTo names s (i + 1) new
read_more names s i items new n b at is put r =
    let next = drop_at_get names i n at in
    record {
      truths =
          ap (λ xs. xs ++ map (truth_in s) (drop (i + 1) names)) put
          ∙ (append_assoc items (b ∷ []) (map (truth_in s) (drop (i + 1) names))
          ∙ (ap (λ o. items ++ unwrap_or o false ∷ map (truth_in s) (drop (i + 1) names)) is
          ∙ (ap (λ xs. items ++ map (truth_in s) xs) (sym next) ∙ r.truths)));
      lacks =
          ap (λ o. cond (is_none o) (Some n) (find (lacks_in s) (drop (i + 1) names))) is
          ∙ (ap (find (lacks_in s)) (sym next) ∙ r.lacks);
    }

pub read_all : (names : List (List ℕ)) (s : Section) (i : ℕ) (items : List Bool) → length names ≡ i → ReadTo names s i items → (lacking names s ≡ None) × (items ≡ truths_of names s)
read_all names s i items e r =
    let none : drop i names ≡ [] = drop_all i names (omega arith) in
    (sym r.lacks ∙ ap (find (lacks_in s)) none, sym (append-nil items) ∙ (ap (λ xs. items ++ map (truth_in s) xs) (sym none) ∙ r.truths))

pub read_lack : (names : List (List ℕ)) (s : Section) (i : ℕ) (items : List Bool) (n : List ℕ) → slice_get names i ≡ Some n → None ≡ value_of s.stated n → ReadTo names s i items → lacking names s ≡ slice_get names i
read_lack names s i items n at none r =
    sym r.lacks ∙ (ap (find (lacks_in s)) (drop_at_get names i n at) ∙ (ap (λ o. cond (is_none o) (Some n) (find (lacks_in s) (drop (i + 1) names))) (sym none) ∙ sym at))

-- the states of the sections before a place, none of which lacks a value
pub record SectionsTo (names : List (List ℕ)) (all left : List Section) (found : List (List Bool)) : Type 0 where
  pub gap : first_gap names left ≡ first_gap names all
  pub states : found ++ map (truths_of names) left ≡ map (truths_of names) all

pub sections_start : (names : List (List ℕ)) (all : List Section) → SectionsTo names all all []
sections_start names all = record { gap = refl; states = refl }

pub sections_more : (names : List (List ℕ)) (all left rest : List Section) (s : Section) (states new : List (List Bool)) (truths : List Bool) → left ≡ s ∷ rest → (lacking names s ≡ None) × (truths ≡ truths_of names s) → new ≡ states ++ truths ∷ [] → SectionsTo names all left states → SectionsTo names all rest new
sections_more names all left rest s states new truths e (none, is) put r =
    record {
      gap = ap (λ o. gap_or s.line o (first_gap names rest)) (sym none) ∙ (ap (first_gap names) (sym e) ∙ r.gap);
      states =
          ap (λ xs. xs ++ map (truths_of names) rest) put
          ∙ (append_assoc states (truths ∷ []) (map (truths_of names) rest)
          ∙ (ap (λ t. states ++ t ∷ map (truths_of names) rest) is
          ∙ (ap (λ xs. states ++ map (truths_of names) xs) (sym e) ∙ r.states)));
    }

pub sections_all : (names : List (List ℕ)) (all left : List Section) (states : List (List Bool)) → left ≡ [] → SectionsTo names all left states → (first_gap names all ≡ None) × (states ≡ map (truths_of names) all)
sections_all names all left states none r =
    (sym r.gap ∙ ap (first_gap names) none, sym (append-nil states) ∙ (ap (λ xs. states ++ map (truths_of names) xs) (sym none) ∙ r.states))

pub sections_gap : (names : List (List ℕ)) (all left rest : List Section) (s : Section) (states : List (List Bool)) (i : ℕ) → left ≡ s ∷ rest → (i < length names) × (lacking names s ≡ slice_get names i) → SectionsTo names all left states → first_gap names all ≡ option_map (λ n. (s.line, n)) (slice_get names i)
sections_gap names all left rest s states i e (within, lack) r =
    sym r.gap ∙ (ap (first_gap names) e ∙ (ap (λ o. gap_or s.line o (first_gap names rest)) lack ∙ by_name (slice_get names i) (slice_get-some names i within)))
  where
    by_name : (o : Option (List ℕ)) → ((n : List ℕ) × (o ≡ Some n)) → gap_or s.line o (first_gap names rest) ≡ option_map (λ n. (s.line, n)) o
    by_name (Some n) h = refl
    by_name None (n, h) = absurd (none-some n h)

    slice_get-some : (xs : List (List ℕ)) (k : ℕ) → k < length xs → (n : List ℕ) × (slice_get xs k ≡ Some n)
    slice_get-some xs k h = (get_or xs k [], slice_get-get_or xs k [] h)
