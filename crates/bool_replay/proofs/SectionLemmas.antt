-- Laws of the texts of sections.
use Rattle.std.proofs.Common.{◌≡◌, ℕ, Bool, true, false, ◌&&◌, List, [], ◌∷◌, ◌++◌, length, take, map, cond, refl, ap, sym, ◌∙◌, arith}
use Rattle.std.specs.Prelude.{Option, Some, None, is_some}
use Rattle.std.specs.Map.{lookup}
use Rattle.std.specs.Option.{option_and_then}
use Rattle.std.proofs.lemmas.Option.{none-some}
use Rattle.indexmap.specs.IndexMap.{insert_entry}
use Rattle.std.specs.Str.{bytes_eq}
use Rattle.std.proofs.lemmas.Bool.{false_from_ne_true, both_ways, eq-eqb}
use Rattle.std.proofs.lemmas.Slice.Eq.{bytes_eq-Decides}
use Rattle.std.proofs.lemmas.List.{take_at}
use Rattle.bool_replay.specs.Plain.{is_declared}
use Rattle.bool_replay.specs.TraceTexts.{Section, Line, Progress, add_line, add_lines, add_statement, unless_empty, value_of}

-- a text does not begin with this front where its own front is another
pub front_split : (text front rest : List ℕ) → bytes_eq (take (length front) text) front ≡ false → bytes_eq (front ++ rest) text ≡ false
front_split text front rest h =
    false_from_ne_true _ (λ t. both_ways _ h ((bytes_eq-Decides (take (length front) text) front).1
    (ap (take (length front)) (sym ((bytes_eq-Decides (front ++ rest) text).0 t)) ∙ take_at front rest (length front) refl)))

-- a common front makes no difference
pub same_front : (front a b : List ℕ) → bytes_eq (front ++ a) (front ++ b) ≡ bytes_eq a b
same_front [] a b = refl
same_front (x ∷ front) a b = ap (λ t. t && bytes_eq (front ++ a) (front ++ b)) (eq-eqb x x refl) ∙ same_front front a b

-- the statement of an entry
abbrev pub stated_of : {A : Type 0} → (A → List ℕ) → A × Bool → List ℕ × Bool
stated_of f e = (f e.0, e.1)

-- a look-up among entries is one among statements
pub lookup-stated : {A : Type 0} (f : A → List ℕ) (es : List (A × Bool)) (n : List ℕ) → lookup (λ k. bytes_eq n (f k)) es ≡ value_of (map (stated_of f) es) n
lookup-stated f [] n = refl
lookup-stated f (e ∷ es) n = ap (cond (bytes_eq n (f e.0)) (Some e.1)) (lookup-stated f es n)

-- a statement of a declared name that is not stated yet is added at the end
pub statement_added : (names : List (List ℕ)) (s : Section) (n : List ℕ) (b : Bool) → is_declared names n ≡ true → value_of s.stated n ≡ None → add_statement names s (n, b) ≡ Some (record { line = s.line; stated = s.stated ++ (n, b) ∷ [] })
statement_added names s n b d v = rw (d, v) refl

-- an entry of a new key goes last
pub inserted_last : {A : Type 0} (f : A → List ℕ) (es : List (A × Bool)) (k : A) (b : Bool) → value_of (map (stated_of f) es) (f k) ≡ None → map (stated_of f) (insert_entry (λ x y. bytes_eq (f x) (f y)) es k b) ≡ map (stated_of f) es ++ (f k, b) ∷ []
inserted_last f [] k b h = refl
inserted_last f (e ∷ es) k b h = by_test (bytes_eq (f k) (f e.0)) h (inserted_last f es k b)
  where
    by_test : (t : Bool) → cond t (Some e.1) (value_of (map (stated_of f) es) (f k)) ≡ None → (value_of (map (stated_of f) es) (f k) ≡ None → map (stated_of f) (insert_entry (λ x y. bytes_eq (f x) (f y)) es k b) ≡ map (stated_of f) es ++ (f k, b) ∷ [])
        → map (stated_of f) (cond t ((e.0, b) ∷ es) (e ∷ insert_entry (λ x y. bytes_eq (f x) (f y)) es k b)) ≡ (f e.0, e.1) ∷ (map (stated_of f) es ++ (f k, b) ∷ [])
    by_test true n g = absurd (none-some _ (sym n))
    by_test false n g = ap (λ xs. (f e.0, e.1) ∷ xs) (g n)

-- an option that is not there
pub no_value : (o : Option Bool) → is_some o ≡ false → o ≡ None
no_value None h = refl
no_value (Some b) h = absurd (both_ways true h refl)

-- a line that is empty adds nothing
pub empty_line : (names : List (List ℕ)) (n : ℕ) (text : List ℕ) (p : Progress) → length text ≡ 0 → add_lines names (unless_empty n text []) p ≡ Some p
empty_line names n [] p h = refl
empty_line names n (b ∷ text) p h = absurd (omega arith)

-- any other line is one line
pub full_line : (names : List (List ℕ)) (n : ℕ) (text : List ℕ) (p : Progress) → (length text ≡ 0 → ⊥) → add_lines names (unless_empty n text []) p ≡ add_line names (record { number = n; text = text }) p
full_line names n [] p h = absurd (h refl)
full_line names n (b ∷ text) p h = then_some (add_line names (record { number = n; text = b ∷ text }) p)
  where
    then_some : (o : Option Progress) → option_and_then Some o ≡ o
    then_some None = refl
    then_some (Some q) = refl

-- the first line and then the others
pub line_by_line : (names : List (List ℕ)) (n : ℕ) (text : List ℕ) (others : List Line) (p : Progress) → add_lines names (unless_empty n text others) p ≡ option_and_then (add_lines names others) (add_lines names (unless_empty n text []) p)
line_by_line names n [] others p = refl
line_by_line names n (b ∷ text) others p = joined (add_line names (record { number = n; text = b ∷ text }) p)
  where
    joined : (o : Option Progress) → option_and_then (add_lines names others) o ≡ option_and_then (add_lines names others) (option_and_then Some o)
    joined None = refl
    joined (Some q) = refl
