-- The entries of a trail: the one at a place, those of earlier levels, and the values that they give.
use Rattle.std.proofs.Common.{◌≡◌, ◌≢◌, ◌↔◌, ℕ, zero, suc, ◌+◌, ◌-◌, ◌<◌, ◌≤◌, Bool, true, false, not, cond, inl, inr, List, [], ◌∷◌, ◌++◌, length, map, reverse, take, drop, get_or, refl, ap, sym, subst, ◌∙◌, arith}
use Rattle.std.specs.Prelude.{Option, None}
use Rattle.std.specs.List.{AllByRecursion}
use Rattle.std.proofs.lemmas.Bool.{lt-ltb, false≢true, false_from_ne_true}
use Rattle.std.proofs.lemmas.List.{reverse-append, length-reverse, length-map, length-drop, take-append-drop, map-append, drop_at, take_more, get_or-reverse, get_or_append_left}
use Rattle.sat_log.specs.Literal.{Literal, negated}
use Rattle.sat_log.specs.Clause.{Among, HasDistinctVariables}
use Rattle.sat_log.specs.Clauses.{literal_value}
use Rattle.sat_log.proofs.LiteralLemmas.{literal_by_parts}
use Rattle.sat_trail.specs.Assignment.{assignment, AreTrue}
use Rattle.sat_trail.specs.Trail.{entry_of, top, before, bottom, IsPosition, HasPositions}
use Rattle.sat_trail.proofs.Literals.{apart_not_among}
use Rattle.sat_trail.specs.declared.trail.Entry.{Entry}

-- The entry at a place.

bottom_mapped : (f : Literal → Entry) (xs : List Literal) (i : ℕ) → i ≤ length xs → bottom i (map f (reverse xs)) ≡ map f (reverse (take i xs))
bottom_mapped f xs i h =
    let parts : map f (reverse xs) ≡ map f (reverse (drop i xs)) ++ map f (reverse (take i xs)) =
    ap (λ (ys : List Literal). map f (reverse ys)) (sym (take-append-drop i xs)) ∙ ap (map f) (reverse-append (take i xs) (drop i xs)) ∙ map-append f (reverse (drop i xs)) (reverse (take i xs)) in
    let size : length (map f (reverse (drop i xs))) ≡ length (map f (reverse xs)) - i =
    length-map (reverse (drop i xs)) f ∙ length-reverse (drop i xs) ∙ length-drop i xs ∙ sym (ap (λ (n : ℕ). n - i) (length-map (reverse xs) f ∙ length-reverse xs)) in
    ap (drop (length (map f (reverse xs)) - i)) parts ∙ drop_at (map f (reverse (drop i xs))) (map f (reverse (take i xs))) (length (map f (reverse xs)) - i) size

-- one entry more
pub bottom_more : (f : Literal → Entry) (xs : List Literal) (i : ℕ) (x : Literal) → i < length xs → x ≡ get_or xs i x → bottom (i + 1) (map f (reverse xs)) ≡ f x ∷ bottom i (map f (reverse xs))
bottom_more f xs i x h e =
    bottom_mapped f xs (i + 1) (omega arith) ∙ ap (λ (ys : List Literal). map f (reverse ys)) (take_more xs i x h ∙ ap (λ (y : Literal). take i xs ++ y ∷ []) (sym e)) ∙ ap (map f) (reverse-append (take i xs) (x ∷ [])) ∙ ap (λ (es : List Entry). f x ∷ es) (sym (bottom_mapped f xs i (omega arith)))

All-at : {A : Type 0} (P : A → Type 0) (xs : List A) (i : ℕ) (d : A) → i < length xs → AllByRecursion P xs → P (get_or xs i d)
All-at P [] i d h a = absurd (omega arith)
All-at P (x ∷ xs) zero d h a = a.0
All-at P (x ∷ xs) (suc i) d h a = All-at P xs i d (omega arith) a.1

-- what holds of each element holds of one in the list turned round
pub All-reverse_at : {A : Type 0} (P : A → Type 0) (xs : List A) (i : ℕ) (x : A) → i < length xs → x ≡ get_or xs i x → AllByRecursion P (reverse xs) → P x
All-reverse_at P xs i x h e a =
    let size = length-reverse xs in
    let other : length xs - 1 - (length xs - 1 - i) ≡ i = omega arith in
    let at : get_or (reverse xs) (length xs - 1 - i) x ≡ get_or xs i x =
    get_or-reverse xs (length xs - 1 - i) x (omega arith) ∙ ap (λ (n : ℕ). get_or xs n x) other in
    subst P (at ∙ sym e) (All-at P (reverse xs) (length xs - 1 - i) x (omega arith) a)

-- the levels of entries are those of their variables
pub levels_of : (levels : List ℕ) (reasons : List (Option ℕ)) (true_ : List Literal) (v level : ℕ) → level ≡ get_or levels v 0 → AllByRecursion (λ e. e.literal.var ≡ v → level ≡ e.level) (map (entry_of levels reasons) true_)
levels_of levels reasons [] v level h = tt
levels_of levels reasons (l ∷ true_) v level h =
    ((λ e. h ∙ ap (λ (w : ℕ). get_or levels w 0) (sym e)), levels_of levels reasons true_ v level h)

-- and the positions of their variables
pub positions_of : (levels : List ℕ) (reasons : List (Option ℕ)) (positions : List ℕ) (true_ : List Literal) (v position : ℕ) → position ≡ get_or positions v 0 → HasPositions positions true_ → IsPosition v position (map (entry_of levels reasons) true_)
positions_of levels reasons positions [] v position h p = tt
positions_of levels reasons positions (l ∷ true_) v position h p =
    ((λ e. h ∙ ap (λ (w : ℕ). get_or positions w 0) (sym e) ∙ p.0 ∙ sym (length-map true_ (entry_of levels reasons))), positions_of levels reasons positions true_ v position h p.1)

-- Earlier levels.

-- nothing is of a later level
pub before_all : (level : ℕ) (entries : List Entry) → top entries ≤ level → before (level + 1) entries ≡ entries
before_all level [] h = refl
before_all level (e ∷ entries) h =
    ap (λ (b : Bool). cond b (e ∷ entries) (before (level + 1) entries)) (lt-ltb e.level (level + 1) (omega arith))

-- One variable more.

push_reads : {A : Type 0} (xs : List A) (d : A) (i : ℕ) → i < length xs → get_or (xs ++ d ∷ []) i d ≡ get_or xs i d
push_reads xs d i h = get_or_append_left xs (d ∷ []) d i h

pub entries_widen : (n : ℕ) (levels : List ℕ) (reasons : List (Option ℕ)) (true_ : List Literal) → length levels ≡ n + 1 → length reasons ≡ n + 1 → AllByRecursion (λ l. (1 ≤ l.var) × (l.var ≤ n)) true_ → map (entry_of (levels ++ 0 ∷ []) (reasons ++ None ∷ [])) true_ ≡ map (entry_of levels reasons) true_
entries_widen n levels reasons [] h k w = refl
entries_widen n levels reasons (l ∷ true_) h k w =
    let upper : l.var ≤ n = w.0.1 in
    ap (λ (x : ℕ). record { literal = l; level = x; reason = get_or (reasons ++ None ∷ []) l.var None } ∷ map (entry_of (levels ++ 0 ∷ []) (reasons ++ None ∷ [])) true_) (push_reads levels 0 l.var (omega arith))
    ∙ ap (λ (x : Option ℕ). record { literal = l; level = get_or levels l.var 0; reason = x } ∷ map (entry_of (levels ++ 0 ∷ []) (reasons ++ None ∷ [])) true_) (push_reads reasons None l.var (omega arith))
    ∙ ap (λ (rest : List Entry). entry_of levels reasons l ∷ rest) (entries_widen n levels reasons true_ h k w.1)

-- The values that the literals give.

pub consistent : (set : List Literal) → HasDistinctVariables set → (l : Literal) → Among set l → ¬ Among set (negated l)
consistent [] d l m k = m
consistent (x ∷ set) d l (inl e) (inl f) = not_own x.negative (ap (λ (y : Literal). y.negative) (f ∙ ap negated (sym e)))
  where
    not_own : (b : Bool) → b ≡ not b → ⊥
    not_own true e = false≢true (sym e)
    not_own false e = false≢true e
consistent (x ∷ set) d l (inl e) (inr k) =
    apart_not_among set (negated l) (subst (λ (v : ℕ). AllByRecursion (λ k. k.var ≢ v) set) (ap (λ (y : Literal). y.var) e) d.0) k
consistent (x ∷ set) d l (inr m) (inl f) =
    apart_not_among set l (subst (λ (v : ℕ). AllByRecursion (λ k. k.var ≢ v) set) (ap (λ (y : Literal). y.var) f) d.0) m
consistent (x ∷ set) d l (inr m) (inr k) = consistent set d.1 l m k

abbrev positive : ℕ → Literal
positive v = record { var = v; negative = false }

-- the values are those of the positive literals
abbrev pub Tells : ℕ → List Literal → List Bool → Type 0
Tells n set values = (v : ℕ) → 1 ≤ v → v ≤ n → (assignment values v ≡ true) ↔ Among set (positive v)

value_true : (n : ℕ) (set : List Literal) (values : List Bool) → HasDistinctVariables set → Tells n set values → (l : Literal) → 1 ≤ l.var → l.var ≤ n → Among set l → literal_value (assignment values) l ≡ true
value_true n set values d tells l lower upper m = by_sign l.negative refl
  where
    by_sign : (s : Bool) → l.negative ≡ s → cond s (not (assignment values l.var)) (assignment values l.var) ≡ true
    by_sign false e = (tells l.var lower upper).1 (subst (Among set) (literal_by_parts l (positive l.var) refl e) m)
    by_sign true e =
        ap not (false_from_ne_true (assignment values l.var) (λ t. consistent set d l m (subst (Among set) (literal_by_parts (positive l.var) (negated l) refl (sym (ap not e))) ((tells l.var lower upper).0 t))))

values_true : (n : ℕ) (set : List Literal) (values : List Bool) → HasDistinctVariables set → Tells n set values → (some : List Literal) → ((l : Literal) → Among some l → Among set l) → AllByRecursion (λ l. (1 ≤ l.var) × (l.var ≤ n)) some → AreTrue (assignment values) some
values_true n set values d tells [] inside w = tt
values_true n set values d tells (l ∷ some) inside w =
    (value_true n set values d tells l w.0.0 w.0.1 (inside l (inl refl)), values_true n set values d tells some (λ k m. inside k (inr m)) w.1)

-- the literals of a trail are true under the values that it tells
pub all_true : (n : ℕ) (set : List Literal) (values : List Bool) → HasDistinctVariables set → AllByRecursion (λ l. (1 ≤ l.var) × (l.var ≤ n)) set → Tells n set values → AreTrue (assignment values) set
all_true n set values d w tells = values_true n set values d tells set (λ l m. m) w
