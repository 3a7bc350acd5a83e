-- The table of literals that are set: its places, a write, and a clearing.
use Rattle.std.proofs.Common.{◌≡◌, ◌≢◌, ℕ, suc, ◌+◌, ◌*◌, ◌<◌, ◌≤◌, Bool, true, false, cond, not, eqb, ltb, ◌||◌, ◌⊎◌, inl, inr, List, [], ◌∷◌, ◌++◌, length, get_or, set, take, refl, ap, sym, ◌∙◌, subst, get_or-set_same, get_or-set_other, length-set, arith}
use Rattle.std.specs.Prelude.{count_by, Some, None}
use Rattle.std.specs.List.{AllByRecursion, list_any, position, position_or_len}
use Rattle.std.proofs.lemmas.List.Sums.{sum_by-set, count_by-le-length, prefix_len-le-length, passes_at_first}
use Rattle.std.proofs.lemmas.List.Folds.{list_any-append, position_or_len_push}
use Rattle.std.proofs.lemmas.Bool.{false≢true, eqb-true, eq-eqb, ne_eqb, cases_eq, cases_lt, ltb-false, lt-ltb, le-ltb}
use Rattle.std.proofs.lemmas.List.{length_push, take_more}
use Rattle.indexmap.specs.IndexSet.{insert_key}
use Rattle.sat_log.specs.Literal.{Literal}
use Rattle.sat_log.specs.Packing.{packed}
use Rattle.sat_log.specs.Marked.{Marked, is_numbered, place, places, HasPlace, HasRoomFor, KeepsRoom, placed, is_placed, Agrees, IsClear}
use Rattle.sat_log.proofs.ListLemmas.{All-append}
use Rattle.sat_log.proofs.LiteralLemmas.{literal_by_parts, packed_injective}

-- Places of variables.

pub near_place : (room : ℕ) (far : List ℕ) (v : ℕ) → v ≤ room → place room far v ≡ v
near_place room far v h = ap (λ t. cond t (room + 1 + position_or_len (eqb v) far) v) (le-ltb room v h)

pub far_place : (room : ℕ) (far : List ℕ) (v : ℕ) → room < v → place room far v ≡ room + 1 + position_or_len (eqb v) far
far_place room far v h = ap (λ t. cond t (room + 1 + position_or_len (eqb v) far) v) (lt-ltb room v h)

pub near_has_place : (room : ℕ) (far : List ℕ) (v : ℕ) → v ≤ room → HasPlace room far v
near_has_place room far v h = omega (arith, near_place room far v h)

far_variable : (far : List ℕ) (v : ℕ) → position_or_len (eqb v) far < length far → v ≡ get_or far (position_or_len (eqb v) far) 0
far_variable far v h = eqb-true v _ (passes_at_first (eqb v) far 0 h)

position_within : (p : ℕ → Bool) (xs : List ℕ) → position_or_len p xs ≤ length xs
position_within p xs = prefix_len-le-length (λ x. not (p x)) xs

-- where a variable is found, and where it would be
pub found_at : (p : ℕ → Bool) (far : List ℕ) (i : ℕ) → position p far ≡ Some i → i ≡ position_or_len p far
found_at p far i e = by_test (ltb (position_or_len p far) (length far)) e
  where
    by_test : (b : Bool) → cond b (Some (position_or_len p far)) None ≡ Some i → i ≡ position_or_len p far
    by_test true e = cc
    by_test false e = cc

pub not_found : (p : ℕ → Bool) (far : List ℕ) → position p far ≡ None → length far ≡ position_or_len p far
not_found p far e = by_test (ltb (position_or_len p far) (length far)) refl e
  where
    by_test : (b : Bool) → ltb (position_or_len p far) (length far) ≡ b → cond b (Some (position_or_len p far)) None ≡ None → length far ≡ position_or_len p far
    by_test true t e = cc
    by_test false t e =
        let bound = position_within p far in
        let past = ltb-false (position_or_len p far) (length far) t in
        omega arith

place_injective : (room : ℕ) (far : List ℕ) (v w : ℕ) → HasPlace room far v → HasPlace room far w → place room far v ≡ place room far w → v ≡ w
place_injective room far v w h k e = by_room (cases_lt room v) (cases_lt room w)
  where
    by_room : (room < v) ⊎ (v ≤ room) → (room < w) ⊎ (w ≤ room) → v ≡ w
    by_room (inr a) (inr b) = sym (near_place room far v a) ∙ e ∙ near_place room far w b
    by_room (inl a) (inr b) = absurd (omega (arith, far_place room far v a, near_place room far w b))
    by_room (inr a) (inl b) = absurd (omega (arith, near_place room far v a, far_place room far w b))
    by_room (inl a) (inl b) =
        let p = far_place room far v a in
        let q = far_place room far w b in
        let same : position_or_len (eqb v) far ≡ position_or_len (eqb w) far = omega arith in
        far_variable far v (omega arith) ∙ ap (λ i. get_or far i 0) same ∙ sym (far_variable far w (omega arith))

pub number_within : (room : ℕ) (far : List ℕ) (l : Literal) → HasPlace room far l.var → packed (placed room far l) < 2 * places room far
number_within room far l h = sign l.negative
  where
    sign : (s : Bool) → 2 * place room far l.var + cond s 1 0 < 2 * places room far
    sign true = omega arith
    sign false = omega arith

same_number : (room : ℕ) (far : List ℕ) (x l : Literal) → HasPlace room far x.var → HasPlace room far l.var → eqb (packed (placed room far x)) (packed (placed room far l)) ≡ eqb (packed x) (packed l)
same_number room far x l h k = by_numbers (cases_eq (packed x) (packed l))
  where
    same_literal : packed (placed room far x) ≡ packed (placed room far l) → x ≡ l
    same_literal e =
        let same = packed_injective (placed room far x) (placed room far l) e in
        literal_by_parts x l (place_injective room far x.var l.var h k (ap (λ (y : Literal). y.var) same)) (ap (λ (y : Literal). y.negative) same)

    by_numbers : (packed x ≡ packed l) ⊎ (packed x ≢ packed l) → eqb (packed (placed room far x)) (packed (placed room far l)) ≡ eqb (packed x) (packed l)
    by_numbers (inl e) =
        eq-eqb (packed (placed room far x)) (packed (placed room far l)) (ap (λ y. packed (placed room far y)) (packed_injective x l e)) ∙ sym (eq-eqb (packed x) (packed l) e)
    by_numbers (inr ne) =
        ne_eqb (packed (placed room far x)) (packed (placed room far l)) (λ e. ne (ap packed (same_literal e))) ∙ sym (ne_eqb (packed x) (packed l) ne)

-- what the table says of a literal
pub placed_set : (room : ℕ) (far : List ℕ) (trail : List Literal) (l : Literal) → AllByRecursion (λ x. HasPlace room far x.var) trail → HasPlace room far l.var → is_placed room far trail (packed (placed room far l)) ≡ is_numbered trail (packed l)
placed_set room far [] l h k = refl
placed_set room far (x ∷ trail) l h k =
    ap (λ b. b || is_placed room far trail (packed (placed room far l))) (same_number room far x l h.0 k)
    ∙ ap (λ b. eqb (packed x) (packed l) || b) (placed_set room far trail l h.1 k)

-- More room.

any_position : (p : ℕ → Bool) (xs : List ℕ) → list_any p xs ≡ true → position_or_len p xs < length xs
any_position p [] e = absurd (false≢true e)
any_position p (x ∷ xs) e = by_first (p x) e (any_position p xs)
  where
    by_first : (b : Bool) → b || list_any p xs ≡ true → (list_any p xs ≡ true → position_or_len p xs < length xs) → cond (not b) (1 + position_or_len p xs) 0 < length (x ∷ xs)
    by_first true e rest = omega arith
    by_first false e rest =
        let behind = rest e in
        omega arith

position_pushed : (v : ℕ) (far : List ℕ) (k : ℕ) → position_or_len (eqb v) far < length far → position_or_len (eqb v) (far ++ k ∷ []) ≡ position_or_len (eqb v) far
position_pushed v far k h =
    position_or_len_push (eqb v) far k ∙ ap (λ t. cond t (length far + cond {A = ℕ} (eqb v k) 0 1) (position_or_len (eqb v) far)) (ne_eqb (position_or_len (eqb v) far) (length far) (λ e. absurd (omega arith)))

pushed_place : (k : ℕ) (far : List ℕ) → position_or_len (eqb k) (far ++ k ∷ []) < length far + 1
pushed_place k far = by_place (cases_eq (position_or_len (eqb k) far) (length far))
  where
    by_place : (position_or_len (eqb k) far ≡ length far) ⊎ (position_or_len (eqb k) far ≢ length far) → position_or_len (eqb k) (far ++ k ∷ []) < length far + 1
    by_place (inl e) =
        omega (arith, position_or_len_push (eqb k) far k ∙ ap (λ t. cond t (length far + cond {A = ℕ} (eqb k k) 0 1) (position_or_len (eqb k) far)) (eq-eqb (position_or_len (eqb k) far) (length far) e) ∙ ap (λ t. length far + cond {A = ℕ} t 0 1) (eq-eqb k k refl))
    by_place (inr ne) =
        let bound = position_within (eqb k) far in
        let inside : position_or_len (eqb k) far < length far = omega (arith, ne) in
        omega (arith, position_pushed k far k inside)

pub inserted_has_place : (room : ℕ) (far : List ℕ) (k : ℕ) → room < k → HasPlace room (insert_key eqb far k) k
inserted_has_place room far k h = by_test (list_any (eqb k) far) refl
  where
    by_test : (b : Bool) → list_any (eqb k) far ≡ b → HasPlace room (cond b far (far ++ k ∷ [])) k
    by_test true e = omega (arith, far_place room far k h, any_position (eqb k) far e)
    by_test false e =
        omega (arith, far_place room (far ++ k ∷ []) k h, pushed_place k far, length_push far k)

pub inserted_size : (far : List ℕ) (k : ℕ) → length (insert_key eqb far k) ≤ length far + 1
inserted_size far k = by_test (list_any (eqb k) far)
  where
    by_test : (b : Bool) → length (cond b far (far ++ k ∷ [])) ≤ length far + 1
    by_test true = omega arith
    by_test false = omega (arith, length_push far k)

-- Room for a variable is room for the variables of clauses.

pub clause_keeps : (old new : Marked) (c : List Literal) → KeepsRoom old new → HasRoomFor old c → HasRoomFor new c
clause_keeps old new [] keeps h = tt
clause_keeps old new (l ∷ c) keeps h = (keeps l.var h.0, clause_keeps old new c keeps h.1)

one_more : (P : Literal → Type 0) (xs : List Literal) (i : ℕ) (x : Literal) → i < length xs → x ≡ get_or xs i x → AllByRecursion P (take i xs) → P x → AllByRecursion P (take (i + 1) xs)
one_more P xs i x h e all p =
    subst (AllByRecursion P) (sym (take_more xs i x h ∙ ap (λ y. take i xs ++ y ∷ []) (sym e))) (All-append P (take i xs) (x ∷ []) all (p, tt))

pub one_more_has_room : (marks : Marked) (c : List Literal) (i : ℕ) (l : Literal) → i < length c → l ≡ get_or c i l → HasRoomFor marks (take i c) → HasPlace marks.room marks.far l.var → HasRoomFor marks (take (i + 1) c)
one_more_has_room marks c i l h e room here =
    one_more (λ l. HasPlace marks.room marks.far l.var) c i l h e room here

-- A table in which nothing is set.

pub clear_agrees : (room : ℕ) (far : List ℕ) (truths : List Bool) (capacity : ℕ) → 2 * places room far ≤ length truths → IsClear truths → length truths ≤ capacity → Agrees room far truths [] capacity
clear_agrees room far truths capacity size clear spare =
    record { size = size; within = tt; values = clear; count = all_false truths clear; spare = spare }
  where
    all_false : (truths : List Bool) → IsClear truths → count_by (λ b. b) truths ≡ 0
    all_false [] h = refl
    all_false (true ∷ truths) h = absurd (false≢true (sym (h 0 (omega arith))))
    all_false (false ∷ truths) h = all_false truths (λ n below. h (suc n) (omega arith))

-- a longer table in which nothing is set
pub stretched : (room : ℕ) (far : List ℕ) (truths : List Bool) (trail : List Literal) (capacity : ℕ) → trail ≡ [] → 2 * places room far ≤ length truths → IsClear truths → length truths ≤ capacity → Agrees room far truths trail capacity
stretched room far truths trail capacity none size clear spare =
    subst (λ t. Agrees room far truths t capacity) (sym none) (clear_agrees room far truths capacity size clear spare)

-- One more literal is set.

-- one more is marked where one place more is true
pub count_by-set_true : (truths : List Bool) (n : ℕ) → n < length truths → get_or truths n false ≡ false → count_by (λ b. b) (set truths n true) ≡ count_by (λ b. b) truths + 1
count_by-set_true truths n h e =
    let more : count_by (λ b. b) (set truths n true) + cond {A = ℕ} (get_or truths n false) 1 0 ≡ count_by (λ b. b) truths + 1 = sum_by-set (λ (b : Bool). cond b 1 0) truths n true false h in
    let none : cond {A = ℕ} (get_or truths n false) 1 0 ≡ 0 = ap (λ b. cond {A = ℕ} b 1 0) e in
    omega arith

-- where a place is not marked, the trail has room for one more
pub spare_left : (room : ℕ) (far : List ℕ) (truths : List Bool) (trail : List Literal) (capacity n : ℕ) → Agrees room far truths trail capacity → n < length truths → get_or truths n false ≡ false → length trail < capacity
spare_left room far truths trail capacity n a h e =
    let more = count_by-set_true truths n h e in
    let bound : count_by (λ b. b) (set truths n true) ≤ length (set truths n true) = count_by-le-length (λ b. b) (set truths n true) in
    let same : length (set truths n true) ≡ length truths = length-set truths n true in
    let counted : count_by (λ b. b) truths ≡ length trail = a.count in
    let spare : length truths ≤ capacity = a.spare in
    omega arith

is_placed-push : (room : ℕ) (far : List ℕ) (trail : List Literal) (l : Literal) (n : ℕ) → is_placed room far (trail ++ l ∷ []) n ≡ is_placed room far trail n || (eqb (packed (placed room far l)) n || false)
is_placed-push room far trail l n = list_any-append (λ x. eqb (packed (placed room far x)) n) trail (l ∷ [])

or_true : (a b : Bool) → b ≡ true → a || (b || false) ≡ true
or_true true b e = refl
or_true false b e = rw e

or_false : (a b : Bool) → b ≡ false → a || (b || false) ≡ a
or_false true b e = refl
or_false false b e = rw e

values_set : (room : ℕ) (far : List ℕ) (truths : List Bool) (trail : List Literal) (l : Literal) (n : ℕ) → packed (placed room far l) ≡ n → n < length truths → ((m : ℕ) → m < length truths → get_or truths m false ≡ is_placed room far trail m) → (m : ℕ) → m < length truths → get_or (set truths n true) m false ≡ is_placed room far (trail ++ l ∷ []) m
values_set room far truths trail l n code h values m below = by_place (cases_eq m n)
  where
    by_place : (m ≡ n) ⊎ (m ≡ n → ⊥) → get_or (set truths n true) m false ≡ is_placed room far (trail ++ l ∷ []) m
    by_place (inl e) =
        ap (λ k. get_or (set truths n true) k false) e ∙ get_or-set_same truths n true false h ∙ sym (is_placed-push room far trail l m ∙ or_true (is_placed room far trail m) (eqb (packed (placed room far l)) m) (eq-eqb (packed (placed room far l)) m (code ∙ sym e)))
    by_place (inr ne) =
        get_or-set_other truths n m true false ne ∙ values m below ∙ sym (is_placed-push room far trail l m ∙ or_false (is_placed room far trail m) (eqb (packed (placed room far l)) m) (ne_eqb (packed (placed room far l)) m (λ e. ne (sym e ∙ code))))

pub agrees_set : (room : ℕ) (far : List ℕ) (truths : List Bool) (trail : List Literal) (capacity n : ℕ) (l : Literal) → packed (placed room far l) ≡ n → Agrees room far truths trail capacity → HasPlace room far l.var → is_numbered trail (packed l) ≡ false → Agrees room far (set truths n true) (trail ++ l ∷ []) capacity
agrees_set room far truths trail capacity n l code a h e =
    let bound : packed (placed room far l) < 2 * places room far = number_within room far l h in
    let size : 2 * places room far ≤ length truths = a.size in
    let inside : n < length truths = omega (arith, code) in
    let kept : length (set truths n true) ≡ length truths = length-set truths n true in
    let unmarked : get_or truths n false ≡ false = a.values n inside ∙ ap (is_placed room far trail) (sym code) ∙ placed_set room far trail l a.within h ∙ e in
    record {
      size = subst (λ k. 2 * places room far ≤ k) (sym kept) size;
      within = All-append (λ l. HasPlace room far l.var) trail (l ∷ []) a.within (h, tt);
      values = (λ m below. values_set room far truths trail l n code inside a.values m (subst (λ k. m < k) kept below));
      count = count_by-set_true truths n inside unmarked ∙ ap (λ k. k + 1) a.count ∙ sym (length_push trail l);
      spare = subst (λ k. k ≤ capacity) (sym kept) a.spare;
    }

-- Marks are taken away.

-- each place that is true is that of a literal still on the trail
pub record Covers (room : ℕ) (far : List ℕ) (truths : List Bool) (trail : List Literal) (capacity : ℕ) : Type 0 where
  pub size : 2 * places room far ≤ length truths
  pub within : AllByRecursion (λ l. HasPlace room far l.var) trail
  pub covered : (n : ℕ) → n < length truths → get_or truths n false ≡ true → is_placed room far trail n ≡ true
  pub spare : length truths ≤ capacity

-- an empty trail covers no mark
covers_none : (room : ℕ) (far : List ℕ) (truths : List Bool) (capacity : ℕ) → Covers room far truths [] capacity → Agrees room far truths [] capacity
covers_none room far truths capacity a =
    clear_agrees room far truths capacity a.size (λ n h. unmarked (get_or truths n false) (a.covered n h)) a.spare
  where
    unmarked : (b : Bool) → (b ≡ true → false ≡ true) → b ≡ false
    unmarked true h = absurd (false≢true (h refl))
    unmarked false h = refl

no_items : (xs : List Literal) → length xs ≡ 0 → xs ≡ []
no_items [] e = refl
no_items (x ∷ xs) e = absurd (omega arith)

-- where nothing was left to take away, all marks are gone
pub cleared : (room : ℕ) (far : List ℕ) (truths : List Bool) (trail rest : List Literal) (capacity capacity' : ℕ) → Covers room far truths trail capacity → length trail ≡ 0 → length rest ≡ 0 → capacity' ≡ capacity → Agrees room far truths rest capacity'
cleared room far truths trail rest capacity capacity' a e f g =
    rw (no_items rest f, g) (covers_none room far truths capacity (subst (λ t. Covers room far truths t capacity) (no_items trail e) a))
