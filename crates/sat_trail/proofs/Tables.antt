-- The tables of a trail, when a literal becomes true and when it is taken back.
use Rattle.std.proofs.Common.{◌≡◌, ◌≢◌, ℕ, zero, suc, ◌+◌, ◌*◌, ◌<◌, ◌≤◌, Bool, true, false, cond, eqb, ◌||◌, ◌⊎◌, inl, inr, List, [], ◌∷◌, ◌++◌, length, map, get_or, set, refl, ap, sym, subst, ◌∙◌, ⊎_elim, get_or-set_same, get_or-set_other, length-set, arith}
use Rattle.std.specs.Prelude.{Option, None}
use Rattle.std.specs.List.{AllByRecursion, IsDistinct, list_any}
use Rattle.std.proofs.lemmas.Bool.{cases_eq, cases_lt, eqb-true, eq-eqb, ne_eqb, or_cases, or_from, false≢true, false_from_ne_true}
use Rattle.std.proofs.lemmas.List.{get_or_past, get_or_append_left, length-map, length_push}
use Rattle.std.proofs.lemmas.Map.Steps.{length-le_from_distinct_below}
use Rattle.sat_log.specs.Literal.{Literal}
use Rattle.sat_log.specs.Packing.{packed}
use Rattle.sat_log.specs.Clause.{IsUnset, HasDistinctVariables}
use Rattle.sat_log.specs.Marked.{is_numbered}
use Rattle.sat_log.proofs.Decided.{among_from_set}
use Rattle.sat_trail.specs.Trail.{entry_of, literals, places, HasPositions, KeepsTrail}
use Rattle.sat_trail.proofs.Lists.{All-map}
use Rattle.sat_trail.proofs.Literals.{unset_apart, apart_not_among}
use Rattle.sat_trail.specs.declared.trail.Entry.{Entry}

-- a literal of a variable up to the last has a place
pub place_within : (n : ℕ) (l : Literal) → l.var ≤ n → packed l < places n
place_within n l h = by_sign l.negative
  where
    by_sign : (s : Bool) → 2 * l.var + cond {A = ℕ} s 1 0 < 2 * n + 2
    by_sign true = omega arith
    by_sign false = omega arith

-- the literals of the entries
pub literals_of : (levels : List ℕ) (reasons : List (Option ℕ)) (true_ : List Literal) → literals (map (entry_of levels reasons) true_) ≡ true_
literals_of levels reasons [] = refl
literals_of levels reasons (l ∷ true_) = ap (λ (rest : List Literal). l ∷ rest) (literals_of levels reasons true_)

entries_kept : (levels : List ℕ) (reasons : List (Option ℕ)) (true_ : List Literal) (v level : ℕ) (reason : Option ℕ) → AllByRecursion (λ k. k.var ≢ v) true_ → map (entry_of (set levels v level) (set reasons v reason)) true_ ≡ map (entry_of levels reasons) true_
entries_kept levels reasons [] v level reason h = refl
entries_kept levels reasons (k ∷ true_) v level reason h =
    ap (λ (x : ℕ). record { literal = k; level = x; reason = get_or (set reasons v reason) k.var None } ∷ map (entry_of (set levels v level) (set reasons v reason)) true_) (get_or-set_other levels v k.var level 0 h.0)
    ∙ ap (λ (x : Option ℕ). record { literal = k; level = get_or levels k.var 0; reason = x } ∷ map (entry_of (set levels v level) (set reasons v reason)) true_) (get_or-set_other reasons v k.var reason None h.0)
    ∙ ap (λ (rest : List Entry). entry_of levels reasons k ∷ rest) (entries_kept levels reasons true_ v level reason h.1)

-- the entries when one more literal became true
pub entries_push : (levels : List ℕ) (reasons : List (Option ℕ)) (true_ : List Literal) (l : Literal) (level : ℕ) (reason : Option ℕ) → l.var < length levels → l.var < length reasons → IsUnset true_ l → map (entry_of (set levels l.var level) (set reasons l.var reason)) (l ∷ true_) ≡ record { literal = l; level = level; reason = reason } ∷ map (entry_of levels reasons) true_
entries_push levels reasons true_ l level reason h k u =
    ap (λ (x : ℕ). record { literal = l; level = x; reason = get_or (set reasons l.var reason) l.var None } ∷ map (entry_of (set levels l.var level) (set reasons l.var reason)) true_) (get_or-set_same levels l.var level 0 h)
    ∙ ap (λ (x : Option ℕ). record { literal = l; level = level; reason = x } ∷ map (entry_of (set levels l.var level) (set reasons l.var reason)) true_) (get_or-set_same reasons l.var reason None k)
    ∙ ap (λ (rest : List Entry). record { literal = l; level = level; reason = reason } ∷ rest) (entries_kept levels reasons true_ l.var level reason (unset_apart true_ l u))

-- No more literals are true than there are variables.

abbrev variables : List Literal → List ℕ
variables set_ = map (λ l. l.var) set_

variables_distinct : (set_ : List Literal) → HasDistinctVariables set_ → IsDistinct eqb (variables set_)
unfolding IsDistinct
variables_distinct [] d = tt
variables_distinct (l ∷ set_) d = (apart set_ d.0, variables_distinct set_ d.1)
  where
    apart : (others : List Literal) → AllByRecursion (λ k. k.var ≢ l.var) others → AllByRecursion (λ v. eqb l.var v ≡ false) (variables others)
    apart [] a = tt
    apart (k ∷ others) a = (ne_eqb l.var k.var (λ e. a.0 (sym e)), apart others a.1)

variables_below : (n q : ℕ) (set_ : List Literal) → AllByRecursion (λ l. l.var < n) set_ → list_any (eqb q) (variables set_) ≡ true → q < n
variables_below n q [] w e = absurd (false≢true e)
variables_below n q (l ∷ set_) w e =
    ⊎_elim (λ same. subst (λ v. v < n) (sym (eqb-true q l.var same)) w.0) (λ more. variables_below n q set_ w.1 more) (or_cases _ _ e)

pub true_few : (n : ℕ) (set_ : List Literal) → HasDistinctVariables set_ → AllByRecursion (λ l. (1 ≤ l.var) × (l.var ≤ n)) set_ → length set_ ≤ n
true_few n set_ d w =
    -- with a literal that no variable has
    let all : List Literal = record { var = 0; negative = false } ∷ set_ in
    let apart = All-map (λ l. (1 ≤ l.var) × (l.var ≤ n)) (λ k. k.var ≢ 0) set_ (λ k h e. let lower = h.0 in absurd (omega arith)) w in
    let inside = All-map (λ l. (1 ≤ l.var) × (l.var ≤ n)) (λ k. k.var < n + 1) set_ (λ k h. let upper = h.1 in omega arith) w in
    let few : length (variables all) ≤ n + 1 = length-le_from_distinct_below (variables all) (n + 1) (variables_distinct all (apart, d)) (λ q e. variables_below (n + 1) q all (omega arith, inside) e) in
    omega (arith, few, length-map set_ (λ (l : Literal). l.var))

-- The positions, when a literal became true.

positions_kept : (positions : List ℕ) (true_ : List Literal) (v at : ℕ) → AllByRecursion (λ k. k.var ≢ v) true_ → HasPositions positions true_ → HasPositions (set positions v at) true_
positions_kept positions [] v at h p = tt
positions_kept positions (k ∷ true_) v at h p =
    (get_or-set_other positions v k.var at 0 h.0 ∙ p.0, positions_kept positions true_ v at h.1 p.1)

module _ (n : ℕ) (truths : List Bool) (levels : List ℕ) (reasons : List (Option ℕ)) (positions : List ℕ) (true_ : List Literal) (capacity : ℕ) (l : Literal) where
  -- there is room for one more
  pub room_left : KeepsTrail n truths levels reasons positions true_ capacity → 1 ≤ l.var → l.var ≤ n → IsUnset true_ l → length true_ < n
  room_left t first h u = true_few n (l ∷ true_) (unset_apart true_ l u, t.distinct) ((first, h), t.within)

  values_push : KeepsTrail n truths levels reasons positions true_ capacity → l.var ≤ n → (m : ℕ) → m < length truths → get_or (set truths (packed l) true) m false ≡ (eqb (packed l) m || is_numbered true_ m)
  values_push t h m below = by_place (cases_eq m (packed l))
    where
      by_place : (m ≡ packed l) ⊎ (m ≡ packed l → ⊥) → get_or (set truths (packed l) true) m false ≡ (eqb (packed l) m || is_numbered true_ m)
      by_place (inl e) =
          let place = place_within n l h in
          let size = t.truths_size in
          ap (λ k. get_or (set truths (packed l) true) k false) e ∙ get_or-set_same truths (packed l) true false (omega arith) ∙ sym (ap (λ b. b || is_numbered true_ m) (eq-eqb (packed l) m (sym e)))
      by_place (inr ne) =
          get_or-set_other truths (packed l) m true false ne ∙ t.values m below ∙ sym (ap (λ b. b || is_numbered true_ m) (ne_eqb (packed l) m (λ e. ne (sym e))))

  -- the tables when a literal became true
  pub tables_push : (level : ℕ) (reason : Option ℕ) → KeepsTrail n truths levels reasons positions true_ capacity → 1 ≤ l.var → l.var ≤ n → IsUnset true_ l → KeepsTrail n (set truths (packed l) true) (set levels l.var level) (set reasons l.var reason) (set positions l.var (length true_)) (l ∷ true_) capacity
  tables_push level reason t first h u =
      let place = place_within n l h in
      let size = t.truths_size in
      let kept : length (set truths (packed l) true) ≡ length truths = length-set truths (packed l) true in
      record {
        truths_size = kept ∙ size;
        levels_size = length-set levels l.var level ∙ t.levels_size;
        reasons_size = length-set reasons l.var reason ∙ t.reasons_size;
        positions_size = length-set positions l.var (length true_) ∙ t.positions_size;
        within = ((first, h), t.within);
        distinct = (unset_apart true_ l u, t.distinct);
        values = (λ m below. values_push t h m (subst (λ k. m < k) kept below));
        positioned = let bound = t.positions_size in (get_or-set_same positions l.var (length true_) 0 (omega arith), positions_kept positions true_ l.var (length true_) (unset_apart true_ l u) t.positioned);
        spare = t.spare;
      }

  values_pop : KeepsTrail n truths levels reasons positions (l ∷ true_) capacity → (m : ℕ) → m < length truths → get_or (set truths (packed l) false) m false ≡ is_numbered true_ m
  values_pop t m below = by_place (cases_eq m (packed l))
    where
      by_place : (m ≡ packed l) ⊎ (m ≡ packed l → ⊥) → get_or (set truths (packed l) false) m false ≡ is_numbered true_ m
      by_place (inl e) =
          let place = place_within n l t.within.0.1 in
          let size = t.truths_size in
          ap (λ k. get_or (set truths (packed l) false) k false) e ∙ get_or-set_same truths (packed l) false false (omega arith)
          ∙ sym (ap (is_numbered true_) e ∙ false_from_ne_true (is_numbered true_ (packed l)) (λ s. apart_not_among true_ l t.distinct.0 (among_from_set true_ l s)))
      by_place (inr ne) =
          get_or-set_other truths (packed l) m false false ne ∙ t.values m below ∙ ap (λ b. b || is_numbered true_ m) (ne_eqb (packed l) m (λ e. ne (sym e)))

  -- the tables when the latest literal was taken back
  pub tables_pop : KeepsTrail n truths levels reasons positions (l ∷ true_) capacity → KeepsTrail n (set truths (packed l) false) levels reasons positions true_ capacity
  tables_pop t =
      let place = place_within n l t.within.0.1 in
      let size = t.truths_size in
      let kept : length (set truths (packed l) false) ≡ length truths = length-set truths (packed l) false in
      record {
        truths_size = kept ∙ size;
        levels_size = t.levels_size;
        reasons_size = t.reasons_size;
        positions_size = t.positions_size;
        within = t.within.1;
        distinct = t.distinct.1;
        values = (λ m below. values_pop t m (subst (λ k. m < k) kept below));
        positioned = t.positioned.1;
        spare = t.spare;
      }

-- One variable more.

read_false : (xs : List Bool) (m : ℕ) → get_or (xs ++ false ∷ []) m false ≡ get_or xs m false
read_false [] zero = refl
read_false [] (suc m) = refl
read_false (x ∷ xs) zero = refl
read_false (x ∷ xs) (suc m) = read_false xs m

positions_widen : (n : ℕ) (positions : List ℕ) (true_ : List Literal) → length positions ≡ n + 1 → AllByRecursion (λ l. (1 ≤ l.var) × (l.var ≤ n)) true_ → HasPositions positions true_ → HasPositions (positions ++ 0 ∷ []) true_
positions_widen n positions [] size w p = tt
positions_widen n positions (l ∷ true_) size w p =
    let upper : l.var ≤ n = w.0.1 in
    (get_or_append_left positions (0 ∷ []) 0 l.var (omega arith) ∙ p.0, positions_widen n positions true_ size w.1 p.1)

-- a place behind those of all literals is that of none
not_numbered : (n : ℕ) (true_ : List Literal) (m : ℕ) → AllByRecursion (λ l. (1 ≤ l.var) × (l.var ≤ n)) true_ → places n ≤ m → is_numbered true_ m ≡ false
not_numbered n [] m w h = refl
not_numbered n (l ∷ true_) m w h =
    let place = place_within n l w.0.1 in
    or_from (eqb (packed l) m) (is_numbered true_ m) (ne_eqb (packed l) m (λ e. absurd (omega arith))) (not_numbered n true_ m w.1 h)

within_more : (n : ℕ) (true_ : List Literal) → AllByRecursion (λ l. (1 ≤ l.var) × (l.var ≤ n)) true_ → AllByRecursion (λ l. (1 ≤ l.var) × (l.var ≤ n + 1)) true_
within_more n [] w = tt
within_more n (l ∷ true_) w =
    let upper : l.var ≤ n = w.0.1 in
    ((w.0.0, omega arith), within_more n true_ w.1)

-- the tables with room for one variable more
pub tables_widen : (n : ℕ) (truths : List Bool) (levels : List ℕ) (reasons : List (Option ℕ)) (positions : List ℕ) (true_ : List Literal) (capacity wider : ℕ) → KeepsTrail n truths levels reasons positions true_ capacity → n + 1 ≤ wider → KeepsTrail (n + 1) ((truths ++ false ∷ []) ++ false ∷ []) (levels ++ 0 ∷ []) (reasons ++ None ∷ []) (positions ++ 0 ∷ []) true_ wider
tables_widen n truths levels reasons positions true_ capacity wider t room =
    let size = t.truths_size in
    let one : length (truths ++ false ∷ []) ≡ length truths + 1 = length_push truths false in
    let two : length ((truths ++ false ∷ []) ++ false ∷ []) ≡ length (truths ++ false ∷ []) + 1 = length_push (truths ++ false ∷ []) false in
    record {
      truths_size = omega arith;
      levels_size = length_push levels 0 ∙ ap (λ (k : ℕ). k + 1) t.levels_size;
      reasons_size = length_push reasons None ∙ ap (λ (k : ℕ). k + 1) t.reasons_size;
      positions_size = length_push positions 0 ∙ ap (λ (k : ℕ). k + 1) t.positions_size;
      within = within_more n true_ t.within;
      distinct = t.distinct;
      values = (λ m below. read_false (truths ++ false ∷ []) m ∙ read_false truths m ∙ old_value m);
      positioned = positions_widen n positions true_ t.positions_size t.within t.positioned;
      spare = room;
    }
  where
    old_value : (m : ℕ) → get_or truths m false ≡ is_numbered true_ m
    old_value m = by_place (cases_lt m (length truths))
      where
        by_place : (m < length truths) ⊎ (length truths ≤ m) → get_or truths m false ≡ is_numbered true_ m
        by_place (inl below) = t.values m below
        by_place (inr past) =
            get_or_past truths m false past ∙ sym (not_numbered n true_ m t.within (subst (λ (k : ℕ). k ≤ m) t.truths_size past))
