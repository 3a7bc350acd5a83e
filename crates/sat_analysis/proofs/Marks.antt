-- Marks of variables, and how many entries of a level have one.
use Rattle.std.proofs.Common.{◌≡◌, ◌≢◌, ℕ, zero, suc, ◌+◌, ◌-◌, ◌<◌, Bool, true, false, cond, eqb, ◌&&◌, ◌⊎◌, inl, inr, List, [], ◌∷◌, ◌++◌, length, take, drop, get_or, set, refl, ap, sym, subst, ◌∙◌, get_or-set_same, get_or-set_other, arith}
use Rattle.std.specs.List.{AllByRecursion}
use Rattle.std.proofs.lemmas.Bool.{cases_eq}
use Rattle.std.proofs.lemmas.List.{take_more}
use Rattle.sat_log.specs.Literal.{Literal, negated}
use Rattle.sat_log.specs.Clause.{Among, HasDistinctVariables}
use Rattle.sat_log.proofs.LiteralLemmas.{among_append, among_front, among_push, All-among}
use Rattle.sat_trail.specs.Trail.{literals, bottom}
use Rattle.sat_analysis.specs.Analysis.{is_marked, IsMarked, marked_at, HasOther, MarksOthers}
use Rattle.sat_trail.specs.declared.trail.Entry.{Entry}

-- a mark that is set, and all others
pub set_marked : (seen : List Bool) (v : ℕ) → v < length seen → IsMarked (set seen v true) v
set_marked seen v h = get_or-set_same seen v true false h

pub other_marked : (seen : List Bool) (v w : ℕ) (b : Bool) → w ≢ v → is_marked (set seen v b) w ≡ is_marked seen w
other_marked seen v w b ne = get_or-set_other seen v w b false ne

other_of : (true_ c d : List Literal) (v : ℕ) → HasOther true_ c v → HasOther true_ (c ++ d) v
other_of true_ c d v o =
    record { literal = o.literal; stands = among_front c d o.literal o.stands; other = o.other; same = o.same }

module _ (true_ c : List Literal) (old new : List Bool) (i : ℕ) (x : Literal) (inside : i < length c) (here : x ≡ get_or c i x) where
  longer : take (i + 1) c ≡ take i c ++ x ∷ []
  longer = take_more c i x inside ∙ ap (λ (y : Literal). take i c ++ y ∷ []) (sym here)

  only_longer : (MarksOthers true_ (take i c) old new) → (v : ℕ) → IsMarked new v → IsMarked old v ⊎ HasOther true_ (take (i + 1) c) v
  only_longer m v h = by_old (m.only v h)
    where
      by_old : IsMarked old v ⊎ HasOther true_ (take i c) v → IsMarked old v ⊎ HasOther true_ (take (i + 1) c) v
      by_old (inl p) = inl p
      by_old (inr o) = inr (subst (λ (d : List Literal). HasOther true_ d v) (sym longer) (other_of true_ (take i c) (x ∷ []) v o))

  -- a literal that is true, or whose variable is marked, changes nothing
  pub marks_same : MarksOthers true_ (take i c) old new → (¬ Among true_ x → IsMarked new x.var) → MarksOthers true_ (take (i + 1) c) old new
  marks_same m known =
      record {
        keeps = m.keeps;
        all = (λ l stands other. by_place l other (among_push (take i c) x l (subst (λ (d : List Literal). Among d l) longer stands)));
        only = only_longer m;
      }
    where
      by_place : (l : Literal) → ¬ Among true_ l → Among (take i c) l ⊎ (x ≡ l) → IsMarked new l.var
      by_place l other (inl stands) = m.all l stands other
      by_place l other (inr e) =
          subst (λ (k : Literal). IsMarked new k.var) e (known (λ t. other (subst (Among true_) e t)))

  -- one variable more is marked
  pub marks_one : MarksOthers true_ (take i c) old new → ¬ Among true_ x → x.var < length new → MarksOthers true_ (take (i + 1) c) old (set new x.var true)
  marks_one m other bound =
      record {
        keeps = (λ v h. stays v (m.keeps v h));
        all = (λ l stands free. by_place l free (among_push (take i c) x l (subst (λ (d : List Literal). Among d l) longer stands)));
        only = (λ v h. by_variable v h (cases_eq v x.var));
      }
    where
      stays : (v : ℕ) → IsMarked new v → IsMarked (set new x.var true) v
      stays v h = by_variable (cases_eq v x.var)
        where
          by_variable : (v ≡ x.var) ⊎ (v ≡ x.var → ⊥) → IsMarked (set new x.var true) v
          by_variable (inl e) = subst (IsMarked (set new x.var true)) (sym e) (set_marked new x.var bound)
          by_variable (inr ne) = other_marked new x.var v true ne ∙ h

      by_place : (l : Literal) → ¬ Among true_ l → Among (take i c) l ⊎ (x ≡ l) → IsMarked (set new x.var true) l.var
      by_place l free (inl stands) = stays l.var (m.all l stands free)
      by_place l free (inr e) =
          subst (λ (k : Literal). IsMarked (set new x.var true) k.var) e (set_marked new x.var bound)

      by_variable : (v : ℕ) → IsMarked (set new x.var true) v → (v ≡ x.var) ⊎ (v ≡ x.var → ⊥) → IsMarked old v ⊎ HasOther true_ (take (i + 1) c) v
      by_variable v h (inl e) =
          inr (record { literal = x; stands = subst (λ (d : List Literal). Among d x) (sym longer) (among_append (take i c) (x ∷ []) x (inl refl)); other = other; same = sym e })
      by_variable v h (inr ne) = only_longer m v (sym (other_marked new x.var v true ne) ∙ h)

-- How many entries of a level are marked.

pub marked_other : (level : ℕ) (seen : List Bool) (entries : List Entry) (v : ℕ) (b : Bool) → AllByRecursion (λ k. k.var ≢ v) (literals entries) → marked_at level (set seen v b) entries ≡ marked_at level seen entries
marked_other level seen [] v b h = refl
marked_other level seen (e ∷ entries) v b h =
    let first : (eqb e.level level && is_marked (set seen v b) e.literal.var) ≡ (eqb e.level level && is_marked seen e.literal.var) = ap (λ (m : Bool). eqb e.level level && m) (other_marked seen v e.literal.var b h.0) in
    let rest = marked_other level seen entries v b h.1 in
    let same : cond {A = ℕ} (eqb e.level level && is_marked (set seen v b) e.literal.var) 1 0 ≡ cond {A = ℕ} (eqb e.level level && is_marked seen e.literal.var) 1 0 = ap (λ (m : Bool). cond {A = ℕ} m 1 0) first in
    omega arith

and_true : (b : Bool) → cond {A = ℕ} (b && true) 1 0 ≡ cond {A = ℕ} b 1 0
and_true true = refl
and_true false = refl

pub and_false : (b : Bool) → cond {A = ℕ} (b && false) 1 0 ≡ 0
and_false true = refl
and_false false = refl

pub marked_more : (level at : ℕ) (seen : List Bool) (entries : List Entry) (l : Literal) → HasDistinctVariables (literals entries) → l.var < length seen → is_marked seen l.var ≡ false → AllByRecursion (λ e. e.literal.var ≡ l.var → at ≡ e.level) entries → Among (literals entries) (negated l) → marked_at level (set seen l.var true) entries ≡ marked_at level seen entries + cond {A = ℕ} (eqb at level) 1 0
marked_more level at seen [] l d bound free levels m = absurd m
marked_more level at seen (e ∷ entries) l d bound free levels (inl same) =
    let rest = marked_other level seen entries l.var true (subst (λ (v : ℕ). AllByRecursion (λ k. k.var ≢ v) (literals entries)) (ap (λ (k : Literal). k.var) same) d.0) in
    let variable : e.literal.var ≡ l.var = ap (λ (k : Literal). k.var) same in
    let new : is_marked (set seen l.var true) e.literal.var ≡ true = ap (is_marked (set seen l.var true)) variable ∙ set_marked seen l.var bound in
    let old : is_marked seen e.literal.var ≡ false = ap (is_marked seen) variable ∙ free in
    let after : cond {A = ℕ} (eqb e.level level && is_marked (set seen l.var true) e.literal.var) 1 0 ≡ cond {A = ℕ} (eqb at level) 1 0 =
    ap (λ (m : Bool). cond {A = ℕ} (eqb e.level level && m) 1 0) new ∙ and_true (eqb e.level level) ∙ ap (λ (n : ℕ). cond {A = ℕ} (eqb n level) 1 0) (sym (levels.0 variable)) in
    let before : cond {A = ℕ} (eqb e.level level && is_marked seen e.literal.var) 1 0 ≡ 0 =
    ap (λ (m : Bool). cond {A = ℕ} (eqb e.level level && m) 1 0) old ∙ and_false (eqb e.level level) in
    omega arith
marked_more level at seen (e ∷ entries) l d bound free levels (inr m) =
    let rest = marked_more level at seen entries l d.1 bound free levels.1 m in
    let ne : e.literal.var ≢ l.var = (λ v. All-among (λ k. k.var ≢ e.literal.var) (literals entries) (negated l) d.0 m (sym v)) in
    let same : cond {A = ℕ} (eqb e.level level && is_marked (set seen l.var true) e.literal.var) 1 0 ≡ cond {A = ℕ} (eqb e.level level && is_marked seen e.literal.var) 1 0 =
    ap (λ (m : Bool). cond {A = ℕ} (eqb e.level level && m) 1 0) (other_marked seen l.var e.literal.var true ne) in
    omega arith

-- Parts of the trail.

pub All-drop : {A : Type 0} (P : A → Type 0) (n : ℕ) (xs : List A) → AllByRecursion P xs → AllByRecursion P (drop n xs)
All-drop P zero xs h = h
All-drop P (suc n) [] h = tt
All-drop P (suc n) (x ∷ xs) h = All-drop P n xs h.1

distinct_drop : (n : ℕ) (entries : List Entry) → HasDistinctVariables (literals entries) → HasDistinctVariables (literals (drop n entries))
distinct_drop zero entries h = h
distinct_drop (suc n) [] h = tt
distinct_drop (suc n) (e ∷ entries) h = distinct_drop n entries h.1

-- one more is marked in a part of the trail
pub marked_more_in : (level at i : ℕ) (seen : List Bool) (entries : List Entry) (l : Literal) → HasDistinctVariables (literals entries) → l.var < length seen → is_marked seen l.var ≡ false → AllByRecursion (λ e. e.literal.var ≡ l.var → at ≡ e.level) entries → Among (literals (bottom i entries)) (negated l) → marked_at level (set seen l.var true) (bottom i entries) ≡ marked_at level seen (bottom i entries) + cond {A = ℕ} (eqb at level) 1 0
marked_more_in level at i seen entries l d bound free levels m =
    marked_more level at seen (bottom i entries) l (distinct_drop (length entries - i) entries d) bound free (All-drop (λ e. e.literal.var ≡ l.var → at ≡ e.level) (length entries - i) entries levels) m
