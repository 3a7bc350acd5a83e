-- The check decides what is accepted.
use Rattle.std.proofs.Common.{◌≡◌, ◌≢◌, ℕ, Bool, true, false, cond, eqb, ◌||◌, ◌⊎◌, inl, inr, List, [], ◌∷◌, ◌++◌, map, refl, ap, sym, subst, ◌∙◌}
use Rattle.std.specs.Prelude.{Option, Some, None}
use Rattle.std.specs.List.{AllByRecursion}
use Rattle.std.proofs.lemmas.Bool.{false≢true, eqb-true, eq-eqb, or_right, and_parts}
use Rattle.sat_log.specs.Literal.{Literal, negated}
use Rattle.sat_log.specs.Packing.{packed}
use Rattle.sat_log.specs.Clause.{Among, HasDistinctVariables, IsUnset, IsFalsified, IsUnit}
use Rattle.sat_log.specs.Accepted.{clause_at, Refutes, Accepts}
use Rattle.sat_log.specs.Checking.{is_set, can_assume, look_on, look, look_if, after_look, refutes, accepts}
use Rattle.sat_log.proofs.LiteralLemmas.{packed_injective, same_variable, among_append, among_front, among_push}
use Rattle.sat_log.specs.declared.line.LogLine.{LogLine}
use Rattle.sat_log.specs.declared.marks.Look.{Look}
use Rattle.sat_log.specs.declared.marks.Look.TheVariants.{Falsified, Propagates, Unresolved}

-- What is set.

pub among_from_set : (set : List Literal) (l : Literal) → is_set set l ≡ true → Among set l
among_from_set [] l e = absurd (false≢true e)
among_from_set (x ∷ set) l e = by_first (eqb (packed x) (packed l)) refl e (among_from_set set l)
  where
    by_first : (b : Bool) → eqb (packed x) (packed l) ≡ b → b || is_set set l ≡ true → (is_set set l ≡ true → Among set l) → Among (x ∷ set) l
    by_first true same e rest = inl (packed_injective x l (eqb-true (packed x) (packed l) same))
    by_first false other e rest = inr (rest e)

pub set_from_among : (set : List Literal) (l : Literal) → Among set l → is_set set l ≡ true
set_from_among [] l m = absurd m
set_from_among (x ∷ set) l (inl same) =
    ap (λ b. b || is_set set l) (eq-eqb (packed x) (packed l) (ap packed same))
set_from_among (x ∷ set) l (inr m) = or_right (eqb (packed x) (packed l)) (is_set set l) (set_from_among set l m)

not_among : (set : List Literal) (l : Literal) → is_set set l ≡ false → ¬ Among set l
not_among set l e m = false≢true (sym e ∙ set_from_among set l m)

pub unset_from : (set : List Literal) (l : Literal) → ¬ Among set l → is_set set l ≡ false
unset_from set l none = by_value (is_set set l) refl
  where
    by_value : (b : Bool) → is_set set l ≡ b → is_set set l ≡ false
    by_value true e = absurd (none (among_from_set set l e))
    by_value false e = e

-- A line's literals can be set false one after another where their variables are distinct.

abbrev AreUnset : List Literal → List Literal → Type 0
AreUnset set c = AllByRecursion (IsUnset set) c

abbrev AreApart : Literal → List Literal → Type 0
AreApart l c = AllByRecursion (λ k. k.var ≢ l.var) c

apart_from_push : (set : List Literal) (l k : Literal) → IsUnset (set ++ negated l ∷ []) k → IsUnset set k × (k.var ≢ l.var)
apart_from_push set l k (free, free') =
    ((λ m. free (among_front set (negated l ∷ []) k m), λ m. free' (among_front set (negated l ∷ []) (negated k) m)), λ v. by_same (same_variable k l v))
  where
    by_same : (k ≡ l) ⊎ (k ≡ negated l) → ⊥
    by_same (inl e) = free' (subst (λ x. Among (set ++ negated l ∷ []) (negated x)) (sym e) (among_append set (negated l ∷ []) (negated l) (inl refl)))
    by_same (inr e) = free (subst (Among (set ++ negated l ∷ [])) (sym e) (among_append set (negated l ∷ []) (negated l) (inl refl)))

push_apart : (set : List Literal) (l k : Literal) → IsUnset set k → k.var ≢ l.var → IsUnset (set ++ negated l ∷ []) k
push_apart set l k (free, free') ne =
    (λ m. by_place k free refl (among_push set (negated l) k m), λ m. by_place (negated k) free' refl (among_push set (negated l) (negated k) m))
  where
    by_place : (x : Literal) → ¬ Among set x → x.var ≡ k.var → Among set x ⊎ (negated l ≡ x) → ⊥
    by_place x none v (inl m) = none m
    by_place x none v (inr e) = ne (sym v ∙ sym (ap (λ (y : Literal). y.var) e))

all_apart_from_push : (set : List Literal) (l : Literal) (c : List Literal) → AreUnset (set ++ negated l ∷ []) c → AreUnset set c × AreApart l c
all_apart_from_push set l [] h = (tt, tt)
all_apart_from_push set l (k ∷ c) h =
    let first = apart_from_push set l k h.0 in
    let rest = all_apart_from_push set l c h.1 in
    ((first.0, rest.0), (first.1, rest.1))

all_push_apart : (set : List Literal) (l : Literal) (c : List Literal) → AreUnset set c → AreApart l c → AreUnset (set ++ negated l ∷ []) c
all_push_apart set l [] h d = tt
all_push_apart set l (k ∷ c) h d = (push_apart set l k h.0 d.0, all_push_apart set l c h.1 d.1)

assumable_distinct : (set c : List Literal) → can_assume set c ≡ true → HasDistinctVariables c × AreUnset set c
assumable_distinct set [] e = (tt, tt)
assumable_distinct set (l ∷ c) e =
    by_first (is_set set l) (is_set set (negated l)) refl refl e (assumable_distinct (set ++ negated l ∷ []) c)
  where
    by_first : (a b : Bool) → is_set set l ≡ a → is_set set (negated l) ≡ b → cond (a || b) false (can_assume (set ++ negated l ∷ []) c) ≡ true → (can_assume (set ++ negated l ∷ []) c ≡ true → HasDistinctVariables c × AreUnset (set ++ negated l ∷ []) c) → HasDistinctVariables (l ∷ c) × AreUnset set (l ∷ c)
    by_first true b p q e rest = absurd (false≢true e)
    by_first false true p q e rest = absurd (false≢true e)
    by_first false false p q e rest =
        let both = rest e in
        let apart = all_apart_from_push set l c both.1 in
        ((apart.1, both.0), ((not_among set l p, not_among set (negated l) q), apart.0))

distinct_assumable : (set c : List Literal) → HasDistinctVariables c → AreUnset set c → can_assume set c ≡ true
distinct_assumable set [] d h = refl
distinct_assumable set (l ∷ c) d h =
    rw (unset_from set l h.0.0, unset_from set (negated l) h.0.1) (distinct_assumable (set ++ negated l ∷ []) c d.1 (all_push_apart set l c h.1 d.0))

none_unset : (c : List Literal) → AreUnset [] c
none_unset [] = tt
none_unset (l ∷ c) = ((λ m. m, λ m. m), none_unset c)

-- A look at a clause tells whether it is false, or unit.

looked_on : (set : List Literal) (u : Literal) (c : List Literal) → IsFalsified set c → look_on set u c ≡ Propagates u
looked_on set u [] h = refl
looked_on set u (l ∷ c) h = rw (set_from_among set (negated l) h.0) (looked_on set u c h.1)

look_on_falsified : (set : List Literal) (u v : Literal) (c : List Literal) → look_on set u c ≡ Propagates v → (u ≡ v) × IsFalsified set c
look_on_falsified set u v [] e = (cc, tt)
look_on_falsified set u v (l ∷ c) e =
    by_first (is_set set (negated l)) refl e (look_on_falsified set u v c)
  where
    by_first : (b : Bool) → is_set set (negated l) ≡ b → cond b (look_on set u c) Unresolved ≡ Propagates v → (look_on set u c ≡ Propagates v → (u ≡ v) × IsFalsified set c) → (u ≡ v) × IsFalsified set (l ∷ c)
    by_first true p e rest =
        let both = rest e in
        (both.0, (among_from_set set (negated l) p, both.1))
    by_first false p e rest = cc

look_on_not_falsified : (set : List Literal) (u : Literal) (c : List Literal) → look_on set u c ≡ Falsified → ⊥
look_on_not_falsified set u [] e = cc
look_on_not_falsified set u (l ∷ c) e =
    by_first (is_set set (negated l)) e (look_on_not_falsified set u c)
  where
    by_first : (b : Bool) → cond b (look_on set u c) Unresolved ≡ Falsified → (look_on set u c ≡ Falsified → ⊥) → ⊥
    by_first true e rest = rest e
    by_first false e rest = cc

look_falsified : (set c : List Literal) → look set c ≡ Falsified → IsFalsified set c
look_falsified set [] e = tt
look_falsified set (l ∷ c) e =
    by_first (is_set set (negated l)) (is_set set l) refl e (look_falsified set c)
  where
    by_first : (a b : Bool) → is_set set (negated l) ≡ a → cond a (look set c) (cond b Unresolved (look_on set l c)) ≡ Falsified → (look set c ≡ Falsified → IsFalsified set c) → IsFalsified set (l ∷ c)
    by_first true b p e rest = (among_from_set set (negated l) p, rest e)
    by_first false true p e rest = cc
    by_first false false p e rest = absurd (look_on_not_falsified set l c e)

look_unit : (set c : List Literal) (u : Literal) → look set c ≡ Propagates u → IsUnit set c u
look_unit set [] u e = cc
look_unit set (l ∷ c) u e =
    by_first (is_set set (negated l)) (is_set set l) refl refl e (look_unit set c u)
  where
    by_first : (a b : Bool) → is_set set (negated l) ≡ a → is_set set l ≡ b → cond a (look set c) (cond b Unresolved (look_on set l c)) ≡ Propagates u → (look set c ≡ Propagates u → IsUnit set c u) → IsUnit set (l ∷ c) u
    by_first true b p q e rest =
        let unit = rest e in
        (l ∷ unit.0, unit.1, ap (λ xs. l ∷ xs) unit.2, (among_from_set set (negated l) p, unit.3), unit.4, unit.5)
    by_first false true p q e rest = cc
    by_first false false p q e rest =
        let same = look_on_falsified set l u c e in
        ([], c, ap (λ x. x ∷ c) same.0, tt, subst (IsUnset set) same.0 (not_among set l q, not_among set (negated l) p), same.1)

falsified_look : (set c : List Literal) → IsFalsified set c → look set c ≡ Falsified
falsified_look set [] h = refl
falsified_look set (l ∷ c) h = rw (set_from_among set (negated l) h.0) (falsified_look set c h.1)

unit_look_at : (set front : List Literal) (u : Literal) (back : List Literal) → IsFalsified set front → IsUnset set u → IsFalsified set back → look set (front ++ u ∷ back) ≡ Propagates u
unit_look_at set [] u back h free k =
    rw (unset_from set (negated u) free.1, unset_from set u free.0) (looked_on set u back k)
unit_look_at set (l ∷ front) u back h free k =
    rw (set_from_among set (negated l) h.0) (unit_look_at set front u back h.1 free k)

unit_look : (set c : List Literal) (u : Literal) → IsUnit set c u → look set c ≡ Propagates u
unit_look set c u (front, back, e, h, free, k) = ap (look set) e ∙ unit_look_at set front u back h free k

-- The hints refute what is set where the code says so.

falsified_from : (set : List Literal) (o : Option (List Literal)) → look_if set o ≡ Falsified → (c : List Literal) × (o ≡ Some c) × IsFalsified set c
falsified_from set None e = cc
falsified_from set (Some c) e = (c, refl, look_falsified set c e)

unit_from : (set : List Literal) (o : Option (List Literal)) (u : Literal) → look_if set o ≡ Propagates u → (c : List Literal) × (o ≡ Some c) × IsUnit set c u
unit_from set None u e = cc
unit_from set (Some c) u e = (c, refl, look_unit set c u e)

refuted : (log : List LogLine) (set : List Literal) (hints : List ℕ) → refutes log set hints ≡ true → Refutes log set hints
refuted log set [] e = absurd (false≢true e)
refuted log set (id ∷ []) e = by_look (look_if set (clause_at log id)) refl e
  where
    by_look : (found : Look) → look_if set (clause_at log id) ≡ found → after_look found true (λ u. refutes log (set ++ u ∷ []) []) ≡ true → Refutes log set (id ∷ [])
    by_look Falsified p e = falsified_from set (clause_at log id) p
    by_look (Propagates u) p e = absurd (false≢true e)
    by_look Unresolved p e = absurd (false≢true e)
refuted log set (id ∷ next ∷ ids) e =
    by_look (look_if set (clause_at log id)) refl e (λ u. refuted log (set ++ u ∷ []) (next ∷ ids))
  where
    by_look : (found : Look) → look_if set (clause_at log id) ≡ found → after_look found false (λ u. refutes log (set ++ u ∷ []) (next ∷ ids)) ≡ true → ((u : Literal) → refutes log (set ++ u ∷ []) (next ∷ ids) ≡ true → Refutes log (set ++ u ∷ []) (next ∷ ids)) → Refutes log set (id ∷ next ∷ ids)
    by_look Falsified p e rest = absurd (false≢true e)
    by_look (Propagates u) p e rest =
        let unit = unit_from set (clause_at log id) u p in
        (unit.0, u, unit.1, unit.2, rest u e)
    by_look Unresolved p e rest = absurd (false≢true e)

refutes_true : (log : List LogLine) (set : List Literal) (hints : List ℕ) → Refutes log set hints → refutes log set hints ≡ true
refutes_true log set [] r = absurd r
refutes_true log set (id ∷ []) (c, e, h) =
    ap (λ found. after_look found true (λ u. refutes log (set ++ u ∷ []) [])) (ap (look_if set) e ∙ falsified_look set c h)
refutes_true log set (id ∷ next ∷ ids) (c, u, e, unit, r) =
    ap (λ found. after_look found false (λ u. refutes log (set ++ u ∷ []) (next ∷ ids))) (ap (look_if set) e ∙ unit_look set c u unit) ∙ refutes_true log (set ++ u ∷ []) (next ∷ ids) r

-- what the check answers true is accepted
pub accepts_sound : (log : List LogLine) (line : LogLine) → accepts log line ≡ true → Accepts log line
accepts_sound log line e =
    let both = and_parts (can_assume [] line.lits) (refutes log (map negated line.lits) line.hints) e in
    record {
      distinct = (assumable_distinct [] line.lits both.0).0;
      refuted = refuted log (map negated line.lits) line.hints both.1;
    }

-- what is accepted, the check answers true
pub accepts_complete : (log : List LogLine) (line : LogLine) → Accepts log line → accepts log line ≡ true
accepts_complete log line a =
    rw (distinct_assumable [] line.lits a.distinct (none_unset line.lits)) (refutes_true log (map negated line.lits) line.hints a.refuted)

-- a clause can be set false literal by literal exactly where no variable stands in it twice
pub distinct_sound : (c : List Literal) → can_assume [] c ≡ true → HasDistinctVariables c
distinct_sound c e = (assumable_distinct [] c e).0

pub distinct_complete : (c : List Literal) → HasDistinctVariables c → can_assume [] c ≡ true
distinct_complete c d = distinct_assumable [] c d (none_unset c)
