-- The entries of a trail, and those of earlier levels.
use Rattle.std.proofs.Common.{◌≡◌, ◌≢◌, ℕ, ◌+◌, ◌<◌, ◌≤◌, Bool, true, false, cond, ltb, ◌⊎◌, inl, inr, List, [], ◌∷◌, ◌++◌, refl, ap, sym, subst, ◌∙◌, arith, length, zero, suc, drop, ◌-◌}
use Rattle.std.specs.Prelude.{Option, None, Some}
use Rattle.std.specs.List.{AllByRecursion}
use Rattle.std.proofs.lemmas.Bool.{cases_lt, lt-ltb, le-ltb}
use Rattle.sat_log.specs.Literal.{Literal, negated}
use Rattle.sat_log.specs.Clause.{Among, IsUnset, HasDistinctVariables}
use Rattle.sat_log.specs.declared.line.LogLine.{LogLine}
use Rattle.sat_log.proofs.LiteralLemmas.{All-among}
use Rattle.sat_trail.specs.Trail.{literals, top, before, bottom}
use Rattle.sat_trail.specs.Units.{HasCause, IsTrail}
use Rattle.sat_trail.proofs.Literals.{apart_not_among}
use Rattle.sat_trail.proofs.Lists.{All-map, All-both}
use Rattle.sat_trail.specs.declared.trail.Entry.{Entry}

pub literals_apart : (entries : List Entry) (v : ℕ) → AllByRecursion (λ f. f.literal.var ≢ v) entries → AllByRecursion (λ k. k.var ≢ v) (literals entries)
literals_apart [] v h = tt
literals_apart (e ∷ entries) v h = (h.0, literals_apart entries v h.1)

pub trail_distinct : (log : List LogLine) (entries : List Entry) → IsTrail log entries → HasDistinctVariables (literals entries)
trail_distinct log [] t = tt
trail_distinct log (e ∷ entries) t =
    (literals_apart entries e.literal.var t.0.fresh, trail_distinct log entries t.1)

pub trail_back : (log : List LogLine) (above entries : List Entry) → IsTrail log (above ++ entries) → IsTrail log entries
trail_back log [] entries t = t
trail_back log (e ∷ above) entries t = trail_back log above entries t.1

-- the cause of an entry says how its level follows
cause_level : (log : List LogLine) (entries : List Entry) (l : Literal) (level : ℕ) (reason : Option ℕ) → HasCause log entries l level reason → top entries ≤ level
cause_level log entries l level None c = omega (arith, c)
cause_level log entries l level (Some id) c = omega (arith, c.0)

-- no entry is of a later level than the latest
pub top_most : (log : List LogLine) (entries : List Entry) → IsTrail log entries → AllByRecursion (λ f. f.level ≤ top entries) entries
top_most log [] t = tt
top_most log (e ∷ entries) t =
    let below = cause_level log entries e.literal e.level e.reason t.0.cause in
    (omega arith, All-map (λ f. f.level ≤ top entries) (λ f. f.level ≤ e.level) entries (λ f h. omega arith) (top_most log entries t.1))

-- What holds of all entries holds of those before a level.
pub All-before : (P : Entry → Type 0) (level : ℕ) (entries : List Entry) → AllByRecursion P entries → AllByRecursion P (before level entries)
All-before P level [] h = tt
All-before P level (e ∷ entries) h = by_level (ltb e.level level) (All-before P level entries h.1)
  where
    by_level : (b : Bool) → AllByRecursion P (before level entries) → AllByRecursion P (cond b (e ∷ entries) (before level entries))
    by_level true rest = h
    by_level false rest = rest

-- and these are of earlier levels
pub before_lower : (log : List LogLine) (level : ℕ) (entries : List Entry) → IsTrail log entries → AllByRecursion (λ f. f.level < level) (before level entries)
before_lower log level [] t = tt
before_lower log level (e ∷ entries) t =
    by_level (cases_lt e.level level) (before_lower log level entries t.1)
  where
    by_level : (e.level < level) ⊎ (level ≤ e.level) → AllByRecursion (λ f. f.level < level) (before level entries) → AllByRecursion (λ f. f.level < level) (before level (e ∷ entries))
    by_level (inl h) rest =
        subst (AllByRecursion (λ f. f.level < level)) (sym (ap (λ (b : Bool). cond b (e ∷ entries) (before level entries)) (lt-ltb e.level level h)))
        (All-map (λ f. f.level ≤ e.level) (λ f. f.level < level) (e ∷ entries) (λ f k. omega arith) (top_most log (e ∷ entries) t))
    by_level (inr h) rest =
        subst (AllByRecursion (λ f. f.level < level)) (sym (ap (λ (b : Bool). cond b (e ∷ entries) (before level entries)) (le-ltb e.level level h))) rest

among_back : (above : List Entry) (e : Entry) (rest : List Entry) → Among (literals (above ++ e ∷ rest)) e.literal
among_back [] e rest = inl refl
among_back (a ∷ above) e rest = inr (among_back above e rest)

-- an entry of an earlier level stands there
pub before_has : (level : ℕ) (above : List Entry) (e : Entry) (rest : List Entry) → e.level < level → Among (literals (before level (above ++ e ∷ rest))) e.literal
before_has level [] e rest h =
    subst (λ (es : List Entry). Among (literals es) e.literal) (sym (ap (λ (b : Bool). cond b (e ∷ rest) (before level rest)) (lt-ltb e.level level h))) (inl refl)
before_has level (a ∷ above) e rest h = by_level (ltb a.level level) (before_has level above e rest h)
  where
    by_level : (b : Bool) → Among (literals (before level (above ++ e ∷ rest))) e.literal → Among (literals (cond b (a ∷ (above ++ e ∷ rest)) (before level (above ++ e ∷ rest)))) e.literal
    by_level true m = inr (among_back above e rest)
    by_level false m = m

pub among_earlier : (level : ℕ) (entries : List Entry) (l : Literal) → Among (literals (before level entries)) l → Among (literals entries) l
among_earlier level [] l m = m
among_earlier level (e ∷ entries) l m = by_level (ltb e.level level) m (among_earlier level entries l)
  where
    by_level : (b : Bool) → Among (literals (cond b (e ∷ entries) (before level entries))) l → (Among (literals (before level entries)) l → Among (literals entries) l) → Among (literals (e ∷ entries)) l
    by_level true m rest = m
    by_level false m rest = inr (rest m)

pub among_below : (above tail : List Entry) (l : Literal) → Among (literals tail) l → Among (literals (above ++ tail)) l
among_below [] tail l m = m
among_below (a ∷ above) tail l m = inr (among_below above tail l m)

-- the entries of a variable are one
pub same_level : (log : List LogLine) (above : List Entry) (e : Entry) (rest : List Entry) → IsTrail log (above ++ e ∷ rest) → AllByRecursion (λ f. f.literal.var ≡ e.literal.var → f.level ≡ e.level) (above ++ e ∷ rest)
same_level log [] e rest t =
    ((λ v. refl), All-map (λ f. f.literal.var ≢ e.literal.var) (λ f. f.literal.var ≡ e.literal.var → f.level ≡ e.level) rest (λ f ne v. absurd (ne v)) t.0.fresh)
same_level log (a ∷ above) e rest t =
    ((λ v. absurd (All-among (λ k. k.var ≢ a.literal.var) (literals (above ++ e ∷ rest)) e.literal (literals_apart (above ++ e ∷ rest) a.literal.var t.0.fresh) (among_back above e rest) (sym v))), same_level log above e rest t.1)

unset_apart_from : (entries : List Entry) (l : Literal) → AllByRecursion (λ f. f.literal.var ≢ l.var) entries → IsUnset (literals entries) l
unset_apart_from entries l h =
    (apart_not_among (literals entries) l (literals_apart entries l.var h), apart_not_among (literals entries) (negated l) (literals_apart entries l.var h))

-- a variable whose entries are not of an earlier level is unset before the level
pub unset_before : (log : List LogLine) (level at : ℕ) (entries : List Entry) (l : Literal) → IsTrail log entries → level ≤ at → AllByRecursion (λ f. f.literal.var ≡ l.var → f.level ≡ at) entries → IsUnset (literals (before level entries)) l
unset_before log level at entries l t h same =
    unset_apart_from (before level entries) l (All-map (λ f. (f.level < level) × (f.literal.var ≡ l.var → f.level ≡ at)) (λ f. f.literal.var ≢ l.var) (before level entries) (λ f p v. let k = p.0 in let e = p.1 v in absurd (omega arith)) (All-both (λ f. f.level < level) (λ f. f.literal.var ≡ l.var → f.level ≡ at) (before level entries) (before_lower log level entries t) (All-before (λ f. f.literal.var ≡ l.var → f.level ≡ at) level entries same)))

pub before_trail : (log : List LogLine) (level : ℕ) (entries : List Entry) → IsTrail log entries → IsTrail log (before level entries)
before_trail log level [] t = tt
before_trail log level (e ∷ entries) t = by_level (ltb e.level level) (before_trail log level entries t.1)
  where
    by_level : (b : Bool) → IsTrail log (before level entries) → IsTrail log (cond b (e ∷ entries) (before level entries))
    by_level true rest = t
    by_level false rest = rest

pub before_before : (low high : ℕ) (entries : List Entry) → low ≤ high → before low (before high entries) ≡ before low entries
before_before low high [] h = refl
before_before low high (e ∷ entries) h = by_level (cases_lt e.level high) (before_before low high entries h)
  where
    by_level : (e.level < high) ⊎ (high ≤ e.level) → before low (before high entries) ≡ before low entries → before low (before high (e ∷ entries)) ≡ before low (e ∷ entries)
    by_level (inl k) rest =
        ap (λ (b : Bool). before low (cond b (e ∷ entries) (before high entries))) (lt-ltb e.level high k)
    by_level (inr k) rest =
        ap (λ (b : Bool). before low (cond b (e ∷ entries) (before high entries))) (le-ltb e.level high k) ∙ rest ∙ sym (ap (λ (b : Bool). cond b (e ∷ entries) (before low entries)) (le-ltb e.level low (omega arith)))

-- and of those before a level that are before a higher one, all
pub before_higher : (n m : ℕ) (entries : List Entry) → m ≤ n → before n (before m entries) ≡ before m entries
before_higher n m [] h = refl
before_higher n m (e ∷ entries) h = by_level (cases_lt e.level m) (before_higher n m entries h)
  where
    by_level : (e.level < m) ⊎ (m ≤ e.level) → before n (before m entries) ≡ before m entries → before n (before m (e ∷ entries)) ≡ before m (e ∷ entries)
    by_level (inl below) rest =
        ap (λ (b : Bool). before n (cond b (e ∷ entries) (before m entries))) (lt-ltb e.level m below)
        ∙ ap (λ (b : Bool). cond b (e ∷ entries) (before n entries)) (lt-ltb e.level n (omega arith))
        ∙ sym (ap (λ (b : Bool). cond b (e ∷ entries) (before m entries)) (lt-ltb e.level m below))
    by_level (inr above) rest =
        ap (λ (b : Bool). before n (cond b (e ∷ entries) (before m entries))) (le-ltb e.level m above) ∙ rest
        ∙ sym (ap (λ (b : Bool). cond b (e ∷ entries) (before m entries)) (le-ltb e.level m above))

pub top_lower : (level : ℕ) (entries : List Entry) → AllByRecursion (λ f. f.level < level + 1) entries → top entries ≤ level
top_lower level [] h = omega arith
top_lower level (e ∷ entries) h =
    let first = h.0 in
    omega arith

-- what is unset before a level is so before an earlier one
pub unset_earlier : (low high : ℕ) (entries : List Entry) (l : Literal) → low ≤ high → IsUnset (literals (before high entries)) l → IsUnset (literals (before low entries)) l
unset_earlier low high entries l h u =
    ((λ m. u.0 (inside l m)), (λ m. u.1 (inside (negated l) m)))
  where
    inside : (k : Literal) → Among (literals (before low entries)) k → Among (literals (before high entries)) k
    inside k m =
        among_earlier low (before high entries) k (subst (λ (es : List Entry). Among (literals es) k) (sym (before_before low high entries h)) m)

pub top_length : (log : List LogLine) (entries : List Entry) → IsTrail log entries → top entries ≤ length entries
top_length log [] t = omega arith
top_length log (e ∷ entries) t =
    let below = top_length log entries t.1 in
    by_reason e.reason t.0.cause below
  where
    by_reason : (reason : Option ℕ) → HasCause log entries e.literal e.level reason → top entries ≤ length entries → e.level ≤ length (e ∷ entries)
    by_reason None c below = omega (arith, c)
    by_reason (Some id) c below = omega (arith, c.0)

-- a part of the trail
pub bottom_inside : (i : ℕ) (entries : List Entry) (k : Literal) → Among (literals (bottom i entries)) k → Among (literals entries) k
bottom_inside i entries k m = from_drop (length entries - i) entries k m
  where
    from_drop : (n : ℕ) (es : List Entry) (k : Literal) → Among (literals (drop n es)) k → Among (literals es) k
    from_drop zero es k m = m
    from_drop (suc n) [] k m = m
    from_drop (suc n) (e ∷ es) k m = inr (from_drop n es k m)
