-- The walk to the first unique implication point.
use Rattle.std.proofs.Common.{◌≡◌, ◌≢◌, ℕ, ◌+◌, ◌<◌, ◌≤◌, Bool, true, false, cond, eqb, ltb, ◌&&◌, ◌⊎◌, inl, inr, List, [], ◌∷◌, ◌++◌, set, refl, ap, sym, subst, ◌∙◌, arith}
use Rattle.std.specs.Prelude.{Option, None, Some}
use Rattle.std.specs.List.{AllByRecursion}
use Rattle.std.proofs.lemmas.Bool.{cases_eq, cases_lt, eq-eqb, ne_eqb, lt-ltb, le-ltb}
use Rattle.sat_log.specs.Literal.{Literal, negated}
use Rattle.sat_log.specs.Clause.{Among, IsUnset, IsFalsified}
use Rattle.sat_log.specs.declared.line.LogLine.{LogLine}
use Rattle.sat_log.proofs.ListLemmas.{All-append, All-back}
use Rattle.sat_log.proofs.LiteralLemmas.{negated-negated, All-among}
use Rattle.sat_trail.specs.Trail.{literals, top, before}
use Rattle.sat_trail.specs.Units.{HasCause, IsTrail, IsQuiet}
use Rattle.sat_analysis.specs.Analysis.{is_marked, IsMarked, IsUnmarked, marked_at, IsAsserting, IsLatestFirst}
use Rattle.sat_analysis.proofs.Marks.{and_false, marked_other}
use Rattle.sat_trail.proofs.Trails.{consistent}
use Rattle.sat_trail.proofs.Lists.{All-map}
use Rattle.sat_trail.proofs.Levels.{literals_apart, trail_distinct, trail_back, top_most, before_has, among_earlier, among_below, same_level, unset_before}
use Rattle.sat_trail.specs.declared.trail.Entry.{Entry}

-- what is true before a level above some entry is there with all that is below
before_holds : (level : ℕ) (above tail : List Entry) (k x : Literal) → Among (literals (before level (above ++ tail))) k → ¬ Among (literals tail) k → Among (literals tail) x → Among (literals (before level (above ++ tail))) x
before_holds level [] tail k x m out n = absurd (out (among_earlier level tail k m))
before_holds level (a ∷ above) tail k x m out n = by_level (ltb a.level level) m (before_holds level above tail k x)
  where
    by_level : (b : Bool) → Among (literals (cond b (a ∷ (above ++ tail)) (before level (above ++ tail)))) k → (Among (literals (before level (above ++ tail))) k → ¬ Among (literals tail) k → Among (literals tail) x → Among (literals (before level (above ++ tail))) x) → Among (literals (cond b (a ∷ (above ++ tail)) (before level (above ++ tail)))) x
    by_level true m rest = inr (among_below above tail x n)
    by_level false m rest = rest m out n

-- a literal of the clause is not false in a part of the trail that is apart from the clause
not_below : (lits : List Literal) (tail : List Entry) (o : Literal) → AllByRecursion (λ f. AllByRecursion (λ l. l.var ≢ f.literal.var) lits) tail → Among lits o → ¬ Among (literals tail) (negated o)
not_below lits [] o apart m n = n
not_below lits (f ∷ tail) o apart m (inl same) =
    All-among (λ l. l.var ≢ f.literal.var) lits o apart.0 m (ap (λ (k : Literal). k.var) (sym same))
not_below lits (f ∷ tail) o apart m (inr n) = not_below lits tail o apart.1 m n

-- How many are marked.

pub marked_none : (level : ℕ) (seen : List Bool) (entries : List Entry) → AllByRecursion (λ f. f.level < level) entries → marked_at level seen entries ≡ 0
marked_none level seen [] h = refl
marked_none level seen (e ∷ entries) h =
    let lower = h.0 in
    let none : cond {A = ℕ} (eqb e.level level && is_marked seen e.literal.var) 1 0 ≡ 0 = ap (λ (b : Bool). cond {A = ℕ} (b && is_marked seen e.literal.var) 1 0) (ne_eqb e.level level (λ same. absurd (omega arith))) in
    let rest = marked_none level seen entries h.1 in
    omega arith

pub marked_clear : (level : ℕ) (seen : List Bool) (entries : List Entry) → IsUnmarked seen → marked_at level seen entries ≡ 0
marked_clear level seen [] h = refl
marked_clear level seen (e ∷ entries) h =
    let none : cond {A = ℕ} (eqb e.level level && is_marked seen e.literal.var) 1 0 ≡ 0 = ap (λ (b : Bool). cond {A = ℕ} (eqb e.level level && b) 1 0) (h e.literal.var) ∙ and_false (eqb e.level level) in
    let rest = marked_clear level seen entries h in
    omega arith

-- an entry that isn't marked, or is of another level, doesn't count
pub count_unmarked : (level : ℕ) (seen : List Bool) (e : Entry) (rest : List Entry) → is_marked seen e.literal.var ≡ false → marked_at level seen (e ∷ rest) ≡ marked_at level seen rest
count_unmarked level seen e rest h =
    let none : cond {A = ℕ} (eqb e.level level && is_marked seen e.literal.var) 1 0 ≡ 0 = ap (λ (b : Bool). cond {A = ℕ} (eqb e.level level && b) 1 0) h ∙ and_false (eqb e.level level) in
    omega arith

pub count_elsewhere : (level : ℕ) (seen : List Bool) (e : Entry) (rest : List Entry) → e.level ≢ level → marked_at level seen (e ∷ rest) ≡ marked_at level seen rest
count_elsewhere level seen e rest h =
    let none : cond {A = ℕ} (eqb e.level level && is_marked seen e.literal.var) 1 0 ≡ 0 = ap (λ (b : Bool). cond {A = ℕ} (b && is_marked seen e.literal.var) 1 0) (ne_eqb e.level level h) in
    omega arith

pub count_here : (level : ℕ) (seen : List Bool) (e : Entry) (rest : List Entry) → e.level ≡ level → IsMarked seen e.literal.var → marked_at level seen (e ∷ rest) ≡ 1 + marked_at level seen rest
count_here level seen e rest h m =
    let one : cond {A = ℕ} (eqb e.level level && is_marked seen e.literal.var) 1 0 ≡ 1 = ap (λ (b : Bool). cond {A = ℕ} (b && is_marked seen e.literal.var) 1 0) (eq-eqb e.level level h) ∙ ap (λ (b : Bool). cond {A = ℕ} b 1 0) m in
    omega arith

-- a marked literal that isn't true before the latest level counts there
pub marked_some : (level : ℕ) (seen : List Bool) (entries : List Entry) (l : Literal) → AllByRecursion (λ f. f.level ≤ level) entries → Among (literals entries) l → ¬ Among (literals (before level entries)) l → IsMarked seen l.var → 1 ≤ marked_at level seen entries
marked_some level seen [] l h m out marked = absurd m
marked_some level seen (e ∷ entries) l h m out marked = by_level (cases_lt e.level level) m (marked_some level seen entries l h.1)
  where
    by_level : (e.level < level) ⊎ (level ≤ e.level) → Among (literals (e ∷ entries)) l → (Among (literals entries) l → ¬ Among (literals (before level entries)) l → IsMarked seen l.var → 1 ≤ marked_at level seen entries) → 1 ≤ marked_at level seen (e ∷ entries)
    by_level (inl k) m rest =
        absurd (out (subst (λ (es : List Entry). Among (literals es) l) (sym (ap (λ (b : Bool). cond b (e ∷ entries) (before level entries)) (lt-ltb e.level level k))) m))
    by_level (inr k) (inl same) rest =
        let most = h.0 in
        let here = count_here level seen e entries (omega arith) (subst (λ (x : Literal). IsMarked seen x.var) (sym same) marked) in
        omega arith
    by_level (inr k) (inr n) rest =
        let more = rest n (subst (λ (es : List Entry). ¬ Among (literals es) l) (ap (λ (b : Bool). cond b (e ∷ entries) (before level entries)) (le-ltb e.level level k)) out) marked in
        omega arith

-- a conflict at a level above 0 has two literals of that level
pub conflict_marks : (log : List LogLine) (seen : List Bool) (entries : List Entry) (c : List Literal) → IsTrail log entries → IsFalsified (literals entries) c → IsQuiet (literals (before (top entries) entries)) c → ((l : Literal) → Among c l → IsMarked seen l.var) → 1 ≤ marked_at (top entries) seen entries
conflict_marks log seen entries c t false_ (inl true_) marks =
    absurd (consistent (literals entries) (trail_distinct log entries t) true_.literal (among_earlier (top entries) entries true_.literal true_.is_set) (All-among (λ l. Among (literals entries) (negated l)) c true_.literal false_ true_.stands))
conflict_marks log seen entries c t false_ (inr two) marks =
    marked_some (top entries) seen entries (negated two.first) (top_most log entries t) (All-among (λ l. Among (literals entries) (negated l)) c two.first false_ two.first_stands) two.first_unset.1 (marks two.first two.first_stands)

-- how many entries of a level are left to be looked at, without one of this level
abbrev pub IsLeft : ℕ → ℕ → ℕ → ℕ → Type 0
IsLeft at level open_ left = (at ≡ level → left + 1 ≡ open_) × (at ≢ level → left ≡ open_)

-- The walk: an entry e with these below it.
module _ (log : List LogLine) (entries above : List Entry) (e : Entry) (rest : List Entry) (parts : entries ≡ above ++ e ∷ rest) (t : IsTrail log entries) (level : ℕ) (latest : top entries ≡ level) where
  tail_trail : IsTrail log (e ∷ rest)
  tail_trail = trail_back log above (e ∷ rest) (subst (IsTrail log) parts t)

  pub entry_level : e.level ≤ level
  entry_level =
      let most = All-back (λ f. f.level ≤ top entries) above (e ∷ rest) (subst (AllByRecursion (λ f. f.level ≤ top entries)) parts (top_most log entries t)) in
      let here = most.0 in
      omega arith

  rest_lower : e.level < level → AllByRecursion (λ f. f.level < level) rest
  rest_lower h = All-map (λ f. f.level ≤ e.level) (λ f. f.level < level) rest (λ f k. omega arith) (top_most log (e ∷ rest) tail_trail).1

  decision_last : (reason : Option ℕ) → HasCause log rest e.literal e.level reason → reason ≡ None → AllByRecursion (λ f. f.level < e.level) rest
  decision_last None c n = All-map (λ f. f.level ≤ top rest) (λ f. f.level < e.level) rest (λ f k. omega (arith, c)) (top_most log rest tail_trail.1)
  decision_last (Some id) c n = absurd cc

  module _ (seen : List Bool) (lits : List Literal) (open_ left : ℕ) (marked : IsMarked seen e.literal.var) (counted : open_ ≡ marked_at level seen (e ∷ rest)) (is_left : IsLeft e.level level open_ left) (asserting : IsAsserting level entries open_ lits) where
    pub left_counts : left ≡ marked_at level (set seen e.literal.var false) rest
    left_counts =
        by_level (cases_eq e.level level) ∙ sym (marked_other level seen rest e.literal.var false (literals_apart rest e.literal.var tail_trail.0.fresh))
      where
        by_level : (e.level ≡ level) ⊎ (e.level ≡ level → ⊥) → left ≡ marked_at level seen rest
        by_level (inl here) =
            let one = is_left.0 here in
            let count = count_here level seen e rest here marked in
            omega arith
        by_level (inr there) = is_left.1 there ∙ counted ∙ count_elsewhere level seen e rest there

    -- the entry is kept where it is the last of the level, or of an earlier one but not of level 0
    pub kept_asserts : (e.reason ≡ None) ⊎ ((e.level ≢ 0) × (e.level ≡ level → left ≡ 0)) → AllByRecursion (λ f. AllByRecursion (λ l. l.var ≢ f.literal.var) lits) (e ∷ rest) → IsAsserting level entries left (lits ++ negated e.literal ∷ [])
    kept_asserts kept apart = by_level (cases_lt e.level level)
      where
        none_left : e.level ≡ level → (e.reason ≡ None) ⊎ ((e.level ≢ 0) × (e.level ≡ level → left ≡ 0)) → left ≡ 0
        none_left here (inr k) = k.1 here
        none_left here (inl d) =
            left_counts ∙ marked_none level (set seen e.literal.var false) rest (All-map (λ f. f.level < e.level) (λ f. f.level < level) rest (λ f k. omega (arith, here)) (decision_last e.reason tail_trail.0.cause d))

        free : e.level ≡ level → IsUnset (literals (before level entries)) (negated e.literal)
        free here =
            unset_before log level e.level entries (negated e.literal) t (omega (arith, here)) (subst (AllByRecursion (λ f. f.literal.var ≡ e.literal.var → f.level ≡ e.level)) (sym parts) (same_level log above e rest (subst (IsTrail log) parts t)))

        first : (kept_lits : List Literal) → IsAsserting level entries open_ kept_lits → e.level ≡ level → IsAsserting level entries left (kept_lits ++ negated e.literal ∷ [])
        first [] a here = (none_left here kept, free here, tt, tt)
        first (u ∷ others) a here =
            let one = is_left.0 here in
            absurd (omega (arith, a.0))

        behind : (others : List Literal) → IsLatestFirst entries others → ((o : Literal) → Among others o → ¬ Among (literals (e ∷ rest)) (negated o)) → IsLatestFirst entries (others ++ negated e.literal ∷ [])
        behind [] sorted out = (λ k m. tt)
        behind (o ∷ others) sorted out = (λ k m.
            let here : Among (literals (before k (above ++ e ∷ rest))) e.literal = before_holds k above (e ∷ rest) (negated o) e.literal (subst (λ (es : List Entry). Among (literals (before k es)) (negated o)) parts m) (out o (inl refl)) (inl refl) in
            All-append (λ l. Among (literals (before k entries)) (negated l)) others (negated e.literal ∷ []) (sorted k m) (subst (Among (literals (before k entries))) (sym (negated-negated e.literal)) (subst (λ (es : List Entry). Among (literals (before k es)) e.literal) (sym parts) here), tt))

        later : (kept_lits : List Literal) → AllByRecursion (λ f. AllByRecursion (λ l. l.var ≢ f.literal.var) kept_lits) (e ∷ rest) → IsAsserting level entries open_ kept_lits → e.level < level → IsAsserting level entries left (kept_lits ++ negated e.literal ∷ [])
        later [] apart a lower =
            let none = marked_none level seen (e ∷ rest) (lower, rest_lower lower) in
            absurd (omega (arith, a, counted))
        later (u ∷ others) apart a lower =
            (is_left.1 (λ same. absurd (omega arith)) ∙ a.0, a.1, All-append (λ l. Among (literals (before level entries)) (negated l)) others (negated e.literal ∷ []) a.2 (subst (λ (l : Literal). Among (literals (before level entries)) l) (sym (negated-negated e.literal)) (subst (λ (es : List Entry). Among (literals (before level es)) e.literal) (sym parts) (before_has level above e rest lower)), tt), behind others a.3 (λ o m. not_below (u ∷ others) (e ∷ rest) o apart (inr m)))

        by_level : (e.level < level) ⊎ (level ≤ e.level) → IsAsserting level entries left (lits ++ negated e.literal ∷ [])
        by_level (inl lower) = later lits apart asserting lower
        by_level (inr upper) =
            let most = entry_level in
            first lits asserting (omega arith)

    -- it is resolved away where it is of level 0, or others of the level are left
    pub resolved_asserts : (found open' : ℕ) (new : List Bool) → (e.level ≡ level → left ≢ 0) → open' ≡ left + found → open' ≡ marked_at level new rest → IsAsserting level entries open' lits
    resolved_asserts found open' new others sum counts = by_lits lits asserting (cases_eq e.level level)
      where
        by_lits : (kept_lits : List Literal) → IsAsserting level entries open_ kept_lits → (e.level ≡ level) ⊎ (e.level ≡ level → ⊥) → IsAsserting level entries open' kept_lits
        by_lits [] a (inl here) =
            let some = others here in
            omega arith
        by_lits [] a (inr there) =
            let same = is_left.1 there in
            omega (arith, a)
        by_lits (u ∷ kept_lits) a (inl here) =
            let one = is_left.0 here in
            absurd (omega (arith, a.0))
        by_lits (u ∷ kept_lits) a (inr there) =
            let most = entry_level in
            let lower : e.level < level = omega arith in
            (counts ∙ marked_none level new rest (rest_lower lower), a.1, a.2, a.3)

-- an entry that isn't marked leaves the count
pub skipped_counts : (log : List LogLine) (level : ℕ) (seen : List Bool) (e : Entry) (rest : List Entry) → IsTrail log (e ∷ rest) → is_marked seen e.literal.var ≡ false → marked_at level seen (e ∷ rest) ≡ marked_at level (set seen e.literal.var false) rest
skipped_counts log level seen e rest t unmarked =
    count_unmarked level seen e rest unmarked ∙ sym (marked_other level seen rest e.literal.var false (literals_apart rest e.literal.var t.0.fresh))
