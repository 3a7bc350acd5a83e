-- Steps of a search: propagation, going back to level 0, and a complete trail.
use Rattle.std.proofs.Common.{◌≡◌, ℕ, ◌+◌, ◌<◌, ◌≤◌, Bool, true, cond, ◌⊎◌, inl, inr, List, [], ◌∷◌, ◌++◌, length, refl, ap, sym, subst, ◌∙◌, arith}
use Rattle.std.specs.Prelude.{Option, None, Some, IsSome, option_to_list}
use Rattle.std.specs.List.{AllByRecursion}
use Rattle.std.proofs.lemmas.Bool.{le-ltb}
use Rattle.sat_log.specs.Literal.{Literal, negated}
use Rattle.sat_log.specs.Clause.{Among, AreLiterals}
use Rattle.sat_log.specs.Clauses.{Satisfies, literal_value, clause_value, clauses}
use Rattle.sat_log.specs.Accepted.{hinted, given, originals, AreLines, IsLog}
use Rattle.sat_log.specs.Checking.{IsUpTo, AreUpTo}
use Rattle.sat_log.specs.declared.line.LineKind.{LineKind}
use Rattle.sat_log.specs.declared.line.LineKind.TheVariants.{Original, Conflict, Final}
use Rattle.sat_log.specs.declared.line.LogLine.{LogLine}
use Rattle.sat_log.proofs.LiteralLemmas.{All-among}
use Rattle.sat_trail.specs.Assignment.{assignment, AreTrue}
use Rattle.sat_core.specs.Assignment.{IsSolution}
use Rattle.sat_trail.specs.Trail.{Trailed, literals, top, before, AreAllSet}
use Rattle.sat_trail.specs.Units.{HasCause, IsTrail, AddsImplied, IsQuiet, AreQuiet, MissesNoUnit}
use Rattle.sat_analysis.specs.Analysis.{Analyzed}
use Rattle.sat_core.specs.Search.{KeepsSearch, AreAmong, AskedFirst}
use Rattle.sat_trail.proofs.Lists.{All-map, All-both}
use Rattle.sat_trail.proofs.Levels.{before_lower, top_most, before_trail, top_lower}
use Rattle.sat_propagation.proofs.Rules.{in_grown}
use Rattle.sat_core.proofs.Meanings.{clause_true}
use Rattle.sat_trail.specs.declared.trail.Entry.{Entry}

-- Propagation.

implied_cause : (log : List LogLine) (entries : List Entry) (l : Literal) (level : ℕ) (reason : Option ℕ) → HasCause log entries l level reason → IsSome reason → level ≡ top entries
implied_cause log entries l level None c s = absurd cc
implied_cause log entries l level (Some id) c s = c.0

implied_top : (log : List LogLine) (added old : List Entry) → IsTrail log (added ++ old) → AllByRecursion (λ e. IsSome e.reason) added → top (added ++ old) ≡ top old
implied_top log [] old t h = refl
implied_top log (e ∷ added) old t h =
    implied_cause log (added ++ old) e.literal e.level e.reason t.0.cause h.0 ∙ implied_top log added old t.1 h.1

-- what is implied opens no level
pub implied_level : (log : List LogLine) (old new : List Entry) → IsTrail log new → AddsImplied old new → top new ≡ top old
implied_level log old new t a = ap top a.same ∙ implied_top log a.added old (subst (IsTrail log) a.same t) a.implied

implied_before : (log : List LogLine) (added old : List Entry) (level : ℕ) → IsTrail log (added ++ old) → AllByRecursion (λ e. IsSome e.reason) added → level ≤ top old → before level (added ++ old) ≡ before level old
implied_before log [] old level t h most = refl
implied_before log (e ∷ added) old level t h most =
    let same = implied_top log (e ∷ added) old t h in
    ap (λ (b : Bool). cond b (e ∷ (added ++ old)) (before level (added ++ old))) (le-ltb e.level level (omega arith)) ∙ implied_before log added old level t.1 h.1 most

implied_quiet : (log : List LogLine) (added old : List Entry) → IsTrail log (added ++ old) → AllByRecursion (λ e. IsSome e.reason) added → MissesNoUnit log old → MissesNoUnit log (added ++ old)
implied_quiet log added old t h quiet level first most =
    let same = implied_top log added old t h in
    subst (λ (es : List Entry). AreQuiet (literals es) (clauses log)) (sym (implied_before log added old level t h (omega arith))) (quiet level first (omega arith))

not_both : (o : Option ℕ) → IsSome o → o ≡ None → ⊥
not_both None s e = absurd cc
not_both (Some x) s e = absurd cc

implied_asked : (want : List Literal) (added old : List Entry) → AllByRecursion (λ e. IsSome e.reason) added → AskedFirst want old → AskedFirst want (added ++ old)
implied_asked want [] old h a = a
implied_asked want (e ∷ added) old h a =
    ((λ none. absurd (not_both e.reason h.0 none)), implied_asked want added old h.1 a)

pub adds_asked : (want : List Literal) (old new : List Entry) → AddsImplied old new → AskedFirst want old → AskedFirst want new
adds_asked want old new a asked = subst (AskedFirst want) (sym a.same) (implied_asked want a.added old a.implied asked)

-- what was true still is
pub adds_true : (old new : List Entry) (c : List Literal) → AddsImplied old new → AreAmong (literals old) c → AreAmong (literals new) c
adds_true old new [] a h = tt
adds_true old new (l ∷ c) a h = (in_grown old new l a h.0, adds_true old new c a h.1)

pub keeps_implied : (log : List LogLine) (old new : Trailed) (analysis : Analyzed) → KeepsSearch log old analysis → IsTrail log new.entries → AddsImplied old.entries new.entries → new.variables ≡ old.variables → KeepsSearch log new analysis
keeps_implied log old new analysis k t a variables =
    record {
      exist = subst (λ (n : ℕ). AreUpTo n log) (sym variables) k.exist;
      trail_is = t;
      quiet = subst (MissesNoUnit log) (sym a.same) (implied_quiet log a.added old.entries (subst (IsTrail log) a.same t) a.implied k.quiet);
      clear = k.clear;
      size = subst (λ (n : ℕ). n < length analysis.seen) (sym variables) k.size;
    }

-- Back to level 0.

pub reset_top : (log : List LogLine) (entries : List Entry) → IsTrail log entries → top (before (0 + 1) entries) ≡ 0
reset_top log entries t =
    let most = top_lower 0 (before (0 + 1) entries) (before_lower log (0 + 1) entries t) in
    omega arith

pub keeps_reset : (log : List LogLine) (old new : Trailed) (analysis : Analyzed) → KeepsSearch log old analysis → new.entries ≡ before (0 + 1) old.entries → new.variables ≡ old.variables → KeepsSearch log new analysis
keeps_reset log old new analysis k same variables =
    let zero = reset_top log old.entries k.trail_is in
    let top_is : top new.entries ≡ 0 = ap top same ∙ zero in
    record {
      exist = subst (λ (n : ℕ). AreUpTo n log) (sym variables) k.exist;
      trail_is = subst (IsTrail log) (sym same) (before_trail log (0 + 1) old.entries k.trail_is);
      quiet = (λ level first most. absurd (omega arith));
      clear = k.clear;
      size = subst (λ (n : ℕ). n < length analysis.seen) (sym variables) k.size;
    }

pub decided_zero : (log : List LogLine) (entries : List Entry) (l : Literal) (level : ℕ) (reason : Option ℕ) → HasCause log entries l level reason → level ≡ 0 → reason ≡ None → ⊥
decided_zero log entries l level None c none same = absurd (omega (arith, c))
decided_zero log entries l level (Some id) c none same = absurd cc

-- entries below one of level 0 are of level 0
pub top_zero : (e : Entry) (es : List Entry) → e.level ≡ 0 → AllByRecursion (λ f. f.level ≤ e.level) es → top es ≡ 0
top_zero e [] none h = refl
top_zero e (f ∷ es) none h =
    let first = h.0 in
    omega arith

-- at level 0 nothing was decided that was not asked for
pub asked_zero : (log : List LogLine) (want : List Literal) (entries : List Entry) → IsTrail log entries → top entries ≡ 0 → AskedFirst want entries
asked_zero log want [] t none = tt
asked_zero log want (e ∷ entries) t none =
    ((λ same. absurd (decided_zero log entries e.literal e.level e.reason t.0.cause none same)), asked_zero log want entries t.1 (top_zero e entries none (top_most log (e ∷ entries) t).1))

-- A complete trail.

-- the literals of the clauses exist
abbrev Exist : ℕ → List Literal → Type 0
Exist n c = AllByRecursion (λ l. (1 ≤ l.var) × (l.var ≤ n)) c

line_exists : (n : ℕ) (c : List Literal) → AreLiterals c → IsUpTo n c → Exist n c
line_exists n [] a u = tt
line_exists n (l ∷ c) a u = ((a.0.0, u.0), line_exists n c a.1 u.1)

clauses_exist : (n : ℕ) (before_ lines : List LogLine) → AreLines before_ lines → AreUpTo n lines → AllByRecursion (Exist n) (clauses lines)
clauses_exist n before_ [] a u = tt
clauses_exist n before_ (line ∷ lines) a u =
    by_kind line.kind (line_exists n line.lits a.0.0 u.0) (clauses_exist n (before_ ++ line ∷ []) lines a.1 u.1)
  where
    by_kind : (kind : LineKind) → Exist n line.lits → AllByRecursion (Exist n) (clauses lines) → AllByRecursion (Exist n) (option_to_list (hinted kind line.lits) ++ clauses lines)
    by_kind Original here rest = (here, rest)
    by_kind Conflict here rest = (here, rest)
    by_kind Final here rest = rest

originals_among : (v : ℕ → Bool) (log : List LogLine) → Satisfies v (clauses log) → Satisfies v (originals log)
originals_among v [] s = tt
originals_among v (line ∷ log) s = by_kind line.kind s (originals_among v log)
  where
    by_kind : (kind : LineKind) → Satisfies v (option_to_list (hinted kind line.lits) ++ clauses log) → (Satisfies v (clauses log) → Satisfies v (originals log)) → Satisfies v (option_to_list (given kind line.lits) ++ originals log)
    by_kind Original s rest = (s.0, rest s.1)
    by_kind Conflict s rest = rest s.1
    by_kind Final s rest = rest s

-- a clause that is quiet where all variables are set is true
quiet_true : (n : ℕ) (set : List Literal) (v : ℕ → Bool) (c : List Literal) → AreAllSet n set → AreTrue v set → Exist n c → IsQuiet set c → clause_value v c ≡ true
quiet_true n set v c all true_ exist (inl t) =
    clause_true v c t.literal t.stands (All-among (λ l. literal_value v l ≡ true) set t.literal true_ t.is_set)
quiet_true n set v c all true_ exist (inr two) =
    let e = All-among (λ l. (1 ≤ l.var) × (l.var ≤ n)) c two.first exist two.first_stands in
    absurd (by_value (all two.first e.0 e.1))
  where
    by_value : Among set two.first ⊎ Among set (negated two.first) → ⊥
    by_value (inl m) = two.first_unset.0 m
    by_value (inr m) = two.first_unset.1 m

pub solution : (n : ℕ) (log : List LogLine) (want : List Literal) (entries : List Entry) (bits : List Bool) → IsLog log → AreUpTo n log → AreQuiet (literals entries) (clauses log) → AreAllSet n (literals entries) → AreAmong (literals entries) want → length bits ≡ n → AreTrue (assignment bits) (literals entries) → IsSolution n log want bits
solution n log want entries bits is_log up quiet all wanted size true_ =
    record {
      one_each = size;
      originals_true = originals_among (assignment bits) log (All-map (λ c. Exist n c × IsQuiet (literals entries) c) (λ c. clause_value (assignment bits) c ≡ true) (clauses log) (λ c p. quiet_true n (literals entries) (assignment bits) c all true_ p.0 p.1) (All-both (Exist n) (IsQuiet (literals entries)) (clauses log) (clauses_exist n [] log is_log.lines up) quiet));
      wanted_true = All-map (Among (literals entries)) (λ l. literal_value (assignment bits) l ≡ true) want (λ l m. All-among (λ k. literal_value (assignment bits) k ≡ true) (literals entries) l true_ m) wanted;
    }
