-- An accepted line is true in every assignment that satisfies the originals.
use Rattle.std.proofs.Common.{◌≡◌, ℕ, zero, suc, Bool, true, false, not, cond, ◌||◌, List, [], ◌∷◌, ◌++◌, map, IsTrue, refl, ap, sym, ◌∙◌, append_assoc}
use Rattle.std.specs.Prelude.{Option, Some, None, slice_get, option_to_list}
use Rattle.std.specs.Option.{option_and_then}
use Rattle.std.specs.List.{AllByRecursion}
use Rattle.std.proofs.lemmas.List.Folds.{list_any-append}
use Rattle.std.proofs.lemmas.List.{append-nil}
use Rattle.std.proofs.lemmas.Bool.{false≢true}
use Rattle.sat_log.specs.Literal.{Literal, negated}
use Rattle.sat_log.specs.Clause.{IsFalsified, IsUnit}
use Rattle.sat_log.specs.Clauses.{literal_value, clause_value, Satisfies, clauses}
use Rattle.sat_log.specs.Accepted.{hinted, given, clause_at, Refutes, Accepts, IsOfKind, AreLines, IsLog, originals}
use Rattle.sat_log.proofs.LiteralLemmas.{All-among, negated_value, Satisfies-append}
use Rattle.sat_log.specs.declared.line.LineKind.{LineKind}
use Rattle.sat_log.specs.declared.line.LineKind.TheVariants.{Original, Conflict, Final}
use Rattle.sat_log.specs.declared.line.LogLine.{LogLine}

-- every literal that is set is true
abbrev AllTrue : (ℕ → Bool) → List Literal → Type 0
AllTrue v set = AllByRecursion (λ l. literal_value v l ≡ true) set

from_not : (b : Bool) → not b ≡ true → b ≡ false
from_not true h = sym h
from_not false h = refl

to_not : (b : Bool) → b ≡ false → not b ≡ true
to_not true h = sym h
to_not false h = refl

falsified_value : (v : ℕ → Bool) (set c : List Literal) → AllTrue v set → IsFalsified set c → clause_value v c ≡ false
falsified_value v set [] h f = refl
falsified_value v set (l ∷ c) h f =
    let e : literal_value v l ≡ false = from_not _ (sym (negated_value v l) ∙ All-among (λ k. literal_value v k ≡ true) set (negated l) h f.0) in
    rw e (falsified_value v set c h f.1)

or_false : (a b : Bool) → a ≡ false → a || b ≡ true → b ≡ true
or_false true b e h = absurd (false≢true (sym e))
or_false false b e h = h

or_left : (a b : Bool) → b ≡ false → a || b ≡ true → a ≡ true
or_left true b e h = refl
or_left false b e h = absurd (false≢true (sym e ∙ h))

unit_value : (v : ℕ → Bool) (set c : List Literal) (u : Literal) → AllTrue v set → IsUnit set c u → clause_value v c ≡ true → literal_value v u ≡ true
unit_value v set c u h (front, back, e, before, unset, after) t =
    let whole : clause_value v front || clause_value v (u ∷ back) ≡ true = sym (list_any-append (literal_value v) front (u ∷ back)) ∙ (sym (ap (clause_value v) e) ∙ t) in
    or_left _ _ (falsified_value v set back h after) (or_false _ _ (falsified_value v set front h before) whole)

AllTrue-push : (v : ℕ → Bool) (set : List Literal) (u : Literal) → AllTrue v set → literal_value v u ≡ true → AllTrue v (set ++ u ∷ [])
AllTrue-push v [] u h e = (e, tt)
AllTrue-push v (x ∷ set) u h e = (h.0, AllTrue-push v set u h.1 e)

-- the hints cannot refute what is true
refutes_nothing : (v : ℕ → Bool) (log : List LogLine) (set : List Literal) (hints : List ℕ) → ((id : ℕ) (c : List Literal) → clause_at log id ≡ Some c → clause_value v c ≡ true) → AllTrue v set → Refutes log set hints → ⊥
refutes_nothing v log set [] holds h r = r
refutes_nothing v log set (id ∷ []) holds h (c, e, f) =
    false≢true (sym (falsified_value v set c h f) ∙ holds id c e)
refutes_nothing v log set (id ∷ next ∷ ids) holds h (c, u, e, unit, r) =
    refutes_nothing v log (set ++ u ∷ []) (next ∷ ids) holds (AllTrue-push v set u h (unit_value v set c u h unit (holds id c e))) r

no_or : (a b : Bool) → a || b ≡ false → (a ≡ false) × (b ≡ false)
no_or true b h = absurd (false≢true (sym h))
no_or false b h = (refl, h)

negations_true : (v : ℕ → Bool) (c : List Literal) → clause_value v c ≡ false → AllTrue v (map negated c)
negations_true v [] h = tt
negations_true v (l ∷ c) h =
    let both = no_or (literal_value v l) (clause_value v c) h in
    (negated_value v l ∙ to_not _ both.0, negations_true v c both.1)

-- A clause of an optional one and of others.

first_satisfied : (v : ℕ → Bool) (o : Option (List Literal)) (cs : List (List Literal)) (c : List Literal) → o ≡ Some c → Satisfies v (option_to_list o ++ cs) → clause_value v c ≡ true
first_satisfied v None cs c e h = cc
first_satisfied v (Some d) cs c e h = let same : d ≡ c = cc in rw (← same) h.0

others_satisfied : (v : ℕ → Bool) (o : Option (List Literal)) (cs : List (List Literal)) → Satisfies v (option_to_list o ++ cs) → Satisfies v cs
others_satisfied v None cs h = h
others_satisfied v (Some d) cs h = h.1

both_satisfied : (v : ℕ → Bool) (o : Option (List Literal)) (cs : List (List Literal)) → Satisfies v (option_to_list o) → Satisfies v cs → Satisfies v (option_to_list o ++ cs)
both_satisfied v None cs h hs = hs
both_satisfied v (Some d) cs h hs = (h.0, hs)

first_of_both : (v : ℕ → Bool) (o : Option (List Literal)) (cs : List (List Literal)) → Satisfies v (option_to_list o ++ cs) → Satisfies v (option_to_list o)
first_of_both v None cs h = tt
first_of_both v (Some d) cs h = (h.0, tt)

pub clauses-append : (log lines : List LogLine) → clauses (log ++ lines) ≡ clauses log ++ clauses lines
clauses-append [] lines = refl
clauses-append (line ∷ log) lines =
    ap (λ cs. option_to_list (hinted line.kind line.lits) ++ cs) (clauses-append log lines) ∙ sym (append_assoc (option_to_list (hinted line.kind line.lits)) (clauses log) (clauses lines))

-- A clause that a hint names.

satisfied_at : (v : ℕ → Bool) (log : List LogLine) (k : ℕ) (c : List Literal) → Satisfies v (clauses log) → option_and_then (λ line. hinted line.kind line.lits) (slice_get log k) ≡ Some c → clause_value v c ≡ true
satisfied_at v [] k c h e = cc
satisfied_at v (line ∷ log) zero c h e = first_satisfied v (hinted line.kind line.lits) (clauses log) c e h
satisfied_at v (line ∷ log) (suc k) c h e =
    satisfied_at v log k c (others_satisfied v (hinted line.kind line.lits) (clauses log) h) e

satisfied_unless : (v : ℕ → Bool) (log : List LogLine) (zeroth : Bool) (k : ℕ) (c : List Literal) → Satisfies v (clauses log) → option_and_then (λ line. hinted line.kind line.lits) (cond zeroth None (slice_get log k)) ≡ Some c → clause_value v c ≡ true
satisfied_unless v log true k c h e = cc
satisfied_unless v log false k c h e = satisfied_at v log k c h e

-- an accepted line is true where the clauses of the log are
accepted_true : (v : ℕ → Bool) (log : List LogLine) (line : LogLine) → Satisfies v (clauses log) → Accepts log line → clause_value v line.lits ≡ true
accepted_true v log line h a = by_value v log line h a (clause_value v line.lits) refl
  where
    by_value : (v : ℕ → Bool) (log : List LogLine) (line : LogLine) → Satisfies v (clauses log) → Accepts log line → (b : Bool) → clause_value v line.lits ≡ b → clause_value v line.lits ≡ true
    by_value v log line h a true e = e
    by_value v log line h a false e =
        absurd (refutes_nothing v log (map negated line.lits) line.hints (λ id c named. satisfied_unless v log _ _ c h named) (negations_true v line.lits e) a.refuted)

line_true : (v : ℕ → Bool) (log : List LogLine) (line : LogLine) (kind : LineKind) → Satisfies v (clauses log) → IsOfKind kind log line → Satisfies v (option_to_list (given kind line.lits)) → Satisfies v (option_to_list (hinted kind line.lits))
line_true v log line Original h k o = o
line_true v log line Conflict h k o = (accepted_true v log line h k, tt)
line_true v log line Final h k o = tt

lines_true : (v : ℕ → Bool) (before lines : List LogLine) → AreLines before lines → Satisfies v (clauses before) → Satisfies v (originals lines) → Satisfies v (clauses lines)
lines_true v before [] h b o = tt
lines_true v before (line ∷ lines) (follows, more) b o =
    let here : Satisfies v (option_to_list (hinted line.kind line.lits)) = line_true v before line line.kind b follows.1 (first_of_both v (given line.kind line.lits) (originals lines) o) in
    let longer : Satisfies v (clauses (before ++ line ∷ [])) = rw (clauses-append before (line ∷ []), append-nil) (Satisfies-append v (clauses before) (option_to_list (hinted line.kind line.lits)) b here) in
    both_satisfied v (hinted line.kind line.lits) (clauses lines) here (lines_true v (before ++ line ∷ []) lines more longer (others_satisfied v (given line.kind line.lits) (originals lines) o))

pub log_true : (v : ℕ → Bool) (log : List LogLine) → IsLog log → Satisfies v (originals log) → Satisfies v (clauses log)
log_true v log h o = lines_true v [] log h.lines tt o

pub next_true : (v : ℕ → Bool) (log : List LogLine) (line : LogLine) → IsLog log → Accepts log line → Satisfies v (originals log) → IsTrue (clause_value v line.lits)
next_true v log line h a o = accepted_true v log line (log_true v log h o) a
