-- What lines of the log mean: learned ones are few, and a final one refutes.
use Rattle.std.proofs.Common.{◌≡◌, ℕ, Bool, true, false, not, cond, inl, inr, List, [], ◌∷◌, ◌++◌, refl, ap, ◌∙◌}
use Rattle.std.specs.List.{list_any}
use Rattle.std.proofs.lemmas.Bool.{false≢true, or_from, or_left, or_right}
use Rattle.sat_log.specs.Literal.{Literal, negated}
use Rattle.sat_log.specs.Clause.{Among}
use Rattle.sat_log.specs.Clauses.{literal_value, clause_value, clauses}
use Rattle.sat_log.specs.Learned.{IsNeeded, IsFresh, IsFreshOfKind, AllFresh}
use Rattle.sat_log.specs.declared.line.LineKind.{LineKind}
use Rattle.sat_log.specs.declared.line.LineKind.TheVariants.{Original, Conflict, Final}
use Rattle.sat_log.specs.declared.line.LogLine.{LogLine}
use Rattle.sat_log.proofs.LiteralLemmas.{All-among}
use Rattle.sat_trail.specs.Assignment.{AreTrue}
use Rattle.sat_core.specs.Gained.{AreLearned}
use Rattle.sat_analysis.specs.Analysis.{AreNegationsOf}

-- learned lines are fresh
pub all_fresh : ((before : List (List Literal)) (c : List Literal) → IsNeeded before c → IsFresh before c) → (before lines : List LogLine) → AreLearned before lines → AllFresh before lines
all_fresh law before [] h = tt
all_fresh law before (line ∷ lines) h =
    (fresh_of line.kind h.0.needed, all_fresh law (before ++ line ∷ []) lines h.1)
  where
    fresh_of : (kind : LineKind) → (kind ≡ Conflict → IsNeeded (clauses before) line.lits) → IsFreshOfKind kind before line.lits
    fresh_of Original needed = tt
    fresh_of Conflict needed = law (clauses before) line.lits (needed refl)
    fresh_of Final needed = tt

not_swap : (a b : Bool) → not a ≡ true → a ≡ false
not_swap true b e = absurd (false≢true e)
not_swap false b e = refl

-- a literal is false where its negation is true
pub negation_false : (v : ℕ → Bool) (l : Literal) → literal_value v (negated l) ≡ true → literal_value v l ≡ false
negation_false v l e = by_sign l.negative e
  where
    by_sign : (s : Bool) → cond (not s) (not (v l.var)) (v l.var) ≡ true → cond s (not (v l.var)) (v l.var) ≡ false
    by_sign true e = ap not e
    by_sign false e = not_swap (v l.var) true e

pub negations_false : (v : ℕ → Bool) (want lits : List Literal) → AreNegationsOf want lits → AreTrue v want → clause_value v lits ≡ false
negations_false v want [] n t = refl
negations_false v want (l ∷ lits) n t =
    or_from (literal_value v l) (list_any (literal_value v) lits) (negation_false v l (All-among (λ k. literal_value v k ≡ true) want (negated l) t n.0)) (negations_false v want lits n.1 t)

-- a clause with a true literal is true
pub clause_true : (v : ℕ → Bool) (c : List Literal) (l : Literal) → Among c l → literal_value v l ≡ true → clause_value v c ≡ true
clause_true v [] l m e = absurd m
clause_true v (x ∷ c) l (inl same) e =
    or_left (literal_value v x) (list_any (literal_value v) c) (ap (literal_value v) same ∙ e)
clause_true v (x ∷ c) l (inr m) e = or_right (literal_value v x) (list_any (literal_value v) c) (clause_true v c l m e)
