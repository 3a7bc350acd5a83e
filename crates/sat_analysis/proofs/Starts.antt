-- Where conflict analysis starts.
use Rattle.std.proofs.Common.{◌≡◌, ◌≢◌, ℕ, ◌+◌, ◌-◌, ◌≤◌, Bool, ◌⊎◌, inl, inr, List, [], ◌∷◌, length, take, drop, ap, sym, subst, arith}
use Rattle.std.proofs.lemmas.List.{take-append-drop}
use Rattle.std.proofs.lemmas.Bool.{cases_eq}
use Rattle.std.specs.List.{AllByRecursion}
use Rattle.sat_log.specs.Literal.{Literal, negated}
use Rattle.sat_log.specs.Packing.{packed}
use Rattle.sat_log.specs.Clause.{Among, HasDistinctVariables}
use Rattle.sat_log.specs.Clauses.{clauses}
use Rattle.sat_log.specs.declared.line.LogLine.{LogLine}
use Rattle.sat_log.proofs.LiteralLemmas.{All-among, packed_injective}
use Rattle.sat_trail.specs.Trail.{literals, top, before, bottom}
use Rattle.sat_trail.specs.Units.{IsTrail, IsReason, IsConflict, IsQuiet, AreQuiet}
use Rattle.sat_analysis.specs.Analysis.{IsUnmarked, marked_at, MarksOthers, AreFalseIn, IsAnalysis}
use Rattle.sat_trail.proofs.Logs.{All-clause}
use Rattle.sat_trail.proofs.Trails.{consistent}
use Rattle.sat_analysis.proofs.Walks.{start}
use Rattle.sat_trail.proofs.Lists.{All-map}
use Rattle.sat_trail.proofs.Levels.{trail_distinct, trail_back}
use Rattle.sat_analysis.proofs.Asserting.{conflict_marks}
use Rattle.sat_trail.specs.declared.trail.Entry.{Entry}

pub bottom_whole : (entries : List Entry) → bottom (length entries) entries ≡ entries
bottom_whole entries =
    let none : length entries - length entries ≡ 0 = omega arith in
    ap (λ (n : ℕ). drop n entries) none

no_lits : (entries : List Entry) → AllByRecursion (λ e. AllByRecursion {X = Literal} (λ l. l.var ≢ e.literal.var) []) entries
no_lits [] = tt
no_lits (e ∷ entries) = (tt, no_lits entries)

module _ (log : List LogLine) (entries : List Entry) (id : ℕ) (t : IsTrail log entries) (conflict : IsConflict log (literals entries) id) where
  -- no literal of the conflict is true
  pub conflict_others : (k : Literal) → Among conflict.clause k → ¬ Among (literals entries) k
  conflict_others k m true_ =
      consistent (literals entries) (trail_distinct log entries t) k true_ (All-among (λ l. Among (literals entries) (negated l)) conflict.clause k conflict.falsified m)

  pub conflict_false_in : AreFalseIn (literals entries) conflict.clause (literals entries)
  conflict_false_in l m other = All-among (λ l. Among (literals entries) (negated l)) conflict.clause l conflict.falsified m

  pub conflict_starts : (old seen : List Bool) → IsUnmarked old → MarksOthers (literals entries) conflict.clause old seen → length entries + 1 ≤ length seen → IsAnalysis log entries (record { seen = seen; lits = []; hints = id ∷ [] })
  conflict_starts old seen clear marks fits =
      start log entries (literals entries) conflict.clause id old seen [] conflict.named (trail_distinct log entries t) clear marks conflict_false_in (λ k m. inl (conflict_others k m)) tt (no_lits entries) tt (omega arith) (omega arith)

  -- one of its literals is of the latest level
  pub conflict_counts : (old seen : List Bool) → MarksOthers (literals entries) conflict.clause old seen → AreQuiet (literals (before (top entries) entries)) (clauses log) → 1 ≤ marked_at (top entries) seen entries
  conflict_counts old seen marks quiet =
      conflict_marks log seen entries conflict.clause t conflict.falsified (All-clause (IsQuiet (literals (before (top entries) entries))) log id conflict.clause quiet conflict.named) (λ l m. marks.all l m (conflict_others l m))

-- Analysis from a literal that is true, by the clause that implied it.
module _ (log : List LogLine) (entries rest : List Entry) (id : ℕ) (l : Literal) (t : IsTrail log entries) (r : IsReason log (literals rest) id l) (inside : (k : Literal) → Among (literals rest) k → Among (literals entries) k) (true_ : Among (literals entries) l) where
  pub implied_false_in : AreFalseIn (literals entries) r.clause (literals rest)
  implied_false_in k stands other =
      r.implies.others_false k stands (λ same. other (subst (Among (literals entries)) (sym same) true_))

  kept_or_false : (k : Literal) → Among r.clause k → (¬ Among (literals entries) k) ⊎ Among (l ∷ []) k
  kept_or_false k m = by_number (cases_eq (packed k) (packed l))
    where
      by_number : (packed k ≡ packed l) ⊎ (packed k ≡ packed l → ⊥) → (¬ Among (literals entries) k) ⊎ Among (l ∷ []) k
      by_number (inl same) = inr (inl (sym (packed_injective k l same)))
      by_number (inr ne) =
          inl (λ n. consistent (literals entries) (trail_distinct log entries t) k n (inside (negated k) (r.implies.others_false k m (λ same. ne (ap packed same)))))

  pub implied_starts : (old seen : List Bool) → IsUnmarked old → MarksOthers (literals entries) r.clause old seen → HasDistinctVariables (literals rest) → AllByRecursion (λ e. e.literal.var ≢ l.var) rest → length rest + 1 ≤ length seen → IsAnalysis log rest (record { seen = seen; lits = l ∷ []; hints = id ∷ [] })
  implied_starts old seen clear marks distinct apart fits =
      start log rest (literals entries) r.clause id old seen (l ∷ []) r.named distinct clear marks implied_false_in kept_or_false (tt, tt) (All-map (λ e. e.literal.var ≢ l.var) (λ e. AllByRecursion (λ k. k.var ≢ e.literal.var) (l ∷ [])) rest (λ e ne. ((λ v. ne (sym v)), tt)) apart) (r.implies.stands, tt) (omega arith) (omega arith)

pub bottom_distinct : (log : List LogLine) (i : ℕ) (entries : List Entry) → IsTrail log entries → HasDistinctVariables (literals (bottom i entries))
bottom_distinct log i entries t =
    trail_distinct log (bottom i entries) (trail_back log (take (length entries - i) entries) (bottom i entries) (subst (IsTrail log) (sym (take-append-drop (length entries - i) entries)) t))
