-- A clause is learned: what a search keeps after the jump, and once the literal that the clause asserts is true.
use Rattle.std.proofs.Common.{◌≡◌, ℕ, Bool, true, ◌+◌, ◌<◌, ◌≤◌, List, [], ◌∷◌, ◌++◌, length, get_or, refl, ap, sym, subst, ◌∙◌, arith}
use Rattle.std.specs.Prelude.{Option, Some}
use Rattle.std.proofs.lemmas.List.{length_push}
use Rattle.sat_log.specs.Literal.{Literal}
use Rattle.sat_log.specs.Clause.{IsUnset, HasDistinctVariables}
use Rattle.sat_log.specs.Accepted.{clause_at}
use Rattle.sat_log.specs.Checking.{IsUpTo, AreUpTo}
use Rattle.sat_log.specs.declared.line.LineKind.TheVariants.{Conflict}
use Rattle.sat_log.specs.declared.line.LogLine.{LogLine}
use Rattle.sat_trail.specs.Trail.{Trailed, literals, top, before}
use Rattle.sat_trail.specs.Units.{IsTrail, AddsImplied}
use Rattle.sat_trail.specs.declared.trail.Entry.{Entry}
use Rattle.sat_trail.proofs.Growth.{adds_one}
use Rattle.sat_analysis.specs.Analysis.{Analyzed, IsAnalysis, IsAsserting, IsAsserted, IsJump}
use Rattle.sat_propagation.specs.Watching.{Propagated, IsReady}
use Rattle.sat_core.specs.Attached.{KeepsAttached, WatchesTwo, ServesIf}
use Rattle.sat_core.specs.Search.{KeepsSearch, AskedFirst, HasAsserted}
use Rattle.sat_core.proofs.Learning.{jump_asserts, drawn_up_to, asked_before, keeps_learned}
use Rattle.sat_core.proofs.Steps.{keeps_implied, adds_asked}
use Rattle.sat_core.proofs.Asserted.{asserted_entry, asserted_some, asserted_unset, asserted_trail, has_asserted, learned_attached, named_last}

-- The line of the clause.
module _ (old : Trailed) (a : Analyzed) (line : LogLine) (line_is : line ≡ record { kind = Conflict; lits = a.lits; hints = a.hints }) where
  lits_are : line.lits ≡ a.lits
  lits_are = ap (λ (l : LogLine). l.lits) line_is

  pub line_asserting : IsAsserting (top old.entries) old.entries 0 a.lits → IsAsserting (top old.entries) old.entries 0 line.lits
  line_asserting h = subst (IsAsserting (top old.entries) old.entries 0) (sym lits_are) h

  pub line_some : IsAsserting (top old.entries) old.entries 0 a.lits → 0 < length line.lits
  line_some h = asserted_some (top old.entries) old.entries line.lits (line_asserting h)

  pub line_distinct : (log : List LogLine) → IsAnalysis log [] a → HasDistinctVariables line.lits
  line_distinct log state = subst HasDistinctVariables (sym lits_are) state.distinct

  pub line_up_to : (log : List LogLine) (n : ℕ) → AreUpTo n log → IsAnalysis log [] a → IsUpTo n line.lits
  line_up_to log n exist state = subst (IsUpTo n) (sym lits_are) (drawn_up_to n log a exist state)

  pub line_jump : (jump : ℕ) → IsJump old.entries a.lits jump → IsJump old.entries line.lits jump
  line_jump jump j = subst (λ (l : List Literal). IsJump old.entries l jump) (sym lits_are) j

-- the first of some literals that exist
pub first_up_to : (n : ℕ) (c : List Literal) (l : Literal) → 0 < length c → l ≡ get_or c 0 l → IsUpTo n c → l.var ≤ n
first_up_to n [] l some first up = absurd (omega (arith, some))
first_up_to n (x ∷ c) l some first up = subst (λ (k : Literal). k.var ≤ n) (sym first) up.0

-- After the jump.
module _ (log_then log : List LogLine) (old back : Trailed) (a0 a : Analyzed) (jump id : ℕ) (line : LogLine) (l : Literal)
    (k : KeepsSearch log_then old a0) (above : 1 ≤ top old.entries) (state : IsAnalysis log_then [] a) (asserting : IsAsserting (top old.entries) old.entries 0 a.lits) (size : length a.seen ≡ length a0.seen)
    (line_is : line ≡ record { kind = Conflict; lits = a.lits; hints = a.hints }) (j : IsJump old.entries a.lits jump) (first : l ≡ get_or line.lits 0 l)
    (log_is : log ≡ log_then ++ line ∷ []) (id_is : id ≡ length log) (back_is : back.entries ≡ before (jump + 1) old.entries) (variables : back.variables ≡ old.variables) where
  kept_back : KeepsSearch log back a
  kept_back =
      subst (λ (x : List LogLine). KeepsSearch x back a) (sym (log_is ∙ ap (λ (x : LogLine). log_then ++ x ∷ []) line_is))
      (keeps_learned log_then old back a0 a jump k above state asserting j size back_is variables)

  asserts : IsAsserted (literals back.entries) line.lits
  asserts =
      subst (λ (es : List Entry). IsAsserted (literals es) line.lits) (sym back_is)
      (subst (IsAsserted (literals (before (jump + 1) old.entries))) (sym (lits_are old a line line_is)) (jump_asserts log_then old.entries a.lits jump k.trail_is above asserting j))

  named : clause_at log id ≡ Some line.lits
  named =
      subst (λ (x : List LogLine). clause_at x id ≡ Some line.lits) (sym log_is)
      (subst (λ (i : ℕ). clause_at (log_then ++ line ∷ []) i ≡ Some line.lits) (sym (id_is ∙ ap length log_is ∙ length_push log_then line)) (named_last log_then line (ap (λ (x : LogLine). x.kind) line_is)))

  pub learned_unset : IsUnset (literals back.entries) l
  learned_unset = asserted_unset (literals back.entries) line.lits l first asserts

  module _ (new : Trailed) (more : new.variables ≡ back.variables) (entries : new.entries ≡ asserted_entry l back.entries id ∷ back.entries) where
    trail_is : IsTrail log new.entries
    trail_is = subst (IsTrail log) (sym entries) (asserted_trail log back.entries line.lits id l first kept_back.trail_is named asserts)

    implied : AddsImplied back.entries new.entries
    implied = subst (AddsImplied back.entries) (sym entries) (adds_one back.entries back.entries (asserted_entry l back.entries id) (record { added = []; same = refl; implied = tt }) refl)

    pub learned_keeps : KeepsSearch log new a
    learned_keeps = keeps_implied log back new a kept_back trail_is implied more

    pub learned_asserted : HasAsserted new.entries line.lits id
    learned_asserted = subst (λ (es : List Entry). HasAsserted es line.lits id) (sym entries) (has_asserted back.entries line.lits id l first asserts)

    pub learned_asked : (want : List Literal) → AskedFirst want old.entries → AskedFirst want new.entries
    learned_asked want asked = adds_asked want back.entries new.entries implied (subst (AskedFirst want) (sym back_is) (asked_before want (jump + 1) old.entries asked))

    pub learned_clauses : (p p1 q r : Propagated) (attached : ℕ) (false_clause : Option ℕ) (watcher : Option ℕ) → KeepsAttached log_then old p attached false_clause → attached ≡ length log_then → WatchesTwo p p1 line.lits watcher → q.watched ≡ p1.watched → q.lines ≡ p1.lines → (IsReady log old p1 → IsReady log back q) → (binary : Bool) → (binary ≡ true → length line.lits ≡ 2) → ServesIf q r watcher (record { id = id; binary = binary }) → KeepsAttached log new r id false_clause
    learned_clauses p p1 q r attached false_clause watcher ka whole watches watched lines ready binary short serves =
        learned_attached log log_then old back new p p1 q r attached jump id false_clause line l watcher ka whole k.trail_is
        (line_asserting old a line line_is asserting) (line_jump old a line line_is jump j) (line_distinct old a line line_is log_then state) (ap (λ (x : LogLine). x.kind) line_is) first
        watches log_is id_is back_is watched lines ready more entries trail_is binary short serves
