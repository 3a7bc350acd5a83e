-- Clauses of a log by their ids, and one line more.
use Rattle.std.proofs.Common.{◌≡◌, ℕ, zero, suc, ◌+◌, ◌-◌, ◌<◌, Bool, true, false, cond, eqb, List, [], ◌∷◌, ◌++◌, length, take, get_or, refl, ap, sym, subst, ◌∙◌, append_assoc, arith}
use Rattle.std.specs.Prelude.{Option, None, Some, option_to_list, slice_get}
use Rattle.std.specs.Option.{option_and_then}
use Rattle.std.specs.List.{AllByRecursion}
use Rattle.std.proofs.lemmas.Bool.{ne_eqb}
use Rattle.std.proofs.lemmas.List.{take_more}
use Rattle.std.proofs.lemmas.Option.{slice_get-get_or}
use Rattle.sat_log.specs.Literal.{Literal}
use Rattle.sat_log.specs.Clause.{HasDistinctVariables}
use Rattle.sat_log.specs.Accepted.{hinted, clause_at, IsOfKind, AreLines, IsLog}
use Rattle.sat_log.specs.Clauses.{clauses}
use Rattle.sat_log.specs.Checking.{IsUpTo, AreUpTo}
use Rattle.sat_log.specs.declared.line.LineKind.{LineKind}
use Rattle.sat_log.specs.declared.line.LineKind.TheVariants.{Original, Conflict, Final}
use Rattle.sat_log.specs.declared.line.LogLine.{LogLine}

hinted_lits : (kind : LineKind) (lits c : List Literal) → hinted kind lits ≡ Some c → lits ≡ c
hinted_lits Original lits c e = cc
hinted_lits Conflict lits c e = cc
hinted_lits Final lits c e = absurd cc

-- what holds of the literals of each line holds of each clause that an id names
All-line : (P : List Literal → Type 0) (log : List LogLine) (i : ℕ) (c : List Literal) → AllByRecursion (λ line. P line.lits) log → option_and_then (λ (l : LogLine). hinted l.kind l.lits) (slice_get log i) ≡ Some c → P c
All-line P [] i c h e = absurd cc
All-line P (line ∷ log) zero c h e = subst P (hinted_lits line.kind line.lits c e) h.0
All-line P (line ∷ log) (suc i) c h e = All-line P log i c h.1 e

pub All-named : (P : List Literal → Type 0) (log : List LogLine) (id : ℕ) (c : List Literal) → AllByRecursion (λ line. P line.lits) log → clause_at log id ≡ Some c → P c
All-named P log id c h e = by_zero (eqb id 0) e
  where
    by_zero : (b : Bool) → option_and_then (λ (l : LogLine). hinted l.kind l.lits) (cond b None (slice_get log (id - 1))) ≡ Some c → P c
    by_zero true e = absurd cc
    by_zero false e = All-line P log (id - 1) c h e

kind_distinct : (kind : LineKind) (log : List LogLine) (line : LogLine) → IsOfKind kind log line → HasDistinctVariables line.lits
kind_distinct Original log line h = h.distinct
kind_distinct Conflict log line h = h.distinct
kind_distinct Final log line h = h.distinct

lines_distinct : (before lines : List LogLine) → AreLines before lines → AllByRecursion (λ line. HasDistinctVariables line.lits) lines
lines_distinct before [] h = tt
lines_distinct before (line ∷ lines) h =
    (kind_distinct line.kind before line h.0.1, lines_distinct (before ++ line ∷ []) lines h.1)

-- the variables of a clause of a log are distinct
pub named_distinct : (log : List LogLine) (id : ℕ) (c : List Literal) → IsLog log → clause_at log id ≡ Some c → HasDistinctVariables c
named_distinct log id c h e = All-named HasDistinctVariables log id c (lines_distinct [] log h.lines) e

-- and they exist
pub named_up_to : (n : ℕ) (log : List LogLine) (id : ℕ) (c : List Literal) → AreUpTo n log → clause_at log id ≡ Some c → IsUpTo n c
named_up_to n log id c h e = All-named (IsUpTo n) log id c h e

-- What holds of each of the clauses holds of one that an id names.

All-kept : (P : List Literal → Type 0) (kind : LineKind) (lits c : List Literal) (rest : List (List Literal)) → AllByRecursion P (option_to_list (hinted kind lits) ++ rest) → hinted kind lits ≡ Some c → P c
All-kept P Original lits c rest h e = subst P (hinted_lits Original lits c e) h.0
All-kept P Conflict lits c rest h e = subst P (hinted_lits Conflict lits c e) h.0
All-kept P Final lits c rest h e = absurd cc

All-rest : (P : List Literal → Type 0) (o : Option (List Literal)) (rest : List (List Literal)) → AllByRecursion P (option_to_list o ++ rest) → AllByRecursion P rest
All-rest P None rest h = h
All-rest P (Some c) rest h = h.1

clause_at_line : (P : List Literal → Type 0) (log : List LogLine) (i : ℕ) (c : List Literal) → AllByRecursion P (clauses log) → option_and_then (λ (l : LogLine). hinted l.kind l.lits) (slice_get log i) ≡ Some c → P c
clause_at_line P [] i c h e = absurd cc
clause_at_line P (line ∷ log) zero c h e = All-kept P line.kind line.lits c (clauses log) h e
clause_at_line P (line ∷ log) (suc i) c h e =
    clause_at_line P log i c (All-rest P (hinted line.kind line.lits) (clauses log) h) e

pub All-clause : (P : List Literal → Type 0) (log : List LogLine) (id : ℕ) (c : List Literal) → AllByRecursion P (clauses log) → clause_at log id ≡ Some c → P c
All-clause P log id c h e = by_zero (eqb id 0) e
  where
    by_zero : (b : Bool) → option_and_then (λ (l : LogLine). hinted l.kind l.lits) (cond b None (slice_get log (id - 1))) ≡ Some c → P c
    by_zero true e = absurd cc
    by_zero false e = clause_at_line P log (id - 1) c h e

-- One line more.

pub clauses_push : (log : List LogLine) (line : LogLine) → clauses (log ++ line ∷ []) ≡ clauses log ++ option_to_list (hinted line.kind line.lits)
clauses_push [] line = by_clause (hinted line.kind line.lits)
  where
    by_clause : (o : Option (List Literal)) → option_to_list o ++ [] ≡ option_to_list o
    by_clause None = refl
    by_clause (Some c) = refl
clauses_push (x ∷ log) line =
    ap (λ (cs : List (List Literal)). option_to_list (hinted x.kind x.lits) ++ cs) (clauses_push log line) ∙ sym (append_assoc (option_to_list (hinted x.kind x.lits)) (clauses log) (option_to_list (hinted line.kind line.lits)))

named_next : (log : List LogLine) (i : ℕ) → clause_at log (i + 1) ≡ option_and_then (λ (l : LogLine). hinted l.kind l.lits) (slice_get log i)
named_next log i =
    let same : i + 1 - 1 ≡ i = omega arith in
    ap (λ (b : Bool). option_and_then (λ (l : LogLine). hinted l.kind l.lits) (cond b None (slice_get log (i + 1 - 1)))) (ne_eqb (i + 1) 0 (λ e. absurd (omega arith))) ∙ ap (λ (k : ℕ). option_and_then (λ (l : LogLine). hinted l.kind l.lits) (slice_get log k)) same

-- the clauses of the first lines, with the next one
pub clauses_more : (log : List LogLine) (i : ℕ) → i < length log → clauses (take (i + 1) log) ≡ clauses (take i log) ++ option_to_list (clause_at log (i + 1))
clauses_more log i h =
    let none : LogLine = record { kind = Final; lits = []; hints = [] } in
    let line : LogLine = get_or log i none in
    let named : clause_at log (i + 1) ≡ hinted line.kind line.lits = named_next log i ∙ ap (option_and_then (λ (l : LogLine). hinted l.kind l.lits)) (slice_get-get_or log i none h) in
    ap clauses (take_more log i none h) ∙ clauses_push (take i log) line ∙ ap (λ o. clauses (take i log) ++ option_to_list o) (sym named)
