-- A trail with an entry more, and over a log with a line more.
use Rattle.std.proofs.Common.{◌≡◌, ◌≢◌, ℕ, ◌+◌, ◌≤◌, Bool, true, false, inr, List, [], ◌∷◌, ◌++◌, length, refl, ap, sym, ◌∙◌, append_assoc, arith, zero, suc, ◌-◌, cond, eqb}
use Rattle.std.specs.Prelude.{Option, None, Some, IsSome, slice_get}
use Rattle.std.proofs.lemmas.List.{length-append}
use Rattle.std.specs.List.{AllByRecursion}
use Rattle.sat_log.specs.Literal.{Literal}
use Rattle.sat_log.specs.Clause.{IsUnset}
use Rattle.sat_log.specs.Accepted.{clause_at, hinted}
use Rattle.sat_log.specs.declared.line.LogLine.{LogLine}
use Rattle.sat_log.proofs.ListLemmas.{All-append}
use Rattle.sat_trail.specs.Trail.{literals, top}
use Rattle.sat_trail.specs.Units.{IsReason, IsTrail, AddsImplied, HasCause}
use Rattle.sat_trail.proofs.Literals.{unset_apart}
use Rattle.sat_trail.specs.declared.trail.Entry.{Entry}
use Rattle.std.specs.Option.{option_and_then}

pub entries_apart : (entries : List Entry) (l : Literal) → IsUnset (literals entries) l → AllByRecursion (λ f. f.literal.var ≢ l.var) entries
entries_apart [] l u = tt
entries_apart (e ∷ entries) l u =
    ((unset_apart (e.literal ∷ literals entries) l u).0, entries_apart entries l ((λ m. u.0 (inr m)), (λ m. u.1 (inr m))))

-- an implied literal may follow
pub implied_follows : (log : List LogLine) (entries : List Entry) (id : ℕ) (l : Literal) → IsTrail log entries → IsUnset (literals entries) l → IsReason log (literals entries) id l → IsTrail log (record { literal = l; level = top entries; reason = Some id } ∷ entries)
implied_follows log entries id l t u r =
    (record { fresh = entries_apart entries l u; cause = (refl, r) }, t)

pub adds_one : (old new : List Entry) (e : Entry) → AddsImplied old new → IsSome e.reason → AddsImplied old (e ∷ new)
adds_one old new e a h =
    record { added = e ∷ a.added; same = ap (λ (es : List Entry). e ∷ es) a.same; implied = (h, a.implied) }

-- the trail is longer
pub adds_longer : (old new : List Entry) → AddsImplied old new → length old ≤ length new
adds_longer old new a = omega (arith, ap length a.same, length-append a.added old)

-- two pieces of a trail's growth
pub adds_twice : (old mid new : List Entry) → AddsImplied old mid → AddsImplied mid new → AddsImplied old new
adds_twice old mid new a b =
    record {
      added = b.added ++ a.added;
      same = b.same ∙ ap (λ (es : List Entry). b.added ++ es) a.same ∙ sym (append_assoc b.added a.added old);
      implied = All-append (λ (e : Entry). IsSome e.reason) b.added a.added b.implied a.implied;
    }

line_stays : (log : List LogLine) (line : LogLine) (i : ℕ) (c : List Literal) → option_and_then (λ (l : LogLine). hinted l.kind l.lits) (slice_get log i) ≡ Some c → option_and_then (λ (l : LogLine). hinted l.kind l.lits) (slice_get (log ++ line ∷ []) i) ≡ Some c
line_stays [] line i c e = absurd cc
line_stays (x ∷ log) line zero c e = e
line_stays (x ∷ log) line (suc i) c e = line_stays log line i c e

pub clause_stays : (log : List LogLine) (line : LogLine) (id : ℕ) (c : List Literal) → clause_at log id ≡ Some c → clause_at (log ++ line ∷ []) id ≡ Some c
clause_stays log line id c e = by_zero (eqb id 0) e
  where
    by_zero : (b : Bool) → option_and_then (λ (l : LogLine). hinted l.kind l.lits) (cond b None (slice_get log (id - 1))) ≡ Some c → option_and_then (λ (l : LogLine). hinted l.kind l.lits) (cond b None (slice_get (log ++ line ∷ []) (id - 1))) ≡ Some c
    by_zero true e = e
    by_zero false e = line_stays log line (id - 1) c e

cause_stays : (log : List LogLine) (line : LogLine) (entries : List Entry) (l : Literal) (level : ℕ) (reason : Option ℕ) → HasCause log entries l level reason → HasCause (log ++ line ∷ []) entries l level reason
cause_stays log line entries l level None c = c
cause_stays log line entries l level (Some id) c =
    (c.0, record { clause = c.1.clause; named = clause_stays log line id c.1.clause c.1.named; implies = c.1.implies })

pub trail_stays : (log : List LogLine) (line : LogLine) (entries : List Entry) → IsTrail log entries → IsTrail (log ++ line ∷ []) entries
trail_stays log line [] t = tt
trail_stays log line (e ∷ entries) t =
    (record { fresh = t.0.fresh; cause = cause_stays log line entries e.literal e.level e.reason t.0.cause }, trail_stays log line entries t.1)

pub decision_follows : (log : List LogLine) (entries : List Entry) (l : Literal) → IsTrail log entries → IsUnset (literals entries) l → IsTrail log (record { literal = l; level = top entries + 1; reason = None } ∷ entries)
decision_follows log entries l t u = (record { fresh = entries_apart entries l u; cause = refl }, t)
