-- What a search keeps, through a decision, a new variable and a new line of the log.
use Rattle.std.proofs.Common.{◌≡◌, ℕ, ◌+◌, ◌<◌, ◌≤◌, Bool, cond, ◌⊎◌, inl, inr, List, [], ◌∷◌, ◌++◌, length, map, refl, ap, sym, subst, ◌∙◌, append_assoc, arith}
use Rattle.std.specs.Prelude.{None, Result, Ok, Err, OnOk, OnErr}
use Rattle.std.specs.List.{AllByRecursion}
use Rattle.std.proofs.lemmas.List.{append-nil}
use Rattle.std.proofs.lemmas.Bool.{cases_lt, le-ltb}
use Rattle.sat_log.specs.Literal.{Literal}
use Rattle.sat_log.specs.Clause.{IsUnset}
use Rattle.sat_log.specs.Clauses.{clauses}
use Rattle.sat_log.specs.Checking.{IsUpTo, AreUpTo}
use Rattle.sat_log.specs.Lines.{original}
use Rattle.sat_log.specs.declared.line.LogLine.{LogLine}
use Rattle.sat_log.proofs.ListLemmas.{All-append}
use Rattle.sat_trail.specs.Trail.{Trailed, literals, top, before}
use Rattle.sat_trail.specs.Units.{IsTrail, AreQuiet, MissesNoUnit}
use Rattle.sat_analysis.specs.Analysis.{Analyzed, IsUnmarked}
use Rattle.sat_core.specs.Search.{KeepsSearch}
use Rattle.sat_log.proofs.LogLemmas.{all_up_to_more}
use Rattle.sat_trail.proofs.Trails.{before_all}
use Rattle.sat_trail.proofs.Growth.{trail_stays, decision_follows}
use Rattle.sat_trail.specs.declared.trail.Entry.{Entry}

-- One line more in the log.

-- a call that adds a line, or none
pub by_result : {A E : Type 0} (P : List LogLine → Type 0) (r : Result A E) (old new : List LogLine) (line : LogLine) → OnOk r (new ≡ old ++ line ∷ []) → OnErr r (new ≡ old) → P old → P (old ++ line ∷ []) → P new
by_result P (Ok x) old new line ok err p q = subst P (sym ok) q
by_result P (Err x) old new line ok err p q = subst P (sym err) p

-- an original clause at level 0
pub keeps_original : (log : List LogLine) (trail : Trailed) (analysis : Analyzed) (line : LogLine) → KeepsSearch log trail analysis → top trail.entries ≡ 0 → IsUpTo trail.variables line.lits → KeepsSearch (log ++ line ∷ []) trail analysis
keeps_original log trail analysis line k none up =
    record {
      exist = All-append (λ x. IsUpTo trail.variables x.lits) log (line ∷ []) k.exist (up, tt);
      trail_is = trail_stays log line trail.entries k.trail_is;
      quiet = (λ level first most. absurd (omega arith));
      clear = k.clear;
      size = k.size;
    }

-- original clauses at level 0
pub keeps_originals : (log : List LogLine) (trail : Trailed) (analysis : Analyzed) (cs : List (List Literal)) → KeepsSearch log trail analysis → top trail.entries ≡ 0 → AllByRecursion (IsUpTo trail.variables) cs → KeepsSearch (log ++ map original cs) trail analysis
keeps_originals log trail analysis [] k none up = subst (λ lines. KeepsSearch lines trail analysis) (sym (append-nil log)) k
keeps_originals log trail analysis (c ∷ cs) k none up =
    subst (λ lines. KeepsSearch lines trail analysis) (append_assoc log (original c ∷ []) (map original cs))
    (keeps_originals (log ++ original c ∷ []) trail analysis cs (keeps_original log trail analysis (original c) k none up.0) none up.1)

-- One variable more.

pub keeps_variable : (log : List LogLine) (old new : Trailed) (analysis wider : Analyzed) → KeepsSearch log old analysis → new.entries ≡ old.entries → old.variables ≤ new.variables → new.variables < length wider.seen → IsUnmarked wider.seen → KeepsSearch log new wider
keeps_variable log old new analysis wider k same more size clear =
    record {
      exist = all_up_to_more old.variables new.variables log more k.exist;
      trail_is = subst (IsTrail log) (sym same) k.trail_is;
      quiet = subst (MissesNoUnit log) (sym same) k.quiet;
      clear = clear;
      size = size;
    }

-- a trail with a variable more, or as it was
pub by_added : {A E : Type 0} (P : Trailed → Type 0) (r : Result A E) (old new : Trailed) (more : Trailed) → OnOk r (new ≡ more) → OnErr r (new ≡ old) → P old → P more → P new
by_added P (Ok x) old new more ok err p q = subst P (sym ok) q
by_added P (Err x) old new more ok err p q = subst P (sym err) p

-- A decision.

pub decision_quiet : (log : List LogLine) (entries : List Entry) (e : Entry) → e.level ≡ top entries + 1 → MissesNoUnit log entries → AreQuiet (literals entries) (clauses log) → MissesNoUnit log (e ∷ entries)
decision_quiet log entries e next quiet now level first most =
    subst (λ (es : List Entry). AreQuiet (literals es) (clauses log)) (sym (ap (λ (b : Bool). cond b (e ∷ entries) (before level entries)) (le-ltb e.level level (omega arith)))) (by_level (cases_lt (top entries) level))
  where
    by_level : (top entries < level) ⊎ (level ≤ top entries) → AreQuiet (literals (before level entries)) (clauses log)
    by_level (inr h) = quiet level first h
    by_level (inl h) =
        let same : level ≡ top entries + 1 = omega arith in
        subst (λ (es : List Entry). AreQuiet (literals es) (clauses log)) (sym (ap (λ (n : ℕ). before n entries) same ∙ before_all (top entries) entries (omega arith))) now

pub keeps_decision : (log : List LogLine) (old new : Trailed) (analysis : Analyzed) (l : Literal) → KeepsSearch log old analysis → IsUnset (literals old.entries) l → AreQuiet (literals old.entries) (clauses log) → new.entries ≡ record { literal = l; level = top old.entries + 1; reason = None } ∷ old.entries → new.variables ≡ old.variables → KeepsSearch log new analysis
keeps_decision log old new analysis l k u quiet same variables =
    record {
      exist = subst (λ (n : ℕ). AreUpTo n log) (sym variables) k.exist;
      trail_is = subst (IsTrail log) (sym same) (decision_follows log old.entries l k.trail_is u);
      quiet = subst (MissesNoUnit log) (sym same) (decision_quiet log old.entries (record { literal = l; level = top old.entries + 1; reason = None }) refl k.quiet quiet);
      clear = k.clear;
      size = subst (λ (n : ℕ). n < length analysis.seen) (sym variables) k.size;
    }
