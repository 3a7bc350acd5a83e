-- A learned clause: it is accepted, needed and drawn, and no unit is missed after the jump.
use Rattle.std.proofs.Common.{◌≡◌, ◌≢◌, ℕ, ◌+◌, ◌<◌, ◌≤◌, Bool, true, false, cond, ltb, ◌⊎◌, inl, inr, List, [], ◌∷◌, ◌++◌, length, refl, ap, sym, subst, ◌∙◌, arith}
use Rattle.std.specs.Prelude.{None, Result, Ok, Err, OnOk, option_to_list}
use Rattle.std.specs.List.{AllByRecursion}
use Rattle.std.proofs.lemmas.List.{append-nil}
use Rattle.std.proofs.lemmas.Bool.{cases_lt, lt-ltb, le-ltb}
use Rattle.sat_log.specs.Literal.{Literal, negated}
use Rattle.sat_log.specs.Clause.{Among, HasDistinctVariables}
use Rattle.sat_log.specs.Accepted.{hinted, Accepts}
use Rattle.sat_log.specs.Clauses.{clauses}
use Rattle.sat_log.specs.Learned.{IsNeeded, IsDrawn, StandsInSome, HasTwoUnset}
use Rattle.sat_log.specs.Checking.{IsUpTo, AreUpTo}
use Rattle.sat_log.specs.declared.line.LineKind.{LineKind}
use Rattle.sat_log.specs.declared.line.LineKind.TheVariants.{Conflict, Final}
use Rattle.sat_log.specs.declared.line.LogLine.{LogLine}
use Rattle.sat_log.proofs.ListLemmas.{All-append}
use Rattle.sat_log.proofs.LiteralLemmas.{All-among}
use Rattle.sat_trail.specs.Trail.{Trailed, literals, top, before}
use Rattle.sat_trail.specs.Units.{AreDecided, IsTrail, IsQuiet, AreQuiet, MissesNoUnit}
use Rattle.sat_analysis.specs.Analysis.{Analyzed, IsAnalysis, IsAsserting, IsAsserted, AreNegationsOf, IsJump}
use Rattle.sat_core.specs.Search.{KeepsSearch, AreAmong, AskedFirst, AddsLearned, AddsFinal}
use Rattle.sat_trail.proofs.Logs.{named_up_to, clauses_push}
use Rattle.sat_trail.proofs.Trails.{consistent}
use Rattle.sat_trail.proofs.Lists.{All-map}
use Rattle.sat_analysis.proofs.Walks.{finish, finish_clear}
use Rattle.sat_trail.proofs.Levels.{among_earlier, trail_distinct, top_most, All-before, before_lower, unset_before, before_trail, before_before, top_lower, unset_earlier}
use Rattle.sat_trail.proofs.Growth.{trail_stays}
use Rattle.sat_trail.specs.declared.trail.Entry.{Entry}
use Rattle.sat_core.proofs.Steps.{decided_zero, top_zero}

-- The literals of a line exist, since they stand in clauses of the log.

stands_up_to : (n : ℕ) (log : List LogLine) (hints : List ℕ) (l : Literal) → AreUpTo n log → StandsInSome log hints l → l.var ≤ n
stands_up_to n log [] l up s = absurd s
stands_up_to n log (id ∷ hints) l up (inl here) = All-among (λ k. k.var ≤ n) here.0 l (named_up_to n log id here.0 up here.1) here.2
stands_up_to n log (id ∷ hints) l up (inr later) = stands_up_to n log hints l up later

pub drawn_up_to : (n : ℕ) (log : List LogLine) (a : Analyzed) → AreUpTo n log → IsAnalysis log [] a → IsUpTo n a.lits
drawn_up_to n log a up h = All-map (StandsInSome log a.hints) (λ l. l.var ≤ n) a.lits (λ l s. stands_up_to n log a.hints l up s) h.lits_drawn

pub asked_before : (want : List Literal) (level : ℕ) (entries : List Entry) → AskedFirst want entries → AskedFirst want (before level entries)
asked_before want level [] a = tt
asked_before want level (e ∷ entries) a = by_level (ltb e.level level) (asked_before want level entries a.1)
  where
    by_level : (b : Bool) → AskedFirst want (before level entries) → AskedFirst want (cond b (e ∷ entries) (before level entries))
    by_level true rest = a
    by_level false rest = rest

-- an entry of a variable has a level below this one
pub level_below : (level at : ℕ) (entries : List Entry) (l : Literal) → AllByRecursion (λ f. f.level < level) entries → AllByRecursion (λ e. e.literal.var ≡ l.var → e.level ≡ at) entries → Among (literals entries) (negated l) → at < level
level_below level at [] l lower same m = absurd m
level_below level at (e ∷ entries) l lower same (inl here) =
    let first = lower.0 in
    let level_is = same.0 (ap (λ (k : Literal). k.var) here) in
    omega arith
level_below level at (e ∷ entries) l lower same (inr m) = level_below level at entries l lower.1 same.1 m

-- The line.
module _ (log : List LogLine) (entries : List Entry) (a : Analyzed) (t : IsTrail log entries) (quiet : MissesNoUnit log entries) (above : 1 ≤ top entries) (state : IsAnalysis log [] a) where
  pub line_accepted : (kind : LineKind) → Accepts log (record { kind = kind; lits = a.lits; hints = a.hints })
  line_accepted kind = record { distinct = state.distinct; refuted = (finish log a state).0 }

  pub line_drawn : (kind : LineKind) → IsDrawn log (record { kind = kind; lits = a.lits; hints = a.hints })
  line_drawn kind = record { literals = state.lits_drawn; used = (finish log a state).1 }

  pub line_needed : (lits : List Literal) → IsAsserting (top entries) entries 0 lits → IsNeeded (clauses log) lits
  line_needed [] asserting = absurd (omega arith)
  line_needed (u ∷ others) asserting =
      let earlier = before (top entries) entries in
      record {
        asserted = u;
        set = literals earlier;
        stands = inl refl;
        consistent = consistent (literals earlier) (trail_distinct log earlier (before_trail log (top entries) entries t));
        others_false = (λ l m ne. by_place l ne m);
        unset = asserting.1;
        no_unit = quiet (top entries) above (omega arith);
      }
    where
      by_place : (l : Literal) → l ≢ u → Among (u ∷ others) l → Among (literals (before (top entries) entries)) (negated l)
      by_place l ne (inl same) = absurd (ne (sym same))
      by_place l ne (inr m) = All-among (λ k. Among (literals (before (top entries) entries)) (negated k)) others l asserting.2 m

  -- before each level up to that of the jump, the learned clause has two unset literals
  two_unset : (lits : List Literal) (jump level : ℕ) → HasDistinctVariables lits → IsAsserting (top entries) entries 0 lits → IsJump entries lits jump → 1 ≤ level → level ≤ jump → (jump < top entries) × HasTwoUnset (literals (before level entries)) lits
  two_unset [] jump level d asserting j first most = absurd (omega arith)
  two_unset (u ∷ []) jump level d asserting j first most = absurd (omega arith)
  two_unset (u ∷ o ∷ others) jump level d asserting j first most =
      let below : jump < top entries = level_below (top entries) jump (before (top entries) entries) o (before_lower log (top entries) entries t) (All-before (λ e. e.literal.var ≡ o.var → e.level ≡ jump) (top entries) entries j) asserting.2.0 in (
        below,
        record {
          first = u;
          second = o;
          apart = (λ same. d.0.0 (ap (λ (k : Literal). k.var) (sym same)));
          first_stands = inl refl;
          second_stands = inr (inl refl);
          first_unset = unset_earlier level (top entries) entries u (omega arith) asserting.1;
          second_unset = unset_before log level jump entries o t most j;
        },
      )

  -- no unit is missed after the jump
  pub jump_quiet : (kind : LineKind) (jump : ℕ) → kind ≡ Conflict → IsAsserting (top entries) entries 0 a.lits → IsJump entries a.lits jump → MissesNoUnit (log ++ record { kind = kind; lits = a.lits; hints = a.hints } ∷ []) (before (jump + 1) entries)
  jump_quiet kind jump conflict asserting j level first most =
      let back : top (before (jump + 1) entries) ≤ jump = top_lower jump (before (jump + 1) entries) (before_lower log (jump + 1) entries t) in
      let two = two_unset a.lits jump level state.distinct asserting j first (omega arith) in
      let below = two.0 in
      let old : AreQuiet (literals (before level entries)) (clauses log) = quiet level first (omega arith) in
      let same : before level (before (jump + 1) entries) ≡ before level entries = before_before level (jump + 1) entries (omega arith) in
      let all : clauses (log ++ record { kind = kind; lits = a.lits; hints = a.hints } ∷ []) ≡ clauses log ++ a.lits ∷ [] =
      clauses_push log (record { kind = kind; lits = a.lits; hints = a.hints }) ∙ ap (λ (k : LineKind). clauses log ++ option_to_list (hinted k a.lits)) conflict in
      rw (same, all) (All-append (IsQuiet (literals (before level entries))) (clauses log) (a.lits ∷ []) old (inr two.1, tt))

-- what is false at levels up to that of the jump is false after it
among_up_to : (jump : ℕ) (entries : List Entry) (o : Literal) → AllByRecursion (λ e. e.literal.var ≡ o.var → e.level ≡ jump) entries → Among (literals entries) (negated o) → Among (literals (before (jump + 1) entries)) (negated o)
among_up_to jump [] o same m = m
among_up_to jump (e ∷ entries) o same m = by_level (cases_lt e.level (jump + 1)) m (among_up_to jump entries o same.1)
  where
    by_level : (e.level < jump + 1) ⊎ (jump + 1 ≤ e.level) → Among (literals (e ∷ entries)) (negated o) → (Among (literals entries) (negated o) → Among (literals (before (jump + 1) entries)) (negated o)) → Among (literals (before (jump + 1) (e ∷ entries))) (negated o)
    by_level (inl k) m rest =
        subst (λ (es : List Entry). Among (literals es) (negated o)) (sym (ap (λ (b : Bool). cond b (e ∷ entries) (before (jump + 1) entries)) (lt-ltb e.level (jump + 1) k))) m
    by_level (inr k) (inl here) rest =
        let level_is = same.0 (ap (λ (l : Literal). l.var) here) in
        absurd (omega arith)
    by_level (inr k) (inr m) rest =
        subst (λ (es : List Entry). Among (literals es) (negated o)) (sym (ap (λ (b : Bool). cond b (e ∷ entries) (before (jump + 1) entries)) (le-ltb e.level (jump + 1) k))) (rest m)

-- after the jump the clause asserts its first literal
pub jump_asserts : (log : List LogLine) (entries : List Entry) (lits : List Literal) (jump : ℕ) → IsTrail log entries → 1 ≤ top entries → IsAsserting (top entries) entries 0 lits → IsJump entries lits jump → IsAsserted (literals (before (jump + 1) entries)) lits
jump_asserts log entries [] jump t above asserting j = absurd (omega arith)
jump_asserts log entries (u ∷ []) jump t above asserting j =
    (unset_earlier (jump + 1) (top entries) entries u (omega arith) asserting.1, tt)
jump_asserts log entries (u ∷ o ∷ others) jump t above asserting j =
    let below : jump < top entries = level_below (top entries) jump (before (top entries) entries) o (before_lower log (top entries) entries t) (All-before (λ e. e.literal.var ≡ o.var → e.level ≡ jump) (top entries) entries j) asserting.2.0 in
    let first = among_up_to jump entries o j (among_earlier (top entries) entries (negated o) asserting.2.0) in
    (unset_earlier (jump + 1) (top entries) entries u (omega arith) asserting.1, (first, asserting.3 (jump + 1) first))

-- what is kept, where nothing is marked any more
pub keeps_marks : (log : List LogLine) (trail : Trailed) (old new : Analyzed) → KeepsSearch log trail old → IsAnalysis log [] new → length new.seen ≡ length old.seen → KeepsSearch log trail new
keeps_marks log trail old new k state size =
    let room = k.size in
    record {
      exist = k.exist;
      trail_is = k.trail_is;
      quiet = k.quiet;
      clear = finish_clear log new state;
      size = omega arith;
    }

-- what is kept when the clause is learned
pub keeps_learned : (log : List LogLine) (old new : Trailed) (before_ a : Analyzed) (jump : ℕ) → KeepsSearch log old before_ → 1 ≤ top old.entries → IsAnalysis log [] a → IsAsserting (top old.entries) old.entries 0 a.lits → IsJump old.entries a.lits jump → length a.seen ≡ length before_.seen → new.entries ≡ before (jump + 1) old.entries → new.variables ≡ old.variables → KeepsSearch (log ++ record { kind = Conflict; lits = a.lits; hints = a.hints } ∷ []) new a
keeps_learned log old new before_ a jump k above state asserting j size same variables =
    let room = k.size in
    record {
      exist = subst (λ (n : ℕ). AreUpTo n (log ++ record { kind = Conflict; lits = a.lits; hints = a.hints } ∷ [])) (sym variables) (All-append (λ (line : LogLine). IsUpTo old.variables line.lits) log (record { kind = Conflict; lits = a.lits; hints = a.hints } ∷ []) k.exist (drawn_up_to old.variables log a k.exist state, tt));
      trail_is = subst (IsTrail (log ++ record { kind = Conflict; lits = a.lits; hints = a.hints } ∷ [])) (sym same) (trail_stays log (record { kind = Conflict; lits = a.lits; hints = a.hints }) (before (jump + 1) old.entries) (before_trail log (jump + 1) old.entries k.trail_is));
      quiet = subst (MissesNoUnit (log ++ record { kind = Conflict; lits = a.lits; hints = a.hints } ∷ [])) (sym same) (jump_quiet log old.entries a k.trail_is k.quiet above state Conflict jump refl asserting j);
      clear = finish_clear log a state;
      size = omega arith;
    }

pub adds_learned : (log : List LogLine) (entries : List Entry) (a : Analyzed) → IsTrail log entries → MissesNoUnit log entries → 1 ≤ top entries → IsAnalysis log [] a → IsAsserting (top entries) entries 0 a.lits → AddsLearned log (log ++ record { kind = Conflict; lits = a.lits; hints = a.hints } ∷ [])
adds_learned log entries a t quiet above state asserting =
    record {
      line = record { kind = Conflict; lits = a.lits; hints = a.hints };
      same = refl;
      kind = refl;
      needed = line_needed log entries a t quiet above state a.lits asserting;
      drawn = line_drawn log entries a t quiet above state Conflict;
    }

-- Final lines.

-- at level 0 nothing was decided
pub decided_none : (log : List LogLine) (want : List Literal) (entries : List Entry) → IsTrail log entries → top entries ≡ 0 → AreDecided want entries
decided_none log want [] t none = tt
decided_none log want (e ∷ entries) t none =
    ((λ same. absurd (decided_zero log entries e.literal e.level e.reason t.0.cause none same)), decided_none log want entries t.1 (top_zero e entries none (top_most log (e ∷ entries) t).1))

-- as long as something wanted is not true, all decisions are wanted
pub decided_wanted : (want : List Literal) (entries : List Entry) (l : Literal) → AskedFirst want entries → Among want l → ¬ Among (literals entries) l → AreDecided want entries
decided_wanted want [] l a m out = tt
decided_wanted want (e ∷ entries) l a m out =
    ((λ same. by_asked (a.0 same)), decided_wanted want entries l a.1 m (λ n. out (inr n)))
  where
    by_asked : Among want e.literal ⊎ AreAmong (literals entries) want → Among want e.literal
    by_asked (inl n) = n
    by_asked (inr all) = absurd (out (inr (All-among (Among (literals entries)) want l all m)))

-- and none of them is the negation of something wanted
pub none_negated : (want : List Literal) (entries : List Entry) (l : Literal) → HasDistinctVariables want → Among want l → AreDecided want entries → AllByRecursion (λ e. e.reason ≡ None → e.literal ≢ negated l) entries
none_negated want entries l d m decided =
    All-map (λ (e : Entry). e.reason ≡ None → Among want e.literal) (λ e. e.reason ≡ None → e.literal ≢ negated l) entries (λ e wanted none same. consistent want d l m (subst (Among want) same (wanted none))) decided

pub keeps_final : (log : List LogLine) (trail : Trailed) (old a : Analyzed) → KeepsSearch log trail old → IsAnalysis log [] a → length a.seen ≡ length old.seen → KeepsSearch (log ++ record { kind = Final; lits = a.lits; hints = a.hints } ∷ []) trail a
keeps_final log trail old a k state size =
    let line : LogLine = record { kind = Final; lits = a.lits; hints = a.hints } in
    let room = k.size in
    let same : clauses (log ++ line ∷ []) ≡ clauses log = clauses_push log line ∙ append-nil (clauses log) in
    record {
      exist = All-append (λ (x : LogLine). IsUpTo trail.variables x.lits) log (line ∷ []) k.exist (drawn_up_to trail.variables log a k.exist state, tt);
      trail_is = trail_stays log line trail.entries k.trail_is;
      quiet = (λ level first most. subst (AreQuiet (literals (before level trail.entries))) (sym same) (k.quiet level first most));
      clear = finish_clear log a state;
      size = omega arith;
    }

pub final_accepted : (log : List LogLine) (a : Analyzed) → IsAnalysis log [] a → Accepts log (record { kind = Final; lits = a.lits; hints = a.hints })
final_accepted log a state = record { distinct = state.distinct; refuted = (finish log a state).0 }

pub adds_final : (want : List Literal) (log : List LogLine) (a : Analyzed) → IsAnalysis log [] a → AreNegationsOf want a.lits → AddsFinal want log (log ++ record { kind = Final; lits = a.lits; hints = a.hints } ∷ [])
adds_final want log a state negations =
    record {
      line = record { kind = Final; lits = a.lits; hints = a.hints };
      same = refl;
      kind = refl;
      accepted = final_accepted log a state;
      literals_are = negations;
    }

-- what holds where a call succeeds
pub on_ok : {A E P Q : Type 0} (r : Result A E) → (P → Q) → OnOk r P → OnOk r Q
on_ok (Ok x) f h = f h
on_ok (Err e) f h = tt
