-- A learned clause after the jump: it implies its first literal, and its first two literals are watched.
use Rattle.std.proofs.Common.{◌≡◌, ◌≢◌, Bool, true, ℕ, ◌+◌, ◌<◌, ◌≤◌, ◌⊎◌, inl, inr, List, [], ◌∷◌, ◌++◌, length, get_or, refl, ap, sym, subst, ◌∙◌, arith}
use Rattle.std.specs.Prelude.{Option, None, Some}
use Rattle.std.specs.Option.{option_and_then}
use Rattle.std.proofs.lemmas.List.{length_push}
use Rattle.std.specs.List.{AllByRecursion}
use Rattle.sat_log.specs.Literal.{Literal, negated}
use Rattle.sat_log.specs.Clause.{Among, IsFalse, IsUnset, HasDistinctVariables}
use Rattle.sat_log.specs.Accepted.{hinted, clause_at}
use Rattle.sat_log.specs.declared.line.LineKind.{LineKind}
use Rattle.sat_log.specs.declared.line.LineKind.TheVariants.{Conflict}
use Rattle.sat_log.specs.declared.line.LogLine.{LogLine}
use Rattle.sat_log.proofs.LiteralLemmas.{All-among}
use Rattle.sat_watch.specs.Watched.{Watched, pair_at}
use Rattle.sat_trail.specs.Trail.{Trailed, literals, top, before, bottom}
use Rattle.sat_trail.specs.Units.{IsReason, IsTrail}
use Rattle.sat_trail.specs.declared.trail.Entry.{Entry}
use Rattle.sat_trail.proofs.Trails.{consistent, before_all}
use Rattle.sat_trail.proofs.Levels.{trail_distinct, All-before, before_lower, among_earlier, top_lower, bottom_inside}
use Rattle.sat_trail.proofs.Growth.{implied_follows}
use Rattle.sat_analysis.specs.Analysis.{IsAsserting, IsAsserted, IsJump}
use Rattle.sat_propagation.specs.declared.propagation.Line.{Line}
use Rattle.sat_propagation.specs.Watching.{Propagated, no_line, id_of, StandsFor, Backs, KeepsPair, IsPart, IsReady, Serves}
use Rattle.sat_propagation.proofs.Ready.{ready_implied, ready_added, added_watched, ready_served, served_here, served_watched, bottom_one}
use Rattle.sat_core.specs.Attached.{KeepsAttached, WatchesTwo, ServesIf}
use Rattle.sat_core.specs.Search.{HasAsserted}
use Rattle.sat_core.proofs.Runs.{line_of_id}
use Rattle.sat_core.proofs.Learning.{level_below}
use Rattle.sat_core.proofs.Attaching.{first_more, attached_more, attached_before, attached_line, attached_next, pair_added, first_two}

-- the learned clause implies its first literal
pub asserted_reason : (log : List LogLine) (set : List Literal) (id : ℕ) (u : Literal) (others : List Literal) → clause_at log id ≡ Some (u ∷ others) → IsAsserted set (u ∷ others) → IsReason log set id u
asserted_reason log set id u others named a =
    record {
      clause = u ∷ others;
      named = named;
      implies = record { stands = inl refl; others_false = (λ k m ne. by_place k ne m) };
    }
  where
    by_place : (k : Literal) → k ≢ u → Among (u ∷ others) k → Among set (negated k)
    by_place k ne (inl same) = absurd (ne (sym same))
    by_place k ne (inr m) = All-among (IsFalse set) others k a.1 m

-- The two literals back each other.
module _ (log log_then : List LogLine) (entries : List Entry) (u o : Literal) (jump : ℕ) (e : Entry) (whole : IsTrail log_then entries)
    (t : IsTrail log (e ∷ before (jump + 1) entries)) (literal_is : e.literal ≡ u) (level_is : e.level ≡ top (before (jump + 1) entries)) (apart : o.var ≢ u.var) (j : AllByRecursion (λ f. f.literal.var ≡ o.var → f.level ≡ jump) entries) where
  abbrev back : List Entry
  back = before (jump + 1) entries

  back_level : AllByRecursion (λ f. f.literal.var ≡ o.var → f.level ≡ jump) (e ∷ back)
  back_level = ((λ v. absurd (apart (sym v ∙ ap (λ (l : Literal). l.var) literal_is))), All-before (λ f. f.literal.var ≡ o.var → f.level ≡ jump) (jump + 1) entries j)

  u_true : Among (literals (e ∷ back)) u
  u_true = inl literal_is

  not_false : Among (literals (e ∷ back)) (negated u) → ⊥
  not_false m = consistent (literals (e ∷ back)) (trail_distinct log (e ∷ back) t) u u_true m

  not_earlier : (level : ℕ) → level ≤ top (e ∷ back) → Among (literals (before level (e ∷ back))) (negated o) → ⊥
  not_earlier level most m =
      let below : jump < level = level_below level jump (before level (e ∷ back)) o (before_lower log level (e ∷ back) t) (All-before (λ f. f.literal.var ≡ o.var → f.level ≡ jump) level (e ∷ back) back_level) m in
      let lower : top back ≤ jump = top_lower jump back (before_lower log_then (jump + 1) entries whole) in
      let most' : level ≤ e.level = most in
      omega (arith, level_is, most', below, lower)

  pub asserted_pair : (part : List Entry) → IsPart part back → KeepsPair part (e ∷ back) (record { first = u; second = o })
  asserted_pair part inside a b ha hb ne = by_watch ha hb
    where
      by_watch : (u ≡ a) ⊎ (o ≡ a) → (u ≡ b) ⊎ (o ≡ b) → Backs part (e ∷ back) a b
      by_watch (inl x) (inl y) = absurd (ne (sym x ∙ y))
      by_watch (inr x) (inr y) = absurd (ne (sym x ∙ y))
      by_watch (inl x) (inr y) =
          record {
            earlier = (λ level most m. absurd (not_false (among_earlier level (e ∷ back) (negated u) (subst (λ (k : Literal). Among (literals (before level (e ∷ back))) (negated k)) (sym x) m))));
            now = (λ m. absurd (not_false (inr (inside (negated u) (subst (λ (k : Literal). Among (literals part) (negated k)) (sym x) m)))));
          }
      by_watch (inr x) (inl y) =
          record {
            earlier = (λ level most m. absurd (not_earlier level most (subst (λ (k : Literal). Among (literals (before level (e ∷ back))) (negated k)) (sym x) m)));
            now = (λ m. subst (Among (literals (e ∷ back))) y u_true);
          }

-- The last line of a log.
pub named_last : (log : List LogLine) (line : LogLine) → line.kind ≡ Conflict → clause_at (log ++ line ∷ []) (length log + 1) ≡ Some line.lits
named_last log line conflict =
    ap (option_and_then (λ (l : LogLine). hinted l.kind l.lits)) (line_of_id log (log ++ line ∷ []) line (length log + 1) refl (sym (length_push log line))) ∙ ap (λ (k : LineKind). hinted k line.lits) conflict

-- What is kept of the clauses that are attached, through the whole of it.

pub kept_watches : (log : List LogLine) (t : Trailed) (old new : Propagated) (attached : ℕ) (false_clause : Option ℕ) (lits : List Literal) (watcher : Option ℕ) → WatchesTwo old new lits watcher → KeepsAttached log t old attached false_clause → KeepsAttached log t new attached false_clause
kept_watches log t old new attached false_clause [] None w k = subst (λ (p : Propagated). KeepsAttached log t p attached false_clause) (sym w) k
kept_watches log t old new attached false_clause (a ∷ []) None w k = subst (λ (p : Propagated). KeepsAttached log t p attached false_clause) (sym w) k
kept_watches log t old new attached false_clause (a ∷ b ∷ rest) None w k = absurd w
kept_watches log t old new attached false_clause [] (Some n) w k = absurd w
kept_watches log t old new attached false_clause (a ∷ []) (Some n) w k = absurd w
kept_watches log t old new attached false_clause (a ∷ b ∷ rest) (Some n) w k =
    attached_more log t t old new attached false_clause (λ l m. m) (added_watched old new a b n w) (ready_added old new a b n w log t k.ready) k

-- after the jump, and once the first literal is true
pub kept_jump : (log : List LogLine) (old back new : Trailed) (p q : Propagated) (attached jump : ℕ) (false_clause : Option ℕ) (e : Entry) → back.entries ≡ before (jump + 1) old.entries → q.watched ≡ p.watched → q.lines ≡ p.lines → IsReady log back q → new.variables ≡ back.variables → new.entries ≡ e ∷ back.entries → e.level ≡ top back.entries → KeepsAttached log old p attached false_clause → KeepsAttached log new q attached false_clause
kept_jump log old back new p q attached jump false_clause e same watched lines ready variables grown level k =
    let jumped : KeepsAttached log back q attached false_clause = attached_before log old back p q attached jump false_clause same watched lines ready k in
    attached_more log back new q q attached false_clause (λ l m. subst (λ (es : List Entry). Among (literals (before 1 es)) l) (sym grown) (first_more e back.entries l m)) (λ id h. h) (ready_implied log back new q e variables grown level ready) jumped

-- The clause is served: a unit is true at level 0, and any other is watched.
module _ (log log_then : List LogLine) (old : Trailed) (new : Trailed) (q r : Propagated) (jump : ℕ) (false_clause : Option ℕ) (e : Entry) (line : LogLine)
    (whole : IsTrail log_then old.entries) (log_is : log ≡ log_then ++ line ∷ []) (conflict : line.kind ≡ Conflict) (distinct : HasDistinctVariables line.lits)
    (entries_are : new.entries ≡ e ∷ before (jump + 1) old.entries) (t : IsTrail log new.entries) (level_is : e.level ≡ top (before (jump + 1) old.entries)) (k : KeepsAttached log new q (length log_then) false_clause) (looked_within : q.looked ≤ length (before (jump + 1) old.entries)) where
  named : clause_at log (length log_then + 1) ≡ Some line.lits
  named = subst (λ (l : List LogLine). clause_at l (length log_then + 1) ≡ Some line.lits) (sym log_is) (named_last log_then line conflict)

  below : length log_then < length log
  below = omega (arith, ap length log_is, length_push log_then line)

  -- its one literal is true at level 0
  pub served_unit : (u : Literal) → line.lits ≡ u ∷ [] → e.literal ≡ u → jump ≡ 0 → KeepsAttached log new q (length log_then + 1) false_clause
  served_unit u lits_are literal_is zero_ =
      attached_next log new q (length log_then) false_clause below (λ c here. inr (inl (record {
        literal = u;
        stands = subst (λ (d : List Literal). Among d u) (lits_of c here) (inl refl);
        is_set = subst (λ (es : List Entry). Among (literals es) u) (sym first) (inl literal_is);
      }))) k
    where
      lits_of : (c : List Literal) → clause_at log (length log_then + 1) ≡ Some c → u ∷ [] ≡ c
      lits_of c here = let both : Some (u ∷ []) ≡ Some c = sym (ap Some lits_are) ∙ sym named ∙ here in cc

      first : before 1 new.entries ≡ e ∷ before (jump + 1) old.entries
      first =
          let lower : top (before (jump + 1) old.entries) ≤ jump = top_lower jump (before (jump + 1) old.entries) (before_lower log_then (jump + 1) old.entries whole) in
          ap (before 1) entries_are ∙ before_all 0 (e ∷ before (jump + 1) old.entries) (omega (arith, level_is))

  -- its first two literals are watched
  pub served_two : (u o : Literal) (rest : List Literal) (w : ℕ) → line.lits ≡ u ∷ o ∷ rest → e.literal ≡ u → AllByRecursion (λ f. f.literal.var ≡ o.var → f.level ≡ jump) old.entries → w < length q.watched.pairs → id_of q w ≡ 0 → pair_at q.watched w ≡ record { first = u; second = o } → (binary : Bool) → (binary ≡ true → length line.lits ≡ 2) → Serves q r w (record { id = length log_then + 1; binary = binary }) → KeepsAttached log new r (length log_then + 1) false_clause
  served_two u o rest w lits_are literal_is j inside free pair_is binary short serves =
      attached_next log new r (length log_then) false_clause below (λ c here. inl (served_here q r w now serves inside (λ e. absurd (omega arith)))) (attached_more log new new q r (length log_then) false_clause (λ l m. m) (λ id h. served_watched q r w now serves id free h) ready k)
    where
      now : Line
      now = record { id = length log_then + 1; binary = binary }

      both : HasDistinctVariables (u ∷ o ∷ rest)
      both = subst HasDistinctVariables lits_are distinct

      apart : o.var ≢ u.var
      apart = both.0.0

      stands : StandsFor log now (record { first = u; second = o })
      stands = first_two log (length log_then + 1) binary u o rest (named ∙ ap Some lits_are) both (λ all. sym (ap length lits_are) ∙ short all)

      part_is : bottom q.looked new.entries ≡ bottom q.looked (e ∷ before (jump + 1) old.entries)
      part_is = ap (bottom q.looked) entries_are

      keeps : q.looked ≤ length (before (jump + 1) old.entries) → KeepsPair (bottom q.looked new.entries) new.entries (pair_at q.watched w)
      keeps within =
          rw (pair_is, entries_are, bottom_one e (before (jump + 1) old.entries) q.looked within)
          (asserted_pair log log_then old.entries u o jump e whole (subst (IsTrail log) entries_are t) literal_is level_is apart j (bottom q.looked (before (jump + 1) old.entries)) (λ l m. bottom_inside q.looked (before (jump + 1) old.entries) l m))

      ready : IsReady log new r
      ready = ready_served q r w now serves log new (subst (StandsFor log now) (sym pair_is) stands) (keeps looked_within) k.ready

-- a clause that asserts a literal has one
pub asserted_some : (level : ℕ) (entries : List Entry) (lits : List Literal) → IsAsserting level entries 0 lits → 0 < length lits
asserted_some level entries [] a = absurd (omega arith)
asserted_some level entries (u ∷ others) a = omega arith

-- The entry of the literal that the clause asserts.

abbrev pub asserted_entry : Literal → List Entry → ℕ → Entry
asserted_entry l entries id = record { literal = l; level = top entries; reason = Some id }

-- the literal at the front of a clause that asserts it
pub asserted_unset : (set lits : List Literal) (l : Literal) → l ≡ get_or lits 0 l → IsAsserted set lits → IsUnset set l
asserted_unset set [] l first a = absurd a
asserted_unset set (u ∷ others) l first a = subst (IsUnset set) (sym first) a.0

pub asserted_trail : (log : List LogLine) (entries : List Entry) (lits : List Literal) (id : ℕ) (l : Literal) → l ≡ get_or lits 0 l → IsTrail log entries → clause_at log id ≡ Some lits → IsAsserted (literals entries) lits → IsTrail log (asserted_entry l entries id ∷ entries)
asserted_trail log entries [] id l first t here a = absurd a
asserted_trail log entries (u ∷ others) id l first t here a =
    subst (λ (x : Literal). IsTrail log (asserted_entry x entries id ∷ entries)) (sym first) (implied_follows log entries id u t a.0 (asserted_reason log (literals entries) id u others here a))

pub has_asserted : (entries : List Entry) (lits : List Literal) (id : ℕ) (l : Literal) → l ≡ get_or lits 0 l → IsAsserted (literals entries) lits → HasAsserted (asserted_entry l entries id ∷ entries) lits id
has_asserted entries [] id l first a = absurd a
has_asserted entries (u ∷ others) id l first a = (first, refl, a)

-- What is kept of the clauses when one more is learned.
pub learned_attached : (log log_then : List LogLine) (old back new : Trailed) (p p1 q r : Propagated) (attached jump id : ℕ) (false_clause : Option ℕ) (line : LogLine) (l : Literal) (watcher : Option ℕ)
    → KeepsAttached log_then old p attached false_clause → attached ≡ length log_then → IsTrail log_then old.entries
    → IsAsserting (top old.entries) old.entries 0 line.lits → IsJump old.entries line.lits jump → HasDistinctVariables line.lits → line.kind ≡ Conflict → l ≡ get_or line.lits 0 l
    → WatchesTwo p p1 line.lits watcher → log ≡ log_then ++ line ∷ [] → id ≡ length log
    → back.entries ≡ before (jump + 1) old.entries → q.watched ≡ p1.watched → q.lines ≡ p1.lines → (IsReady log old p1 → IsReady log back q)
    → new.variables ≡ back.variables → new.entries ≡ asserted_entry l back.entries id ∷ back.entries → IsTrail log new.entries → (binary : Bool) → (binary ≡ true → length line.lits ≡ 2) → ServesIf q r watcher (record { id = id; binary = binary })
    → KeepsAttached log new r id false_clause
learned_attached log log_then old back new p p1 q r attached jump id false_clause line l watcher k whole t asserting j distinct conflict first watches log_is id_is back_is watched lines ready variables entries trail binary short serves =
    subst (λ (i : ℕ). KeepsAttached log new r i false_clause) (sym id_next) (by_lits line.lits refl watcher asserting j first watches (subst (λ (i : ℕ). ServesIf q r watcher (record { id = i; binary = binary })) id_next serves))
  where
    id_next : id ≡ length log_then + 1
    id_next = id_is ∙ ap length log_is ∙ length_push log_then line

    e : Entry
    e = asserted_entry l back.entries id

    k2 : KeepsAttached log old p1 attached false_clause
    k2 = subst (λ (x : List LogLine). KeepsAttached x old p1 attached false_clause) (sym log_is) (attached_line log_then old p1 attached false_clause line (kept_watches log_then old p p1 attached false_clause line.lits watcher watches k))

    k5 : KeepsAttached log new q (length log_then) false_clause
    k5 = subst (λ (n : ℕ). KeepsAttached log new q n false_clause) whole (kept_jump log old back new p1 q attached jump false_clause e back_is watched lines (ready k2.ready) variables entries refl k2)

    entries_are : new.entries ≡ e ∷ before (jump + 1) old.entries
    entries_are = entries ∙ ap (λ (es : List Entry). e ∷ es) back_is

    level_is : e.level ≡ top (before (jump + 1) old.entries)
    level_is = ap top back_is

    within : q.looked ≤ length (before (jump + 1) old.entries)
    within = subst (λ (es : List Entry). q.looked ≤ length es) back_is (ready k2.ready).within

    by_lits : (lits : List Literal) → line.lits ≡ lits → (o : Option ℕ) → IsAsserting (top old.entries) old.entries 0 lits → IsJump old.entries lits jump → l ≡ get_or lits 0 l → WatchesTwo p p1 lits o → ServesIf q r o (record { id = length log_then + 1; binary = binary }) → KeepsAttached log new r (length log_then + 1) false_clause
    by_lits [] lits_are o a j first w s = absurd (omega arith)
    by_lits (u ∷ []) lits_are (Some n) a j first w s = absurd w
    by_lits (u ∷ []) lits_are None a j first w s =
        subst (λ (x : Propagated). KeepsAttached log new x (length log_then + 1) false_clause) (sym s)
        (served_unit log log_then old new q r jump false_clause e line t log_is conflict distinct entries_are trail level_is k5 within u lits_are first j)
    by_lits (u ∷ o ∷ rest) lits_are None a j first w s = absurd w
    by_lits (u ∷ o ∷ rest) lits_are (Some n) a j first w s =
        let size : length q.watched.pairs ≡ length p.watched.pairs + 1 = ap (λ (x : Watched). length x.pairs) watched ∙ ap length w.pairs ∙ length_push p.watched.pairs (record { first = u; second = o }) in
        served_two log log_then old new q r jump false_clause e line t log_is conflict distinct entries_are trail level_is k5 within u o rest n lits_are first j (omega (arith, size, w.number)) (ap (λ (xs : List Line). (get_or xs n no_line).id) lines ∙ w.unused) (ap (λ (x : Watched). pair_at x n) watched ∙ pair_added p p1 u o n w) binary short s
