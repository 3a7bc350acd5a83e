-- The clauses that a search looks after, when the log, the trail or the watches have changed.
use Rattle.std.proofs.Common.{◌≡◌, ℕ, zero, suc, ◌+◌, ◌-◌, ◌<◌, ◌≤◌, Bool, true, false, cond, eqb, ltb, ◌⊎◌, inl, inr, List, [], ◌∷◌, ◌++◌, length, take, get_or, ⊎_elim, refl, ap, sym, subst, ◌∙◌, append_assoc, arith}
use Rattle.std.specs.Prelude.{Option, None, Some, is_some, IfSome, IfNone, option_to_list, slice_get}
use Rattle.std.specs.Option.{option_and_then}
use Rattle.std.specs.List.{AllByRecursion}
use Rattle.std.proofs.lemmas.List.{append-nil, length_push, get_or_push, take_all}
use Rattle.std.proofs.lemmas.Bool.{cases_lt, le-ltb}
use Rattle.sat_log.specs.Literal.{Literal, negated}
use Rattle.sat_log.specs.Clause.{Among, IsFalse, HasDistinctVariables}
use Rattle.sat_log.specs.Accepted.{hinted, clause_at}
use Rattle.sat_log.specs.Clauses.{clauses}
use Rattle.sat_log.specs.Learned.{IsTrueUnder}
use Rattle.sat_log.specs.Checking.{IsUpTo}
use Rattle.sat_log.specs.declared.line.LogLine.{LogLine}
use Rattle.sat_log.proofs.ListLemmas.{All-append}
use Rattle.sat_trail.specs.Trail.{Trailed, literals, top, before, bottom, places}
use Rattle.sat_trail.specs.Units.{IsConflict, IsQuiet, AreQuiet, AddsImplied}
use Rattle.sat_trail.specs.declared.trail.Entry.{Entry}
use Rattle.sat_trail.proofs.Logs.{clauses_more}
use Rattle.sat_trail.proofs.Growth.{clause_stays}
use Rattle.sat_trail.proofs.Tables.{place_within}
use Rattle.sat_trail.proofs.Trails.{before_all}
use Rattle.sat_trail.proofs.Levels.{among_earlier, before_before, bottom_inside}
use Rattle.sat_propagation.specs.declared.propagation.Line.{Line}
use Rattle.sat_propagation.specs.Watching.{Propagated, no_line, id_of, StandsFor, KeepsPair, IsReady, IsWatchedFor, KeepsLines, Adds, Serves}
use Rattle.sat_propagation.proofs.Ready.{none_looked, ready_line, ready_decided, ready_wider, ready_added, ready_from_start, ready_served, added_watched, served_watched, same_watched, ready_quiet}
use Rattle.sat_watch.specs.Watched.{Pair, Watched, HasPlace, HasWatch, no_pair, pair_at}
use Rattle.sat_core.specs.Attached.{IsServed, KeepsAttached, WatchesTwo, LooksAgain, Attaches}

-- What is true at level 0.

pub first_more : (e : Entry) (entries : List Entry) (l : Literal) → Among (literals (before 1 entries)) l → Among (literals (before 1 (e ∷ entries))) l
first_more e entries l m = by_level (ltb e.level 1)
  where
    by_level : (b : Bool) → Among (literals (cond b (e ∷ entries) (before 1 entries))) l
    by_level true = inr (among_earlier 1 entries l m)
    by_level false = m

pub first_added : (added old : List Entry) (l : Literal) → Among (literals (before 1 old)) l → Among (literals (before 1 (added ++ old))) l
first_added [] old l m = m
first_added (e ∷ added) old l m = first_more e (added ++ old) l (first_added added old l m)

pub first_before : (level : ℕ) (entries : List Entry) (l : Literal) → Among (literals (before 1 entries)) l → Among (literals (before 1 (before (level + 1) entries))) l
first_before level entries l m =
    subst (λ (es : List Entry). Among (literals es) l) (sym (before_before 1 (level + 1) entries (omega arith))) m

-- all that was true at level 0 still is
abbrev pub KeepsFirst : List Entry → List Entry → Type 0
KeepsFirst old new = (l : Literal) → Among (literals (before 1 old)) l → Among (literals (before 1 new)) l

-- What is false among some literals is so among more.

conflict_more : (log : List LogLine) (set more : List Literal) (id : ℕ) → ((l : Literal) → Among set l → Among more l) → IsConflict log set id → IsConflict log more id
conflict_more log set more id f h = record { clause = h.clause; named = h.named; falsified = all h.clause h.falsified }
  where
    all : (c : List Literal) → AllByRecursion (IsFalse set) c → AllByRecursion (IsFalse more) c
    all [] k = tt
    all (l ∷ c) k = (f (negated l) k.0, all c k.1)

if_some : (P Q : ℕ → Type 0) (false_clause : Option ℕ) → ((id : ℕ) → P id → Q id) → IfSome false_clause P → IfSome false_clause Q
if_some P Q None f h = tt
if_some P Q (Some id) f h = f id h

-- a clause that is known to be false at level 0 is false
pub refuted_now : (log : List LogLine) (trail : Trailed) (p : Propagated) (attached : ℕ) (false_clause : Option ℕ) → KeepsAttached log trail p attached false_clause → IfSome false_clause (IsConflict log (literals trail.entries))
refuted_now log trail p attached false_clause k =
    if_some (IsConflict log (literals (before 1 trail.entries))) (IsConflict log (literals trail.entries)) false_clause (λ id h. conflict_more log (literals (before 1 trail.entries)) (literals trail.entries) id (λ l m. among_earlier 1 trail.entries l m) h) k.conflict

-- The trail or the watches have changed.

served_more : (old new : List Entry) (p q : Propagated) (false_clause : Option ℕ) (id : ℕ) (c : List Literal) → KeepsFirst old new → (IsWatchedFor p id → IsWatchedFor q id) → IsServed old p false_clause id c → IsServed new q false_clause id c
served_more old new p q false_clause id c first watched (inl w) = inl (watched w)
served_more old new p q false_clause id c first watched (inr (inl t)) = inr (inl (record { literal = t.literal; stands = t.stands; is_set = first t.literal t.is_set }))
served_more old new p q false_clause id c first watched (inr (inr some)) = inr (inr some)

pub attached_more : (log : List LogLine) (old new : Trailed) (p q : Propagated) (attached : ℕ) (false_clause : Option ℕ) → KeepsFirst old.entries new.entries → ((id : ℕ) → IsWatchedFor p id → IsWatchedFor q id) → IsReady log new q → KeepsAttached log old p attached false_clause → KeepsAttached log new q attached false_clause
attached_more log old new p q attached false_clause first watched ready k =
    record {
      ready = ready;
      within = k.within;
      served = (λ id c below named. served_more old.entries new.entries p q false_clause id c first (watched id) (k.served id c below named));
      conflict = if_some (IsConflict log (literals (before 1 old.entries))) (IsConflict log (literals (before 1 new.entries))) false_clause (λ id h. conflict_more log (literals (before 1 old.entries)) (literals (before 1 new.entries)) id first h) k.conflict;
    }

-- The log has grown.

line_before : (log : List LogLine) (line : LogLine) (i : ℕ) → i < length log → slice_get (log ++ line ∷ []) i ≡ slice_get log i
line_before [] line i h = absurd (omega arith)
line_before (x ∷ log) line zero h = refl
line_before (x ∷ log) line (suc i) h = line_before log line i (omega arith)

pub clause_before : (log : List LogLine) (line : LogLine) (id : ℕ) → id ≤ length log → clause_at (log ++ line ∷ []) id ≡ clause_at log id
clause_before log line zero h = refl
clause_before log line (suc i) h = ap (λ o. option_and_then (λ (l : LogLine). hinted l.kind l.lits) (cond (eqb (suc i) 0) None o)) (line_before log line (suc i - 1) (omega arith))

pub attached_line : (log : List LogLine) (trail : Trailed) (p : Propagated) (attached : ℕ) (false_clause : Option ℕ) (line : LogLine) → KeepsAttached log trail p attached false_clause → KeepsAttached (log ++ line ∷ []) trail p attached false_clause
attached_line log trail p attached false_clause line k =
    record {
      ready = ready_line log trail p line k.ready;
      within = omega (arith, k.within, length_push log line);
      served = (λ id c below named. k.served id c below (sym (clause_before log line id (omega (arith, k.within))) ∙ named));
      conflict = if_some (IsConflict log (literals (before 1 trail.entries))) (IsConflict (log ++ line ∷ []) (literals (before 1 trail.entries))) false_clause (λ id h. record { clause = h.clause; named = clause_stays log line id h.clause h.named; falsified = h.falsified }) k.conflict;
    }

pub attached_lines : (log : List LogLine) (trail : Trailed) (p : Propagated) (attached : ℕ) (false_clause : Option ℕ) (lines : List LogLine) → KeepsAttached log trail p attached false_clause → KeepsAttached (log ++ lines) trail p attached false_clause
attached_lines log trail p attached false_clause [] k = subst (λ (l : List LogLine). KeepsAttached l trail p attached false_clause) (sym (append-nil log)) k
attached_lines log trail p attached false_clause (line ∷ lines) k =
    subst (λ (l : List LogLine). KeepsAttached l trail p attached false_clause) (append_assoc log (line ∷ []) lines) (attached_lines (log ++ line ∷ []) trail p attached false_clause lines (attached_line log trail p attached false_clause line k))

-- One clause more is served.
pub attached_next : (log : List LogLine) (trail : Trailed) (p : Propagated) (attached : ℕ) (false_clause : Option ℕ) → attached < length log → ((c : List Literal) → clause_at log (attached + 1) ≡ Some c → IsServed trail.entries p false_clause (attached + 1) c) → KeepsAttached log trail p attached false_clause → KeepsAttached log trail p (attached + 1) false_clause
attached_next log trail p attached false_clause below here k =
    record { ready = k.ready; within = omega arith; served = (λ id c up named. by_id id c up named (cases_lt attached id)); conflict = k.conflict }
  where
    by_id : (id : ℕ) (c : List Literal) → id ≤ attached + 1 → clause_at log id ≡ Some c → (attached < id) ⊎ (id ≤ attached) → IsServed trail.entries p false_clause id c
    by_id id c up named (inr earlier) = k.served id c earlier named
    by_id id c up named (inl later) =
        let last : id ≡ attached + 1 = omega arith in
        subst (λ (i : ℕ). IsServed trail.entries p false_clause i c) (sym last) (here c (subst (λ (i : ℕ). clause_at log i ≡ Some c) last named))

-- What holds of each clause that an id names holds of each of the clauses.

All-some : (P : List Literal → Type 0) (o : Option (List Literal)) → ((c : List Literal) → o ≡ Some c → P c) → AllByRecursion P (option_to_list o)
All-some P None h = tt
All-some P (Some c) h = (h c refl, tt)

All-first : (P : List Literal → Type 0) (log : List LogLine) (n : ℕ) → n ≤ length log → ((i : ℕ) (c : List Literal) → i < length log → clause_at log (i + 1) ≡ Some c → P c) → AllByRecursion P (clauses (take n log))
All-first P log zero h f = tt
All-first P log (suc n) h f =
    let next : suc n ≡ n + 1 = omega arith in
    let inside : n < length log = omega arith in
    subst (AllByRecursion P) (sym (ap (λ (m : ℕ). clauses (take m log)) next ∙ clauses_more log n inside))
    (All-append P (clauses (take n log)) (option_to_list (clause_at log (n + 1))) (All-first P log n (omega arith) f) (All-some P (clause_at log (n + 1)) (λ c e. f n c inside e)))

All-from_named : (P : List Literal → Type 0) (log : List LogLine) → ((i : ℕ) (c : List Literal) → i < length log → clause_at log (i + 1) ≡ Some c → P c) → AllByRecursion P (clauses log)
All-from_named P log f =
    subst (λ (lines : List LogLine). AllByRecursion P (clauses lines)) (take_all (length log) log (omega arith)) (All-first P log (length log) (omega arith) f)

-- Where all was looked at, no clause is unit or false.
pub attached_quiet : (log : List LogLine) (trail : Trailed) (p : Propagated) (attached : ℕ) → attached ≡ length log → length trail.entries ≤ p.looked → KeepsAttached log trail p attached None → AreQuiet (literals trail.entries) (clauses log)
attached_quiet log trail p attached whole all k = All-from_named (IsQuiet (literals trail.entries)) log (λ i c below named. by_served i c named (k.served (i + 1) c (omega (arith, whole)) named))
  where
    first : (o : Option (List Literal)) (c : List Literal) → o ≡ Some c → AreQuiet (literals trail.entries) (option_to_list o) → IsQuiet (literals trail.entries) c
    first o c e h = (subst (λ (x : Option (List Literal)). AreQuiet (literals trail.entries) (option_to_list x)) e h).0

    by_served : (i : ℕ) (c : List Literal) → clause_at log (i + 1) ≡ Some c → IsServed trail.entries p None (i + 1) c → IsQuiet (literals trail.entries) c
    by_served i c named (inl w) = first (clause_at log (i + 1)) c named (ready_quiet log trail p (i + 1) k.ready all w)
    by_served i c named (inr (inl t)) = inl (record { literal = t.literal; stands = t.stands; is_set = among_earlier 1 trail.entries t.literal t.is_set })
    by_served i c named (inr (inr none)) = absurd cc

-- A call that attaches the clause of an id.

at_first : (entries : List Entry) → top entries ≡ 0 → before 1 entries ≡ entries
at_first entries none = before_all 0 entries (omega arith)

-- literals became true at level 0, and what was watched still is
pub attached_implied : (log : List LogLine) (old new : Trailed) (p q : Propagated) (attached : ℕ) (false_clause : Option ℕ) → AddsImplied old.entries new.entries → ((id : ℕ) → IsWatchedFor p id → IsWatchedFor q id) → IsReady log new q → KeepsAttached log old p attached false_clause → KeepsAttached log new q attached false_clause
attached_implied log old new p q attached false_clause a watched ready k =
    attached_more log old new p q attached false_clause (λ x m. subst (λ (es : List Entry). Among (literals (before 1 es)) x) (sym a.same) (first_added a.added old.entries x m)) watched ready k

pub attach_keeps : (log : List LogLine) (old new : Trailed) (p q : Propagated) (attached : ℕ) (false_clause : Option ℕ) → attached < length log → top new.entries ≡ 0 → AddsImplied old.entries new.entries → ((id : ℕ) → IsWatchedFor p id → IsWatchedFor q id) → IsReady log new q → Attaches log new.entries q (attached + 1) true → KeepsAttached log old p attached false_clause → KeepsAttached log new q (attached + 1) false_clause
attach_keeps log old new p q attached false_clause below none a watched ready here k =
    attached_next log new q attached false_clause below (λ c named. by_case c (here c named)) (attached_implied log old new p q attached false_clause a watched ready k)
  where
    by_case : (c : List Literal) → IsWatchedFor q (attached + 1) ⊎ IsTrueUnder (literals new.entries) c → IsServed new.entries q false_clause (attached + 1) c
    by_case c (inl w) = inl w
    by_case c (inr t) = inr (inl (record { literal = t.literal; stands = t.stands; is_set = subst (λ (es : List Entry). Among (literals es) t.literal) (sym (at_first new.entries none)) t.is_set }))

pub attach_refutes : (log : List LogLine) (new : Trailed) (q : Propagated) (attached : ℕ) → attached < length log → top new.entries ≡ 0 → IsReady log new q → Attaches log new.entries q (attached + 1) false → KeepsAttached log new q (attached + 1) (Some (attached + 1))
attach_refutes log new q attached below none ready here =
    record {
      ready = ready;
      within = omega arith;
      served = (λ id c up named. inr (inr refl));
      conflict = subst (λ (es : List Entry). IsConflict log (literals es) (attached + 1)) (sym (at_first new.entries none)) here;
    }

-- Two of a clause's literals are watched, for no line yet.

pub two_watched : (old new : Propagated) (lits : List Literal) (w : ℕ) → WatchesTwo old new lits (Some w) → (a : Literal) × (b : Literal) × (rest : List Literal) × (lits ≡ a ∷ b ∷ rest) × Adds old new a b w
two_watched old new [] w h = absurd h
two_watched old new (a ∷ []) w h = absurd h
two_watched old new (a ∷ b ∷ rest) w h = (a, b, rest, refl, h)

pub none_watched : (old new : Propagated) (lits : List Literal) → WatchesTwo old new lits None → (length lits < 2) × (new ≡ old)
none_watched old new [] h = (omega arith, h)
none_watched old new (a ∷ []) h = (omega arith, h)
none_watched old new (a ∷ b ∷ rest) h = absurd h

-- the pair that was added
pub pair_added : (old new : Propagated) (a b : Literal) (w : ℕ) → Adds old new a b w → pair_at new.watched w ≡ record { first = a; second = b }
pair_added old new a b w adds =
    ap (λ (ps : List Pair). get_or ps w no_pair) adds.pairs ∙ get_or_push old.watched.pairs (record { first = a; second = b }) no_pair w (sym adds.number)

-- the first two literals of a clause stand for it
pub first_two : (log : List LogLine) (id : ℕ) (binary : Bool) (a b : Literal) (rest : List Literal) → clause_at log id ≡ Some (a ∷ b ∷ rest) → HasDistinctVariables (a ∷ b ∷ rest) → (binary ≡ true → length (a ∷ b ∷ rest) ≡ 2) → StandsFor log (record { id = id; binary = binary }) (record { first = a; second = b })
first_two log id binary a b rest named distinct short =
    record {
      clause = a ∷ b ∷ rest;
      named = named;
      stands = (λ l m. ⊎_elim (λ x. inl x) (λ x. inr (inl x)) m);
      apart = (λ same. distinct.0.0 (sym (ap (λ (l : Literal). l.var) same)));
      whole = (λ all l m. whole rest (short all) l m);
    }
  where
    whole : (others : List Literal) → length (a ∷ b ∷ others) ≡ 2 → (l : Literal) → Among (a ∷ b ∷ others) l → HasWatch (record { first = a; second = b }) l
    whole others h l (inl x) = inl x
    whole others h l (inr (inl x)) = inr x
    whole [] h l (inr (inr m)) = absurd m
    whole (k ∷ others) h l (inr (inr m)) = absurd (omega (arith, h))

-- A decision, propagation, a backjump, a variable more.

pub attached_decided : (log : List LogLine) (old new : Trailed) (p : Propagated) (attached : ℕ) (false_clause : Option ℕ) (l : Literal) → new.variables ≡ old.variables → new.entries ≡ record { literal = l; level = top old.entries + 1; reason = None } ∷ old.entries → length old.entries ≤ p.looked → KeepsAttached log old p attached false_clause → KeepsAttached log new p attached false_clause
attached_decided log old new p attached false_clause l variables same all k =
    let e : Entry = record { literal = l; level = top old.entries + 1; reason = None } in
    attached_more log old new p p attached false_clause (λ x m. subst (λ (es : List Entry). Among (literals (before 1 es)) x) (sym same) (first_more e old.entries x m)) (λ id h. h) (ready_decided log old new p e variables same refl all k.ready) k

pub attached_propagated : (log : List LogLine) (old new : Trailed) (p q : Propagated) (attached : ℕ) (false_clause : Option ℕ) → AddsImplied old.entries new.entries → KeepsLines p q → IsReady log new q → KeepsAttached log old p attached false_clause → KeepsAttached log new q attached false_clause
attached_propagated log old new p q attached false_clause a lines ready k =
    attached_implied log old new p q attached false_clause a (λ id h. same_watched p q lines.pairs lines.lines id h) ready k

pub attached_before : (log : List LogLine) (old new : Trailed) (p q : Propagated) (attached jump : ℕ) (false_clause : Option ℕ) → new.entries ≡ before (jump + 1) old.entries → q.watched ≡ p.watched → q.lines ≡ p.lines → IsReady log new q → KeepsAttached log old p attached false_clause → KeepsAttached log new q attached false_clause
attached_before log old new p q attached jump false_clause same watched lines ready k =
    attached_more log old new p q attached false_clause (λ x m. subst (λ (es : List Entry). Among (literals (before 1 es)) x) (sym same) (first_before jump old.entries x m)) (same_watched p q (ap (λ (w : Watched). length w.pairs) watched) lines) ready k

pub attached_wider : (log : List LogLine) (old new : Trailed) (p q : Propagated) (attached : ℕ) (false_clause : Option ℕ) → new.entries ≡ old.entries → places new.variables ≤ length q.watched.lists → q.watched.pairs ≡ p.watched.pairs → q.lines ≡ p.lines → q.looked ≡ p.looked → KeepsAttached log old p attached false_clause → KeepsAttached log new q attached false_clause
attached_wider log old new p q attached false_clause same lists pairs lines looked k =
    attached_more log old new p q attached false_clause (λ x m. subst (λ (es : List Entry). Among (literals (before 1 es)) x) (sym same) m) (same_watched p q (ap length pairs) lines) (ready_wider log old new p q same lists pairs lines looked k.ready) k

-- there is a list for each of the literals
pub all_places : (n : ℕ) (w : Watched) (c : List Literal) → IsUpTo n c → places n ≤ length w.lists → AllByRecursion (HasPlace w) c
all_places n w [] up more = tt
all_places n w (l ∷ c) up more = (omega (arith, place_within n l up.0, more), all_places n w c up.1 more)

-- what is not there is absent
pub none_of : (o : Option ℕ) → is_some o ≡ false → o ≡ None
none_of None e = refl
none_of (Some x) e = absurd cc

pub if_none : {P Q : Type 0} (o : Option ℕ) → (P → Q) → IfNone o P → IfNone o Q
if_none None f h = f h
if_none (Some x) f h = tt

-- At level 0, where nothing was looked at or none of two literals is false, they may be watched.

before_zero : (level : ℕ) (entries : List Entry) (l : Literal) → level ≡ 0 → Among (literals (before level entries)) l → ⊥
before_zero level [] l none m = m
before_zero level (e ∷ entries) l none m =
    before_zero level entries l none (subst (λ (b : Bool). Among (literals (cond b (e ∷ entries) (before level entries))) l) (le-ltb e.level level (omega (arith, none))) m)

fresh_pair : (entries : List Entry) (p q : Propagated) (a b : Literal) → top entries ≡ 0 → p.looked ≤ length entries → LooksAgain (literals entries) p q a b → KeepsPair (bottom q.looked entries) entries (record { first = a; second = b })
fresh_pair entries p q a b none within (inl again) l k hl hk ne =
    record {
      earlier = (λ level most m. absurd (before_zero level entries (negated l) (omega (arith, most, none)) m));
      now = (λ m. absurd (none_looked entries (negated l) (subst (λ (n : ℕ). Among (literals (bottom n entries)) (negated l)) (ap (λ (r : Propagated). r.looked) again) m)));
    }
fresh_pair entries p q a b none within (inr same) l k hl hk ne =
    record {
      earlier = (λ level most m. absurd (before_zero level entries (negated l) (omega (arith, most, none)) m));
      now = (λ m. absurd (not_false hl (bottom_inside q.looked entries (negated l) m)));
    }
  where
    not_false : HasWatch (record { first = a; second = b }) l → Among (literals entries) (negated l) → ⊥
    not_false (inl e) m = same.1.0 (subst (λ (x : Literal). Among (literals entries) (negated x)) (sym e) m)
    not_false (inr e) m = same.1.1 (subst (λ (x : Literal). Among (literals entries) (negated x)) (sym e) m)

-- no more of the trail was looked at than before
looked_again : (log : List LogLine) (t : Trailed) (p q : Propagated) (a b : Literal) → LooksAgain (literals t.entries) p q a b → IsReady log t p → IsReady log t q
looked_again log t p q a b (inl again) r = subst (IsReady log t) (sym again) (ready_from_start log t p r)
looked_again log t p q a b (inr same) r = subst (IsReady log t) (sym same.0) r

again_watched : (set : List Literal) (p q : Propagated) (a b : Literal) → LooksAgain set p q a b → q.watched ≡ p.watched
again_watched set p q a b (inl again) = ap (λ (r : Propagated). r.watched) again
again_watched set p q a b (inr same) = ap (λ (r : Propagated). r.watched) same.0

again_lines : (set : List Literal) (p q : Propagated) (a b : Literal) → LooksAgain set p q a b → q.lines ≡ p.lines
again_lines set p q a b (inl again) = ap (λ (r : Propagated). r.lines) again
again_lines set p q a b (inr same) = ap (λ (r : Propagated). r.lines) same.0

module _ (log : List LogLine) (t : Trailed) (p0 p1 p2 p3 : Propagated) (lits : List Literal) (w id : ℕ) (binary : Bool) (watches : WatchesTwo p0 p1 lits (Some w)) (first second : Literal) (stand : (first ≡ get_or lits 0 first) × (second ≡ get_or lits 1 second)) (again : LooksAgain (literals t.entries) p1 p2 first second) (serves : Serves p2 p3 w (record { id = id; binary = binary })) where
  pub two_ready : top t.entries ≡ 0 → clause_at log id ≡ Some lits → HasDistinctVariables lits → (binary ≡ true → length lits ≡ 2) → IsReady log t p0 → IsReady log t p3
  two_ready none named distinct short ready =
      ready_served p2 p3 w (record { id = id; binary = binary }) serves log t (subst (StandsFor log (record { id = id; binary = binary })) (sym pair_is) stands) keeps (looked_again log t p1 p2 first second again before)
    where
      two : (a : Literal) × (b : Literal) × (rest : List Literal) × (lits ≡ a ∷ b ∷ rest) × Adds p0 p1 a b w
      two = two_watched p0 p1 lits w watches

      a : Literal
      a = two.0

      b : Literal
      b = two.1

      adds : Adds p0 p1 a b w
      adds = two.4

      before : IsReady log t p1
      before = ready_added p0 p1 a b w adds log t ready

      first_is : first ≡ a
      first_is = stand.0 ∙ ap (λ (ls : List Literal). get_or ls 0 first) two.3

      second_is : second ≡ b
      second_is = stand.1 ∙ ap (λ (ls : List Literal). get_or ls 1 second) two.3

      again_for : LooksAgain (literals t.entries) p1 p2 a b
      again_for =
          subst (λ (l : Literal). LooksAgain (literals t.entries) p1 p2 l b) first_is (subst (λ (l : Literal). LooksAgain (literals t.entries) p1 p2 first l) second_is again)

      pair_is : pair_at p2.watched w ≡ record { first = a; second = b }
      pair_is = ap (λ (x : Watched). pair_at x w) (again_watched (literals t.entries) p1 p2 first second again) ∙ pair_added p0 p1 a b w adds

      stands : StandsFor log (record { id = id; binary = binary }) (record { first = a; second = b })
      stands = first_two log id binary a b two.2 (named ∙ ap Some two.3) (subst HasDistinctVariables two.3 distinct) (λ all. sym (ap length two.3) ∙ short all)

      keeps : KeepsPair (bottom p2.looked t.entries) t.entries (pair_at p2.watched w)
      keeps = subst (KeepsPair (bottom p2.looked t.entries) t.entries) (sym pair_is) (fresh_pair t.entries p1 p2 a b none before.within again_for)

  pub two_keeps_watched : (i : ℕ) → IsWatchedFor p0 i → IsWatchedFor p3 i
  two_keeps_watched i h =
      let two = two_watched p0 p1 lits w watches in
      let adds : Adds p0 p1 two.0 two.1 w = two.4 in
      let watched = again_watched (literals t.entries) p1 p2 first second again in
      let lines = again_lines (literals t.entries) p1 p2 first second again in
      let free : id_of p2 w ≡ 0 = ap (λ (xs : List Line). (get_or xs w no_line).id) lines ∙ adds.unused in
      served_watched p2 p3 w (record { id = id; binary = binary }) serves i free (same_watched p1 p2 (ap (λ (x : Watched). length x.pairs) watched) lines i (added_watched p0 p1 two.0 two.1 w adds i h))
