-- What holds between calls, when the log, the trail or the watches have changed.
use Rattle.std.proofs.Common.{◌≡◌, ◌≢◌, ℕ, ◌+◌, ◌-◌, ◌<◌, ◌≤◌, Bool, cond, ◌⊎◌, inl, inr, List, [], ◌∷◌, ◌++◌, length, drop, suc, get_or, ap, sym, subst, ◌∙◌, arith}
use Rattle.std.specs.Prelude.{option_to_list}
use Rattle.std.proofs.lemmas.Bool.{cases_eq, le-ltb}
use Rattle.std.proofs.lemmas.List.{get_or_append_left, length_push}
use Rattle.sat_log.specs.Literal.{Literal, negated}
use Rattle.sat_log.specs.Clause.{Among}
use Rattle.sat_log.specs.Accepted.{clause_at}
use Rattle.sat_log.specs.declared.line.LogLine.{LogLine}
use Rattle.sat_watch.specs.Watched.{Pair, Watched, no_pair, pair_at}
use Rattle.sat_trail.specs.Trail.{Trailed, literals, top, before, bottom, places}
use Rattle.sat_trail.specs.Units.{AreQuiet}
use Rattle.sat_trail.specs.declared.trail.Entry.{Entry}
use Rattle.sat_trail.proofs.Growth.{clause_stays}
use Rattle.sat_propagation.specs.declared.propagation.Line.{Line}
use Rattle.sat_propagation.specs.Watching.{Propagated, no_line, line_of, id_of, IsUsed, StandsFor, AreStanding, KeepsPair, KeepsRule, IsReady, IsWatchedFor, Adds, Serves}
use Rattle.sat_propagation.proofs.Quiet.{backed_next, backed_before, watched_quiet}
use Rattle.sat_propagation.proofs.Rules.{grown_rule}

-- The part that was looked at.

pub bottom_all : (entries : List Entry) (i : ℕ) → length entries ≤ i → bottom i entries ≡ entries
bottom_all entries i h =
    let none : length entries - i ≡ 0 = omega arith in
    ap (λ (n : ℕ). drop n entries) none

pub bottom_one : (e : Entry) (entries : List Entry) (i : ℕ) → i ≤ length entries → bottom i (e ∷ entries) ≡ bottom i entries
bottom_one e entries i h =
    let more : length (e ∷ entries) - i ≡ suc (length entries - i) = omega arith in
    ap (λ (n : ℕ). drop n (e ∷ entries)) more

-- A line more.

pub ready_line : (log : List LogLine) (t : Trailed) (p : Propagated) (line : LogLine) → IsReady log t p → IsReady (log ++ line ∷ []) t p
ready_line log t p line h = record { lists = h.lists; standing = stand; within = h.within; rule = h.rule }
  where
    stand : AreStanding (log ++ line ∷ []) p
    stand w u =
        let s = h.standing w u in
        record { clause = s.clause; named = clause_stays log line (id_of p w) s.clause s.named; stands = s.stands; apart = s.apart; whole = s.whole }

-- An entry more.

pub ready_implied : (log : List LogLine) (old new : Trailed) (p : Propagated) (e : Entry) → new.variables ≡ old.variables → new.entries ≡ e ∷ old.entries → e.level ≡ top old.entries → IsReady log old p → IsReady log new p
ready_implied log old new p e variables same level h =
    record {
      lists = subst (λ (n : ℕ). places n ≤ length p.watched.lists) (sym variables) h.lists;
      standing = h.standing;
      within = omega (arith, h.within, ap length same);
      rule = subst (λ (es : List Entry). KeepsRule (bottom p.looked es) es p) (sym same)
          (subst (λ (part : List Entry). KeepsRule part (e ∷ old.entries) p) (sym (bottom_one e old.entries p.looked h.within)) (grown_rule (bottom p.looked old.entries) old.entries e p level h.rule));
    }

decided_rule : (p : Propagated) (entries : List Entry) (e : Entry) → e.level ≡ top entries + 1 → KeepsRule entries entries p → KeepsRule entries (e ∷ entries) p
decided_rule p entries e level keeps r u a b ha hb ne =
    let k = keeps r u a b ha hb ne in
    record {
      earlier = (λ l most m.
          let same : before l (e ∷ entries) ≡ before l entries = ap (λ (x : Bool). cond x (e ∷ entries) (before l entries)) (le-ltb e.level l most) in
          subst (λ (es : List Entry). Among (literals es) b) (sym same) (backed_next entries a b k l (omega (arith, level)) (subst (λ (es : List Entry). Among (literals es) (negated a)) same m)));
      now = (λ m. inr (k.now m));
    }

pub ready_decided : (log : List LogLine) (old new : Trailed) (p : Propagated) (e : Entry) → new.variables ≡ old.variables → new.entries ≡ e ∷ old.entries → e.level ≡ top old.entries + 1 → length old.entries ≤ p.looked → IsReady log old p → IsReady log new p
ready_decided log old new p e variables same level all h =
    let whole : bottom p.looked old.entries ≡ old.entries = bottom_all old.entries p.looked all in
    record {
      lists = subst (λ (n : ℕ). places n ≤ length p.watched.lists) (sym variables) h.lists;
      standing = h.standing;
      within = omega (arith, h.within, ap length same);
      rule = subst (λ (es : List Entry). KeepsRule (bottom p.looked es) es p) (sym same)
          (subst (λ (part : List Entry). KeepsRule part (e ∷ old.entries) p) (sym (bottom_one e old.entries p.looked h.within ∙ whole))
          (decided_rule p old.entries e level (subst (λ (part : List Entry). KeepsRule part old.entries p) whole h.rule)));
    }

-- Entries taken back.

before_rule : (p : Propagated) (part entries : List Entry) (level : ℕ) → level < top entries → KeepsRule part entries p → KeepsRule (before (level + 1) entries) (before (level + 1) entries) p
before_rule p part entries level below keeps r u a b ha hb ne =
    let k = keeps r u a b ha hb ne in
    record {
      earlier = backed_before (top entries) (level + 1) (top (before (level + 1) entries)) entries a b (omega arith) k.earlier;
      now = k.earlier (level + 1) (omega arith);
    }

pub ready_before : (log : List LogLine) (old new : Trailed) (p : Propagated) (level n : ℕ) → new.variables ≡ old.variables → new.entries ≡ before (level + 1) old.entries → level < top old.entries → n ≡ length new.entries → IsReady log old p → IsReady log new (record { watched = p.watched; lines = p.lines; looked = n })
ready_before log old new p level n variables same below looked h =
    let back : List Entry = before (level + 1) old.entries in
    let all : length back ≤ n = omega (arith, looked, ap length same) in
    record {
      lists = subst (λ (v : ℕ). places v ≤ length p.watched.lists) (sym variables) h.lists;
      standing = h.standing;
      within = omega (arith, looked);
      rule = subst (λ (es : List Entry). KeepsRule (bottom n es) es p) (sym same)
          (subst (λ (part : List Entry). KeepsRule part back p) (sym (bottom_all back n all))
          (before_rule p (bottom p.looked old.entries) old.entries level below h.rule));
    }

-- Lists for more variables.
pub ready_wider : (log : List LogLine) (old new : Trailed) (p q : Propagated) → new.entries ≡ old.entries → places new.variables ≤ length q.watched.lists → q.watched.pairs ≡ p.watched.pairs → q.lines ≡ p.lines → q.looked ≡ p.looked → IsReady log old p → IsReady log new q
ready_wider log old new p q same lists pairs lines looked h =
    record {
      lists = lists;
      standing = (λ w u. subst (λ (ps : List Pair). StandsFor log (line_of q w) (get_or ps w no_pair)) (sym pairs) (subst (λ (l : Line). StandsFor log l (pair_at p.watched w)) (sym (line w)) (h.standing w (used w u))));
      within = omega (arith, h.within, looked, ap length same);
      rule = (λ w u. subst (λ (ps : List Pair). KeepsPair (bottom q.looked new.entries) new.entries (get_or ps w no_pair)) (sym pairs) (subst (λ (n : ℕ). KeepsPair (bottom n new.entries) new.entries (pair_at p.watched w)) (sym looked) (subst (λ (es : List Entry). KeepsPair (bottom p.looked es) es (pair_at p.watched w)) (sym same) (h.rule w (used w u)))));
    }
  where
    line : (w : ℕ) → line_of q w ≡ line_of p w
    line w = ap (λ (xs : List Line). get_or xs w no_line) lines

    used : (w : ℕ) → IsUsed q w → IsUsed p w
    used w u = (omega (arith, u.0, ap length pairs), (λ none. u.1 (ap (λ (l : Line). l.id) (line w) ∙ none)))

-- A pair more, which watches for no line.
module _ (old new : Propagated) (a b : Literal) (w : ℕ) (adds : Adds old new a b w) where
  added_used : (r : ℕ) → IsUsed new r → IsUsed old r
  added_used r u = by_place (cases_eq r w)
    where
      by_place : (r ≡ w) ⊎ (r ≡ w → ⊥) → IsUsed old r
      by_place (inl same) = absurd (u.1 (ap (id_of new) same ∙ adds.unused))
      by_place (inr ne) =
          let size : length new.watched.pairs ≡ length old.watched.pairs + 1 = ap length adds.pairs ∙ length_push old.watched.pairs (record { first = a; second = b }) in
          let other : r ≢ length old.watched.pairs = (λ e. ne (e ∙ sym adds.number)) in
          (omega (arith, u.0, size, other), (λ none. u.1 (ap (λ (l : Line). l.id) (adds.lines r) ∙ none)))

  added_pair : (r : ℕ) → r < length old.watched.pairs → pair_at new.watched r ≡ pair_at old.watched r
  added_pair r below = ap (λ (ps : List Pair). get_or ps r no_pair) adds.pairs ∙ get_or_append_left old.watched.pairs (record { first = a; second = b } ∷ []) no_pair r below

  pub ready_added : (log : List LogLine) (t : Trailed) → IsReady log t old → IsReady log t new
  ready_added log t h =
      record {
        lists = subst (λ (n : ℕ). places t.variables ≤ n) (sym adds.lists) h.lists;
        standing = (λ r u.
            let v = added_used r u in
            subst (StandsFor log (line_of new r)) (sym (added_pair r v.0)) (subst (λ (l : Line). StandsFor log l (pair_at old.watched r)) (sym (adds.lines r)) (h.standing r v)));
        within = omega (arith, h.within, adds.looked);
        rule = (λ r u.
            let v = added_used r u in
            subst (KeepsPair (bottom new.looked t.entries) t.entries) (sym (added_pair r v.0)) (subst (λ (n : ℕ). KeepsPair (bottom n t.entries) t.entries (pair_at old.watched r)) (sym adds.looked) (h.rule r v)));
      }

  pub added_watched : (id : ℕ) → IsWatchedFor old id → IsWatchedFor new id
  added_watched id h =
      let below = h.used.0 in
      record {
        watcher = h.watcher;
        used = (omega (arith, below, ap length adds.pairs, length_push old.watched.pairs (record { first = a; second = b })), (λ none. h.used.1 (sym (ap (λ (l : Line). l.id) (adds.lines h.watcher)) ∙ none)));
        line = ap (λ (l : Line). l.id) (adds.lines h.watcher) ∙ h.line;
      }

-- A pair that watches for a line.
module _ (old new : Propagated) (w : ℕ) (line : Line) (serves : Serves old new w line) where
  served_pair : (r : ℕ) → pair_at new.watched r ≡ pair_at old.watched r
  served_pair r = ap (λ (x : Watched). pair_at x r) serves.watched

  served_used : (r : ℕ) → r ≢ w → IsUsed new r → IsUsed old r
  served_used r ne u =
      (omega (arith, u.0, ap (λ (x : Watched). length x.pairs) serves.watched), (λ none. u.1 (ap (λ (l : Line). l.id) (serves.others r ne) ∙ none)))

  pub ready_served : (log : List LogLine) (t : Trailed) → StandsFor log line (pair_at old.watched w) → KeepsPair (bottom old.looked t.entries) t.entries (pair_at old.watched w) → IsReady log t old → IsReady log t new
  ready_served log t stands keeps h =
      record {
        lists = subst (λ (x : Watched). places t.variables ≤ length x.lists) (sym serves.watched) h.lists;
        standing = (λ r u. standing r u (cases_eq r w));
        within = omega (arith, h.within, serves.looked);
        rule = (λ r u. subst (λ (n : ℕ). KeepsPair (bottom n t.entries) t.entries (pair_at new.watched r)) (sym serves.looked) (subst (KeepsPair (bottom old.looked t.entries) t.entries) (sym (served_pair r)) (rule r u (cases_eq r w))));
      }
    where
      standing : (r : ℕ) → IsUsed new r → (r ≡ w) ⊎ (r ≡ w → ⊥) → StandsFor log (line_of new r) (pair_at new.watched r)
      standing r u (inl same) = subst (λ (x : ℕ). StandsFor log (line_of new x) (pair_at new.watched x)) (sym same) (subst (StandsFor log (line_of new w)) (sym (served_pair w)) (subst (λ (l : Line). StandsFor log l (pair_at old.watched w)) (sym serves.line_is) stands))
      standing r u (inr ne) = subst (StandsFor log (line_of new r)) (sym (served_pair r)) (subst (λ (l : Line). StandsFor log l (pair_at old.watched r)) (sym (serves.others r ne)) (h.standing r (served_used r ne u)))

      rule : (r : ℕ) → IsUsed new r → (r ≡ w) ⊎ (r ≡ w → ⊥) → KeepsPair (bottom old.looked t.entries) t.entries (pair_at old.watched r)
      rule r u (inl same) = subst (λ (x : ℕ). KeepsPair (bottom old.looked t.entries) t.entries (pair_at old.watched x)) (sym same) keeps
      rule r u (inr ne) = h.rule r (served_used r ne u)

  -- it watches for the line now
  pub served_here : w < length old.watched.pairs → line.id ≢ 0 → IsWatchedFor new line.id
  served_here below some =
      record {
        watcher = w;
        used = (omega (arith, below, ap (λ (x : Watched). length x.pairs) serves.watched), (λ none. some (sym (ap (λ (l : Line). l.id) serves.line_is) ∙ none)));
        line = ap (λ (l : Line). l.id) serves.line_is;
      }

  -- and one that did before still does, where this one watched for none
  pub served_watched : (other : ℕ) → id_of old w ≡ 0 → IsWatchedFor old other → IsWatchedFor new other
  served_watched other free h =
      let ne : h.watcher ≢ w = (λ e. h.used.1 (ap (id_of old) e ∙ free)) in
      record {
        watcher = h.watcher;
        used = (omega (arith, h.used.0, ap (λ (x : Watched). length x.pairs) serves.watched), (λ none. h.used.1 (sym (ap (λ (l : Line). l.id) (serves.others h.watcher ne)) ∙ none)));
        line = ap (λ (l : Line). l.id) (serves.others h.watcher ne) ∙ h.line;
      }

-- The trail is looked at again.

pub none_looked : (entries : List Entry) (k : Literal) → Among (literals (bottom 0 entries)) k → ⊥
none_looked entries k m = from entries (subst (λ (n : ℕ). Among (literals (drop n entries)) k) (omega arith) m)
  where
    from : (es : List Entry) → Among (literals (drop (length es) es)) k → ⊥
    from [] n = n
    from (e ∷ es) n = from es n

pub ready_from_start : (log : List LogLine) (t : Trailed) (p : Propagated) → IsReady log t p → IsReady log t (record { watched = p.watched; lines = p.lines; looked = 0 })
ready_from_start log t p h =
    record {
      lists = h.lists;
      standing = h.standing;
      within = omega arith;
      rule = (λ w u a b ha hb ne. record { earlier = (h.rule w u a b ha hb ne).earlier; now = (λ m. absurd (none_looked t.entries (negated a) m)) });
    }

-- What is watched.

pub same_watched : (old new : Propagated) → length new.watched.pairs ≡ length old.watched.pairs → new.lines ≡ old.lines → (id : ℕ) → IsWatchedFor old id → IsWatchedFor new id
same_watched old new pairs lines id h =
    let line : id_of new h.watcher ≡ id_of old h.watcher = ap (λ (xs : List Line). (get_or xs h.watcher no_line).id) lines in
    record {
      watcher = h.watcher;
      used = (omega (arith, h.used.0, pairs), (λ none. h.used.1 (sym line ∙ none)));
      line = line ∙ h.line;
    }

-- Where all was looked at, a clause that is watched is true or has two unset literals.
pub ready_quiet : (log : List LogLine) (t : Trailed) (p : Propagated) (id : ℕ) → IsReady log t p → length t.entries ≤ p.looked → IsWatchedFor p id → AreQuiet (literals t.entries) (option_to_list (clause_at log id))
ready_quiet log t p id h all w =
    subst (λ (i : ℕ). AreQuiet (literals t.entries) (option_to_list (clause_at log i))) w.line
    (watched_quiet log t.entries p w.watcher h.standing (subst (λ (part : List Entry). KeepsRule part t.entries p) (bottom_all t.entries p.looked all) h.rule) w.used)
