-- What follows from the watch rule.
use Rattle.std.proofs.Common.{◌≡◌, ℕ, ◌+◌, ◌<◌, ◌≤◌, ◌⊎◌, inl, inr, List, refl, ap, sym, subst, ◌∙◌, arith}
use Rattle.std.specs.Prelude.{Option, option_to_list}
use Rattle.std.proofs.lemmas.Bool.{cases_lt}
use Rattle.sat_log.specs.Literal.{Literal, negated}
use Rattle.sat_log.specs.Clause.{Among, IsUnset}
use Rattle.sat_log.specs.Accepted.{clause_at}
use Rattle.sat_log.specs.declared.line.LogLine.{LogLine}
use Rattle.sat_watch.specs.Watched.{Pair, pair_at}
use Rattle.sat_trail.specs.Trail.{literals, top, before}
use Rattle.sat_trail.specs.Units.{IsQuiet, AreQuiet}
use Rattle.sat_trail.specs.declared.trail.Entry.{Entry}
use Rattle.sat_trail.proofs.Levels.{before_before, before_higher}
use Rattle.sat_trail.proofs.Literals.{set_or_not}
use Rattle.sat_trail.proofs.Trails.{before_all}
use Rattle.sat_propagation.specs.declared.propagation.Line.{Line}
use Rattle.sat_propagation.specs.Watching.{Propagated, id_of, line_of, IsUsed, IsBacked, Backs, StandsFor, AreStanding, KeepsPair, KeepsRule}

-- what backs a literal in the whole trail does so as if the next level opened
pub backed_next : (entries : List Entry) (a b : Literal) → Backs entries entries a b → IsBacked (top entries + 1) entries a b
backed_next entries a b k level most m = by_level (cases_lt level (top entries + 1))
  where
    by_level : (level < top entries + 1) ⊎ (top entries + 1 ≤ level) → Among (literals (before level entries)) b
    by_level (inl below) = k.earlier level (omega arith) m
    by_level (inr above) =
        let last : level ≡ top entries + 1 = omega arith in
        let now : before level entries ≡ entries = ap (λ (n : ℕ). before n entries) last ∙ before_all (top entries) entries (omega arith) in
        subst (λ (es : List Entry). Among (literals es) b) (sym now) (k.now (subst (λ (es : List Entry). Among (literals es) (negated a)) now m))

abbrev Implies : Literal → Literal → List Entry → Type 0
Implies a b entries = Among (literals entries) (negated a) → Among (literals entries) b

-- what backs a literal does so in a trail that is taken back
pub backed_before : (most m any : ℕ) (entries : List Entry) (a b : Literal) → m ≤ most → IsBacked most entries a b → IsBacked any (before m entries) a b
backed_before most m any entries a b h k level within = by (cases_lt level m)
  where
    by : (level < m) ⊎ (m ≤ level) → Implies a b (before level (before m entries))
    by (inl below) =
        subst (Implies a b) (sym (before_before level m entries (omega arith))) (k level (omega arith))
    by (inr above) = subst (Implies a b) (sym (before_higher level m entries above)) (k m h)

-- A clause of which two literals are watched, where all of the trail was looked at.
module _ (log : List LogLine) (entries : List Entry) (line : Line) (pair : Pair) (s : StandsFor log line pair) (keeps : KeepsPair entries entries pair) where
  abbrev set : List Literal
  set = literals entries

  true_first : Among set pair.first → IsQuiet set s.clause
  true_first m = inl (record { literal = pair.first; stands = s.stands pair.first (inl refl); is_set = m })

  true_second : Among set pair.second → IsQuiet set s.clause
  true_second m = inl (record { literal = pair.second; stands = s.stands pair.second (inr refl); is_set = m })

  second_open : IsUnset set pair.first → ¬ Among set pair.second → Among set (negated pair.second) ⊎ (¬ Among set (negated pair.second)) → IsQuiet set s.clause
  second_open u closed (inl m) = true_first ((keeps pair.second pair.first (inr refl) (inl refl) (λ e. s.apart (sym e))).now m)
  second_open u closed (inr free) = inr (record {
    first = pair.first;
    second = pair.second;
    apart = s.apart;
    first_stands = s.stands pair.first (inl refl);
    second_stands = s.stands pair.second (inr refl);
    first_unset = u;
    second_unset = (closed, free);
  })

  first_unset : IsUnset set pair.first → Among set pair.second ⊎ (¬ Among set pair.second) → IsQuiet set s.clause
  first_unset u (inl m) = true_second m
  first_unset u (inr closed) = second_open u closed (set_or_not set (negated pair.second))

  first_open : ¬ Among set pair.first → Among set (negated pair.first) ⊎ (¬ Among set (negated pair.first)) → IsQuiet set s.clause
  first_open closed (inl m) = true_second ((keeps pair.first pair.second (inl refl) (inr refl) s.apart).now m)
  first_open closed (inr free) = first_unset (closed, free) (set_or_not set pair.second)

  by_first : Among set pair.first ⊎ (¬ Among set pair.first) → IsQuiet set s.clause
  by_first (inl m) = true_first m
  by_first (inr closed) = first_open closed (set_or_not set (negated pair.first))

  pub pair_quiet : AreQuiet set (option_to_list (clause_at log line.id))
  pair_quiet = subst (λ (o : Option (List Literal)). AreQuiet set (option_to_list o)) (sym s.named) (by_first (set_or_not set pair.first), tt)

pub watched_quiet : (log : List LogLine) (entries : List Entry) (p : Propagated) (w : ℕ) → AreStanding log p → KeepsRule entries entries p → IsUsed p w → AreQuiet (literals entries) (option_to_list (clause_at log (id_of p w)))
watched_quiet log entries p w standing rule used =
    pair_quiet log entries (line_of p w) (pair_at p.watched w) (standing w used) (rule w used)
