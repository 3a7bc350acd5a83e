-- The watch rule, and where clauses stand, after a watch moved and after a literal became true.
use Rattle.std.proofs.Common.{◌≡◌, ◌≢◌, ℕ, ◌<◌, ◌⊎◌, inl, inr, List, [], ◌∷◌, length, drop, ◌++◌, ◌+◌, ◌-◌, ◌≤◌, suc, get_or, refl, ap, sym, subst, ◌∙◌, get_or-set_same, get_or-set_other, length-set, arith}
use Rattle.std.specs.Prelude.{Some}
use Rattle.std.proofs.lemmas.Bool.{cases_eq}
use Rattle.std.proofs.lemmas.List.{length-append, length-drop}
use Rattle.sat_log.specs.Literal.{Literal, negated}
use Rattle.sat_log.specs.Clause.{Among, HasDistinctVariables}
use Rattle.sat_log.specs.Accepted.{clause_at}
use Rattle.sat_log.specs.declared.line.LogLine.{LogLine}
use Rattle.sat_watch.specs.Watched.{Pair, no_pair, pair_at, HasWatch, changed}
use Rattle.sat_log.proofs.LiteralLemmas.{negated-negated}
use Rattle.sat_trail.specs.Trail.{literals, top, bottom}
use Rattle.sat_trail.specs.Units.{AddsImplied}
use Rattle.sat_trail.proofs.Levels.{among_below}
use Rattle.sat_trail.specs.declared.trail.Entry.{Entry}
use Rattle.sat_propagation.specs.declared.propagation.Line.{Line}
use Rattle.sat_propagation.specs.Watching.{Propagated, no_line, line_of, id_of, IsUsed, StandsFor, AreStanding, KeepsPair, KeepsRule, IsPart, AreSettled, MovesAway, KeepsLines}
use Rattle.sat_propagation.proofs.Pairs.{changed_has, changed_apart, changed_keeps, grown_keeps}

module _ (old new : Propagated) (l : Literal) (w : ℕ) (moves : MovesAway old new l w) (below : w < length old.watched.pairs) where
  pub used_before : (r : ℕ) → IsUsed new r → IsUsed old r
  used_before r u =
      let size : length new.watched.pairs ≡ length old.watched.pairs = ap length moves.pairs ∙ length-set old.watched.pairs w (changed (pair_at old.watched w) l moves.to) in
      (omega (arith, u.0), (λ none. u.1 (ap (λ (xs : List Line). (get_or xs r no_line).id) moves.lines ∙ none)))

  pub pair_here : pair_at new.watched w ≡ changed (pair_at old.watched w) l moves.to
  pair_here = ap (λ (ps : List Pair). get_or ps w no_pair) moves.pairs ∙ get_or-set_same old.watched.pairs w (changed (pair_at old.watched w) l moves.to) no_pair below

  pub pair_there : (r : ℕ) → r ≢ w → pair_at new.watched r ≡ pair_at old.watched r
  pair_there r ne = ap (λ (ps : List Pair). get_or ps r no_pair) moves.pairs ∙ get_or-set_other old.watched.pairs w r (changed (pair_at old.watched w) l moves.to) no_pair ne

  module _ (apart : (pair_at old.watched w).first ≢ (pair_at old.watched w).second) (has : HasWatch (pair_at old.watched w) l) where
    pub moved_rule : (part entries : List Entry) → HasDistinctVariables (literals entries) → IsPart part entries → Among (literals entries) (negated l) → ¬ Among (literals entries) (negated moves.to) → KeepsRule part entries old → KeepsRule part entries new
    moved_rule part entries d inside false_ open_ keeps r u = by_place (cases_eq r w)
      where
        by_place : (r ≡ w) ⊎ (r ≡ w → ⊥) → KeepsPair part entries (pair_at new.watched r)
        by_place (inl same) =
            subst (λ (x : ℕ). KeepsPair part entries (pair_at new.watched x)) (sym same) (subst (KeepsPair part entries) (sym pair_here)
            (changed_keeps (pair_at old.watched w) l moves.to apart has part entries d inside false_ open_ (subst (λ (x : ℕ). KeepsPair part entries (pair_at old.watched x)) same (keeps r (used_before r u)))))
        by_place (inr ne) = subst (KeepsPair part entries) (sym (pair_there r ne)) (keeps r (used_before r u))

    pub moved_stands : (log : List LogLine) (c : List Literal) → clause_at log (id_of old w) ≡ Some c → Among c moves.to → ((x : Literal) → HasWatch (pair_at old.watched w) x → moves.to ≢ x) → AreStanding log old → AreStanding log new
    moved_stands log c named stands other all r u = by_place (cases_eq r w)
      where
        lines : line_of old r ≡ line_of new r
        lines = ap (λ (xs : List Line). get_or xs r no_line) (sym moves.lines)

        here : (s : StandsFor log (line_of old w) (pair_at old.watched w)) → StandsFor log (line_of old w) (changed (pair_at old.watched w) l moves.to)
        here s =
            record {
              clause = s.clause;
              named = s.named;
              stands = (λ x m. by_watch x (changed_has (pair_at old.watched w) l moves.to apart has x m));
              apart = changed_apart (pair_at old.watched w) l moves.to apart has (λ x m ne. other x m);
              whole = (λ all x m. absurd (other moves.to (s.whole all moves.to (subst (λ (d : List Literal). Among d moves.to) same_clause stands)) refl));
            }
          where
            same_clause : c ≡ s.clause
            same_clause = let both : Some c ≡ Some s.clause = sym named ∙ s.named in cc

            by_watch : (x : Literal) → (x ≡ moves.to) ⊎ (HasWatch (pair_at old.watched w) x × (x ≢ l)) → Among s.clause x
            by_watch x (inl e) = subst (Among s.clause) (sym e) (subst (λ (d : List Literal). Among d moves.to) same_clause stands)
            by_watch x (inr o) = s.stands x o.0

        by_place : (r ≡ w) ⊎ (r ≡ w → ⊥) → StandsFor log (line_of new r) (pair_at new.watched r)
        by_place (inr ne) = subst (λ (i : Line). StandsFor log i (pair_at new.watched r)) lines (subst (StandsFor log (line_of old r)) (sym (pair_there r ne)) (all r (used_before r u)))
        by_place (inl same) =
            subst (λ (i : Line). StandsFor log i (pair_at new.watched r)) lines
            (subst (λ (x : ℕ). StandsFor log (line_of old x) (pair_at new.watched x)) (sym same) (subst (StandsFor log (line_of old w)) (sym pair_here) (here (subst (λ (x : ℕ). StandsFor log (line_of old x) (pair_at old.watched x)) same (all r (used_before r u))))))

pub grown_rule : (part entries : List Entry) (e : Entry) (p : Propagated) → e.level ≡ top entries → KeepsRule part entries p → KeepsRule part (e ∷ entries) p
grown_rule part entries e p level keeps r u = grown_keeps part entries e (pair_at p.watched r) level (keeps r u)

-- an entry more was looked at
pub looked_rule : (part entries : List Entry) (e : Entry) (l : Literal) (p : Propagated) → e.literal ≡ negated l → AreSettled p entries l → KeepsRule part entries p → KeepsRule (e ∷ part) entries p
looked_rule part entries e l p same settled keeps r u a b ha hb ne =
    record { earlier = (keeps r u a b ha hb ne).earlier; now = by_place }
  where
    by_place : (e.literal ≡ negated a) ⊎ Among (literals part) (negated a) → Among (literals entries) b
    by_place (inl here) =
        let a_is : a ≡ l = sym (negated-negated a) ∙ ap negated (sym here ∙ same) ∙ negated-negated l in
        settled r u.0 (subst (HasWatch (pair_at p.watched r)) a_is ha) u.1 b hb (λ b_is. ne (a_is ∙ sym b_is))
    by_place (inr m) = (keeps r u a b ha hb ne).now m

-- The part that was looked at.

drop_past : (xs ys : List Entry) (m : ℕ) → drop (length xs + m) (xs ++ ys) ≡ drop m ys
drop_past [] ys m = let same : 0 + m ≡ m = omega arith in ap (λ (n : ℕ). drop n ys) same
drop_past (x ∷ xs) ys m =
    let more : length (x ∷ xs) + m ≡ suc (length xs + m) = omega arith in
    ap (λ (n : ℕ). drop n (x ∷ (xs ++ ys))) more ∙ drop_past xs ys m

pub bottom_grown : (old new : List Entry) (i : ℕ) → AddsImplied old new → i ≤ length old → bottom i new ≡ bottom i old
bottom_grown old new i a h =
    let size : length (a.added ++ old) - i ≡ length a.added + (length old - i) = omega (arith, length-append a.added old) in
    ap (bottom i) a.same ∙ ap (λ (n : ℕ). drop n (a.added ++ old)) size ∙ drop_past a.added old (length old - i)

pub in_grown : (old new : List Entry) (k : Literal) → AddsImplied old new → Among (literals old) k → Among (literals new) k
in_grown old new k a m = subst (λ (es : List Entry). Among (literals es) k) (sym a.same) (among_below a.added old k m)

-- an entry that was made when there were i others is there
pub entry_below : (entries : List Entry) (e : Entry) (i : ℕ) → bottom (i + 1) entries ≡ e ∷ bottom i entries → i + 1 ≤ length entries
entry_below entries e i h =
    let size : length (bottom (i + 1) entries) ≡ suc (length (bottom i entries)) = ap length h in
    omega (arith, size, length-drop (length entries - (i + 1)) entries, length-drop (length entries - i) entries)

-- The lines for which pairs watch.

pub lines_same : (p : Propagated) → KeepsLines p p
lines_same p = record { pairs = refl; lines = refl; lists = refl }

pub lines_twice : (old mid new : Propagated) → KeepsLines old mid → KeepsLines mid new → KeepsLines old new
lines_twice old mid new a b = record { pairs = b.pairs ∙ a.pairs; lines = b.lines ∙ a.lines; lists = b.lists ∙ a.lists }

pub lines_moved : (old new : Propagated) (l : Literal) (w : ℕ) → MovesAway old new l w → KeepsLines old new
lines_moved old new l w m =
    record {
      pairs = ap length m.pairs ∙ length-set old.watched.pairs w (changed (pair_at old.watched w) l m.to);
      lines = m.lines;
      lists = m.lists.places;
    }

pub lines_looked : (old new : Propagated) (n : ℕ) → KeepsLines old new → KeepsLines old (record { watched = new.watched; lines = new.lines; looked = n })
lines_looked old new n k = record { pairs = k.pairs; lines = k.lines; lists = k.lists }
