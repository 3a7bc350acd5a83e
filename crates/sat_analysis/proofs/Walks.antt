-- The walk back along the trail: an entry is passed over, its negation is kept, or it is resolved away.
use Rattle.std.proofs.Common.{◌≡◌, ◌≢◌, ℕ, ◌+◌, ◌<◌, ◌≤◌, Bool, true, false, ◌⊎◌, inl, inr, List, [], ◌∷◌, ◌++◌, length, map, set, refl, ap, sym, subst, ◌∙◌, get_or-set_same, length-set, arith}
use Rattle.std.specs.Prelude.{Some}
use Rattle.std.specs.List.{AllByRecursion}
use Rattle.std.proofs.lemmas.Bool.{cases_lt, false≢true}
use Rattle.std.proofs.lemmas.List.{length_push, set_past, get_or_past}
use Rattle.sat_log.specs.Literal.{Literal, negated}
use Rattle.sat_log.specs.Clause.{Among, IsFalsified, IsUnset, IsUnit, HasDistinctVariables}
use Rattle.sat_log.specs.Accepted.{clause_at}
use Rattle.sat_log.specs.Learned.{StandsInSome}
use Rattle.sat_log.specs.declared.line.LogLine.{LogLine}
use Rattle.sat_log.proofs.ListLemmas.{All-append, All-front, All-back}
use Rattle.sat_log.proofs.LiteralLemmas.{negated-negated, among_append, among_front, among_push, All-among, All-from_among}
use Rattle.sat_trail.specs.Trail.{literals}
use Rattle.sat_trail.specs.Units.{Implies}
use Rattle.sat_analysis.specs.Analysis.{Analyzed, is_marked, IsMarked, IsUnmarked, HasVariable, HasOther, MarksOthers, AreFalseIn, Explains, IsBase, IsAnalysis}
use Rattle.sat_analysis.proofs.Marks.{other_marked}
use Rattle.sat_trail.proofs.Lists.{All-map, All-both}
use Rattle.sat_trail.specs.declared.trail.Entry.{Entry}

-- Lists of literals and of entries.

-- the same, where each entry's literal is known to be one of some
All-with : (P Q : Entry → Type 0) (part : List Entry) (all : List Literal) → ((l : Literal) → Among (literals part) l → Among all l) → ((f : Entry) → Among all f.literal → P f → Q f) → AllByRecursion P part → AllByRecursion Q part
All-with P Q [] all inside f h = tt
All-with P Q (e ∷ part) all inside f h =
    (f e (inside e.literal (inl refl)) h.0, All-with P Q part all (λ l m. inside l (inr m)) f h.1)

pub All-entries : (P Q : Entry → Type 0) (entries : List Entry) → ((f : Entry) → Among (literals entries) f.literal → P f → Q f) → AllByRecursion P entries → AllByRecursion Q entries
All-entries P Q entries f h = All-with P Q entries (literals entries) (λ l m. m) f h

-- two of distinct literals with one variable are one
pub one_literal : (xs : List Literal) (l k : Literal) → HasDistinctVariables xs → Among xs l → Among xs k → l.var ≡ k.var → l ≡ k
one_literal [] l k d m n v = absurd m
one_literal (x ∷ xs) l k d (inl e) (inl f) v = sym e ∙ f
one_literal (x ∷ xs) l k d (inl e) (inr n) v =
    absurd (All-among (λ y. y.var ≢ x.var) xs k d.0 n (sym v ∙ ap (λ (y : Literal). y.var) (sym e)))
one_literal (x ∷ xs) l k d (inr m) (inl f) v =
    absurd (All-among (λ y. y.var ≢ x.var) xs l d.0 m (v ∙ ap (λ (y : Literal). y.var) (sym f)))
one_literal (x ∷ xs) l k d (inr m) (inr n) v = one_literal xs l k d.1 m n v

has_variable : (entries : List Entry) (l : Literal) → Among (literals entries) l → HasVariable entries l.var
has_variable [] l m = absurd m
has_variable (e ∷ entries) l (inl same) = inl (ap (λ (k : Literal). k.var) same)
has_variable (e ∷ entries) l (inr m) = inr (has_variable entries l m)

pub distinct_push : (xs : List Literal) (x : Literal) → HasDistinctVariables xs → AllByRecursion (λ l. l.var ≢ x.var) xs → HasDistinctVariables (xs ++ x ∷ [])
distinct_push [] x d a = (tt, tt)
distinct_push (y ∷ xs) x d a =
    (All-append (λ k. k.var ≢ y.var) xs (x ∷ []) d.0 ((λ e. a.0 (sym e)), tt), distinct_push xs x d.1 a.1)

-- the marked literals of the rest are set
set_in : (seen : List Bool) (set_ : List Literal) (rest : List Entry) (l : Literal) → AllByRecursion (λ e. IsMarked seen e.literal.var → Among set_ e.literal) rest → Among (literals rest) l → IsMarked seen l.var → Among set_ l
set_in seen set_ [] l h m marked = absurd m
set_in seen set_ (e ∷ rest) l h (inl same) marked =
    subst (Among set_) same (h.0 (subst (λ (k : Literal). IsMarked seen k.var) (sym same) marked))
set_in seen set_ (e ∷ rest) l h (inr m) marked = set_in seen set_ rest l h.1 m marked

-- a clause that implies a literal is unit where that literal is unset
pub unit_from : (set_ c : List Literal) (u : Literal) → HasDistinctVariables c → Among c u → ((k : Literal) → Among c k → k ≢ u → Among set_ (negated k)) → IsUnset set_ u → IsUnit set_ c u
unit_from set_ [] u d m others free = absurd m
unit_from set_ (x ∷ c) u d (inl e) others free =
    let apart : (k : Literal) → Among c k → k ≢ u = (λ k n same. All-among (λ y. y.var ≢ x.var) c k d.0 n (ap (λ (y : Literal). y.var) (same ∙ sym e))) in
    ([], c, ap (λ (y : Literal). y ∷ c) e, tt, free, All-from_among (λ k. Among set_ (negated k)) c (λ k n. others k (inr n) (apart k n)))
unit_from set_ (x ∷ c) u d (inr m) others free =
    let rest = unit_from set_ c u d.1 m (λ k n ne. others k (inr n) ne) free in
    let first : x ≢ u = (λ same. All-among (λ y. y.var ≢ x.var) c u d.0 m (ap (λ (y : Literal). y.var) (sym same))) in
    (x ∷ rest.0, rest.1, ap (λ (ys : List Literal). x ∷ ys) rest.2, (others x (inl refl) first, rest.3), rest.4, rest.5)

-- Marks, when one is taken away.

gone : (seen : List Bool) (v : ℕ) → is_marked (set seen v false) v ≡ false
gone seen v = by_place (cases_lt v (length seen))
  where
    by_place : (v < length seen) ⊎ (length seen ≤ v) → is_marked (set seen v false) v ≡ false
    by_place (inl h) = get_or-set_same seen v false false h
    by_place (inr h) = ap (λ (s : List Bool). is_marked s v) (set_past seen v false h) ∙ get_or_past seen v false h

pub not_gone : (seen : List Bool) (v w : ℕ) → IsMarked (set seen v false) w → (w ≢ v) × IsMarked seen w
not_gone seen v w h = (other, sym (other_marked seen v w false other) ∙ h)
  where
    other : w ≢ v
    other e = false≢true (sym (gone seen v) ∙ ap (is_marked (set seen v false)) (sym e) ∙ h)

stays : (seen : List Bool) (v w : ℕ) → w ≢ v → IsMarked seen w → IsMarked (set seen v false) w
stays seen v w ne h = other_marked seen v w false ne ∙ h

within_rest : (e : Entry) (rest : List Entry) (v : ℕ) → v ≢ e.literal.var → HasVariable (e ∷ rest) v → HasVariable rest v
within_rest e rest v ne (inl same) = absurd (ne (sym same))
within_rest e rest v ne (inr h) = h

module _ (log : List LogLine) (e : Entry) (rest : List Entry) (a : Analyzed) where
  -- An entry that isn't marked is passed over.
  pub step_skip : IsAnalysis log (e ∷ rest) a → is_marked a.seen e.literal.var ≡ false → IsAnalysis log rest a
  step_skip h unmarked =
      let lits_room = h.lits_room in
      let hints_room = h.hints_room in
      record {
        explains = (λ set_ b. h.explains set_ (base set_ b));
        rest_drawn = h.rest_drawn.1;
        lits_drawn = h.lits_drawn;
        marks_within = (λ v m. within_rest e rest v (λ same. false≢true (sym unmarked ∙ subst (IsMarked a.seen) same m)) (h.marks_within v m));
        distinct = h.distinct;
        apart = h.apart.1;
        lits_room = omega arith;
        hints_room = omega arith;
      }
    where
      base : (set_ : List Literal) → IsBase rest a set_ → IsBase (e ∷ rest) a set_
      base set_ b = record {
        marked = ((λ m. absurd (false≢true (sym unmarked ∙ m))), b.marked);
        kept = b.kept;
        only = All-map (λ l. Among (literals rest) l ⊎ Among a.lits (negated l)) (λ l. Among (literals (e ∷ rest)) l ⊎ Among a.lits (negated l)) set_ (λ l m. weaker l m) b.only;
      }
        where
          weaker : (l : Literal) → Among (literals rest) l ⊎ Among a.lits (negated l) → Among (literals (e ∷ rest)) l ⊎ Among a.lits (negated l)
          weaker l (inl m) = inl (inr m)
          weaker l (inr m) = inr m

  -- The negation of a marked entry's literal is kept.
  pub step_keep : IsAnalysis log (e ∷ rest) a → AllByRecursion (λ f. f.literal.var ≢ e.literal.var) rest → IsMarked a.seen e.literal.var → IsAnalysis log rest (record { seen = set a.seen e.literal.var false; lits = a.lits ++ negated e.literal ∷ []; hints = a.hints })
  step_keep h fresh marked =
      let size : length (set a.seen e.literal.var false) ≡ length a.seen = length-set a.seen e.literal.var false in
      let pushed : length (a.lits ++ negated e.literal ∷ []) ≡ length a.lits + 1 = length_push a.lits (negated e.literal) in
      let lits_room = h.lits_room in
      let hints_room = h.hints_room in
      record {
        explains = (λ set_ b. h.explains set_ (base set_ b));
        rest_drawn = All-map (λ f. IsMarked a.seen f.literal.var → StandsInSome log a.hints (negated f.literal)) (λ f. IsMarked (set a.seen e.literal.var false) f.literal.var → StandsInSome log a.hints (negated f.literal)) rest (λ f old m. old (not_gone a.seen e.literal.var f.literal.var m).1) h.rest_drawn.1;
        lits_drawn = All-append (StandsInSome log a.hints) a.lits (negated e.literal ∷ []) h.lits_drawn (h.rest_drawn.0 marked, tt);
        marks_within = (λ v m. let p = not_gone a.seen e.literal.var v m in within_rest e rest v p.0 (h.marks_within v p.1));
        distinct = distinct_push a.lits (negated e.literal) h.distinct h.apart.0;
        apart = All-map (λ f. (f.literal.var ≢ e.literal.var) × AllByRecursion (λ l. l.var ≢ f.literal.var) a.lits) (λ f. AllByRecursion (λ l. l.var ≢ f.literal.var) (a.lits ++ negated e.literal ∷ [])) rest (λ f p. All-append (λ l. l.var ≢ f.literal.var) a.lits (negated e.literal ∷ []) p.1 ((λ v. p.0 (sym v)), tt)) (All-both (λ f. f.literal.var ≢ e.literal.var) (λ f. AllByRecursion (λ l. l.var ≢ f.literal.var) a.lits) rest fresh h.apart.1);
        lits_room = omega arith;
        hints_room = omega arith;
      }
    where
      base : (set_ : List Literal) → IsBase rest (record { seen = set a.seen e.literal.var false; lits = a.lits ++ negated e.literal ∷ []; hints = a.hints }) set_ → IsBase (e ∷ rest) a set_
      base set_ b = record {
        marked = (
          (λ m. subst (Among set_) (negated-negated e.literal) (All-back (λ l. Among set_ (negated l)) a.lits (negated e.literal ∷ []) b.kept).0),
          All-map (λ f. (f.literal.var ≢ e.literal.var) × (IsMarked (set a.seen e.literal.var false) f.literal.var → Among set_ f.literal)) (λ f. IsMarked a.seen f.literal.var → Among set_ f.literal) rest (λ f p m. p.1 (stays a.seen e.literal.var f.literal.var p.0 m)) (All-both (λ f. f.literal.var ≢ e.literal.var) (λ f. IsMarked (set a.seen e.literal.var false) f.literal.var → Among set_ f.literal) rest fresh b.marked),
        );
        kept = All-front (λ l. Among set_ (negated l)) a.lits (negated e.literal ∷ []) b.kept;
        only = All-map (λ l. Among (literals rest) l ⊎ Among (a.lits ++ negated e.literal ∷ []) (negated l)) (λ l. Among (literals (e ∷ rest)) l ⊎ Among a.lits (negated l)) set_ (λ l m. weaker l m) b.only;
      }
        where
          by_place : (l : Literal) → Among a.lits (negated l) ⊎ (negated e.literal ≡ negated l) → Among (literals (e ∷ rest)) l ⊎ Among a.lits (negated l)
          by_place l (inl m) = inr m
          by_place l (inr same) = inl (inl (sym (negated-negated e.literal) ∙ ap negated same ∙ negated-negated l))

          weaker : (l : Literal) → Among (literals rest) l ⊎ Among (a.lits ++ negated e.literal ∷ []) (negated l) → Among (literals (e ∷ rest)) l ⊎ Among a.lits (negated l)
          weaker l (inl m) = inl (inr m)
          weaker l (inr m) = by_place l (among_push a.lits (negated e.literal) (negated l) m)

-- A marked entry is resolved away by the clause that implied it.
module _ (log : List LogLine) (e : Entry) (rest : List Entry) (a : Analyzed) (true_ c : List Literal) (id : ℕ) (seen : List Bool) (named : clause_at log id ≡ Some c) (distinct : HasDistinctVariables c) (entries : HasDistinctVariables (literals rest)) (fresh : AllByRecursion (λ f. f.literal.var ≢ e.literal.var) rest) (implies : Implies (literals rest) c e.literal) (is_true : Among true_ e.literal) (others : (k : Literal) → Among (literals rest) (negated k) → ¬ Among true_ k) (marks : MarksOthers true_ c (set a.seen e.literal.var false) seen) where
  fresh_literals : (l : Literal) → l.var ≡ e.literal.var → ¬ Among (literals rest) l
  fresh_literals l v m = absent rest fresh m
    where
      absent : (part : List Entry) → AllByRecursion (λ f. f.literal.var ≢ e.literal.var) part → ¬ Among (literals part) l
      absent [] h m = m
      absent (f ∷ part) h (inl same) = h.0 (ap (λ (x : Literal). x.var) same ∙ v)
      absent (f ∷ part) h (inr m) = absent part h.1 m

  -- the clause's other literals are false in the rest, and marked
  other_marks : (k : Literal) → Among c k → k ≢ e.literal → Among (literals rest) (negated k) × IsMarked seen k.var
  other_marks k m ne = let false_ = implies.others_false k m ne in (false_, marks.all k m (others k false_))

  base_more : IsAnalysis log (e ∷ rest) a → (set_ : List Literal) → IsBase rest (record { seen = seen; lits = a.lits; hints = id ∷ a.hints }) set_ → IsBase (e ∷ rest) a (set_ ++ e.literal ∷ [])
  base_more h set_ b = record {
    marked = (
      (λ m. among_append set_ (e.literal ∷ []) e.literal (inl refl)),
      All-map (λ f. (f.literal.var ≢ e.literal.var) × (IsMarked seen f.literal.var → Among set_ f.literal)) (λ f. IsMarked a.seen f.literal.var → Among (set_ ++ e.literal ∷ []) f.literal) rest (λ f p m. among_front set_ (e.literal ∷ []) f.literal (p.1 (marks.keeps f.literal.var (stays a.seen e.literal.var f.literal.var p.0 m)))) (All-both (λ f. f.literal.var ≢ e.literal.var) (λ f. IsMarked seen f.literal.var → Among set_ f.literal) rest fresh b.marked),
    );
    kept = All-map (λ l. Among set_ (negated l)) (λ l. Among (set_ ++ e.literal ∷ []) (negated l)) a.lits (λ l m. among_front set_ (e.literal ∷ []) (negated l) m) b.kept;
    only = All-append (λ l. Among (literals (e ∷ rest)) l ⊎ Among a.lits (negated l)) set_ (e.literal ∷ []) (All-map (λ l. Among (literals rest) l ⊎ Among a.lits (negated l)) (λ l. Among (literals (e ∷ rest)) l ⊎ Among a.lits (negated l)) set_ (λ l m. weaker l m) b.only) (inl (inl refl), tt);
  }
    where
      weaker : (l : Literal) → Among (literals rest) l ⊎ Among a.lits (negated l) → Among (literals (e ∷ rest)) l ⊎ Among a.lits (negated l)
      weaker l (inl m) = inl (inr m)
      weaker l (inr m) = inr m

  is_free : IsAnalysis log (e ∷ rest) a → (set_ : List Literal) → IsBase rest (record { seen = seen; lits = a.lits; hints = id ∷ a.hints }) set_ → (l : Literal) → l.var ≡ e.literal.var → ¬ Among set_ l
  is_free h set_ b l v m = by_place (All-among (λ l. Among (literals rest) l ⊎ Among a.lits (negated l)) set_ l b.only m)
    where
      by_place : Among (literals rest) l ⊎ Among a.lits (negated l) → ⊥
      by_place (inl n) = fresh_literals l v n
      by_place (inr n) = All-among (λ k. k.var ≢ e.literal.var) a.lits (negated l) h.apart.0 n v

  explains_more : IsAnalysis log (e ∷ rest) a → IsMarked a.seen e.literal.var → (set_ : List Literal) → IsBase rest (record { seen = seen; lits = a.lits; hints = id ∷ a.hints }) set_ → Explains log set_ (id ∷ a.hints)
  explains_more h marked set_ b =
      let unit : IsUnit set_ c e.literal = unit_from set_ c e.literal distinct implies.stands (λ k m ne. let o = other_marks k m ne in set_in seen set_ rest (negated k) b.marked o.0 o.1) ((λ m. is_free h set_ b e.literal refl m), (λ m. is_free h set_ b (negated e.literal) refl m)) in
      by_hints a.hints (h.explains (set_ ++ e.literal ∷ []) (base_more h set_ b)) unit (h.rest_drawn.0 marked)
    where
      by_hints : (hints : List ℕ) → Explains log (set_ ++ e.literal ∷ []) hints → IsUnit set_ c e.literal → StandsInSome log hints (negated e.literal) → Explains log set_ (id ∷ hints)
      by_hints [] later unit stands = absurd stands
      by_hints (next ∷ ids) later unit stands =
          ((c, e.literal, named, unit, later.0), (c, e.literal, named, unit, stands, later.1))

  -- a variable that is marked now was marked before, or is one of the clause's others
  was_marked : (v : ℕ) → IsMarked seen v → ((v ≢ e.literal.var) × IsMarked a.seen v) ⊎ HasOther true_ c v
  was_marked v m = by_old (marks.only v m)
    where
      by_old : IsMarked (set a.seen e.literal.var false) v ⊎ HasOther true_ c v → ((v ≢ e.literal.var) × IsMarked a.seen v) ⊎ HasOther true_ c v
      by_old (inl p) = inl (not_gone a.seen e.literal.var v p)
      by_old (inr o) = inr o

  other_in_rest : (v : ℕ) (o : HasOther true_ c v) → Among (literals rest) (negated o.literal)
  other_in_rest v o =
      implies.others_false o.literal o.stands (λ same. o.other (subst (Among true_) (sym same) is_true))

  pub step_resolve : IsAnalysis log (e ∷ rest) a → IsMarked a.seen e.literal.var → length seen ≡ length a.seen → IsAnalysis log rest (record { seen = seen; lits = a.lits; hints = id ∷ a.hints })
  step_resolve h marked size =
      let lits_room = h.lits_room in
      let hints_room = h.hints_room in
      record {
        explains = (λ set_ b. explains_more h marked set_ b);
        rest_drawn = All-entries (λ f. IsMarked a.seen f.literal.var → StandsInSome log a.hints (negated f.literal)) (λ f. IsMarked seen f.literal.var → StandsInSome log (id ∷ a.hints) (negated f.literal)) rest (λ f inside old m. by_old f inside old (was_marked f.literal.var m)) h.rest_drawn.1;
        lits_drawn = All-map (StandsInSome log a.hints) (StandsInSome log (id ∷ a.hints)) a.lits (λ l s. inr s) h.lits_drawn;
        marks_within = (λ v m. has v (was_marked v m));
        distinct = h.distinct;
        apart = h.apart.1;
        lits_room = omega arith;
        hints_room = omega arith;
      }
    where
      by_old : (f : Entry) → Among (literals rest) f.literal → (IsMarked a.seen f.literal.var → StandsInSome log a.hints (negated f.literal)) → ((f.literal.var ≢ e.literal.var) × IsMarked a.seen f.literal.var) ⊎ HasOther true_ c f.literal.var → StandsInSome log (id ∷ a.hints) (negated f.literal)
      by_old f inside old (inl p) = inr (old p.1)
      by_old f inside old (inr o) =
          let same : f.literal ≡ negated o.literal = one_literal (literals rest) f.literal (negated o.literal) entries inside (other_in_rest f.literal.var o) (sym o.same) in
          inl (c, named, subst (Among c) (sym (ap negated same ∙ negated-negated o.literal)) o.stands)

      has : (v : ℕ) → ((v ≢ e.literal.var) × IsMarked a.seen v) ⊎ HasOther true_ c v → HasVariable rest v
      has v (inl p) = within_rest e rest v p.0 (h.marks_within v p.1)
      has v (inr o) = subst (HasVariable rest) o.same (has_variable rest (negated o.literal) (other_in_rest v o))

-- The walk begins at a clause whose literals are false, or kept.
module _ (log : List LogLine) (rest : List Entry) (true_ c : List Literal) (id : ℕ) (old seen : List Bool) (lits : List Literal) (named : clause_at log id ≡ Some c) (entries : HasDistinctVariables (literals rest)) (clear : IsUnmarked old) (marks : MarksOthers true_ c old seen) (false_in : AreFalseIn true_ c (literals rest)) (kept : (k : Literal) → Among c k → (¬ Among true_ k) ⊎ Among lits k) where
  new_mark : (v : ℕ) → IsMarked seen v → HasOther true_ c v
  new_mark v m = by_old (marks.only v m)
    where
      by_old : IsMarked old v ⊎ HasOther true_ c v → HasOther true_ c v
      by_old (inl p) = absurd (false≢true (sym (clear v) ∙ p))
      by_old (inr o) = o

  falsified : (set_ : List Literal) → IsBase rest (record { seen = seen; lits = lits; hints = id ∷ [] }) set_ → IsFalsified set_ c
  falsified set_ b = All-from_among (λ k. Among set_ (negated k)) c (λ k m. by_kept k m (kept k m))
    where
      by_kept : (k : Literal) → Among c k → (¬ Among true_ k) ⊎ Among lits k → Among set_ (negated k)
      by_kept k m (inl other) = set_in seen set_ rest (negated k) b.marked (false_in k m other) (marks.all k m other)
      by_kept k m (inr n) = All-among (λ l. Among set_ (negated l)) lits k b.kept n

  pub start : HasDistinctVariables lits → AllByRecursion (λ e. AllByRecursion (λ l. l.var ≢ e.literal.var) lits) rest → AllByRecursion (Among c) lits → length lits + length rest ≤ length seen → 1 + length rest ≤ length seen → IsAnalysis log rest (record { seen = seen; lits = lits; hints = id ∷ [] })
  start distinct apart drawn lits_room hints_room =
      record {
        explains = (λ set_ b. ((c, named, falsified set_ b), tt));
        rest_drawn = All-entries (λ f. Unit {0}) (λ f. IsMarked seen f.literal.var → StandsInSome log (id ∷ []) (negated f.literal)) rest (λ f inside _ m. drawn_from f inside (new_mark f.literal.var m)) (nothing rest);
        lits_drawn = All-map (Among c) (StandsInSome log (id ∷ [])) lits (λ l m. inl (c, named, m)) drawn;
        marks_within = (λ v m. let o = new_mark v m in subst (HasVariable rest) o.same (has_variable rest (negated o.literal) (false_in o.literal o.stands o.other)));
        distinct = distinct;
        apart = apart;
        lits_room = lits_room;
        hints_room = hints_room;
      }
    where
      nothing : (es : List Entry) → AllByRecursion (λ f. Unit {0}) es
      nothing [] = tt
      nothing (e ∷ es) = (tt, nothing es)

      drawn_from : (f : Entry) → Among (literals rest) f.literal → HasOther true_ c f.literal.var → StandsInSome log (id ∷ []) (negated f.literal)
      drawn_from f inside o =
          let same : f.literal ≡ negated o.literal = one_literal (literals rest) f.literal (negated o.literal) entries inside (false_in o.literal o.stands o.other) (sym o.same) in
          inl (c, named, subst (Among c) (sym (ap negated same ∙ negated-negated o.literal)) o.stands)

-- The walk is at its end.

among_negations : (lits : List Literal) (l : Literal) → Among lits l → Among (map negated lits) (negated l)
among_negations [] l m = m
among_negations (x ∷ lits) l (inl e) = inl (ap negated e)
among_negations (x ∷ lits) l (inr m) = inr (among_negations lits l m)

negation_among : (lits : List Literal) (l : Literal) → Among (map negated lits) l → Among lits (negated l)
negation_among [] l m = m
negation_among (x ∷ lits) l (inl e) = inl (sym (negated-negated x) ∙ ap negated e)
negation_among (x ∷ lits) l (inr m) = inr (negation_among lits l m)

pub finish : (log : List LogLine) (a : Analyzed) → IsAnalysis log [] a → Explains log (map negated a.lits) a.hints
finish log a h =
    h.explains (map negated a.lits) (record {
      marked = tt;
      kept = All-from_among (λ l. Among (map negated a.lits) (negated l)) a.lits (λ l m. among_negations a.lits l m);
      only = All-from_among (λ l. Among (literals []) l ⊎ Among a.lits (negated l)) (map negated a.lits) (λ l m. inr (negation_among a.lits l m));
    })

pub finish_clear : (log : List LogLine) (a : Analyzed) → IsAnalysis log [] a → IsUnmarked a.seen
finish_clear log a h v = by_mark (is_marked a.seen v) refl
  where
    by_mark : (b : Bool) → is_marked a.seen v ≡ b → is_marked a.seen v ≡ false
    by_mark true e = absurd (h.marks_within v e)
    by_mark false e = e
