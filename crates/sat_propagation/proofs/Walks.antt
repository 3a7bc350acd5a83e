-- A walk along the list of those that watch a literal.
use Rattle.std.proofs.Common.{◌≡◌, ◌≢◌, ℕ, ◌<◌, cond, eqb, inl, inr, List, [], ◌∷◌, ◌++◌, length, get_or, refl, ap, sym, subst, ◌∙◌, append_assoc, arith}
use Rattle.std.specs.Prelude.{Option, None, Some, IfSome}
use Rattle.std.specs.List.{AllByRecursion}
use Rattle.std.proofs.lemmas.List.{append-nil}
use Rattle.sat_log.specs.Literal.{Literal}
use Rattle.sat_log.proofs.ListLemmas.{All-append}
use Rattle.sat_watch.specs.Watched.{watchers, HasWatch, IsAmong, AreDistinct, IsListOf, first_of, next_of, after, without}
use Rattle.sat_watch.proofs.Chains.{All-at, is_same, is_other, distinct_without}
use Rattle.sat_trail.specs.Units.{AddsImplied}
use Rattle.sat_trail.specs.declared.trail.Entry.{Entry}
use Rattle.sat_trail.proofs.Lists.{All-map}
use Rattle.sat_propagation.specs.declared.propagation.Line.{Line}
use Rattle.sat_propagation.specs.Watching.{Propagated, no_line, IsSettled, AreSettled, MovesAway}
use Rattle.sat_propagation.proofs.Rules.{pair_there, in_grown}

-- the last of these, if there is one
abbrev pub IsLast : List ℕ → Option ℕ → Type 0
IsLast front None = front ≡ []
IsLast front (Some b) = (f : List ℕ) × (front ≡ f ++ b ∷ [])

-- those behind one
abbrev pub behind_of : ℕ → List ℕ → List ℕ
behind_of b [] = []
behind_of b (x ∷ xs) = cond (eqb x b) xs (behind_of b xs)

abbrev pub rest_behind : List ℕ → Option ℕ → List ℕ
rest_behind xs None = xs
rest_behind xs (Some b) = behind_of b xs

-- Lists in which none stands twice.

among_middle : (f : List ℕ) (b : ℕ) (rest : List ℕ) → IsAmong (f ++ b ∷ rest) b
among_middle [] b rest = inl refl
among_middle (x ∷ f) b rest = inr (among_middle f b rest)

next_at : (f : List ℕ) (b : ℕ) (rest : List ℕ) → AreDistinct (f ++ b ∷ rest) → next_of (f ++ b ∷ rest) b ≡ first_of rest
next_at [] b rest d = is_same b b (first_of rest) (next_of rest b) refl
next_at (x ∷ f) b rest d =
    let ne : b ≢ x = All-at (λ c. c ≢ x) (f ++ b ∷ rest) b d.0 (among_middle f b rest) in
    is_other x b (first_of (f ++ b ∷ rest)) (next_of (f ++ b ∷ rest) b) (λ e. ne (sym e)) ∙ next_at f b rest d.1

behind_at : (f : List ℕ) (b : ℕ) (rest : List ℕ) → AreDistinct (f ++ b ∷ rest) → behind_of b (f ++ b ∷ rest) ≡ rest
behind_at [] b rest d = is_same b b rest (behind_of b rest) refl
behind_at (x ∷ f) b rest d =
    let ne : b ≢ x = All-at (λ c. c ≢ x) (f ++ b ∷ rest) b d.0 (among_middle f b rest) in
    is_other x b (f ++ b ∷ rest) (behind_of b (f ++ b ∷ rest)) (λ e. ne (sym e)) ∙ behind_at f b rest d.1

without_at : (f : List ℕ) (b : ℕ) (rest : List ℕ) → AreDistinct (f ++ b ∷ rest) → without b (f ++ b ∷ rest) ≡ f ++ rest
without_at [] b rest d = is_same b b rest (b ∷ without b rest) refl
without_at (x ∷ f) b rest d =
    let ne : b ≢ x = All-at (λ c. c ≢ x) (f ++ b ∷ rest) b d.0 (among_middle f b rest) in
    is_other x b (f ++ b ∷ rest) (x ∷ without b (f ++ b ∷ rest)) (λ e. ne (sym e)) ∙ ap (λ (ys : List ℕ). x ∷ ys) (without_at f b rest d.1)

others_at : (f : List ℕ) (b : ℕ) (rest : List ℕ) → AreDistinct (f ++ b ∷ rest) → AllByRecursion (λ c. c ≢ b) f
others_at [] b rest d = tt
others_at (x ∷ f) b rest d =
    ((λ e. All-at (λ c. c ≢ x) (f ++ b ∷ rest) b d.0 (among_middle f b rest) (sym e)), others_at f b rest d.1)

push_front : (f rest : List ℕ) (b : ℕ) → (f ++ b ∷ []) ++ rest ≡ f ++ b ∷ rest
push_front f rest b = append_assoc f (b ∷ []) rest

pub after_at : (front rest : List ℕ) (before : Option ℕ) → IsLast front before → AreDistinct (front ++ rest) → after (front ++ rest) before ≡ first_of rest
after_at front rest None last d = ap (λ (f : List ℕ). first_of (f ++ rest)) last
after_at front rest (Some b) last d =
    let same : front ++ rest ≡ last.0 ++ b ∷ rest = ap (λ (f : List ℕ). f ++ rest) last.1 ∙ push_front last.0 rest b in
    ap (λ (xs : List ℕ). next_of xs b) same ∙ next_at last.0 b rest (subst AreDistinct same d)

pub rest_at : (front rest : List ℕ) (before : Option ℕ) → IsLast front before → AreDistinct (front ++ rest) → rest_behind (front ++ rest) before ≡ rest
rest_at front rest None last d = ap (λ (f : List ℕ). f ++ rest) last
rest_at front rest (Some b) last d =
    let same : front ++ rest ≡ last.0 ++ b ∷ rest = ap (λ (f : List ℕ). f ++ rest) last.1 ∙ push_front last.0 rest b in
    ap (behind_of b) same ∙ behind_at last.0 b rest (subst AreDistinct same d)

-- How far a walk has come: those in front are settled.
pub record Walked (p : Propagated) (entries : List Entry) (l : Literal) (before : Option ℕ) : Type 0 where
  pub front : List ℕ
  pub rest : List ℕ
  pub all : watchers p.watched l ≡ front ++ rest
  pub last : IsLast front before
  pub settled : AllByRecursion (IsSettled p entries l) front

pub walk_starts : (p : Propagated) (entries : List Entry) (l : Literal) → Walked p entries l None
walk_starts p entries l = record { front = []; rest = watchers p.watched l; all = refl; last = refl; settled = tt }

settled_grown : (p : Propagated) (old new : List Entry) (l : Literal) → AddsImplied old new → (w : ℕ) → IsSettled p old l w → IsSettled p new l w
settled_grown p old new l a w h used k watches ne = in_grown old new k a (h used k watches ne)

pub walked_before : (p : Propagated) (entries : List Entry) (l : Literal) (before : Option ℕ) → Walked p entries l before → IfSome before (IsAmong (watchers p.watched l))
walked_before p entries l None walked = tt
walked_before p entries l (Some b) walked =
    let same : watchers p.watched l ≡ walked.last.0 ++ b ∷ walked.rest = walked.all ∙ ap (λ (f : List ℕ). f ++ walked.rest) walked.last.1 ∙ push_front walked.last.0 walked.rest b in
    subst (λ (xs : List ℕ). IsAmong xs b) (sym same) (among_middle walked.last.0 b walked.rest)

-- at the end of the list all are settled
pub walked_all : (p : Propagated) (entries : List Entry) (l : Literal) (before : Option ℕ) → IsListOf p.watched l → after (watchers p.watched l) before ≡ None → Walked p entries l before → AreSettled p entries l
walked_all p entries l before list here walked w below watches =
    All-at (IsSettled p entries l) (watchers p.watched l) w (subst (AllByRecursion (IsSettled p entries l)) (sym all_front) walked.settled) (list.each w below watches)
  where
    none : first_of walked.rest ≡ None
    none = sym (after_at walked.front walked.rest before walked.last (subst AreDistinct walked.all list.once)) ∙ ap (λ (xs : List ℕ). after xs before) (sym walked.all) ∙ here

    empty : (rest : List ℕ) → first_of rest ≡ None → rest ≡ []
    empty [] e = refl
    empty (x ∷ rest) e = absurd cc

    all_front : watchers p.watched l ≡ walked.front
    all_front = walked.all ∙ ap (λ (r : List ℕ). walked.front ++ r) (empty walked.rest none) ∙ append-nil walked.front

first_part : (rest : List ℕ) (w : ℕ) → first_of rest ≡ Some w → (tail : List ℕ) × (rest ≡ w ∷ tail)
first_part [] w e = absurd cc
first_part (x ∷ tail) w e = let same : x ≡ w = cc in (tail, ap (λ (y : ℕ). y ∷ tail) same)

-- One more is visited.
module _ (old new : Propagated) (entries longer : List Entry) (l : Literal) (before : Option ℕ) (w : ℕ) (d : AreDistinct (watchers old.watched l)) (here : after (watchers old.watched l) before ≡ Some w) (walked : Walked old entries l before) (grown : AddsImplied entries longer) where
  distinct : AreDistinct (walked.front ++ walked.rest)
  distinct = subst AreDistinct walked.all d

  parts : (tail : List ℕ) × (walked.rest ≡ w ∷ tail)
  parts =
      first_part walked.rest w (sym (after_at walked.front walked.rest before walked.last distinct) ∙ ap (λ (xs : List ℕ). after xs before) (sym walked.all) ∙ here)

  module _ (tail : List ℕ) (rest_is : walked.rest ≡ w ∷ tail) where
    split : watchers old.watched l ≡ walked.front ++ w ∷ tail
    split = walked.all ∙ ap (λ (r : List ℕ). walked.front ++ r) rest_is

    distinct_split : AreDistinct (walked.front ++ w ∷ tail)
    distinct_split = subst AreDistinct split d

    rest_now : length (rest_behind (watchers old.watched l) before) ≡ length (w ∷ tail)
    rest_now = ap (λ (xs : List ℕ). length (rest_behind xs before)) walked.all ∙ ap length (rest_at walked.front walked.rest before walked.last distinct ∙ rest_is)

    kept_with : new ≡ old → IsSettled new longer l w → Walked new longer l (Some w)
    kept_with same settled =
        record {
          front = walked.front ++ w ∷ [];
          rest = tail;
          all = ap (λ (p : Propagated). watchers p.watched l) same ∙ split ∙ sym (push_front walked.front tail w);
          last = (walked.front, refl);
          settled = All-append (IsSettled new longer l) walked.front (w ∷ []) (subst (λ (p : Propagated). AllByRecursion (IsSettled p longer l) walked.front) (sym same) (All-map (IsSettled old entries l) (IsSettled old longer l) walked.front (settled_grown old entries longer l grown) walked.settled)) (settled, tt);
        }

    kept_rest : new ≡ old → length (rest_behind (watchers new.watched l) (Some w)) ≡ length tail
    kept_rest same =
        ap (λ (p : Propagated). length (behind_of w (watchers p.watched l))) same ∙ ap (λ (xs : List ℕ). length (behind_of w xs)) split ∙ ap length (behind_at walked.front w tail distinct_split)

    moved_list : MovesAway old new l w → watchers new.watched l ≡ walked.front ++ tail
    moved_list m = m.lists.left ∙ ap (without w) split ∙ without_at walked.front w tail distinct_split

    moved_with : w < length old.watched.pairs → MovesAway old new l w → Walked new longer l before
    moved_with below m =
        record {
          front = walked.front;
          rest = tail;
          all = moved_list m;
          last = walked.last;
          settled = stays walked.front (others_at walked.front w tail distinct_split) walked.settled;
        }
      where
        stays : (xs : List ℕ) → AllByRecursion (λ c. c ≢ w) xs → AllByRecursion (IsSettled old entries l) xs → AllByRecursion (IsSettled new longer l) xs
        stays [] o h = tt
        stays (x ∷ xs) o h = (
          (λ used k watches ne. settled_grown old entries longer l grown x h.0
              (λ none. used (ap (λ (xs : List Line). (get_or xs x no_line).id) m.lines ∙ none)) k
              (subst (λ pair. HasWatch pair k) (pair_there old new l w m below x o.0) watches) ne),
          stays xs o.1 h.1,
        )

    moved_rest : MovesAway old new l w → length (rest_behind (watchers new.watched l) before) ≡ length tail
    moved_rest m =
        let gone : AreDistinct (walked.front ++ tail) = subst AreDistinct (sym m.lists.left ∙ moved_list m) (distinct_without w (watchers old.watched l) d) in
        ap (λ (xs : List ℕ). length (rest_behind xs before)) (moved_list m) ∙ ap length (rest_at walked.front tail before walked.last gone)

  -- it stays where it is
  pub kept_walks : new ≡ old → IsSettled new longer l w → Walked new longer l (Some w)
  kept_walks same settled = kept_with parts.0 parts.1 same settled

  pub kept_less : new ≡ old → length (rest_behind (watchers new.watched l) (Some w)) < length (rest_behind (watchers old.watched l) before)
  kept_less same = let a = kept_rest parts.0 parts.1 same in let b = rest_now parts.0 parts.1 in omega (arith, a, b)

  -- it leaves the list
  pub moved_walks : w < length old.watched.pairs → MovesAway old new l w → Walked new longer l before
  moved_walks below m = moved_with parts.0 parts.1 below m

  pub moved_less : MovesAway old new l w → length (rest_behind (watchers new.watched l) before) < length (rest_behind (watchers old.watched l) before)
  moved_less m = let a = moved_rest parts.0 parts.1 m in let b = rest_now parts.0 parts.1 in omega (arith, a, b)
