-- A watch moves from one list to another.
use Rattle.std.proofs.Common.{◌≡◌, ◌≢◌, ℕ, ◌<◌, Bool, true, false, cond, eqb, ◌⊎◌, inl, inr, List, [], ◌∷◌, length, map, get_or, set, refl, ap, sym, subst, ◌∙◌, arith}
use Rattle.std.specs.Prelude.{Option, None, Some}
use Rattle.std.proofs.lemmas.List.{get_or-set_same, get_or-set_other, length-set, map-set}
use Rattle.std.proofs.Math.Seq.{map-set_same}
use Rattle.sat_log.specs.Literal.{Literal}
use Rattle.sat_log.specs.Packing.{packed}
use Rattle.sat_log.proofs.LiteralLemmas.{packed_injective}
use Rattle.sat_watch.specs.Watched.{Watched, HasPlace, watchers, pair_at, HasWatch, changed, set_pair, Moves, AreDistinct, first_of, next_of, after, without}
use Rattle.sat_watch.specs.Threads.{no_record, record_at, link, relinked, exchanged, links, lists_from, pair_of, watched_in, IsChain, WatchesAt, IsThread, IsRecord, KeepsWatches}
use Rattle.sat_watch.specs.declared.record.Watch.{Watch}
use Rattle.sat_watch.specs.declared.record.Record.{Record}
use Rattle.sat_watch.proofs.Chains.{All-at, by_same, after_among, before_among, leaves_first, leaves_next}
use Rattle.sat_watch.proofs.Records.{relink_here, relink_other, relink_pair, relink_record, relink_watches, watches_relink, exchange_here, exchange_watches, exchange_other, exchange_keeps, exchange_from, exchange_gone, exchange_record}
use Rattle.sat_watch.proofs.Moves.{length_lists, list_is, pair_is, at_watches, place_of, watchers_of, thread_kept, thread_joined, thread_left}

-- One clause watches another literal in place of one; the others watch what they did, and have their links in other lists.
pub record IsMoved (old new : List Record) (p : ℕ) (w : Watch) (c : ℕ) : Type 0 where
  pub size : length new ≡ length old
  pub there : record_at new c ≡ exchanged p w (record_at old c)
  pub keeps : (q e : ℕ) → e ≢ c → WatchesAt q (record_at old e) → WatchesAt q (record_at new e)
  pub from : (q e : ℕ) → e ≢ c → WatchesAt q (record_at new e) → WatchesAt q (record_at old e)
  pub others : (q e : ℕ) → e ≢ c → q ≢ p → WatchesAt q (record_at old e) → links new q e ≡ links old q e
  pub stays : (n e : ℕ) → e ≢ c → IsRecord n (record_at old e) → IsRecord n (record_at new e)
  pub pairs : map pair_of new ≡ set (map pair_of old) c (pair_of (exchanged p w (record_at old c)))

-- The first clause of the list leaves it.

module _ (old : List Record) (p : ℕ) (w : Watch) (c : ℕ) (below : c < length old) where
  abbrev pub first_gone : List Record
  first_gone = set old c (exchanged p w (record_at old c))

  gone_at : (e : ℕ) → e ≢ c → record_at first_gone e ≡ record_at old e
  gone_at e ne = get_or-set_other old c e (exchanged p w (record_at old c)) no_record ne

  pub first_moved : IsMoved old first_gone p w c
  first_moved = record {
    size = length-set old c (exchanged p w (record_at old c));
    there = get_or-set_same old c (exchanged p w (record_at old c)) no_record below;
    keeps = λ q e ne v. subst (WatchesAt q) (sym (gone_at e ne)) v;
    from = λ q e ne v. subst (WatchesAt q) (gone_at e ne) v;
    others = λ q e ne nq v. ap (link q) (gone_at e ne);
    stays = λ n e ne k. subst (IsRecord n) (sym (gone_at e ne)) k;
    pairs = map-set pair_of old c (exchanged p w (record_at old c));
  }

  pub first_leads : (o : Option ℕ) (xs : List ℕ) → IsThread old p o xs → first_of xs ≡ Some c → IsChain (links first_gone p) (links old p c) (without c xs)
  first_leads o xs t e =
      leaves_first (links old p) (links first_gone p) c o xs t.once t.leads e (λ y m ne. ap (link p) (gone_at y ne))

-- A clause behind another one leaves it.

next_apart : (xs : List ℕ) (b c : ℕ) → AreDistinct xs → next_of xs b ≡ Some c → c ≢ b
next_apart [] b c d e = absurd cc
next_apart (x ∷ xs) b c d e =
    by_same (λ t. cond t (first_of xs) (next_of xs b) ≡ Some c → c ≢ b) x b
    (λ at s k. All-at (λ z. z ≢ x) xs c d.0 (after_among xs None c s) (k ∙ sym at))
    (λ ne s. next_apart xs b c d.1 s) e

module _ (old : List Record) (p : ℕ) (w : Watch) (b c : ℕ) (below : c < length old) (within : b < length old) (apart : c ≢ b) (watches : WatchesAt p (record_at old b)) where
  abbrev pub relinked_behind : List Record
  relinked_behind = set old b (relinked p (links old p c) (record_at old b))

  abbrev pub next_gone : List Record
  next_gone = set relinked_behind c (exchanged p w (record_at relinked_behind c))

  mid_other : (e : ℕ) → e ≢ b → record_at relinked_behind e ≡ record_at old e
  mid_other e ne = get_or-set_other old b e (relinked p (links old p c) (record_at old b)) no_record ne

  mid_here : record_at relinked_behind b ≡ relinked p (links old p c) (record_at old b)
  mid_here = get_or-set_same old b (relinked p (links old p c) (record_at old b)) no_record within

  mid_length : length relinked_behind ≡ length old
  mid_length = length-set old b (relinked p (links old p c) (record_at old b))

  new_other : (e : ℕ) → e ≢ c → record_at next_gone e ≡ record_at relinked_behind e
  new_other e ne = get_or-set_other relinked_behind c e (exchanged p w (record_at relinked_behind c)) no_record ne

  behind : (e : ℕ) → e ≢ c → e ≡ b → record_at next_gone e ≡ relinked p (links old p c) (record_at old e)
  behind e ne s = new_other e ne ∙ ap (record_at relinked_behind) s ∙ mid_here ∙ ap (λ y. relinked p (links old p c) (record_at old y)) (sym s)

  elsewhere : (e : ℕ) → e ≢ c → e ≢ b → record_at next_gone e ≡ record_at old e
  elsewhere e ne nb = new_other e ne ∙ mid_other e nb

  pub next_moved : IsMoved old next_gone p w c
  next_moved = record {
    size = length-set relinked_behind c (exchanged p w (record_at relinked_behind c)) ∙ mid_length;
    there = get_or-set_same relinked_behind c (exchanged p w (record_at relinked_behind c)) no_record (omega (arith, mid_length)) ∙ ap (exchanged p w) (mid_other c apart);
    keeps = λ q e ne v. by_same (λ _. WatchesAt q (record_at next_gone e)) e b
        (λ s. subst (WatchesAt q) (sym (behind e ne s)) (relink_watches p q (links old p c) (record_at old e) v))
        (λ nb. subst (WatchesAt q) (sym (elsewhere e ne nb)) v);
    from = λ q e ne v. by_same (λ _. WatchesAt q (record_at old e)) e b
        (λ s. watches_relink p q (links old p c) (record_at old e) (subst (WatchesAt q) (behind e ne s) v))
        (λ nb. subst (WatchesAt q) (elsewhere e ne nb) v);
    others = λ q e ne nq v. by_same (λ _. links next_gone q e ≡ links old q e) e b
        (λ s. ap (link q) (behind e ne s) ∙ relink_other p q (links old p c) (record_at old e) (subst (λ y. WatchesAt p (record_at old y)) (sym s) watches) v nq)
        (λ nb. ap (link q) (elsewhere e ne nb));
    stays = λ n e ne k. by_same (λ _. IsRecord n (record_at next_gone e)) e b
        (λ s. subst (IsRecord n) (sym (behind e ne s)) (relink_record n p (links old p c) (record_at old e) k))
        (λ nb. subst (IsRecord n) (sym (elsewhere e ne nb)) k);
    pairs = map-set pair_of relinked_behind c (exchanged p w (record_at relinked_behind c))
        ∙ ap (λ ps. set ps c (pair_of (exchanged p w (record_at relinked_behind c)))) (map-set_same pair_of old b (relinked p (links old p c) (record_at old b)) no_record (relink_pair p (links old p c) (record_at old b)))
        ∙ ap (λ r. set (map pair_of old) c (pair_of (exchanged p w r))) (mid_other c apart);
  }

  pub next_leads : (o : Option ℕ) (xs : List ℕ) → IsThread old p o xs → next_of xs b ≡ Some c → IsChain (links next_gone p) o (without c xs)
  next_leads o xs t e =
      leaves_next (links old p) (links next_gone p) b c o xs t.once t.leads e
      (ap (link p) (behind b (λ s. apart (sym s)) refl) ∙ relink_here p (links old p c) (record_at old b))
      (λ y m ne nb. ap (link p) (elsewhere y ne nb))

-- The threads then.

module _ (heads heads' : List (Option ℕ)) (old new : List Record) (p : ℕ) (w : Watch) (c : ℕ) (start : Option ℕ) (k : KeepsWatches heads old) (pb : p < length heads) (db : packed w.literal < length heads)
    (m : IsMoved old new p w c) (below : c < length old) (other : p ≢ packed w.literal) (wp : WatchesAt p (record_at old c)) (none : ¬ WatchesAt (packed w.literal) (record_at old c))
    (size : length heads' ≡ length heads) (there : get_or heads' p None ≡ start) (at_to : get_or heads' (packed w.literal) None ≡ Some c)
    (elsewhere : (q : ℕ) → q ≢ p → q ≢ packed w.literal → get_or heads' q None ≡ get_or heads q None) (head : w.next ≡ get_or heads (packed w.literal) None)
    (leads : IsChain (links new p) start (without c (k.threads p pb).0)) where
  pub left_thread : IsThread new p (get_or heads' p None) (without c (k.threads p pb).0)
  left_thread =
      subst (λ o. IsThread new p o (without c (k.threads p pb).0)) (sym there)
      (thread_left old new p (get_or heads p None) (k.threads p pb).0 start c m.size leads
      (λ v. exchange_gone p w (record_at old c) (k.records_are c below).apart wp other (subst (WatchesAt p) m.there v))
      (λ e ne v. m.keeps p e ne v) (λ e ne v. m.from p e ne v) (k.threads p pb).1)

  pub joined_thread : IsThread new (packed w.literal) (get_or heads' (packed w.literal) None) (c ∷ (k.threads (packed w.literal) db).0)
  joined_thread =
      let d = packed w.literal in
      let xs = (k.threads d db).0 in
      subst (λ o. IsThread new d o (c ∷ xs)) (sym at_to)
      (thread_joined old new d (get_or heads d None) xs c (omega (arith, m.size)) (omega (arith, m.size))
      (ap (link d) m.there ∙ exchange_here p w (record_at old c) none ∙ head)
      (subst (WatchesAt d) (sym m.there) (exchange_watches p w (record_at old c)))
      (λ e among s. none (subst (λ y. WatchesAt d (record_at old y)) s (All-at (λ f. (f < length old) × WatchesAt d (record_at old f)) xs e (k.threads d db).1.only among).1))
      (λ e within ne v. m.others d e ne (λ s. other (sym s)) v)
      (λ e within ne v. m.keeps d e ne v)
      (λ e within ne v. (omega (arith, m.size), m.from d e ne v))
      (k.threads d db).1)

  pub kept_thread : (q : ℕ) (qb : q < length heads) → q ≢ p → q ≢ packed w.literal → IsThread new q (get_or heads' q None) (k.threads q qb).0
  kept_thread q qb np nd =
      subst (λ o. IsThread new q o (k.threads q qb).0) (sym (elsewhere q np nd))
      (thread_kept old new q (get_or heads q None) (k.threads q qb).0 (omega (arith, m.size))
      (λ e within v. by_same (λ _. links new q e ≡ links old q e) e c
      (λ s. subst (λ y. links new q y ≡ links old q y) (sym s) (ap (link q) m.there ∙ exchange_other p w (record_at old c) q np nd (subst (λ y. WatchesAt q (record_at old y)) s v) wp))
      (λ ne. m.others q e ne np v))
      (λ e within v. by_same (λ _. WatchesAt q (record_at new e)) e c
      (λ s. subst (λ y. WatchesAt q (record_at new y)) (sym s) (subst (WatchesAt q) (sym m.there) (exchange_keeps p w (record_at old c) q np (subst (λ y. WatchesAt q (record_at old y)) s v) wp)))
      (λ ne. m.keeps q e ne v))
      (λ e within v. (
        omega (arith, m.size),
        by_same (λ _. WatchesAt q (record_at old e)) e c
            (λ s. subst (λ y. WatchesAt q (record_at old y)) (sym s) (came q nd (subst (WatchesAt q) m.there (subst (λ y. WatchesAt q (record_at new y)) s v))))
            (λ ne. m.from q e ne v),
      ))
      (k.threads q qb).1)
    where
      came : (q : ℕ) → q ≢ packed w.literal → WatchesAt q (exchanged p w (record_at old c)) → WatchesAt q (record_at old c)
      came q nd v = by (exchange_from p w (record_at old c) q v)
        where
          by : (q ≡ packed w.literal) ⊎ WatchesAt q (record_at old c) → WatchesAt q (record_at old c)
          by (inl s) = absurd (nd s)
          by (inr x) = x

  pub keeps_moved : KeepsWatches heads' new
  keeps_moved = record {
    threads = λ q qb.
        let within : q < length heads = omega (arith, size) in
        by_same (λ _. (clauses : List ℕ) × IsThread new q (get_or heads' q None) clauses) q p
        (λ s. subst (λ y. (clauses : List ℕ) × IsThread new y (get_or heads' y None) clauses) (sym s) (without c (k.threads p pb).0, left_thread))
        (λ np. by_same (λ _. (clauses : List ℕ) × IsThread new q (get_or heads' q None) clauses) q (packed w.literal)
        (λ s. subst (λ y. (clauses : List ℕ) × IsThread new y (get_or heads' y None) clauses) (sym s) (c ∷ (k.threads (packed w.literal) db).0, joined_thread))
        (λ nd. ((k.threads q within).0, kept_thread q within np nd)));
    records_are = λ e eb.
        let within : e < length old = omega (arith, m.size) in
        subst (λ n. IsRecord n (record_at new e)) (sym size)
        (by_same (λ _. IsRecord (length heads) (record_at new e)) e c
        (λ s. subst (λ y. IsRecord (length heads) (record_at new y)) (sym s) (subst (IsRecord (length heads)) (sym m.there) (exchange_record (length heads) p w (record_at old c) (k.records_are c below) db none)))
        (λ ne. m.stays (length heads) e ne (k.records_are e within)));
  }

-- What callers see.

-- the clause stands in the list of one literal, and does not watch the other
pub record IsMovable (heads : List (Option ℕ)) (old : List Record) (w : Watched) (literal to : Literal) (before : Option ℕ) (c : ℕ) : Type 0 where
  pub here : packed literal < length heads
  pub there : packed to < length heads
  pub below : c < length old
  pub apart : packed literal ≢ packed to
  pub watches : WatchesAt (packed literal) (record_at old c)
  pub not_yet : ¬ WatchesAt (packed to) (record_at old c)
  pub stands : (k : KeepsWatches heads old) → after (k.threads (packed literal) here).0 before ≡ Some c

pub movable : (heads : List (Option ℕ)) (old : List Record) (w : Watched) (literal to : Literal) (before : Option ℕ) (c : ℕ) → KeepsWatches heads old → watched_in heads old ≡ w → HasPlace w literal → HasPlace w to
    → after (watchers w literal) before ≡ Some c → to ≢ literal → ¬ HasWatch (pair_at w c) to → IsMovable heads old w literal to before c
movable heads old w literal to before c k same place place' stands apart other =
    let p = packed literal in
    let pb = place_of heads old w literal same place in
    let t = (k.threads p pb).1 in
    let xs = (k.threads p pb).0 in
    let at : after xs before ≡ Some c = sym (ap (λ ys. after ys before) (watchers_of heads old w literal k same pb)) ∙ stands in
    let only = All-at (λ e. (e < length old) × WatchesAt p (record_at old e)) xs c t.only (after_among xs before c at) in
    record {
      here = pb;
      there = place_of heads old w to same place';
      below = only.0;
      apart = λ e. apart (sym (packed_injective literal to e));
      watches = only.1;
      not_yet = λ v. other (subst (λ (u : Watched). HasWatch (pair_at u c) to) same (subst (λ q. HasWatch q to) (sym (pair_is old c only.0)) (at_watches to (record_at old c) v)));
      stands = λ k'. sym (ap (λ ys. after ys before) (watchers_of heads old w literal k' same pb)) ∙ stands;
    }

exchanged_pair : (l : Literal) (w : Watch) (r : Record) → pair_of (exchanged (packed l) w r) ≡ changed (pair_of r) l w.literal
exchanged_pair l w r = by (eqb (packed r.first.literal) (packed l))
  where
    by : (b : Bool) → pair_of (cond b (record { first = w; second = r.second }) (record { first = r.first; second = w })) ≡ cond b (record { first = w.literal; second = r.second.literal }) (record { first = r.first.literal; second = w.literal })
    by true = refl
    by false = refl

module _ (heads heads' : List (Option ℕ)) (old new : List Record) (v : Watched) (literal to : Literal) (next : Option ℕ) (before : Option ℕ) (c : ℕ) (start : Option ℕ) (k : KeepsWatches heads old) (same : watched_in heads old ≡ v)
    (s : IsMovable heads old v literal to before c) (m : IsMoved old new (packed literal) (record { literal = to; next = next }) c)
    (size : length heads' ≡ length heads) (there : get_or heads' (packed literal) None ≡ start) (at_to : get_or heads' (packed to) None ≡ Some c)
    (elsewhere : (q : ℕ) → q ≢ packed literal → q ≢ packed to → get_or heads' q None ≡ get_or heads q None) (head : next ≡ get_or heads (packed to) None)
    (leads : IsChain (links new (packed literal)) start (without c (k.threads (packed literal) s.here).0)) where
  pub move_keeps : KeepsWatches heads' new
  move_keeps = keeps_moved heads heads' old new (packed literal) (record { literal = to; next = next }) c start k s.here s.there m s.below s.apart s.watches s.not_yet size there at_to elsewhere head leads

  pub move_left : watchers (watched_in heads' new) literal ≡ without c (watchers v literal)
  move_left =
      list_is new heads' (packed literal) (without c (k.threads (packed literal) s.here).0) (subst (λ n. packed literal < n) (sym size) s.here)
      (left_thread heads heads' old new (packed literal) (record { literal = to; next = next }) c start k s.here s.there m s.below s.apart s.watches s.not_yet size there at_to elsewhere head leads)
      ∙ ap (without c) (sym (watchers_of heads old v literal k same s.here))

  pub move_joined : watchers (watched_in heads' new) to ≡ c ∷ watchers v to
  move_joined =
      list_is new heads' (packed to) (c ∷ (k.threads (packed to) s.there).0) (subst (λ n. packed to < n) (sym size) s.there)
      (joined_thread heads heads' old new (packed literal) (record { literal = to; next = next }) c start k s.here s.there m s.below s.apart s.watches s.not_yet size there at_to elsewhere head leads)
      ∙ ap (λ xs. c ∷ xs) (sym (watchers_of heads old v to k same s.there))

  pub move_others : (l : Literal) → HasPlace v l → l ≢ literal → l ≢ to → watchers (watched_in heads' new) l ≡ watchers v l
  move_others l place nl nt =
      let below = place_of heads old v l same place in
      list_is new heads' (packed l) (k.threads (packed l) below).0 (subst (λ n. packed l < n) (sym size) below)
      (kept_thread heads heads' old new (packed literal) (record { literal = to; next = next }) c start k s.here s.there m s.below s.apart s.watches s.not_yet size there at_to elsewhere head leads (packed l) below (λ e. nl (packed_injective l literal e)) (λ e. nt (packed_injective l to e)))
      ∙ sym (watchers_of heads old v l k same below)

  pub move_places : length (lists_from 0 new heads') ≡ length v.lists
  move_places = length_lists 0 new heads' ∙ size ∙ sym (length_lists 0 old heads) ∙ ap (λ (u : Watched). length u.lists) same

  pub move_pairs : map pair_of new ≡ set_pair v.pairs c literal to
  move_pairs =
      m.pairs ∙ ap (set (map pair_of old) c) (exchanged_pair literal (record { literal = to; next = next }) (record_at old c) ∙ ap (λ q. changed q literal to) (sym (pair_is old c s.below)))
      ∙ ap (λ (u : Watched). set_pair u.pairs c literal to) same

-- What a move leaves: the fields still fit, the clause has changed its list, and the pairs are as they must be.
abbrev IsDone : List (Option ℕ) → List Record → Watched → Literal → Literal → ℕ → Type 0
IsDone heads' new v literal to c =
    KeepsWatches heads' new × Moves v (watched_in heads' new) literal to c × (map pair_of new ≡ set_pair v.pairs c literal to)

module _ (heads : List (Option ℕ)) (old : List Record) (v : Watched) (literal to : Literal) (c : ℕ) (k : KeepsWatches heads old) (same : watched_in heads old ≡ v) where
  first_done : (o : Option ℕ) → (s : IsMovable heads old v literal to None c) → o ≡ get_or heads (packed to) None
      → IsDone (set (set heads (packed literal) (links old (packed literal) c)) (packed to) (Some c)) (first_gone old (packed literal) (record { literal = to; next = o }) c s.below) v literal to c
  first_done o s head =
      let p = packed literal in
      let d = packed to in
      let w : Watch = record { literal = to; next = o } in
      let n : Option ℕ = links old p c in
      let heads1 : List (Option ℕ) = set heads p n in
      let heads' : List (Option ℕ) = set heads1 d (Some c) in
      let m = first_moved old p w c s.below in
      let size : length heads' ≡ length heads = length-set heads1 d (Some c) ∙ length-set heads p n in
      let there : get_or heads' p None ≡ n = get_or-set_other heads1 d p (Some c) None s.apart ∙ get_or-set_same heads p n None s.here in
      let at_to : get_or heads' d None ≡ Some c = get_or-set_same heads1 d (Some c) None (subst (λ z. d < z) (sym (length-set heads p n)) s.there) in
      let elsewhere = λ (q : ℕ) (np : q ≢ p) (nd : q ≢ d). get_or-set_other heads1 d q (Some c) None nd ∙ get_or-set_other heads p q n None np in
      let leads = first_leads old p w c s.below (get_or heads p None) (k.threads p s.here).0 (k.threads p s.here).1 (s.stands k) in
      let new = first_gone old p w c s.below in (
        move_keeps heads heads' old new v literal to o None c n k same s m size there at_to elsewhere head leads,
        record {
          left = move_left heads heads' old new v literal to o None c n k same s m size there at_to elsewhere head leads;
          joined = move_joined heads heads' old new v literal to o None c n k same s m size there at_to elsewhere head leads;
          others = move_others heads heads' old new v literal to o None c n k same s m size there at_to elsewhere head leads;
          places = move_places heads heads' old new v literal to o None c n k same s m size there at_to elsewhere head leads;
        },
        move_pairs heads heads' old new v literal to o None c n k same s m size there at_to elsewhere head leads,
      )

  pub moved_first : (i j : ℕ) (n o : Option ℕ) (x : Record) → (s : IsMovable heads old v literal to None c) → i ≡ packed literal → j ≡ packed to → n ≡ link (packed literal) (record_at old c)
      → o ≡ get_or (set heads i n) j None → x ≡ exchanged (packed literal) (record { literal = to; next = o }) (record_at old c)
      → IsDone (set (set heads i n) j (Some c)) (set old c x) v literal to c
  moved_first i j n o x s ei ej en eo ex =
      let p = packed literal in
      let heads_are : set (set heads i n) j (Some c) ≡ set (set heads p (links old p c)) (packed to) (Some c) =
      ap (λ z. set (set heads z n) j (Some c)) ei ∙ ap (λ z. set (set heads p z) j (Some c)) en ∙ ap (λ z. set (set heads p (links old p c)) z (Some c)) ej in
      let head : o ≡ get_or heads (packed to) None =
      eo ∙ ap (λ z. get_or (set heads z n) j None) ei ∙ ap (λ z. get_or (set heads p n) z None) ej ∙ get_or-set_other heads p (packed to) n None (λ e. s.apart (sym e)) in
      subst (λ h. IsDone h (set old c x) v literal to c) (sym heads_are)
      (subst (λ y. IsDone (set (set heads p (links old p c)) (packed to) (Some c)) (set old c y) v literal to c) (sym ex) (first_done o s head))

  next_done : (b : ℕ) (o : Option ℕ) → (s : IsMovable heads old v literal to (Some b) c) (within : b < length old) (apart : c ≢ b) (watches : WatchesAt (packed literal) (record_at old b)) → o ≡ get_or heads (packed to) None
      → IsDone (set heads (packed to) (Some c)) (next_gone old (packed literal) (record { literal = to; next = o }) b c s.below within apart watches) v literal to c
  next_done b o s within apart watches head =
      let p = packed literal in
      let d = packed to in
      let w : Watch = record { literal = to; next = o } in
      let n : Option ℕ = get_or heads p None in
      let heads' : List (Option ℕ) = set heads d (Some c) in
      let m = next_moved old p w b c s.below within apart watches in
      let size : length heads' ≡ length heads = length-set heads d (Some c) in
      let there : get_or heads' p None ≡ n = get_or-set_other heads d p (Some c) None s.apart in
      let at_to : get_or heads' d None ≡ Some c = get_or-set_same heads d (Some c) None s.there in
      let elsewhere = λ (q : ℕ) (np : q ≢ p) (nd : q ≢ d). get_or-set_other heads d q (Some c) None nd in
      let leads = next_leads old p w b c s.below within apart watches n (k.threads p s.here).0 (k.threads p s.here).1 (s.stands k) in
      let new = next_gone old p w b c s.below within apart watches in (
        move_keeps heads heads' old new v literal to o (Some b) c n k same s m size there at_to elsewhere head leads,
        record {
          left = move_left heads heads' old new v literal to o (Some b) c n k same s m size there at_to elsewhere head leads;
          joined = move_joined heads heads' old new v literal to o (Some b) c n k same s m size there at_to elsewhere head leads;
          others = move_others heads heads' old new v literal to o (Some b) c n k same s m size there at_to elsewhere head leads;
          places = move_places heads heads' old new v literal to o (Some b) c n k same s m size there at_to elsewhere head leads;
        },
        move_pairs heads heads' old new v literal to o (Some b) c n k same s m size there at_to elsewhere head leads,
      )

  -- the clause before stands in the list too, and is another one
  pub behind_one : (b : ℕ) → (s : IsMovable heads old v literal to (Some b) c) → (b < length old) × (c ≢ b) × WatchesAt (packed literal) (record_at old b)
  behind_one b s =
      let p = packed literal in
      let t = (k.threads p s.here).1 in
      let xs = (k.threads p s.here).0 in
      let only = All-at (λ e. (e < length old) × WatchesAt p (record_at old e)) xs b t.only (before_among xs b c (s.stands k)) in
      (only.0, next_apart xs b c t.once (s.stands k), only.1)

  pub moved_behind : (b j : ℕ) (n o : Option ℕ) (y x : Record) → (s : IsMovable heads old v literal to (Some b) c) → j ≡ packed to → n ≡ link (packed literal) (record_at old c)
      → y ≡ relinked (packed literal) n (record_at old b) → o ≡ get_or heads j None → x ≡ exchanged (packed literal) (record { literal = to; next = o }) (record_at (set old b y) c)
      → IsDone (set heads j (Some c)) (set (set old b y) c x) v literal to c
  moved_behind b j n o y x s ej en ey eo ex =
      let p = packed literal in
      let one = behind_one b s in
      let behind : y ≡ relinked p (links old p c) (record_at old b) = ey ∙ ap (λ z. relinked p z (record_at old b)) en in
      let head : o ≡ get_or heads (packed to) None = eo ∙ ap (λ z. get_or heads z None) ej in
      let records_are : set (set old b y) c x ≡ next_gone old p (record { literal = to; next = o }) b c s.below one.0 one.1 one.2 =
      ap (set (set old b y) c) ex ∙ ap (λ z. set (set old b z) c (exchanged p (record { literal = to; next = o }) (record_at (set old b z) c))) behind in
      subst (λ h. IsDone h (set (set old b y) c x) v literal to c) (ap (λ z. set heads z (Some c)) (sym ej))
      (subst (λ r. IsDone (set heads (packed to) (Some c)) r v literal to c) (sym records_are) (next_done b o s one.0 one.1 one.2 head))
