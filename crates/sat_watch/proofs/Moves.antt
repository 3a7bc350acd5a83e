-- The lists where a clause is added, and where a watch moves.
use Rattle.std.proofs.Common.{◌≡◌, ◌≢◌, ℕ, zero, suc, ◌+◌, ◌<◌, ◌≤◌, inl, inr, List, [], ◌∷◌, ◌++◌, length, map, get_or, refl, ap, sym, subst, ◌∙◌, ⊎_elim, arith}
use Rattle.std.specs.Prelude.{Option, None, Some}
use Rattle.std.proofs.lemmas.List.{get_or_append_left, get_or_push, get_or-map, length_push, length-map}
use Rattle.std.proofs.lemmas.Bool.{cases_lt}
use Rattle.sat_log.specs.Literal.{Literal}
use Rattle.sat_log.specs.Packing.{packed}
use Rattle.sat_log.proofs.LiteralLemmas.{packed_injective}
use Rattle.sat_watch.specs.Watched.{Pair, Watched, no_pair, HasPlace, watchers, HasWatch, IsAmong, AreDistinct, first_of, next_of, without, IsListOf, IsWatching}
use Rattle.sat_watch.specs.Threads.{no_record, record_at, link, links, chain, lists_from, pair_of, watched_in, IsChain, WatchesAt, IsThread, KeepsWatches}
use Rattle.sat_watch.specs.declared.record.Record.{Record}
use Rattle.sat_watch.proofs.Chains.{All-at, All-each, by_same, chain_same, settled, starts, leads_on, among_without, among_from_without, distinct_without, without_gone}

-- The lists of the view.

pub length_lists : (p : ℕ) (records : List Record) (heads : List (Option ℕ)) → length (lists_from p records heads) ≡ length heads
length_lists p records [] = refl
length_lists p records (h ∷ heads) = ap suc (length_lists (p + 1) records heads)

list_from : (p i : ℕ) (records : List Record) (heads : List (Option ℕ)) → i < length heads
    → get_or (lists_from p records heads) i [] ≡ chain (links records (p + i)) (length records) (get_or heads i None)
list_from p i records [] h = absurd (omega arith)
list_from p zero records (o ∷ heads) h = let e : p ≡ p + 0 = omega arith in ap (λ q. chain (links records q) (length records) o) e
list_from p (suc i) records (o ∷ heads) h =
    let e : (p + 1) + i ≡ p + suc i = omega arith in
    list_from (p + 1) i records heads (omega arith) ∙ ap (λ q. chain (links records q) (length records) (get_or heads i None)) e

-- a thread is the list of the view
pub list_is : (records : List Record) (heads : List (Option ℕ)) (p : ℕ) (xs : List ℕ) → p < length heads → IsThread records p (get_or heads p None) xs → get_or (lists_from 0 records heads) p [] ≡ xs
list_is records heads p xs below t =
    let e : 0 + p ≡ p = omega arith in
    list_from 0 p records heads below ∙ ap (λ q. chain (links records q) (length records) (get_or heads p None)) e ∙ settled records p (get_or heads p None) xs t

pub push_lists : (p : ℕ) (records : List Record) (heads : List (Option ℕ)) → lists_from p records (heads ++ None ∷ []) ≡ lists_from p records heads ++ [] ∷ []
push_lists p records [] = ap (λ xs. xs ∷ []) (none (length records))
  where
    none : (n : ℕ) → chain (links records p) n None ≡ []
    none zero = refl
    none (suc n) = refl
push_lists p records (h ∷ heads) = ap (λ xs. chain (links records p) (length records) h ∷ xs) (push_lists (p + 1) records heads)

-- Threads.

module _ (old new : List Record) (p : ℕ) (o : Option ℕ) (xs : List ℕ) where
  -- nothing changed for this literal
  pub thread_kept : length old ≤ length new
      → ((e : ℕ) → e < length old → WatchesAt p (record_at old e) → links new p e ≡ links old p e)
      → ((e : ℕ) → e < length old → WatchesAt p (record_at old e) → WatchesAt p (record_at new e))
      → ((e : ℕ) → e < length new → WatchesAt p (record_at new e) → (e < length old) × WatchesAt p (record_at old e))
      → IsThread old p o xs → IsThread new p o xs
  thread_kept more same to from t = record {
    leads = chain_same (links old p) (links new p) o xs (All-each (λ c. links new p c ≡ links old p c) xs (λ c m. let at = All-at (λ e. (e < length old) × WatchesAt p (record_at old e)) xs c t.only m in same c at.0 at.1)) t.leads;
    each = λ c below w. let at = from c below w in t.each c at.0 at.1;
    only = All-each (λ e. (e < length new) × WatchesAt p (record_at new e)) xs (λ c m. let at = All-at (λ e. (e < length old) × WatchesAt p (record_at old e)) xs c t.only m in (omega (arith, at.0), to c at.0 at.1));
    once = t.once;
  }

  -- a clause joins
  pub thread_joined : (c : ℕ) → c < length new → length old ≤ length new → links new p c ≡ o → WatchesAt p (record_at new c)
      → ((e : ℕ) → IsAmong xs e → e ≢ c)
      → ((e : ℕ) → e < length old → e ≢ c → WatchesAt p (record_at old e) → links new p e ≡ links old p e)
      → ((e : ℕ) → e < length old → e ≢ c → WatchesAt p (record_at old e) → WatchesAt p (record_at new e))
      → ((e : ℕ) → e < length new → e ≢ c → WatchesAt p (record_at new e) → (e < length old) × WatchesAt p (record_at old e))
      → IsThread old p o xs → IsThread new p (Some c) (c ∷ xs)
  thread_joined c below more here watches absent same to from t = record {
    leads = (refl, subst (λ s. IsChain (links new p) s xs) (sym here) (chain_same (links old p) (links new p) o xs (All-each (λ e. links new p e ≡ links old p e) xs (λ e m. let at = All-at (λ f. (f < length old) × WatchesAt p (record_at old f)) xs e t.only m in same e at.0 (absent e m) at.1)) t.leads));
    each = λ e within w. by_same (λ _. IsAmong (c ∷ xs) e) e c (λ s. inl (sym s)) (λ ne. let at = from e within ne w in inr (t.each e at.0 at.1));
    only = ((below, watches), All-each (λ e. (e < length new) × WatchesAt p (record_at new e)) xs (λ e m. let at = All-at (λ f. (f < length old) × WatchesAt p (record_at old f)) xs e t.only m in (omega (arith, at.0), to e at.0 (absent e m) at.1)));
    once = (All-each (λ e. e ≢ c) xs absent, t.once);
  }

  -- a clause leaves
  pub thread_left : (start : Option ℕ) (c : ℕ) → length new ≡ length old → IsChain (links new p) start (without c xs) → ¬ WatchesAt p (record_at new c)
      → ((e : ℕ) → e ≢ c → WatchesAt p (record_at old e) → WatchesAt p (record_at new e))
      → ((e : ℕ) → e ≢ c → WatchesAt p (record_at new e) → WatchesAt p (record_at old e))
      → IsThread old p o xs → IsThread new p start (without c xs)
  thread_left start c size leads gone to from t = record {
    leads = leads;
    each = λ e below w. let ne : e ≢ c = (λ s. gone (subst (λ y. WatchesAt p (record_at new y)) s w)) in among_without c e xs (t.each e (omega (arith, size)) (from e ne w)) ne;
    only = All-each (λ e. (e < length new) × WatchesAt p (record_at new e)) (without c xs) (λ e m.
        let at = All-at (λ f. (f < length old) × WatchesAt p (record_at old f)) xs e t.only (among_from_without c e xs m) in
        (omega (arith, at.0, size), to e (All-at (λ f. f ≢ c) (without c xs) e (without_gone c xs t.once) m) at.1));
    once = distinct_without c xs t.once;
  }

-- The whole.

watches_at : (l : Literal) (r : Record) → HasWatch (pair_of r) l → WatchesAt (packed l) r
watches_at l r (inl e) = inl (ap packed e)
watches_at l r (inr e) = inr (ap packed e)

pub at_watches : (l : Literal) (r : Record) → WatchesAt (packed l) r → HasWatch (pair_of r) l
at_watches l r (inl e) = inl (packed_injective r.first.literal l e)
at_watches l r (inr e) = inr (packed_injective r.second.literal l e)

pub pair_is : (records : List Record) (c : ℕ) → c < length records → get_or (map pair_of records) c no_pair ≡ pair_of (record_at records c)
pair_is records c below = get_or-map pair_of records c no_record no_pair below

pub list_of : (heads : List (Option ℕ)) (records : List Record) (l : Literal) → KeepsWatches heads records → packed l < length heads → IsListOf (watched_in heads records) l
list_of heads records l k place =
    let t = k.threads (packed l) place in
    let same = list_is records heads (packed l) t.0 place t.1 in
    record {
      each = λ c below w.
          let within : c < length records = omega (arith, length-map records pair_of) in
          subst (λ xs. IsAmong xs c) (sym same) (t.1.each c within (watches_at l (record_at records c) (subst (λ q. HasWatch q l) (pair_is records c within) w)));
      only = λ c m.
          let at = All-at (λ e. (e < length records) × WatchesAt (packed l) (record_at records e)) t.0 c t.1.only (subst (λ xs. IsAmong xs c) same m) in
          (omega (arith, at.0, length-map records pair_of), subst (λ q. HasWatch q l) (sym (pair_is records c at.0)) (at_watches l (record_at records c) at.1));
      once = subst AreDistinct (sym same) t.1.once;
    }

pub watching : (heads : List (Option ℕ)) (records : List Record) → KeepsWatches heads records → IsWatching (watched_in heads records)
watching heads records k = record {
  lists = λ l place. list_of heads records l k (omega (arith, length_lists 0 records heads));
  two = λ c below e.
      let within : c < length records = omega (arith, length-map records pair_of) in
      (k.records_are c within).apart (ap packed (subst (λ (q : Pair). q.first ≡ q.second) (pair_is records c within) e));
  places = λ c l below w.
      let within : c < length records = omega (arith, length-map records pair_of) in
      let r = k.records_are c within in
      ⊎_elim
      (λ e. let first = r.first in omega (arith, length_lists 0 records heads, e, first))
      (λ e. let second = r.second in omega (arith, length_lists 0 records heads, e, second))
      (watches_at l (record_at records c) (subst (λ q. HasWatch q l) (pair_is records c within) w));
}

-- What callers see, of the fields.

pub place_of : (heads : List (Option ℕ)) (records : List Record) (w : Watched) (l : Literal) → watched_in heads records ≡ w → HasPlace w l → packed l < length heads
place_of heads records w l same h =
    let place : packed l < length (lists_from 0 records heads) = subst (λ v. HasPlace v l) (sym same) h in
    omega (arith, length_lists 0 records heads)

-- the list of a literal
pub watchers_of : (heads : List (Option ℕ)) (records : List Record) (w : Watched) (l : Literal) (k : KeepsWatches heads records) (same : watched_in heads records ≡ w) (below : packed l < length heads) → watchers w l ≡ (k.threads (packed l) below).0
watchers_of heads records w l k same below =
    subst (λ v. watchers v l ≡ (k.threads (packed l) below).0) same (list_is records heads (packed l) (k.threads (packed l) below).0 below (k.threads (packed l) below).1)

pub first_of_list : (heads : List (Option ℕ)) (records : List Record) (w : Watched) (l : Literal) → KeepsWatches heads records → watched_in heads records ≡ w → packed l < length heads → get_or heads (packed l) None ≡ first_of (watchers w l)
first_of_list heads records w l k same below =
    starts (links records (packed l)) (get_or heads (packed l) None) (k.threads (packed l) below).0 (k.threads (packed l) below).1.leads
    ∙ ap first_of (sym (watchers_of heads records w l k same below))

pub next_of_list : (heads : List (Option ℕ)) (records : List Record) (w : Watched) (l : Literal) (c : ℕ) → KeepsWatches heads records → watched_in heads records ≡ w → packed l < length heads → IsAmong (watchers w l) c → (c < length records) × (link (packed l) (record_at records c) ≡ next_of (watchers w l) c)
next_of_list heads records w l c k same below m =
    let xs = (k.threads (packed l) below).0 in
    let t = (k.threads (packed l) below).1 in
    let list = watchers_of heads records w l k same below in
    let among = subst (λ ys. IsAmong ys c) list m in (
      (All-at (λ e. (e < length records) × WatchesAt (packed l) (record_at records e)) xs c t.only among).0,
      leads_on (links records (packed l)) (get_or heads (packed l) None) xs c t.leads among ∙ ap (λ ys. next_of ys c) (sym list),
    )

-- one place more
pub keeps_place : (heads : List (Option ℕ)) (records : List Record) → KeepsWatches heads records → KeepsWatches (heads ++ None ∷ []) records
keeps_place heads records k = record {
  threads = λ p below. ⊎_elim
      (λ within. subst (λ o. (clauses : List ℕ) × IsThread records p o clauses) (sym (get_or_append_left heads (None ∷ []) None p within)) (k.threads p within))
      (λ past. let at : length heads ≡ p = omega (arith, length_push heads None) in
      subst (λ o. (clauses : List ℕ) × IsThread records p o clauses) (sym (get_or_push heads None None p at)) ([], none p at))
      (cases_lt p (length heads));
  records_are = λ c below. let r = k.records_are c below in record { first = more (record_at records c).first.literal r.first; second = more (record_at records c).second.literal r.second; apart = r.apart };
}
  where
    more : (l : Literal) → packed l < length heads → packed l < length (heads ++ None ∷ [])
    more l h = omega (arith, length_push heads None)

    none : (p : ℕ) → length heads ≡ p → IsThread records p None []
    none p at = record {
      leads = refl;
      each = λ c below w. let r = k.records_are c below in ⊎_elim (λ e. let first = r.first in absurd (omega (arith, e, at, first))) (λ e. let second = r.second in absurd (omega (arith, e, at, second))) w;
      only = tt;
      once = tt;
    }
