-- A clause is added.
use Rattle.std.proofs.Common.{◌≡◌, ◌≢◌, ℕ, ◌<◌, inl, inr, List, [], ◌∷◌, ◌++◌, length, get_or, set, refl, ap, sym, subst, ◌∙◌, arith}
use Rattle.std.specs.Prelude.{Option, None, Some}
use Rattle.std.proofs.lemmas.List.{get_or_append_left, get_or_push, get_or-set_same, get_or-set_other, length_push, length-set, length-map}
use Rattle.sat_log.specs.Literal.{Literal}
use Rattle.sat_log.specs.Packing.{packed}
use Rattle.sat_log.proofs.LiteralLemmas.{packed_injective}
use Rattle.sat_watch.specs.Watched.{Watched, HasPlace, watchers, Joins}
use Rattle.sat_watch.specs.Threads.{no_record, record_at, link, lists_from, pair_of, watched_in, WatchesAt, IsThread, IsRecord, KeepsWatches}
use Rattle.sat_watch.specs.declared.record.Record.{Record}
use Rattle.sat_watch.proofs.Chains.{All-at, by_same, is_same, is_other}
use Rattle.sat_watch.proofs.Moves.{length_lists, list_is, watchers_of, place_of, thread_kept, thread_joined}

module _ (records : List Record) (r : Record) where
  old_at : (e : ℕ) → e < length records → record_at (records ++ r ∷ []) e ≡ record_at records e
  old_at e below = get_or_append_left records (r ∷ []) no_record e below

  new_at : record_at (records ++ r ∷ []) (length records) ≡ r
  new_at = get_or_push records r no_record (length records) refl

  from_added : (p e : ℕ) → e < length (records ++ r ∷ []) → e ≢ length records → WatchesAt p (record_at (records ++ r ∷ []) e) → (e < length records) × WatchesAt p (record_at records e)
  from_added p e below ne w =
      let within : e < length records = omega (arith, length_push records r) in
      (within, subst (WatchesAt p) (old_at e within) w)

  pub added_kept : (p : ℕ) (o : Option ℕ) (xs : List ℕ) → ¬ WatchesAt p r → IsThread records p o xs → IsThread (records ++ r ∷ []) p o xs
  added_kept p o xs none t =
      thread_kept records (records ++ r ∷ []) p o xs (omega (arith, length_push records r))
      (λ e below w. ap (link p) (old_at e below))
      (λ e below w. subst (WatchesAt p) (sym (old_at e below)) w)
      (λ e below w. by_same (λ _. (e < length records) × WatchesAt p (record_at records e)) e (length records)
      (λ s. absurd (none (subst (WatchesAt p) (ap (record_at (records ++ r ∷ [])) s ∙ new_at) w)))
      (λ ne. from_added p e below ne w))
      t

  pub added_joined : (p : ℕ) (o : Option ℕ) (xs : List ℕ) → link p r ≡ o → WatchesAt p r → IsThread records p o xs → IsThread (records ++ r ∷ []) p (Some (length records)) (length records ∷ xs)
  added_joined p o xs here w t =
      thread_joined records (records ++ r ∷ []) p o xs (length records) (omega (arith, length_push records r)) (omega (arith, length_push records r))
      (ap (link p) new_at ∙ here) (subst (WatchesAt p) (sym new_at) w)
      (λ e m s. let at = All-at (λ f. (f < length records) × WatchesAt p (record_at records f)) xs e t.only m in absurd (omega (arith, at.0, s)))
      (λ e below ne v. ap (link p) (old_at e below))
      (λ e below ne v. subst (WatchesAt p) (sym (old_at e below)) v)
      (λ e below ne v. from_added p e below ne v)
      t

  pub added_records : (n : ℕ) → IsRecord n r → ((e : ℕ) → e < length records → IsRecord n (record_at records e)) → (e : ℕ) → e < length (records ++ r ∷ []) → IsRecord n (record_at (records ++ r ∷ []) e)
  added_records n is all e below =
      by_same (λ _. IsRecord n (record_at (records ++ r ∷ []) e)) e (length records)
      (λ s. subst (IsRecord n) (sym (ap (record_at (records ++ r ∷ [])) s ∙ new_at)) is)
      (λ ne. let within : e < length records = omega (arith, length_push records r) in subst (IsRecord n) (sym (old_at e within)) (all e within))

-- the record of a clause that is the first one of both of its lists
abbrev pub joining : List (Option ℕ) → Literal → Literal → Record
joining heads a b = record {
  first = record { literal = a; next = get_or heads (packed a) None };
  second = record { literal = b; next = get_or heads (packed b) None };
}

-- the first clauses of the lists then
abbrev pub joined_heads : List (Option ℕ) → Literal → Literal → ℕ → List (Option ℕ)
joined_heads heads a b c = set (set heads (packed a) (Some c)) (packed b) (Some c)

module _ (heads : List (Option ℕ)) (records : List Record) (a b : Literal) (k : KeepsWatches heads records) (pa : packed a < length heads) (pb : packed b < length heads) (apart : packed a ≢ packed b) where
  abbrev added : List Record
  added = records ++ joining heads a b ∷ []

  pub joined_length : length (joined_heads heads a b (length records)) ≡ length heads
  joined_length = length-set (set heads (packed a) (Some (length records))) (packed b) (Some (length records)) ∙ length-set heads (packed a) (Some (length records))

  pub first_thread : IsThread added (packed a) (get_or (joined_heads heads a b (length records)) (packed a) None) (length records ∷ (k.threads (packed a) pa).0)
  first_thread =
      let at : get_or (joined_heads heads a b (length records)) (packed a) None ≡ Some (length records) =
      get_or-set_other (set heads (packed a) (Some (length records))) (packed b) (packed a) (Some (length records)) None apart ∙ get_or-set_same heads (packed a) (Some (length records)) None pa in
      subst (λ o. IsThread added (packed a) o (length records ∷ (k.threads (packed a) pa).0)) (sym at)
      (added_joined records (joining heads a b) (packed a) (get_or heads (packed a) None) (k.threads (packed a) pa).0 (is_same (packed a) (packed a) (get_or heads (packed a) None) (get_or heads (packed b) None) refl) (inl refl) (k.threads (packed a) pa).1)

  pub second_thread : IsThread added (packed b) (get_or (joined_heads heads a b (length records)) (packed b) None) (length records ∷ (k.threads (packed b) pb).0)
  second_thread =
      let at : get_or (joined_heads heads a b (length records)) (packed b) None ≡ Some (length records) =
      get_or-set_same (set heads (packed a) (Some (length records))) (packed b) (Some (length records)) None (omega (arith, length-set heads (packed a) (Some (length records)))) in
      subst (λ o. IsThread added (packed b) o (length records ∷ (k.threads (packed b) pb).0)) (sym at)
      (added_joined records (joining heads a b) (packed b) (get_or heads (packed b) None) (k.threads (packed b) pb).0 (is_other (packed a) (packed b) (get_or heads (packed a) None) (get_or heads (packed b) None) apart) (inr refl) (k.threads (packed b) pb).1)

  pub other_thread : (p : ℕ) (below : p < length heads) → p ≢ packed a → p ≢ packed b → IsThread added p (get_or (joined_heads heads a b (length records)) p None) (k.threads p below).0
  other_thread p below na nb =
      let at : get_or (joined_heads heads a b (length records)) p None ≡ get_or heads p None =
      get_or-set_other (set heads (packed a) (Some (length records))) (packed b) p (Some (length records)) None nb ∙ get_or-set_other heads (packed a) p (Some (length records)) None na in
      subst (λ o. IsThread added p o (k.threads p below).0) (sym at)
      (added_kept records (joining heads a b) p (get_or heads p None) (k.threads p below).0 (λ w. neither w) (k.threads p below).1)
    where
      neither : WatchesAt p (joining heads a b) → ⊥
      neither (inl e) = na (sym e)
      neither (inr e) = nb (sym e)

  pub keeps_added : KeepsWatches (joined_heads heads a b (length records)) added
  keeps_added = record {
    threads = λ p below.
        let within : p < length heads = omega (arith, joined_length) in
        by_same (λ _. (clauses : List ℕ) × IsThread added p (get_or (joined_heads heads a b (length records)) p None) clauses) p (packed a)
        (λ s. subst (λ q. (clauses : List ℕ) × IsThread added q (get_or (joined_heads heads a b (length records)) q None) clauses) (sym s) (length records ∷ (k.threads (packed a) pa).0, first_thread))
        (λ na. by_same (λ _. (clauses : List ℕ) × IsThread added p (get_or (joined_heads heads a b (length records)) p None) clauses) p (packed b)
        (λ s. subst (λ q. (clauses : List ℕ) × IsThread added q (get_or (joined_heads heads a b (length records)) q None) clauses) (sym s) (length records ∷ (k.threads (packed b) pb).0, second_thread))
        (λ nb. ((k.threads p within).0, other_thread p within na nb)));
    records_are = λ e below.
        subst (λ n. IsRecord n (record_at added e)) (sym joined_length)
        (added_records records (joining heads a b) (length heads) (record { first = pa; second = pb; apart = apart }) k.records_are e below);
  }

-- What callers see, over the fields as a call leaves them.

module _ (heads : List (Option ℕ)) (records : List Record) (w : Watched) (a b : Literal) (k : KeepsWatches heads records) (same : watched_in heads records ≡ w) (pa : packed a < length heads) (pb : packed b < length heads) (apart : packed a ≢ packed b)
    (heads' : List (Option ℕ)) (new : List Record) (heads_are : heads' ≡ joined_heads heads a b (length records)) (records_are : new ≡ records ++ joining heads a b ∷ []) where
  pub keeps_after : KeepsWatches heads' new
  keeps_after =
      subst (λ h. KeepsWatches h new) (sym heads_are) (subst (KeepsWatches (joined_heads heads a b (length records))) (sym records_are) (keeps_added heads records a b k pa pb apart))

  size : length heads' ≡ length heads
  size = ap length heads_are ∙ joined_length heads records a b k pa pb apart

  thread_after : (p : ℕ) (xs : List ℕ) → IsThread (records ++ joining heads a b ∷ []) p (get_or (joined_heads heads a b (length records)) p None) xs → p < length heads → get_or (lists_from 0 new heads') p [] ≡ xs
  thread_after p xs t below =
      list_is new heads' p xs (omega (arith, size)) (subst (λ h. IsThread new p (get_or h p None) xs) (sym heads_are) (subst (λ rs. IsThread rs p (get_or (joined_heads heads a b (length records)) p None) xs) (sym records_are) t))

  count : length records ≡ length w.pairs
  count = sym (length-map records pair_of) ∙ ap (λ (v : Watched). length v.pairs) same

  pub first_after : watchers (watched_in heads' new) a ≡ length w.pairs ∷ watchers w a
  first_after =
      thread_after (packed a) (length records ∷ (k.threads (packed a) pa).0) (first_thread heads records a b k pa pb apart) pa
      ∙ ap (λ n. n ∷ (k.threads (packed a) pa).0) count ∙ ap (λ xs. length w.pairs ∷ xs) (sym (watchers_of heads records w a k same pa))

  pub second_after : watchers (watched_in heads' new) b ≡ length w.pairs ∷ watchers w b
  second_after =
      thread_after (packed b) (length records ∷ (k.threads (packed b) pb).0) (second_thread heads records a b k pa pb apart) pb
      ∙ ap (λ n. n ∷ (k.threads (packed b) pb).0) count ∙ ap (λ xs. length w.pairs ∷ xs) (sym (watchers_of heads records w b k same pb))

  pub others_after : (l : Literal) → HasPlace w l → l ≢ a → l ≢ b → watchers (watched_in heads' new) l ≡ watchers w l
  others_after l place na nb =
      let below = place_of heads records w l same place in
      thread_after (packed l) (k.threads (packed l) below).0 (other_thread heads records a b k pa pb apart (packed l) below (λ e. na (packed_injective l a e)) (λ e. nb (packed_injective l b e))) below
      ∙ sym (watchers_of heads records w l k same below)

  pub places_after : length (lists_from 0 new heads') ≡ length w.lists
  places_after =
      length_lists 0 new heads' ∙ size ∙ sym (length_lists 0 records heads) ∙ ap (λ (v : Watched). length v.lists) same

-- What a call leaves: the fields still fit, and the clause has joined two lists.
pub added_all : (heads : List (Option ℕ)) (records : List Record) (w : Watched) (a b : Literal) → KeepsWatches heads records → watched_in heads records ≡ w → HasPlace w a → HasPlace w b → a ≢ b
    → (i j n : ℕ) (x y : Option ℕ) (reserved pushed : List Record) → i ≡ packed a → j ≡ packed b → n ≡ length records → x ≡ get_or heads (packed a) None → y ≡ get_or heads (packed b) None
    → reserved ≡ records → pushed ≡ reserved ++ record { first = record { literal = a; next = x }; second = record { literal = b; next = y } } ∷ []
    → KeepsWatches (set (set heads i (Some n)) j (Some n)) pushed × Joins w (watched_in (set (set heads i (Some n)) j (Some n)) pushed) a b (length w.pairs)
added_all heads records w a b k same ha hb ne i j n x y reserved pushed ei ej en ex ey er ep =
    let pa = place_of heads records w a same ha in
    let pb = place_of heads records w b same hb in
    let apart : packed a ≢ packed b = (λ e. ne (packed_injective a b e)) in
    let heads_are : set (set heads i (Some n)) j (Some n) ≡ joined_heads heads a b (length records) =
    ap (λ m. set (set heads i (Some m)) j (Some m)) en ∙ ap (λ p. set (set heads p (Some (length records))) j (Some (length records))) ei
    ∙ ap (λ p. set (set heads (packed a) (Some (length records))) p (Some (length records))) ej in
    let records_are : pushed ≡ records ++ joining heads a b ∷ [] =
    ep ∙ ap (λ rs. rs ++ record { first = record { literal = a; next = x }; second = record { literal = b; next = y } } ∷ []) er
    ∙ ap (λ o. records ++ record { first = record { literal = a; next = o }; second = record { literal = b; next = y } } ∷ []) ex
    ∙ ap (λ o. records ++ record { first = record { literal = a; next = get_or heads (packed a) None }; second = record { literal = b; next = o } } ∷ []) ey in
    let heads' : List (Option ℕ) = set (set heads i (Some n)) j (Some n) in (
      keeps_after heads records w a b k same pa pb apart heads' pushed heads_are records_are,
      record {
        first = first_after heads records w a b k same pa pb apart heads' pushed heads_are records_are;
        second = second_after heads records w a b k same pa pb apart heads' pushed heads_are records_are;
        others = others_after heads records w a b k same pa pb apart heads' pushed heads_are records_are;
        places = places_after heads records w a b k same pa pb apart heads' pushed heads_are records_are;
      },
    )
