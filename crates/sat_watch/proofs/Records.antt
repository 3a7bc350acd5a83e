-- What a record says after one of its links or watches has changed.
use Rattle.std.proofs.Common.{◌≡◌, ◌≢◌, ◌<◌, ℕ, cond, ◌⊎◌, inl, inr, refl, sym, ◌∙◌, ⊎_elim}
use Rattle.std.specs.Prelude.{Option}
use Rattle.sat_log.specs.Packing.{packed}
use Rattle.sat_watch.specs.Threads.{link, relinked, exchanged, pair_of, WatchesAt, IsRecord}
use Rattle.sat_watch.specs.declared.record.Watch.{Watch}
use Rattle.sat_watch.specs.declared.record.Record.{Record}
use Rattle.sat_watch.proofs.Chains.{by_same, is_same, is_other}

abbrev IsApart : Record → Type 0
IsApart r = packed r.first.literal ≢ packed r.second.literal

-- where the first literal is not the one of this place, the second is
second_at : (p : ℕ) (r : Record) → WatchesAt p r → packed r.first.literal ≢ p → packed r.second.literal ≡ p
second_at p r (inl e) ne = absurd (ne e)
second_at p r (inr e) ne = e

-- Another link.

pub relink_here : (p : ℕ) (next : Option ℕ) (r : Record) → link p (relinked p next r) ≡ next
relink_here p next r =
    by_same
    (λ t. link p (cond t (record { first = record { literal = r.first.literal; next = next }; second = r.second }) (record { first = r.first; second = record { literal = r.second.literal; next = next } })) ≡ next)
    (packed r.first.literal) p
    (λ e. is_same (packed r.first.literal) p next r.second.next e)
    (λ ne. is_other (packed r.first.literal) p r.first.next next ne)

pub relink_other : (p q : ℕ) (next : Option ℕ) (r : Record) → WatchesAt p r → WatchesAt q r → q ≢ p → link q (relinked p next r) ≡ link q r
relink_other p q next r wp wq ne =
    by_same
    (λ t. link q (cond t (record { first = record { literal = r.first.literal; next = next }; second = r.second }) (record { first = r.first; second = record { literal = r.second.literal; next = next } })) ≡ link q r)
    (packed r.first.literal) p
    (λ e. let other : packed r.first.literal ≢ q = (λ k. ne (sym k ∙ e)) in
    is_other (packed r.first.literal) q next r.second.next other ∙ sym (is_other (packed r.first.literal) q r.first.next r.second.next other))
    (λ np. let here : packed r.first.literal ≡ q = first_is np in
    is_same (packed r.first.literal) q r.first.next next here ∙ sym (is_same (packed r.first.literal) q r.first.next r.second.next here))
  where
    first_is : packed r.first.literal ≢ p → packed r.first.literal ≡ q
    first_is np = ⊎_elim (λ e. e) (λ e. absurd (ne (sym e ∙ second_at p r wp np))) wq

pub relink_pair : (p : ℕ) (next : Option ℕ) (r : Record) → pair_of (relinked p next r) ≡ pair_of r
relink_pair p next r =
    by_same
    (λ t. pair_of (cond t (record { first = record { literal = r.first.literal; next = next }; second = r.second }) (record { first = r.first; second = record { literal = r.second.literal; next = next } })) ≡ pair_of r)
    (packed r.first.literal) p (λ _. refl) (λ _. refl)

-- Another watch.

module _ (p : ℕ) (w : Watch) (r : Record) where
  pub exchange_here : ¬ WatchesAt (packed w.literal) r → link (packed w.literal) (exchanged p w r) ≡ w.next
  exchange_here none =
      by_same (λ t. link (packed w.literal) (cond t (record { first = w; second = r.second }) (record { first = r.first; second = w })) ≡ w.next)
      (packed r.first.literal) p
      (λ _. is_same (packed w.literal) (packed w.literal) w.next r.second.next refl)
      (λ _. is_other (packed r.first.literal) (packed w.literal) r.first.next w.next (λ e. none (inl e)))

  pub exchange_watches : WatchesAt (packed w.literal) (exchanged p w r)
  exchange_watches =
      by_same (λ t. WatchesAt (packed w.literal) (cond t (record { first = w; second = r.second }) (record { first = r.first; second = w })))
      (packed r.first.literal) p (λ _. inl refl) (λ _. inr refl)

  pub exchange_other : (q : ℕ) → q ≢ p → q ≢ packed w.literal → WatchesAt q r → WatchesAt p r → link q (exchanged p w r) ≡ link q r
  exchange_other q np nw wq wp =
      by_same (λ t. link q (cond t (record { first = w; second = r.second }) (record { first = r.first; second = w })) ≡ link q r)
      (packed r.first.literal) p
      (λ e. is_other (packed w.literal) q w.next r.second.next (λ k. nw (sym k)) ∙ sym (is_other (packed r.first.literal) q r.first.next r.second.next (λ k. np (sym k ∙ e))))
      (λ ne. let here : packed r.first.literal ≡ q = ⊎_elim (λ e. e) (λ e. absurd (np (sym e ∙ second_at p r wp ne))) wq in
      is_same (packed r.first.literal) q r.first.next w.next here ∙ sym (is_same (packed r.first.literal) q r.first.next r.second.next here))

  pub exchange_keeps : (q : ℕ) → q ≢ p → WatchesAt q r → WatchesAt p r → WatchesAt q (exchanged p w r)
  exchange_keeps q np wq wp =
      by_same (λ t. WatchesAt q (cond t (record { first = w; second = r.second }) (record { first = r.first; second = w })))
      (packed r.first.literal) p
      (λ e. inr (⊎_elim (λ k. absurd (np (sym k ∙ e))) (λ k. k) wq))
      (λ ne. inl (⊎_elim (λ k. k) (λ k. absurd (np (sym k ∙ second_at p r wp ne))) wq))

  pub exchange_from : (q : ℕ) → WatchesAt q (exchanged p w r) → (q ≡ packed w.literal) ⊎ WatchesAt q r
  exchange_from q wq =
      by_same (λ t. WatchesAt q (cond t (record { first = w; second = r.second }) (record { first = r.first; second = w })) → (q ≡ packed w.literal) ⊎ WatchesAt q r)
      (packed r.first.literal) p
      (λ e k. ⊎_elim (λ s. inl (sym s)) (λ s. inr (inr s)) k)
      (λ e k. ⊎_elim (λ s. inr (inl s)) (λ s. inl (sym s)) k) wq

  pub exchange_gone : IsApart r → WatchesAt p r → p ≢ packed w.literal → ¬ WatchesAt p (exchanged p w r)
  exchange_gone apart wp nw wq =
      by_same (λ t. WatchesAt p (cond t (record { first = w; second = r.second }) (record { first = r.first; second = w })) → ⊥)
      (packed r.first.literal) p
      (λ e k. ⊎_elim (λ s. nw (sym s)) (λ s. apart (e ∙ sym s)) k)
      (λ ne k. ⊎_elim (λ s. ne s) (λ s. nw (sym s)) k) wq

-- What a record must be, it still is.

pub exchange_record : (n p : ℕ) (w : Watch) (r : Record) → IsRecord n r → packed w.literal < n → ¬ WatchesAt (packed w.literal) r → IsRecord n (exchanged p w r)
exchange_record n p w r k place none =
    by_same (λ t. IsRecord n (cond t (record { first = w; second = r.second }) (record { first = r.first; second = w })))
    (packed r.first.literal) p
    (λ _. record { first = place; second = k.second; apart = (λ e. none (inr (sym e))) })
    (λ _. record { first = k.first; second = place; apart = (λ e. none (inl e)) })

pub relink_record : (n p : ℕ) (next : Option ℕ) (r : Record) → IsRecord n r → IsRecord n (relinked p next r)
relink_record n p next r k =
    by_same
    (λ t. IsRecord n (cond t (record { first = record { literal = r.first.literal; next = next }; second = r.second }) (record { first = r.first; second = record { literal = r.second.literal; next = next } })))
    (packed r.first.literal) p
    (λ _. record { first = k.first; second = k.second; apart = k.apart })
    (λ _. record { first = k.first; second = k.second; apart = k.apart })

pub relink_watches : (p q : ℕ) (next : Option ℕ) (r : Record) → WatchesAt q r → WatchesAt q (relinked p next r)
relink_watches p q next r w =
    by_same
    (λ t. WatchesAt q (cond t (record { first = record { literal = r.first.literal; next = next }; second = r.second }) (record { first = r.first; second = record { literal = r.second.literal; next = next } })))
    (packed r.first.literal) p (λ _. w) (λ _. w)

pub watches_relink : (p q : ℕ) (next : Option ℕ) (r : Record) → WatchesAt q (relinked p next r) → WatchesAt q r
watches_relink p q next r w =
    by_same
    (λ t. WatchesAt q (cond t (record { first = record { literal = r.first.literal; next = next }; second = r.second }) (record { first = r.first; second = record { literal = r.second.literal; next = next } })) → WatchesAt q r)
    (packed r.first.literal) p (λ _ k. k) (λ _ k. k) w
