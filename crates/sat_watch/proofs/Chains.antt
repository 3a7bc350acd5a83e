-- Links that lead through a list.
use Rattle.std.proofs.Common.{◌≡◌, ◌≢◌, ℕ, zero, suc, ◌<◌, ◌≤◌, Bool, true, false, cond, eqb, inl, inr, List, [], ◌∷◌, length, refl, ap, sym, subst, ◌∙◌, ⊎_elim, arith}
use Rattle.std.specs.Prelude.{Option, None, Some}
use Rattle.std.specs.List.{AllByRecursion, IsDistinct, list_any}
use Rattle.std.proofs.lemmas.Bool.{false≢true, eqb-true, eq-eqb, ne_eqb, or_cases}
use Rattle.std.proofs.lemmas.Map.Steps.{length-le_from_distinct_below}
use Rattle.sat_watch.specs.Watched.{IsAmong, AreDistinct, first_of, next_of, after, without}
use Rattle.sat_watch.specs.Threads.{chain, IsChain, record_at, links, WatchesAt, IsThread}
use Rattle.sat_watch.specs.declared.record.Record.{Record}

-- What stands in a list.

pub All-at : (P : ℕ → Type 0) (xs : List ℕ) (c : ℕ) → AllByRecursion P xs → IsAmong xs c → P c
All-at P [] c h m = absurd m
All-at P (x ∷ xs) c h (inl e) = subst P e h.0
All-at P (x ∷ xs) c h (inr m) = All-at P xs c h.1 m

pub All-each : (P : ℕ → Type 0) (xs : List ℕ) → ((c : ℕ) → IsAmong xs c → P c) → AllByRecursion P xs
All-each P [] h = tt
All-each P (x ∷ xs) h = (h x (inl refl), All-each P xs (λ c m. h c (inr m)))

-- Tests of equal numbers.

pub by_same : (P : Bool → Type 0) (x c : ℕ) → (x ≡ c → P true) → (x ≢ c → P false) → P (eqb x c)
by_same P x c same other = by (eqb x c) refl
  where
    by : (b : Bool) → eqb x c ≡ b → P b
    by true e = same (eqb-true x c e)
    by false e = other (λ s. false≢true (sym e ∙ eq-eqb x c s))

pub is_same : {A : Type 0} (x c : ℕ) (a b : A) → x ≡ c → cond (eqb x c) a b ≡ a
is_same x c a b e = ap (λ t. cond t a b) (eq-eqb x c e)

pub is_other : {A : Type 0} (x c : ℕ) (a b : A) → x ≢ c → cond (eqb x c) a b ≡ b
is_other x c a b e = ap (λ t. cond t a b) (ne_eqb x c e)

-- Chains.

pub starts : (f : ℕ → Option ℕ) (o : Option ℕ) (xs : List ℕ) → IsChain f o xs → o ≡ first_of xs
starts f o [] h = h
starts f o (x ∷ xs) h = h.0

pub leads_on : (f : ℕ → Option ℕ) (o : Option ℕ) (xs : List ℕ) (c : ℕ) → IsChain f o xs → IsAmong xs c → f c ≡ next_of xs c
leads_on f o [] c h m = absurd m
leads_on f o (x ∷ xs) c h m =
    by_same (λ b. f c ≡ cond b (first_of xs) (next_of xs c)) x c (λ e. ap f (sym e) ∙ starts f (f x) xs h.1) (λ ne. leads_on f (f x) xs c h.1 (⊎_elim (λ e. absurd (ne e)) (λ r. r) m))

pub chain_same : (f g : ℕ → Option ℕ) (o : Option ℕ) (xs : List ℕ) → AllByRecursion (λ c. g c ≡ f c) xs → IsChain f o xs → IsChain g o xs
chain_same f g o [] a h = h
chain_same f g o (x ∷ xs) a h = (h.0, subst (λ s. IsChain g s xs) (sym a.0) (chain_same f g (f x) xs a.1 h.1))

chain_none : (f : ℕ → Option ℕ) (n : ℕ) → chain f n None ≡ []
chain_none f zero = refl
chain_none f (suc n) = refl

chain_is : (f : ℕ → Option ℕ) (n : ℕ) (o : Option ℕ) (xs : List ℕ) → IsChain f o xs → length xs ≤ n → chain f n o ≡ xs
chain_is f n o [] h k = subst (λ s. chain f n s ≡ []) (sym h) (chain_none f n)
chain_is f zero o (x ∷ xs) h k = absurd (omega arith)
chain_is f (suc n) o (x ∷ xs) h k =
    subst (λ s. chain f (suc n) s ≡ x ∷ xs) (sym h.0) (ap (λ ys. x ∷ ys) (chain_is f n (f x) xs h.1 (omega arith)))

distinct_numbers : (xs : List ℕ) → AreDistinct xs → IsDistinct eqb xs
unfolding IsDistinct
distinct_numbers [] h = tt
distinct_numbers (x ∷ xs) h = (apart xs h.0, distinct_numbers xs h.1)
  where
    apart : (ys : List ℕ) → AllByRecursion (λ c. c ≢ x) ys → AllByRecursion (λ y. eqb x y ≡ false) ys
    apart [] a = tt
    apart (y ∷ ys) a = (ne_eqb x y (λ e. a.0 (sym e)), apart ys a.1)

below : (n : ℕ) (xs : List ℕ) (q : ℕ) → AllByRecursion (λ c. c < n) xs → list_any (eqb q) xs ≡ true → q < n
below n [] q h e = absurd (false≢true e)
below n (x ∷ xs) q h e =
    ⊎_elim (λ same. subst (λ c. c < n) (sym (eqb-true q x same)) h.0) (λ more. below n xs q h.1 more) (or_cases _ _ e)

-- a thread is as long as the view looks
pub settled : (records : List Record) (p : ℕ) (start : Option ℕ) (xs : List ℕ) → IsThread records p start xs → chain (links records p) (length records) start ≡ xs
settled records p start xs t =
    chain_is (links records p) (length records) start xs t.leads
    (length-le_from_distinct_below xs (length records) (distinct_numbers xs t.once) (λ q e. below (length records) xs q (within xs t.only) e))
  where
    within : (ys : List ℕ) → AllByRecursion (λ c. (c < length records) × WatchesAt p (record_at records c)) ys → AllByRecursion (λ c. c < length records) ys
    within [] h = tt
    within (y ∷ ys) h = (h.0.0, within ys h.1)

-- A clause leaves a chain.

first_among : (xs : List ℕ) (c : ℕ) → first_of xs ≡ Some c → IsAmong xs c
first_among [] c e = absurd cc
first_among (x ∷ xs) c e = inl cc

next_among : (xs : List ℕ) (b c : ℕ) → next_of xs b ≡ Some c → IsAmong xs c
next_among [] b c e = absurd cc
next_among (x ∷ xs) b c e =
    by_same (λ t. cond t (first_of xs) (next_of xs b) ≡ Some c → IsAmong (x ∷ xs) c) x b (λ _ s. inr (first_among xs c s)) (λ _ s. inr (next_among xs b c s)) e

pub after_among : (xs : List ℕ) (b : Option ℕ) (c : ℕ) → after xs b ≡ Some c → IsAmong xs c
after_among xs None c e = first_among xs c e
after_among xs (Some b) c e = next_among xs b c e

pub before_among : (xs : List ℕ) (b c : ℕ) → next_of xs b ≡ Some c → IsAmong xs b
before_among [] b c e = absurd cc
before_among (x ∷ xs) b c e =
    by_same (λ t. cond t (first_of xs) (next_of xs b) ≡ Some c → IsAmong (x ∷ xs) b) x b (λ same s. inl same) (λ _ s. inr (before_among xs b c s)) e

-- what is left of the first
without_first : (x c : ℕ) (xs : List ℕ) → x ≡ c → without c (x ∷ xs) ≡ xs
without_first x c xs e = is_same x c xs (x ∷ without c xs) e

without_later : (x c : ℕ) (xs : List ℕ) → x ≢ c → without c (x ∷ xs) ≡ x ∷ without c xs
without_later x c xs e = is_other x c xs (x ∷ without c xs) e

All-without : (P : ℕ → Type 0) (c : ℕ) (xs : List ℕ) → AllByRecursion P xs → AllByRecursion P (without c xs)
All-without P c [] h = tt
All-without P c (x ∷ xs) h =
    by_same (λ t. AllByRecursion P (cond t xs (x ∷ without c xs))) x c (λ _. h.1) (λ _. (h.0, All-without P c xs h.1))

pub distinct_without : (c : ℕ) (xs : List ℕ) → AreDistinct xs → AreDistinct (without c xs)
distinct_without c [] h = tt
distinct_without c (x ∷ xs) h =
    by_same (λ t. AreDistinct (cond t xs (x ∷ without c xs))) x c (λ _. h.1) (λ _. (All-without (λ y. y ≢ x) c xs h.0, distinct_without c xs h.1))

-- the others stay
pub among_without : (c e : ℕ) (xs : List ℕ) → IsAmong xs e → e ≢ c → IsAmong (without c xs) e
among_without c e [] m ne = absurd m
among_without c e (x ∷ xs) (inl s) ne =
    by_same (λ t. IsAmong (cond t xs (x ∷ without c xs)) e) x c (λ same. absurd (ne (sym s ∙ same))) (λ _. inl s)
among_without c e (x ∷ xs) (inr m) ne =
    by_same (λ t. IsAmong (cond t xs (x ∷ without c xs)) e) x c (λ _. m) (λ _. inr (among_without c e xs m ne))

-- and it goes
pub without_gone : (c : ℕ) (xs : List ℕ) → AreDistinct xs → AllByRecursion (λ e. e ≢ c) (without c xs)
without_gone c [] d = tt
without_gone c (x ∷ xs) d =
    by_same (λ t. AllByRecursion (λ e. e ≢ c) (cond t xs (x ∷ without c xs))) x c (λ same. subst (λ y. AllByRecursion (λ e. e ≢ y) xs) same d.0) (λ ne. (ne, without_gone c xs d.1))

pub among_from_without : (c e : ℕ) (xs : List ℕ) → IsAmong (without c xs) e → IsAmong xs e
among_from_without c e [] m = m
among_from_without c e (x ∷ xs) m =
    by_same (λ t. IsAmong (cond t xs (x ∷ without c xs)) e → IsAmong (x ∷ xs) e) x c (λ _ k. inr k) (λ _ k. ⊎_elim (λ s. inl s) (λ r. inr (among_from_without c e xs r)) k) m

-- the first leaves: the chain starts behind it
pub leaves_first : (f g : ℕ → Option ℕ) (c : ℕ) (o : Option ℕ) (xs : List ℕ) → AreDistinct xs → IsChain f o xs → first_of xs ≡ Some c
    → ((e : ℕ) → IsAmong xs e → e ≢ c → g e ≡ f e) → IsChain g (f c) (without c xs)
leaves_first f g c o [] d h e same = absurd cc
leaves_first f g c o (x ∷ xs) d h e same =
    let at : x ≡ c = cc in
    subst (IsChain g (f c)) (sym (without_first x c xs at))
    (chain_same f g (f c) xs (All-each (λ y. g y ≡ f y) xs (λ y m. same y (inr m) (λ s. All-at (λ z. z ≢ x) xs y d.0 m (s ∙ sym at)))) (subst (λ y. IsChain f (f y) xs) at h.1))

-- one behind another leaves
pub leaves_next : (f g : ℕ → Option ℕ) (b c : ℕ) (o : Option ℕ) (xs : List ℕ) → AreDistinct xs → IsChain f o xs → next_of xs b ≡ Some c → g b ≡ f c
    → ((e : ℕ) → IsAmong xs e → e ≢ c → e ≢ b → g e ≡ f e) → IsChain g o (without c xs)
leaves_next f g b c o [] d h e joins same = absurd cc
leaves_next f g b c o (x ∷ xs) d h e joins same =
    by_same (λ t. cond t (first_of xs) (next_of xs b) ≡ Some c → IsChain g o (without c (x ∷ xs))) x b here (further (λ s. leaves_next f g b c (f x) xs d.1 h.1 s joins (λ y m p q. same y (inr m) p q))) e
  where
    here : x ≡ b → first_of xs ≡ Some c → IsChain g o (without c (x ∷ xs))
    here at s =
        let apart : x ≢ c = (λ k. All-at (λ z. z ≢ x) xs c d.0 (first_among xs c s) (sym k)) in
        subst (IsChain g o) (sym (without_later x c xs apart)) (
          h.0,
          subst (λ r. IsChain g r (without c xs)) (sym (ap g at ∙ joins))
              (leaves_first f g c (f x) xs d.1 h.1 s (λ y m ne. same y (inr m) ne (λ k. All-at (λ z. z ≢ x) xs y d.0 m (k ∙ sym at)))),
        )

    further : (next_of xs b ≡ Some c → IsChain g (f x) (without c xs)) → x ≢ b → next_of xs b ≡ Some c → IsChain g o (without c (x ∷ xs))
    further rest ne s =
        let apart : x ≢ c = (λ k. All-at (λ z. z ≢ x) xs c d.0 (next_among xs b c s) (sym k)) in
        subst (IsChain g o) (sym (without_later x c xs apart)) (
          h.0,
          subst (λ r. IsChain g r (without c xs)) (sym (same x (inl refl) apart ne))
              (rest s),
        )
