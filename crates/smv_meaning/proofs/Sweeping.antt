-- Two sweeps decide an until on a lasso, and one decides it on a path.
use Rattle.std.proofs.Common.{◌≡◌, ℕ, zero, suc, ◌+◌, ◌-◌, ◌<◌, ◌≤◌, Bool, false, ◌||◌, ◌&&◌, ◌⊎◌, inl, inr, ⊎_elim, sym, ap, subst, arith}
use Rattle.std.specs.Prelude.{Decides}
use Rattle.std.proofs.lemmas.Bool.{cases_lt}
use Rattle.std.proofs.lemmas.Bool.Decides.{Decides-or, Decides-and, Decides-like}
use Rattle.smv_meaning.specs.Places.{next_place, place, Reaches, Until}
use Rattle.smv_meaning.specs.SettledTruth.{HoldsBefore, HoldsUpTo}
use Rattle.smv_meaning.specs.Sweeps.{swept, ahead, DecidesBelow}
use Rattle.smv_meaning.proofs.Lassos.{next_last, next_other}
use Rattle.smv_meaning.proofs.Untils.{until_now, until_later, until_enough}

-- a sweep steps from a place to the one after it, and ends with what it began with
pub ahead_past : (k : ℕ) (f g : ℕ → Bool) (x : Bool) → ahead k f g x k ≡ x
unfolding swept ahead
ahead_past k f g x = let e : k - k ≡ 0 = omega arith in ap (swept f g x k) e

pub ahead_step : (k : ℕ) (f g : ℕ → Bool) (x : Bool) (p : ℕ) → p < k → ahead k f g x p ≡ (g p || (f p && ahead k f g x (p + 1)))
unfolding swept ahead
ahead_step k f g x p h = let e : k - p ≡ suc (k - (p + 1)) = omega arith in ap (swept f g x p) e

-- what a sweep tests
Ahead : (ℕ → Type 0) → (ℕ → Type 0) → Type 0 → ℕ → ℕ → Type 0
Ahead F G P p zero = P
Ahead F G P p (suc m) = G p ⊎ (F p × Ahead F G P (p + 1) m)

never_so : Decides false ⊥
never_so = (λ e. cc, λ n. absurd n)

module _ (F G : ℕ → Type 0) where
  tested : (k : ℕ) (f g : ℕ → Bool) (x : Bool) (P : Type 0) → DecidesBelow k f F → DecidesBelow k g G → Decides x P → (m p : ℕ) → p + m ≡ k → Decides (swept f g x p m) (Ahead F G P p m)
  unfolding swept Ahead
  tested k f g x P df dg dx zero p e = dx
  tested k f g x P df dg dx (suc m) p e =
      Decides-or (g p) (f p && swept f g x (p + 1) m) (dg p (omega arith)) (Decides-and (f p) (swept f g x (p + 1) m) (df p (omega arith)) (tested k f g x P df dg dx m (p + 1) (omega arith)))

  split : (P : Type 0) (m p : ℕ) → Ahead F G P p m → Ahead F G ⊥ p m ⊎ P
  unfolding Ahead
  split P zero p a = inr a
  split P (suc m) p (inl y) = inl (inl y)
  split P (suc m) p (inr a) = ⊎_elim (λ b. inl (inr (a.0, b))) inr (split P m (p + 1) a.1)

  module _ (k l : ℕ) (h : l < k) where
    -- what is ahead is reached
    until_ahead : (p : ℕ) → p < k → F p → Until k k l F G (next_place k l p) → Until k k l F G p
    until_ahead p b y u = until_enough F G k l (suc k) p h b (until_later k l F G k p y u)

    up : (P : Type 0) → (P → Until k k l F G l) → (m p : ℕ) → p + suc m ≡ k → Ahead F G P p (suc m) → Until k k l F G p
    unfolding Ahead
    up P s m p e (inl y) = until_now k l F G k p y
    up P s zero p e (inr a) = until_ahead p (omega arith) a.0 (let n : next_place k l p ≡ l = next_last k l p (omega arith) in subst (Until k k l F G) (sym n) (s a.1))
    up P s (suc m) p e (inr a) =
        until_ahead p (omega arith) a.0 (let n : next_place k l p ≡ p + 1 = next_other k l p (omega arith) in subst (Until k k l F G) (sym n) (up P s m (p + 1) (omega arith) a.1))

    -- what is reached is ahead, where a second sweep begins with what the first found at l
    First : Type 0
    First = Ahead F G ⊥ l (k - l)

    again : Ahead F G First l (suc (k - l - 1)) → First
    unfolding First
    again a =
        let e : suc (k - l - 1) ≡ k - l = omega arith in
        ⊎_elim (λ x. x) (λ x. x) (split First (k - l) l (subst (Ahead F G First l) e a))

    later : (p n : ℕ) → Reaches k l F G p (suc n) → Reaches k l F G (next_place k l p) n
    unfolding place
    later p n r = record { reached = r.reached; before = λ j i. r.before (suc j) (omega arith) }

    down : (n m p : ℕ) → p + suc m ≡ k → Reaches k l F G p n → Ahead F G First p (suc m)
    unfolding Ahead place
    down zero m p e r = inl r.reached
    down (suc n) zero p e r = inr (r.before 0 (omega arith), again (down n (k - l - 1) l (omega arith) (subst (λ q. Reaches k l F G q n) (next_last k l p (omega arith)) (later p n r))))
    down (suc n) (suc m) p e r = inr (r.before 0 (omega arith), down n m (p + 1) (omega arith) (subst (λ q. Reaches k l F G q n) (next_other k l p (omega arith)) (later p n r)))

    looped : First → Until k k l F G l
    unfolding First
    looped x = let e : k - l ≡ suc (k - l - 1) = omega arith in up ⊥ (λ n. absurd n) (k - l - 1) l (omega arith) (subst (Ahead F G ⊥ l) e x)

    -- so two sweeps decide an until
    pub around_truth : (f g : ℕ → Bool) → DecidesBelow k f F → DecidesBelow k g G → DecidesBelow k (ahead k f g (ahead k f g false l)) (Until k k l F G)
    unfolding ahead First
    around_truth f g df dg p b =
        let first : Decides (swept f g false l (k - l)) First = tested k f g false ⊥ df dg never_so (k - l) l (omega arith) in
        let e : k - p ≡ suc (k - p - 1) = omega arith in
        Decides-like (swept f g (swept f g false l (k - l)) p (k - p))
        (λ a. up First looped (k - p - 1) p (omega arith) (subst (Ahead F G First p) e a))
        (λ u. subst (Ahead F G First p) (sym e) (down u.steps (k - p - 1) p (omega arith) u.reaches))
        (tested k f g (swept f g false l (k - l)) First df dg first (k - p) p (omega arith))

  -- on a path one sweep decides what comes before something
  found : (k m p : ℕ) → p + m ≡ k + 1 → Ahead F G ⊥ p m → HoldsBefore k F G p
  unfolding Ahead
  found k zero p e a = absurd a
  found k (suc m) p e (inl y) = record { when = p; from = omega arith; to = omega arith; there = y; before = λ q w i. absurd (omega arith) }
  found k (suc m) p e (inr a) =
      let r : HoldsBefore k F G (p + 1) = found k m (p + 1) (omega arith) a.1 in
      let w : p + 1 ≤ r.when = r.from in
      record {
        when = r.when;
        from = omega arith;
        to = r.to;
        there = r.there;
        before = λ q c i. elim (cases_lt p q) [
          | inl later ↦ r.before q (omega arith) i
          | inr now ↦ let e : p ≡ q = omega arith in subst F e a.0
        ];
      }

  stands : (k m p : ℕ) → p + m ≡ k + 1 → HoldsBefore k F G p → Ahead F G ⊥ p m
  unfolding Ahead
  stands k zero p e r = let f : p ≤ r.when = r.from in let t : r.when ≤ k = r.to in absurd (omega arith)
  stands k (suc m) p e r = elim (cases_lt p r.when) [
    | inl later ↦ inr (r.before p (omega arith) later, stands k m (p + 1) (omega arith) (record { when = r.when; from = omega arith; to = r.to; there = r.there; before = λ q c i. r.before q (omega arith) i }))
    | inr now ↦ inl (let f : p ≤ r.when = r.from in let e : r.when ≡ p = omega arith in subst G e r.there)
  ]

  pub before_truth : (k : ℕ) (f g : ℕ → Bool) → DecidesBelow (k + 1) f F → DecidesBelow (k + 1) g G → DecidesBelow (k + 1) (ahead (k + 1) f g false) (HoldsBefore k F G)
  unfolding ahead
  before_truth k f g df dg p b =
      Decides-like (swept f g false p (k + 1 - p)) (found k (k + 1 - p) p (omega arith)) (stands k (k + 1 - p) p (omega arith))
      (tested (k + 1) f g false ⊥ df dg never_so (k + 1 - p) p (omega arith))

-- and what goes up to something comes before both together
up_to_before : (F G : ℕ → Type 0) (k p : ℕ) → HoldsBefore k G (λ q. F q × G q) p → HoldsUpTo k F G p
up_to_before F G k p r = record {
  when = r.when;
  from = r.from;
  to = r.to;
  there = r.there.0;
  up_to = λ q c i. elim (cases_lt q r.when) [
    | inl earlier ↦ r.before q c earlier
    | inr now ↦ let e : r.when ≡ q = omega arith in subst G e r.there.1
  ];
}

before_up_to : (F G : ℕ → Type 0) (k p : ℕ) → HoldsUpTo k F G p → HoldsBefore k G (λ q. F q × G q) p
before_up_to F G k p r = record {
  when = r.when;
  from = r.from;
  to = r.to;
  there = (r.there, r.up_to r.when r.from (omega arith));
  before = λ q c i. r.up_to q c (omega arith);
}

pub up_to_truth : (F G : ℕ → Type 0) (k : ℕ) (f g : ℕ → Bool) → DecidesBelow (k + 1) f F → DecidesBelow (k + 1) g G → DecidesBelow (k + 1) (ahead (k + 1) g (λ q. f q && g q) false) (HoldsUpTo k F G)
up_to_truth F G k f g df dg p b =
    Decides-like (ahead (k + 1) g (λ q. f q && g q) false p) (up_to_before F G k p) (before_up_to F G k p)
    (before_truth G (λ q. F q × G q) k g (λ q. f q && g q) dg (λ q c. Decides-and (f q) (g q) (df q c) (dg q c)) p b)
