-- A normal form says what the formula says, or what its negation says.
use Rattle.std.proofs.Common.{ℕ, ◌+◌, ◌<◌, Bool, true, false, not, ◌⊎◌, ◌↔◌, inl, inr, ⊎_elim, arith}
use Rattle.std.specs.Prelude.{⊤}
use Rattle.smv_tree.specs.Trees.{Tree}
use Rattle.smv_tree.specs.Models.{Claim, atom, no, after, always, some_time, both}
use Rattle.smv_tree.specs.declared.formula.FormOp.TheVariants as op
use Rattle.smv_meaning.specs.Places.{next_place, Until}
use Rattle.smv_meaning.specs.LassoTruth.{TrueAt, Decided}
use Rattle.smv_meaning.specs.SettledTruth.{Settled, Sometime, HoldsBefore, HoldsUpTo}
use Rattle.smv_meaning.proofs.Lassos.{next_below}
use Rattle.smv_meaning.proofs.Untils.{until_kept, until_decided}
use Rattle.smv_meaning.proofs.Truths.{truth_decided, no_decided}
use Rattle.ltl_form.specs.Normal.{normal}

-- a statement, or its negation
abbrev pub Turned : Bool → Type 0 → Type 0
Turned false P = P
Turned true P = ¬ P

-- a decided statement is what is not not so
kept_twice : {P : Type 0} → Decided P → P ↔ (¬ (¬ P))
kept_twice d = (λ x n. n x, λ n. ⊎_elim (λ x. x) (λ m. absurd (n m)) d)

no_same : {A B : Type 0} → A ↔ B → (¬ A) ↔ (¬ B)
no_same e = (λ n b. n (e.1 b), λ n a. n (e.0 a))

joined : {A B C : Type 0} → A ↔ B → B ↔ C → A ↔ C
joined d e = (λ a. e.0 (d.0 a), λ c. d.1 (e.1 c))

turned_round : {A B : Type 0} → A ↔ B → B ↔ A
turned_round e = (e.1, e.0)

-- forms of two statements and of their negations, joined
module _ {A B C D F G : Type 0} (a : A ↔ F) (b : B ↔ (¬ F)) (c : C ↔ G) (d : D ↔ (¬ G)) where
  both_so : (A × C) ↔ (F × G)
  both_so = (λ s. (a.0 s.0, c.0 s.1), λ s. (a.1 s.0, c.1 s.1))

  one_so : (A ⊎ C) ↔ (F ⊎ G)
  one_so = (⊎_elim (λ x. inl (a.0 x)) (λ y. inr (c.0 y)), ⊎_elim (λ x. inl (a.1 x)) (λ y. inr (c.1 y)))

  both_not : (B × D) ↔ (¬ (F ⊎ G))
  both_not = (λ s. ⊎_elim (b.0 s.0) (d.0 s.1), λ n. (b.1 (λ x. n (inl x)), d.1 (λ y. n (inr y))))

  differ : ((A × D) ⊎ (B × C)) ↔ ((F × (¬ G)) ⊎ ((¬ F) × G))
  differ = (
    ⊎_elim (λ s. inl (a.0 s.0, d.0 s.1)) (λ s. inr (b.0 s.0, c.0 s.1)),
    ⊎_elim (λ s. inl (a.1 s.0, d.1 s.1)) (λ s. inr (b.1 s.0, c.1 s.1)),
  )

  agree : ((A × C) ⊎ (B × D)) ↔ ((F × G) ⊎ ((¬ F) × (¬ G)))
  agree = (
    ⊎_elim (λ s. inl (a.0 s.0, c.0 s.1)) (λ s. inr (b.0 s.0, d.0 s.1)),
    ⊎_elim (λ s. inl (a.1 s.0, c.1 s.1)) (λ s. inr (b.1 s.0, d.1 s.1)),
  )

  module _ (x : Decided F) (y : Decided G) where
    one_not : (B ⊎ D) ↔ (¬ (F × G))
    one_not = (⊎_elim (λ n s. b.0 n s.0) (λ n s. d.0 n s.1), λ n. ⊎_elim (λ f. inr (d.1 (λ g. n (f, g)))) (λ m. inl (b.1 m)) x)

    then_so : (B ⊎ C) ↔ (F → G)
    then_so = (⊎_elim (λ n f. absurd (b.0 n f)) (λ g f. c.0 g), λ i. ⊎_elim (λ f. inr (c.1 (i f))) (λ m. inl (b.1 m)) x)

    not_then : (A × D) ↔ (¬ (F → G))
    not_then = (λ s i. d.0 s.1 (i (a.0 s.0)), λ n. (a.1 (⊎_elim (λ f. f) (λ m. absurd (n (λ f. absurd (m f)))) x), d.1 (λ g. n (λ f. g))))

    agree_not : ((A × C) ⊎ (B × D)) ↔ (¬ ((F × (¬ G)) ⊎ ((¬ F) × G)))
    agree_not = (
      ⊎_elim (λ s. ⊎_elim (λ t. t.1 (c.0 s.1)) (λ t. t.0 (a.0 s.0))) (λ s. ⊎_elim (λ t. b.0 s.0 t.0) (λ t. d.0 s.1 t.1)),
      λ n. ⊎_elim
          (λ f. inl (a.1 f, c.1 (⊎_elim (λ g. g) (λ m. absurd (n (inl (f, m)))) y)))
          (λ m. inr (b.1 m, d.1 (λ g. n (inr (m, g))))) x,
    )

    differ_not : ((A × D) ⊎ (B × C)) ↔ (¬ ((F × G) ⊎ ((¬ F) × (¬ G))))
    differ_not = (
      ⊎_elim (λ s. ⊎_elim (λ t. d.0 s.1 t.1) (λ t. t.0 (a.0 s.0))) (λ s. ⊎_elim (λ t. b.0 s.0 t.0) (λ t. t.1 (c.0 s.1))),
      λ n. ⊎_elim
          (λ f. inl (a.1 f, d.1 (λ g. n (inl (f, g)))))
          (λ m. inr (b.1 m, c.1 (⊎_elim (λ g. g) (λ o. absurd (n (inr (m, o)))) y))) x,
    )

module _ (k l : ℕ) (holds : Tree → ℕ → Type 0) (h : l < k) (each : (e : Tree) (p : ℕ) → p < k → holds e p ⊎ (¬ holds e p)) where
  until_same : {F G H I : ℕ → Type 0} (p : ℕ) → p < k → ((q : ℕ) → q < k → F q ↔ H q) → ((q : ℕ) → q < k → G q ↔ I q) → Until k k l F G p ↔ Until k k l H I p
  until_same p b f g = (
    λ u. until_kept k l k k p h b (omega arith) (λ q c. (f q c).0) (λ q c. (g q c).0) u,
    λ u. until_kept k l k k p h b (omega arith) (λ q c. (f q c).1) (λ q c. (g q c).1) u,
  )

  all : (q : ℕ) → q < k → ⊤ ↔ ⊤
  all q c = (λ x. x, λ x. x)

  decided : (f : Claim) (p : ℕ) → p < k → Decided (TrueAt k l holds f p)
  decided = truth_decided k l holds h each

  -- where a normal form of the negation is not true, the formula is
  not_negated : (f : Claim) (p : ℕ) → p < k → TrueAt k l holds (normal true f) p ↔ (¬ TrueAt k l holds f p) → (¬ TrueAt k l holds (normal true f) p) ↔ TrueAt k l holds f p
  not_negated f p b e = joined (no_same e) (turned_round (kept_twice (decided f p b)))

  -- an until between formulas is so or not
  reached : (f g : Claim) (p : ℕ) → p < k → Decided (Until k k l (λ q. ¬ TrueAt k l holds f q) (λ q. ¬ TrueAt k l holds g q) p)
  reached f g p b = until_decided k l (λ q. ¬ TrueAt k l holds f q) (λ q. ¬ TrueAt k l holds g q) h (λ q c. no_decided (decided f q c)) (λ q c. no_decided (decided g q c)) k p b

  missed : (f : Claim) (p : ℕ) → p < k → Decided (Until k k l (λ _. ⊤) (λ q. ¬ TrueAt k l holds f q) p)
  missed f p b = until_decided k l (λ _. ⊤) (λ q. ¬ TrueAt k l holds f q) h (λ q c. inl tt) (λ q c. no_decided (decided f q c)) k p b

  pub normal_true : (b : Bool) (f : Claim) (p : ℕ) → p < k → TrueAt k l holds (normal b f) p ↔ Turned b (TrueAt k l holds f p)
  normal_true false (atom e) p b = (λ x. x, λ x. x)
  normal_true true (atom e) p b = (λ x. x, λ x. x)
  normal_true false (no f) p b = normal_true true f p b
  normal_true true (no f) p b = joined (normal_true false f p b) (kept_twice (decided f p b))
  normal_true false (after f) p b = normal_true false f (next_place k l p) (next_below k l p h b)
  normal_true true (after f) p b = normal_true true f (next_place k l p) (next_below k l p h b)
  normal_true false (always f) p b = no_same (until_same p b all (λ q c. no_same (normal_true false f q c)))
  normal_true true (always f) p b = joined (until_same p b all (normal_true true f)) (kept_twice (missed f p b))
  normal_true false (some_time f) p b = until_same p b all (normal_true false f)
  normal_true true (some_time f) p b = no_same (until_same p b all (λ q c. not_negated f q c (normal_true true f q c)))
  normal_true false (both op.Until f g) p b = until_same p b (normal_true false f) (normal_true false g)
  normal_true true (both op.Until f g) p b = no_same (until_same p b (λ q c. not_negated f q c (normal_true true f q c)) (λ q c. not_negated g q c (normal_true true g q c)))
  normal_true false (both op.Releases f g) p b = no_same (until_same p b (λ q c. no_same (normal_true false f q c)) (λ q c. no_same (normal_true false g q c)))
  normal_true true (both op.Releases f g) p b = joined (until_same p b (normal_true true f) (normal_true true g)) (kept_twice (reached f g p b))
  normal_true false (both op.And f g) p b = both_so (normal_true false f p b) (normal_true true f p b) (normal_true false g p b) (normal_true true g p b)
  normal_true true (both op.And f g) p b = one_not (normal_true false f p b) (normal_true true f p b) (normal_true false g p b) (normal_true true g p b) (decided f p b) (decided g p b)
  normal_true false (both op.Or f g) p b = one_so (normal_true false f p b) (normal_true true f p b) (normal_true false g p b) (normal_true true g p b)
  normal_true true (both op.Or f g) p b = both_not (normal_true false f p b) (normal_true true f p b) (normal_true false g p b) (normal_true true g p b)
  normal_true false (both op.Implies f g) p b = then_so (normal_true false f p b) (normal_true true f p b) (normal_true false g p b) (normal_true true g p b) (decided f p b) (decided g p b)
  normal_true true (both op.Implies f g) p b = not_then (normal_true false f p b) (normal_true true f p b) (normal_true false g p b) (normal_true true g p b) (decided f p b) (decided g p b)
  normal_true false (both op.Xor f g) p b = differ (normal_true false f p b) (normal_true true f p b) (normal_true false g p b) (normal_true true g p b)
  normal_true true (both op.Xor f g) p b = agree_not (normal_true false f p b) (normal_true true f p b) (normal_true false g p b) (normal_true true g p b) (decided f p b) (decided g p b)
  normal_true false (both op.Xnor f g) p b = agree (normal_true false f p b) (normal_true true f p b) (normal_true false g p b) (normal_true true g p b)
  normal_true true (both op.Xnor f g) p b = differ_not (normal_true false f p b) (normal_true true f p b) (normal_true false g p b) (normal_true true g p b) (decided f p b) (decided g p b)
  normal_true false (both op.Iff f g) p b = agree (normal_true false f p b) (normal_true true f p b) (normal_true false g p b) (normal_true true g p b)
  normal_true true (both op.Iff f g) p b = differ_not (normal_true false f p b) (normal_true true f p b) (normal_true false g p b) (normal_true true g p b) (decided f p b) (decided g p b)

-- what is settled keeps its form where its parts do
sometime_kept : {F G : ℕ → Type 0} (k p : ℕ) → ((q : ℕ) → F q → G q) → Sometime k F p → Sometime k G p
sometime_kept k p f s = record { when = s.when; from = s.from; to = s.to; there = f s.when s.there }

before_kept : {F G H I : ℕ → Type 0} (k p : ℕ) → ((q : ℕ) → F q → H q) → ((q : ℕ) → G q → I q) → HoldsBefore k F G p → HoldsBefore k H I p
before_kept k p f g s = record { when = s.when; from = s.from; to = s.to; there = g s.when s.there; before = λ q a b. f q (s.before q a b) }

up_to_kept : {F G H I : ℕ → Type 0} (k p : ℕ) → ((q : ℕ) → F q → H q) → ((q : ℕ) → G q → I q) → HoldsUpTo k F G p → HoldsUpTo k H I p
up_to_kept k p f g s = record { when = s.when; from = s.from; to = s.to; there = f s.when s.there; up_to = λ q a b. g q (s.up_to q a b) }

two_kept : {A B C D : Type 0} → A ↔ C → B ↔ D → (A × B) ↔ (C × D)
two_kept e f = (λ s. (e.0 s.0, f.0 s.1), λ s. (e.1 s.0, f.1 s.1))

either_kept : {A B C D : Type 0} → A ↔ C → B ↔ D → (A ⊎ B) ↔ (C ⊎ D)
either_kept e f = (⊎_elim (λ x. inl (e.0 x)) (λ y. inr (f.0 y)), ⊎_elim (λ x. inl (e.1 x)) (λ y. inr (f.1 y)))

module _ (k : ℕ) (holds : Tree → ℕ → Type 0) where
  some_same : {F G : ℕ → Type 0} (p : ℕ) → ((q : ℕ) → F q ↔ G q) → Sometime k F p ↔ Sometime k G p
  some_same p f = (sometime_kept k p (λ q. (f q).0), sometime_kept k p (λ q. (f q).1))

  before_same : {F G H I : ℕ → Type 0} (p : ℕ) → ((q : ℕ) → F q ↔ H q) → ((q : ℕ) → G q ↔ I q) → HoldsBefore k F G p ↔ HoldsBefore k H I p
  before_same p f g = (before_kept k p (λ q. (f q).0) (λ q. (g q).0), before_kept k p (λ q. (f q).1) (λ q. (g q).1))

  up_to_same : {F G H I : ℕ → Type 0} (p : ℕ) → ((q : ℕ) → F q ↔ H q) → ((q : ℕ) → G q ↔ I q) → HoldsUpTo k F G p ↔ HoldsUpTo k H I p
  up_to_same p f g = (up_to_kept k p (λ q. (f q).0) (λ q. (g q).0), up_to_kept k p (λ q. (f q).1) (λ q. (g q).1))

  pub normal_settled : (b : Bool) (f : Claim) (p : ℕ) → Settled holds k (normal b f) true p ↔ Settled holds k f (not b) p
  normal_settled false (atom e) p = (λ x. x, λ x. x)
  normal_settled true (atom e) p = (λ x. x, λ x. x)
  normal_settled false (no f) p = normal_settled true f p
  normal_settled true (no f) p = normal_settled false f p
  normal_settled false (after f) p = two_kept (λ x. x, λ x. x) (normal_settled false f (p + 1))
  normal_settled true (after f) p = two_kept (λ x. x, λ x. x) (normal_settled true f (p + 1))
  normal_settled false (always f) p = (λ x. x, λ x. x)
  normal_settled true (always f) p = some_same p (normal_settled true f)
  normal_settled false (some_time f) p = some_same p (normal_settled false f)
  normal_settled true (some_time f) p = (λ x. x, λ x. x)
  normal_settled false (both op.Until f g) p = before_same p (normal_settled false f) (normal_settled false g)
  normal_settled true (both op.Until f g) p = up_to_same p (normal_settled true f) (normal_settled true g)
  normal_settled false (both op.Releases f g) p = up_to_same p (normal_settled false f) (normal_settled false g)
  normal_settled true (both op.Releases f g) p = before_same p (normal_settled true f) (normal_settled true g)
  normal_settled false (both op.And f g) p = two_kept (normal_settled false f p) (normal_settled false g p)
  normal_settled true (both op.And f g) p = either_kept (normal_settled true f p) (normal_settled true g p)
  normal_settled false (both op.Or f g) p = either_kept (normal_settled false f p) (normal_settled false g p)
  normal_settled true (both op.Or f g) p = two_kept (normal_settled true f p) (normal_settled true g p)
  normal_settled false (both op.Implies f g) p = either_kept (normal_settled true f p) (normal_settled false g p)
  normal_settled true (both op.Implies f g) p = two_kept (normal_settled false f p) (normal_settled true g p)
  normal_settled false (both op.Xor f g) p = either_kept (two_kept (normal_settled false f p) (normal_settled true g p)) (two_kept (normal_settled true f p) (normal_settled false g p))
  normal_settled true (both op.Xor f g) p = either_kept (two_kept (normal_settled false f p) (normal_settled false g p)) (two_kept (normal_settled true f p) (normal_settled true g p))
  normal_settled false (both op.Xnor f g) p = either_kept (two_kept (normal_settled false f p) (normal_settled false g p)) (two_kept (normal_settled true f p) (normal_settled true g p))
  normal_settled true (both op.Xnor f g) p = either_kept (two_kept (normal_settled false f p) (normal_settled true g p)) (two_kept (normal_settled true f p) (normal_settled false g p))
  normal_settled false (both op.Iff f g) p = either_kept (two_kept (normal_settled false f p) (normal_settled false g p)) (two_kept (normal_settled true f p) (normal_settled true g p))
  normal_settled true (both op.Iff f g) p = either_kept (two_kept (normal_settled false f p) (normal_settled true g p)) (two_kept (normal_settled true f p) (normal_settled false g p))
