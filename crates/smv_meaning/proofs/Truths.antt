-- Truth on a lasso: any limit from k on gives it, and it is decided where the truth of the expressions is.
use Rattle.std.proofs.Common.{ℕ, ◌<◌, ◌≤◌, ◌⊎◌, ◌↔◌, inl, inr, ⊎_elim, arith}
use Rattle.std.specs.Prelude.{⊤}
use Rattle.smv_tree.specs.Trees.{Tree}
use Rattle.smv_tree.specs.Models.{Claim, atom, no, after, always, some_time, both}
use Rattle.smv_tree.specs.declared.formula.FormOp.{FormOp}
use Rattle.smv_tree.specs.declared.formula.FormOp.TheVariants as op
use Rattle.smv_meaning.specs.Places.{next_place, Until}
use Rattle.smv_meaning.specs.LassoTruth.{Joined, TrueWithin, TrueAt}
use Rattle.smv_meaning.proofs.Lassos.{next_below}
use Rattle.smv_meaning.proofs.Untils.{until_kept, until_enough, until_decided}

-- operators between truths keep their meaning where the truths do
both_kept : {A B C D : Type 0} → (A → C) → (B → D) → A × B → C × D
both_kept f g p = (f p.0, g p.1)

one_kept : {A B C D : Type 0} → (A → C) → (B → D) → A ⊎ B → C ⊎ D
one_kept f g = ⊎_elim (λ a. inl (f a)) (λ b. inr (g b))

no_kept : {A C : Type 0} → (C → A) → (¬ A) → (¬ C)
no_kept f x c = x (f c)

pub joined_kept : {A B C D : Type 0} → (o : FormOp) → A ↔ C → B ↔ D → Joined o A B → Joined o C D
joined_kept op.And e f j = both_kept e.0 f.0 j
joined_kept op.Or e f j = one_kept e.0 f.0 j
joined_kept op.Xor e f j = one_kept (both_kept e.0 (no_kept f.1)) (both_kept (no_kept e.1) f.0) j
joined_kept op.Xnor e f j = one_kept (both_kept e.0 f.0) (both_kept (no_kept e.1) (no_kept f.1)) j
joined_kept op.Iff e f j = one_kept (both_kept e.0 f.0) (both_kept (no_kept e.1) (no_kept f.1)) j
joined_kept op.Implies e f j = λ c. f.0 (j (e.1 c))
joined_kept op.Until e f j = j
joined_kept op.Releases e f j = j

joined_same : {A B C D : Type 0} → (o : FormOp) → A ↔ C → B ↔ D → Joined o A B ↔ Joined o C D
joined_same o e f = (joined_kept o e f, joined_kept o (e.1, e.0) (f.1, f.0))

-- and are decided where the truths are
pub no_decided : {A : Type 0} → A ⊎ (¬ A) → (¬ A) ⊎ (¬ (¬ A))
no_decided = ⊎_elim (λ a. inr (λ n. n a)) inl

both_decided : {A B : Type 0} → A ⊎ (¬ A) → B ⊎ (¬ B) → (A × B) ⊎ (¬ (A × B))
both_decided a b = ⊎_elim (λ x. ⊎_elim (λ y. inl (x, y)) (λ n. inr (λ p. n p.1)) b) (λ n. inr (λ p. n p.0)) a

one_decided : {A B : Type 0} → A ⊎ (¬ A) → B ⊎ (¬ B) → (A ⊎ B) ⊎ (¬ (A ⊎ B))
one_decided a b = ⊎_elim (λ x. inl (inl x)) (λ n. ⊎_elim (λ y. inl (inr y)) (λ m. inr (⊎_elim n m)) b) a

joined_decided : {A B : Type 0} → (o : FormOp) → A ⊎ (¬ A) → B ⊎ (¬ B) → Joined o A B ⊎ (¬ Joined o A B)
joined_decided op.And a b = both_decided a b
joined_decided op.Or a b = one_decided a b
joined_decided op.Xor a b = one_decided (both_decided a (no_decided b)) (both_decided (no_decided a) b)
joined_decided op.Xnor a b = one_decided (both_decided a b) (both_decided (no_decided a) (no_decided b))
joined_decided op.Iff a b = one_decided (both_decided a b) (both_decided (no_decided a) (no_decided b))
joined_decided op.Implies a b = ⊎_elim (λ y. inl (λ _. y)) (λ m. ⊎_elim (λ x. inr (λ f. m (f x))) (λ n. inl (λ x. absurd (n x))) a) b
joined_decided op.Until a b = inr (λ x. x)
joined_decided op.Releases a b = inr (λ x. x)

module _ (k l m : ℕ) (holds : Tree → ℕ → Type 0) (h : l < k) (enough : k ≤ m) where
  -- an until with another limit and other truths of its parts
  until_same : {F G H I : ℕ → Type 0} (p : ℕ) → p < k → ((q : ℕ) → q < k → F q ↔ H q) → ((q : ℕ) → q < k → G q ↔ I q) → Until m k l F G p ↔ Until k k l H I p
  until_same {F} {G} {H} {I} p b f g = (
    λ u. until_enough H I k l m p h b (until_kept k l m m p h b (omega arith) (λ q c. (f q c).0) (λ q c. (g q c).0) u),
    λ u. until_kept k l k m p h b enough (λ q c. (f q c).1) (λ q c. (g q c).1) u,
  )

  no_same : {A B : Type 0} → A ↔ B → (¬ A) ↔ (¬ B)
  no_same e = (no_kept e.1, no_kept e.0)

  pub same_truth : (f : Claim) (p : ℕ) → p < k → TrueWithin m k l holds f p ↔ TrueWithin k k l holds f p
  same_truth (atom e) p b = (λ x. x, λ x. x)
  same_truth (no f) p b = no_same (same_truth f p b)
  same_truth (after f) p b = same_truth f (next_place k l p) (next_below k l p h b)
  same_truth (some_time f) p b = until_same p b (λ q c. (λ x. x, λ x. x)) (same_truth f)
  same_truth (always f) p b = no_same (until_same p b (λ q c. (λ x. x, λ x. x)) (λ q c. no_same (same_truth f q c)))
  same_truth (both op.Until f g) p b = until_same p b (same_truth f) (same_truth g)
  same_truth (both op.Releases f g) p b = no_same (until_same p b (λ q c. no_same (same_truth f q c)) (λ q c. no_same (same_truth g q c)))
  same_truth (both op.And f g) p b = joined_same op.And (same_truth f p b) (same_truth g p b)
  same_truth (both op.Or f g) p b = joined_same op.Or (same_truth f p b) (same_truth g p b)
  same_truth (both op.Xor f g) p b = joined_same op.Xor (same_truth f p b) (same_truth g p b)
  same_truth (both op.Xnor f g) p b = joined_same op.Xnor (same_truth f p b) (same_truth g p b)
  same_truth (both op.Iff f g) p b = joined_same op.Iff (same_truth f p b) (same_truth g p b)
  same_truth (both op.Implies f g) p b = joined_same op.Implies (same_truth f p b) (same_truth g p b)

module _ (k l : ℕ) (holds : Tree → ℕ → Type 0) (h : l < k) (each : (e : Tree) (p : ℕ) → p < k → holds e p ⊎ (¬ holds e p)) where
  pub truth_decided : (f : Claim) (p : ℕ) → p < k → TrueAt k l holds f p ⊎ (¬ TrueAt k l holds f p)
  truth_decided (atom e) p b = each e p b
  truth_decided (no f) p b = no_decided (truth_decided f p b)
  truth_decided (after f) p b = truth_decided f (next_place k l p) (next_below k l p h b)
  truth_decided (some_time f) p b = until_decided k l (λ _. ⊤) (TrueAt k l holds f) h (λ q c. inl tt) (truth_decided f) k p b
  truth_decided (always f) p b = no_decided (until_decided k l (λ _. ⊤) (λ q. ¬ TrueAt k l holds f q) h (λ q c. inl tt) (λ q c. no_decided (truth_decided f q c)) k p b)
  truth_decided (both op.Until f g) p b = until_decided k l (TrueAt k l holds f) (TrueAt k l holds g) h (truth_decided f) (truth_decided g) k p b
  truth_decided (both op.Releases f g) p b =
      no_decided (until_decided k l (λ q. ¬ TrueAt k l holds f q) (λ q. ¬ TrueAt k l holds g q) h (λ q c. no_decided (truth_decided f q c)) (λ q c. no_decided (truth_decided g q c)) k p b)
  truth_decided (both op.And f g) p b = joined_decided op.And (truth_decided f p b) (truth_decided g p b)
  truth_decided (both op.Or f g) p b = joined_decided op.Or (truth_decided f p b) (truth_decided g p b)
  truth_decided (both op.Xor f g) p b = joined_decided op.Xor (truth_decided f p b) (truth_decided g p b)
  truth_decided (both op.Xnor f g) p b = joined_decided op.Xnor (truth_decided f p b) (truth_decided g p b)
  truth_decided (both op.Iff f g) p b = joined_decided op.Iff (truth_decided f p b) (truth_decided g p b)
  truth_decided (both op.Implies f g) p b = joined_decided op.Implies (truth_decided f p b) (truth_decided g p b)
