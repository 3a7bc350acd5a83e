-- Rows that follow the nodes tell the truth of the formulas that the nodes say.
use Rattle.std.proofs.Common.{◌≡◌, ℕ, ◌+◌, ◌<◌, ◌≤◌, Bool, true, false, not, ◌&&◌, ◌⊎◌, List, length, refl, sym, ap, subst, ◌∙◌, arith}
use Rattle.std.specs.Prelude.{Decides, Some, slice_get, nat_lt, ⊤}
use Rattle.std.proofs.lemmas.Bool.Decides.{Decides-not, Decides-and, Decides-or, Decides-like, Decides-ltb}
use Rattle.std.proofs.lemmas.Option.{get_or_from_slice_get, slice_get_within}
use Rattle.smv_tree.specs.Trees.{Tree}
use Rattle.smv_tree.specs.Models.{Claim}
use Rattle.smv_meaning.specs.Places.{next_place, Until}
use Rattle.smv_meaning.specs.LassoTruth.{TrueAt}
use Rattle.smv_meaning.specs.SettledTruth.{Settled, Sometime, HoldsBefore, HoldsUpTo}
use Rattle.smv_meaning.proofs.Lassos.{next_below}
use Rattle.smv_meaning.proofs.Sweeping.{around_truth, before_truth, up_to_truth}
use Rattle.ltl_form.specs.declared.node.NnfNode.{NnfNode}
use Rattle.ltl_form.specs.declared.node.NnfNode.TheVariants as node
use Rattle.ltl_form.specs.Nodes.{Says, AtomWithin, node_at, root}
use Rattle.ltl_form.specs.Nodes as says
use Rattle.ltl_form.specs.Rows.{told, row_at, lasso_value, short_value, AreRows, LassoTells, ShortTells}
use Rattle.ltl_form.specs.Tables.{Covers, DecidesAtomsBelow}

always_true : Decides true ⊤
always_true = (λ e. tt, λ t. refl)

both_true : (a b : Bool) → (a && b) ≡ true → (a ≡ true) × (b ≡ true)
both_true true b e = (refl, e)
both_true false b e = (cc, cc)

both_so : (a b : Bool) → a ≡ true → b ≡ true → (a && b) ≡ true
both_so true b e f = f
both_so false b e f = cc

-- a place with a next one, and what is so there
next_settled : (p k : ℕ) (x : Bool) (P : Type 0) → (p < k → Decides x P) → Decides (nat_lt p k && x) ((p < k) × P)
next_settled p k x P d = (
  λ e. let t = both_true (nat_lt p k) x e in let w : p < k = (Decides-ltb p k).0 t.0 in (w, (d w).0 t.1),
  λ s. both_so (nat_lt p k) x ((Decides-ltb p k).1 s.0) ((d s.0).1 s.1),
)

module _ (names : ℕ → Tree) (holds : Tree → ℕ → Type 0) (table : List (List Bool)) (nodes : List NnfNode) (states : ℕ) (covers : Covers table states nodes) where
  named : (i a : ℕ) (b : Bool) → slice_get nodes i ≡ Some (node.Literal a b) → a < length table
  named i a b e = subst (AtomWithin (length table)) (get_or_from_slice_get nodes i (node.Literal a b) (node.Literal 0 false) e) (covers.atoms i (slice_get_within nodes i (node.Literal a b) e))

  module _ (places : ℕ) (value : List (List Bool) → NnfNode → ℕ → Bool) (rows : List (List Bool)) (right : AreRows places value nodes rows) where
    by_node : (i : ℕ) (n : NnfNode) (P : Type 0) (p : ℕ) → p < places → slice_get nodes i ≡ Some n → Decides (value rows n p) P → Decides (told (row_at rows i) p) P
    by_node i n P p b e d =
        let it : node_at nodes i ≡ n = get_or_from_slice_get nodes i n (node.Literal 0 false) e in
        let v : told (row_at rows i) p ≡ value rows (node_at nodes i) p = (right.each i (slice_get_within nodes i n e)).values p b in
        let w : told (row_at rows i) p ≡ value rows n p = v ∙ ap (λ m. value rows m p) it in
        subst (λ x. Decides x P) (sym w) d

  module _ (k l : ℕ) (h : l < k) (told_so : DecidesAtomsBelow k table names holds) (rows : List (List Bool)) (right : AreRows k (lasso_value k l table) nodes rows) where
    at_node : (i : ℕ) (n : NnfNode) (P : Type 0) (p : ℕ) → p < k → slice_get nodes i ≡ Some n → Decides (lasso_value k l table rows n p) P → Decides (told (row_at rows i) p) P
    at_node = by_node k (lasso_value k l table) rows right

    pub lasso_says : (i : ℕ) (f : Claim) → Says names nodes i f → (p : ℕ) → p < k → Decides (told (row_at rows i) p) (TrueAt k l holds f p)
    lasso_says _ _ (says.plain i a e) p b = at_node i (node.Literal a false) (holds (names a) p) p b e (told_so a p (named i a false e) b)
    lasso_says _ _ (says.negated i a e) p b =
        at_node i (node.Literal a true) (¬ holds (names a) p) p b e (Decides-not (told (row_at table a) p) (told_so a p (named i a true e) b))
    lasso_says _ _ (says.and_ i a c f g e x y) p b =
        at_node i (node.And a c) (TrueAt k l holds f p × TrueAt k l holds g p) p b e (Decides-and (told (row_at rows a) p) (told (row_at rows c) p) (lasso_says a f x p b) (lasso_says c g y p b))
    lasso_says _ _ (says.or_ i a c f g e x y) p b =
        at_node i (node.Or a c) (TrueAt k l holds f p ⊎ TrueAt k l holds g p) p b e (Decides-or (told (row_at rows a) p) (told (row_at rows c) p) (lasso_says a f x p b) (lasso_says c g y p b))
    lasso_says _ _ (says.next i a f e x) p b =
        at_node i (node.Next a) (TrueAt k l holds f (next_place k l p)) p b e (lasso_says a f x (next_place k l p) (next_below k l p h b))
    lasso_says _ _ (says.until i a c f g e x y) p b =
        at_node i (node.Until a c) (Until k k l (TrueAt k l holds f) (TrueAt k l holds g) p) p b e
        (around_truth (TrueAt k l holds f) (TrueAt k l holds g) k l h (told (row_at rows a)) (told (row_at rows c)) (lasso_says a f x) (lasso_says c g y) p b)
    lasso_says _ _ (says.releases i a c f g e x y) p b =
        at_node i (node.Releases a c) (¬ Until k k l (λ q. ¬ TrueAt k l holds f q) (λ q. ¬ TrueAt k l holds g q) p) p b e
        (Decides-not _ (around_truth (λ q. ¬ TrueAt k l holds f q) (λ q. ¬ TrueAt k l holds g q) k l h (λ q. not (told (row_at rows a) q)) (λ q. not (told (row_at rows c) q))
        (λ q w. Decides-not (told (row_at rows a) q) (lasso_says a f x q w)) (λ q w. Decides-not (told (row_at rows c) q) (lasso_says c g y q w)) p b))
    lasso_says _ _ (says.throughout i a f e x) p b =
        at_node i (node.Always a) (¬ Until k k l (λ _. ⊤) (λ q. ¬ TrueAt k l holds f q) p) p b e
        (Decides-not _ (around_truth (λ _. ⊤) (λ q. ¬ TrueAt k l holds f q) k l h (λ _. true) (λ q. not (told (row_at rows a) q))
        (λ q w. always_true) (λ q w. Decides-not (told (row_at rows a) q) (lasso_says a f x q w)) p b))
    lasso_says _ _ (says.eventually i a f e x) p b =
        at_node i (node.Eventually a) (Until k k l (λ _. ⊤) (TrueAt k l holds f) p) p b e
        (around_truth (λ _. ⊤) (TrueAt k l holds f) k l h (λ _. true) (told (row_at rows a)) (λ q w. always_true) (lasso_says a f x) p b)

  pub lasso_told : (k l : ℕ) → l < k → DecidesAtomsBelow k table names holds → (p : ℕ) (b : Bool) → p < k → LassoTells k l table nodes p b → (f : Claim) → Says names nodes (root nodes) f → Decides b (TrueAt k l holds f p)
  lasso_told k l h told_so p b w t f s = subst (λ x. Decides x (TrueAt k l holds f p)) t.told_so (lasso_says k l h told_so t.rows t.right (root nodes) f s p w)

  module _ (k : ℕ) (told_so : DecidesAtomsBelow (k + 1) table names holds) (rows : List (List Bool)) (right : AreRows (k + 1) (short_value k table) nodes rows) where
    on_path : (i : ℕ) (n : NnfNode) (P : Type 0) (p : ℕ) → p < k + 1 → slice_get nodes i ≡ Some n → Decides (short_value k table rows n p) P → Decides (told (row_at rows i) p) P
    on_path = by_node (k + 1) (short_value k table) rows right

    sometime : (F : ℕ → Type 0) (p : ℕ) → HoldsBefore k (λ _. ⊤) F p → Sometime k F p
    sometime F p r = record { when = r.when; from = r.from; to = r.to; there = r.there }

    before : (F : ℕ → Type 0) (p : ℕ) → Sometime k F p → HoldsBefore k (λ _. ⊤) F p
    before F p r = record { when = r.when; from = r.from; to = r.to; there = r.there; before = λ q w i. tt }

    pub short_says : (i : ℕ) (f : Claim) → Says names nodes i f → (p : ℕ) → p < k + 1 → Decides (told (row_at rows i) p) (Settled holds k f true p)
    short_says _ _ (says.plain i a e) p b = on_path i (node.Literal a false) (holds (names a) p) p b e (told_so a p (named i a false e) b)
    short_says _ _ (says.negated i a e) p b =
        on_path i (node.Literal a true) (¬ holds (names a) p) p b e (Decides-not (told (row_at table a) p) (told_so a p (named i a true e) b))
    short_says _ _ (says.and_ i a c f g e x y) p b =
        on_path i (node.And a c) (Settled holds k f true p × Settled holds k g true p) p b e (Decides-and (told (row_at rows a) p) (told (row_at rows c) p) (short_says a f x p b) (short_says c g y p b))
    short_says _ _ (says.or_ i a c f g e x y) p b =
        on_path i (node.Or a c) (Settled holds k f true p ⊎ Settled holds k g true p) p b e (Decides-or (told (row_at rows a) p) (told (row_at rows c) p) (short_says a f x p b) (short_says c g y p b))
    short_says _ _ (says.next i a f e x) p b =
        on_path i (node.Next a) ((p < k) × Settled holds k f true (p + 1)) p b e (next_settled p k (told (row_at rows a) (p + 1)) (Settled holds k f true (p + 1)) (λ w. short_says a f x (p + 1) (omega arith)))
    short_says _ _ (says.until i a c f g e x y) p b =
        on_path i (node.Until a c) (HoldsBefore k (Settled holds k f true) (Settled holds k g true) p) p b e
        (before_truth (Settled holds k f true) (Settled holds k g true) k (told (row_at rows a)) (told (row_at rows c)) (short_says a f x) (short_says c g y) p b)
    short_says _ _ (says.releases i a c f g e x y) p b =
        on_path i (node.Releases a c) (HoldsUpTo k (Settled holds k f true) (Settled holds k g true) p) p b e
        (up_to_truth (Settled holds k f true) (Settled holds k g true) k (told (row_at rows a)) (told (row_at rows c)) (short_says a f x) (short_says c g y) p b)
    short_says _ _ (says.throughout i a f e x) p b = on_path i (node.Always a) ⊥ p b e (λ t. cc, λ n. absurd n)
    short_says _ _ (says.eventually i a f e x) p b =
        on_path i (node.Eventually a) (Sometime k (Settled holds k f true) p) p b e
        (Decides-like _ (sometime (Settled holds k f true) p) (before (Settled holds k f true) p)
        (before_truth (λ _. ⊤) (Settled holds k f true) k (λ _. true) (told (row_at rows a)) (λ q w. always_true) (short_says a f x) p b))

  pub short_told : (k : ℕ) → DecidesAtomsBelow (k + 1) table names holds → (p : ℕ) (b : Bool) → p ≤ k → ShortTells k table nodes p b → (f : Claim) → Says names nodes (root nodes) f → Decides b (Settled holds k f true p)
  short_told k told_so p b w t f s = subst (λ x. Decides x (Settled holds k f true p)) t.told_so (short_says k told_so t.rows t.right (root nodes) f s p (omega arith))
