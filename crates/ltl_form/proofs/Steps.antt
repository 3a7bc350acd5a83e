-- One more row behind right ones.
use Rattle.std.proofs.Common.{◌≡◌, ℕ, ◌+◌, ◌<◌, ◌≤◌, Bool, true, false, ◌||◌, ◌&&◌, List, [], ◌∷◌, ◌++◌, length, refl, sym, ap, inl, inr, ◌∙◌, arith}
use Rattle.std.specs.Prelude.{nat_lt}
use Rattle.std.proofs.lemmas.Bool.{cases_lt}
use Rattle.std.proofs.lemmas.List.{get_or_append_left, get_or_push}
use Rattle.smv_meaning.specs.Places.{next_place}
use Rattle.smv_meaning.specs.Sweeps.{around, along, along_both}
use Rattle.ltl_form.specs.declared.node.NnfNode.{NnfNode}
use Rattle.ltl_form.specs.declared.node.NnfNode.TheVariants.{Literal, And, Or, Next, Until, Releases, Always, Eventually}
use Rattle.ltl_form.specs.Nodes.{PartsWithin, IsOrdered, node_at}
use Rattle.ltl_form.specs.Rows.{told, row_at, around_turned, lasso_value, short_value, IsRow}

pub parts_more : (m n : ℕ) (y : NnfNode) → m ≤ n → PartsWithin m y → PartsWithin n y
parts_more m n (Literal a b) h p = tt
parts_more m n (And a b) h p = (omega (arith, p.0), omega (arith, p.1))
parts_more m n (Or a b) h p = (omega (arith, p.0), omega (arith, p.1))
parts_more m n (Next a) h p = omega (arith, p)
parts_more m n (Until a b) h p = (omega (arith, p.0), omega (arith, p.1))
parts_more m n (Releases a b) h p = (omega (arith, p.0), omega (arith, p.1))
parts_more m n (Always a) h p = omega (arith, p)
parts_more m n (Eventually a) h p = omega (arith, p)

pub by_two : (F : List Bool → List Bool → Bool) (r s t u : List Bool) → r ≡ s → t ≡ u → F r t ≡ F s u
by_two F r s t u d e = ap (λ x. F x t) d ∙ ap (F s) e

module _ (rows : List (List Bool)) (row : List Bool) where
  kept : (a : ℕ) → a < length rows → row_at (rows ++ row ∷ []) a ≡ row_at rows a
  kept a h = get_or_append_left rows (row ∷ []) [] a h

  both_kept : (F : List Bool → List Bool → Bool) (a b : ℕ) → a < length rows → b < length rows → F (row_at (rows ++ row ∷ []) a) (row_at (rows ++ row ∷ []) b) ≡ F (row_at rows a) (row_at rows b)
  both_kept F a b g h = by_two F (row_at (rows ++ row ∷ []) a) (row_at rows a) (row_at (rows ++ row ∷ []) b) (row_at rows b) (kept a g) (kept b h)

  pub lasso_stays : (k l : ℕ) (table : List (List Bool)) (y : NnfNode) (p : ℕ) → PartsWithin (length rows) y → lasso_value k l table (rows ++ row ∷ []) y p ≡ lasso_value k l table rows y p
  lasso_stays k l table (Literal a b) p h = refl
  lasso_stays k l table (And a b) p h = both_kept (λ r s. told r p && told s p) a b h.0 h.1
  lasso_stays k l table (Or a b) p h = both_kept (λ r s. told r p || told s p) a b h.0 h.1
  lasso_stays k l table (Next a) p h = ap (λ r. told r (next_place k l p)) (kept a h)
  lasso_stays k l table (Until a b) p h = both_kept (λ r s. around k l (told r) (told s) p) a b h.0 h.1
  lasso_stays k l table (Releases a b) p h = both_kept (λ r s. around_turned true k l (told r) (told s) p) a b h.0 h.1
  lasso_stays k l table (Always a) p h = ap (λ r. around_turned true k l (λ _. false) (told r) p) (kept a h)
  lasso_stays k l table (Eventually a) p h = ap (λ r. around k l (λ _. true) (told r) p) (kept a h)

  pub short_stays : (k : ℕ) (table : List (List Bool)) (y : NnfNode) (p : ℕ) → PartsWithin (length rows) y → short_value k table (rows ++ row ∷ []) y p ≡ short_value k table rows y p
  short_stays k table (Literal a b) p h = refl
  short_stays k table (And a b) p h = both_kept (λ r s. told r p && told s p) a b h.0 h.1
  short_stays k table (Or a b) p h = both_kept (λ r s. told r p || told s p) a b h.0 h.1
  short_stays k table (Next a) p h = ap (λ r. nat_lt p k && told r (p + 1)) (kept a h)
  short_stays k table (Until a b) p h = both_kept (λ r s. along k (told r) (told s) p) a b h.0 h.1
  short_stays k table (Releases a b) p h = both_kept (λ r s. along_both k (told r) (told s) p) a b h.0 h.1
  short_stays k table (Always a) p h = refl
  short_stays k table (Eventually a) p h = ap (λ r. along k (λ _. true) (told r) p) (kept a h)

  -- the rows of the first n nodes, and that of the node behind them
  module _ (places : ℕ) (value : List (List Bool) → NnfNode → ℕ → Bool) (stays : (y : NnfNode) (p : ℕ) → PartsWithin (length rows) y → value (rows ++ row ∷ []) y p ≡ value rows y p) (nodes : List NnfNode) (ordered : IsOrdered nodes) where
    pub more_rows : (n : ℕ) → n < length nodes → length rows ≡ n → ((i : ℕ) → i < n → IsRow places (value rows (node_at nodes i)) (row_at rows i)) → IsRow places (value rows (node_at nodes n)) row → (i : ℕ) → i < n + 1 → IsRow places (value (rows ++ row ∷ []) (node_at nodes i)) (row_at (rows ++ row ∷ []) i)
    more_rows n b e old now i w = elim (cases_lt i n) [
      | inl earlier ↦
          let same : row_at (rows ++ row ∷ []) i ≡ row_at rows i = kept i (omega arith) in
          let was : IsRow places (value rows (node_at nodes i)) (row_at rows i) = old i earlier in
          record {
            has = ap (λ r. length r) same ∙ was.has;
            values = λ p v. ap (λ r. told r p) same ∙ was.values p v ∙ sym (stays (node_at nodes i) p (parts_more i (length rows) (node_at nodes i) (omega arith) (ordered i (omega arith))));
          }
      | inr last ↦
          let at : i ≡ n = omega arith in
          let here : row_at (rows ++ row ∷ []) i ≡ row = get_or_push rows row [] i (omega arith) in
          let f : node_at nodes n ≡ node_at nodes i = ap (node_at nodes) (sym at) in
          record {
            has = ap (λ r. length r) here ∙ now.has;
            values = λ p v. ap (λ r. told r p) here ∙ now.values p v ∙ ap (λ y. value rows y p) f ∙ sym (stays (node_at nodes i) p (parts_more i (length rows) (node_at nodes i) (omega arith) (ordered i (omega arith))));
          }
    ]
