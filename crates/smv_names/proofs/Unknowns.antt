-- The first unknown name of what has parts.
use Rattle.std.proofs.Common.{◌≡◌, ℕ, ◌+◌, ◌<◌, Bool, List, [], ◌∷◌, ◌++◌, map, take, get_or, length, refl, ap, sym, ◌∙◌, append_assoc}
use Rattle.std.specs.Prelude.{Option, None}
use Rattle.std.proofs.lemmas.List.{append-nil}
use Rattle.smv_tree.specs.Trees.{Tree, trees, arms, expr_tree}
use Rattle.smv_tree.specs.declared.expr.Expr.{Expr}
use Rattle.smv_tree.specs.declared.expr.Branch.{Branch}
use Rattle.type_fault.specs.declared.fault.TypeFault.{TypeFault}
use Rattle.type_fault.specs.First.{earlier, earliest}
use Rattle.type_fault.proofs.Firsts.{earliest_both}
use Rattle.smv_names.specs.Branches.{branch_trees}
use Rattle.smv_names.specs.Unknown.{unknown_in, unknown_in_all, unknown_in_arms}
use Rattle.smv_names.proofs.Entering.{one_on}
use Rattle.smv_names.proofs.Rows.{branch_parts}

pub none_first : None ≡ earliest []
unfolding earliest
none_first = refl

-- the first of two lists, from the first of each
pub first_both : (fs gs : List TypeFault) (a b r : Option TypeFault) → a ≡ earliest fs → b ≡ earliest gs → r ≡ earlier a b → r ≡ earliest (fs ++ gs)
first_both fs gs a b r h g e = e ∙ (ap (λ o. earlier o b) h ∙ (ap (earlier (earliest fs)) g ∙ sym (earliest_both fs gs)))

module _ (known : List (List ℕ) → Bool) where
  all_behind : (es : List Tree) (e : Tree) → unknown_in_all known (trees (es ++ e ∷ [])) ≡ unknown_in_all known (trees es) ++ unknown_in known e
  all_behind [] e = append-nil (unknown_in known e)
  all_behind (d ∷ es) e = ap (λ r. unknown_in known d ++ r) (all_behind es e) ∙ sym (append_assoc (unknown_in known d) (unknown_in_all known (trees es)) (unknown_in known e))

  arms_behind : (bs : List (Tree × Tree)) (b : Tree × Tree) → unknown_in_arms known (arms (bs ++ b ∷ [])) ≡ unknown_in_arms known (arms bs) ++ (unknown_in known b.0 ++ unknown_in known b.1)
  arms_behind [] b = ap (λ r. unknown_in known b.0 ++ r) (append-nil (unknown_in known b.1))
  arms_behind (d ∷ bs) b =
      ap (λ r. unknown_in known d.0 ++ (unknown_in known d.1 ++ r)) (arms_behind bs b)
      ∙ (ap (λ r. unknown_in known d.0 ++ r) (sym (append_assoc (unknown_in known d.1) (unknown_in_arms known (arms bs)) (unknown_in known b.0 ++ unknown_in known b.1)))
      ∙ sym (append_assoc (unknown_in known d.0) (unknown_in known d.1 ++ unknown_in_arms known (arms bs)) (unknown_in known b.0 ++ unknown_in known b.1)))

  module _ (now found new : Option TypeFault) where
    pub expression_next : (es : List Expr) (i : ℕ) (e : Expr) → i < length es → e ≡ get_or es i e
        → now ≡ earliest (unknown_in_all known (trees (map expr_tree (take i es)))) → found ≡ earliest (unknown_in known (expr_tree e)) → new ≡ earlier now found
        → new ≡ earliest (unknown_in_all known (trees (map expr_tree (take (i + 1) es))))
    expression_next es i e l at h g r =
        first_both (unknown_in_all known (trees (map expr_tree (take i es)))) (unknown_in known (expr_tree e)) now found new h g r
        ∙ ap earliest (sym (ap (λ ts. unknown_in_all known (trees ts)) (one_on expr_tree es i e l at) ∙ all_behind (map expr_tree (take i es)) (expr_tree e)))

    pub branch_next : (bs : List Branch) (i : ℕ) (b : Branch) → i < length bs → b ≡ get_or bs i b
        → now ≡ earliest (unknown_in_arms known (arms (map branch_trees (take i bs))))
        → found ≡ earliest (unknown_in known (expr_tree b.condition) ++ unknown_in known (expr_tree b.value)) → new ≡ earlier now found
        → new ≡ earliest (unknown_in_arms known (arms (map branch_trees (take (i + 1) bs))))
    branch_next bs i b l at h g r =
        first_both (unknown_in_arms known (arms (map branch_trees (take i bs)))) (unknown_in known (expr_tree b.condition) ++ unknown_in known (expr_tree b.value)) now found new h g r
        ∙ ap earliest (sym (ap (λ ts. unknown_in_arms known (arms ts)) (one_on branch_trees bs i b l at)
        ∙ (arms_behind (map branch_trees (take i bs)) (branch_trees b)
        ∙ ap (λ t. unknown_in_arms known (arms (map branch_trees (take i bs))) ++ (unknown_in known t.0 ++ unknown_in known t.1)) (branch_parts b))))

module _ {X Y : Type 0} (tree : X → Y) (faults : Y → List TypeFault) where
  -- what a part has, by the reference to it
  pub of_part : {o : Option TypeFault} {e d : X} → e ≡ d → o ≡ earliest (faults (tree e)) → o ≡ earliest (faults (tree d))
  of_part i h = h ∙ ap (λ x. earliest (faults (tree x))) i
