-- Rows with a place for each name.
use Rattle.std.proofs.Common.{◌≡◌, ℕ, ◌+◌, ◌<◌, List, [], ◌∷◌, ◌++◌, map, take, get_or, length, ap, sym, ◌∙◌, append_assoc}
use Rattle.std.proofs.lemmas.List.{append-nil, map-append}
use Rattle.smv_tree.specs.Trees.{Tree, trees, arms, expr_tree, expr_step, branch_step}
use Rattle.smv_tree.specs.declared.expr.Expr.{Expr}
use Rattle.smv_tree.specs.declared.expr.Expr.TheFolds.{fold_out-Branch}
use Rattle.smv_tree.specs.declared.expr.Branch.{Branch}
use Rattle.smv_meaning.specs.Definitions.{names_in, names_in_all, names_in_arms}
use Rattle.smv_names.specs.Branches.{branch_trees}
use Rattle.smv_names.proofs.Entering.{one_on}

-- a row that gains two lists gains both
pub gains_both : {A B : Type 0} (f : A → B) (old now new : List B) (xs ys : List A) → now ≡ old ++ map f xs → new ≡ now ++ map f ys → new ≡ old ++ map f (xs ++ ys)
gains_both f old now new xs ys h g =
    g ∙ (ap (λ r. r ++ map f ys) h ∙ (append_assoc old (map f xs) (map f ys) ∙ ap (λ r. old ++ r) (sym (map-append f xs ys))))

pub all_names_behind : (es : List Tree) (e : Tree) → names_in_all (trees (es ++ e ∷ [])) ≡ names_in_all (trees es) ++ names_in e
all_names_behind [] e = append-nil (names_in e)
all_names_behind (d ∷ es) e = ap (λ r. names_in d ++ r) (all_names_behind es e) ∙ sym (append_assoc (names_in d) (names_in_all (trees es)) (names_in e))

pub arm_names_behind : (bs : List (Tree × Tree)) (b : Tree × Tree) → names_in_arms (arms (bs ++ b ∷ [])) ≡ names_in_arms (arms bs) ++ (names_in b.0 ++ names_in b.1)
arm_names_behind [] b = ap (λ r. names_in b.0 ++ r) (append-nil (names_in b.1))
arm_names_behind (d ∷ bs) b =
    ap (λ r. names_in d.0 ++ (names_in d.1 ++ r)) (arm_names_behind bs b)
    ∙ (ap (λ r. names_in d.0 ++ r) (sym (append_assoc (names_in d.1) (names_in_arms (arms bs)) (names_in b.0 ++ names_in b.1)))
    ∙ sym (append_assoc (names_in d.0) (names_in d.1 ++ names_in_arms (arms bs)) (names_in b.0 ++ names_in b.1)))

pub branch_parts : (b : Branch) → branch_trees b ≡ (expr_tree b.condition, expr_tree b.value)
branch_parts b = fold_out-Branch Tree (Tree × Tree) expr_step branch_step b

module _ {B : Type 0} (f : List (List ℕ) → B) (old now new : List B) where
  pub expression_on : (es : List Expr) (i : ℕ) (e : Expr) → i < length es → e ≡ get_or es i e
      → now ≡ old ++ map f (names_in_all (trees (map expr_tree (take i es)))) → new ≡ now ++ map f (names_in (expr_tree e))
      → new ≡ old ++ map f (names_in_all (trees (map expr_tree (take (i + 1) es))))
  expression_on es i e l at h g =
      gains_both f old now new (names_in_all (trees (map expr_tree (take i es)))) (names_in (expr_tree e)) h g
      ∙ ap (λ ns. old ++ map f ns) (sym (ap (λ ts. names_in_all (trees ts)) (one_on expr_tree es i e l at) ∙ all_names_behind (map expr_tree (take i es)) (expr_tree e)))

  pub branch_on : (bs : List Branch) (i : ℕ) (b : Branch) → i < length bs → b ≡ get_or bs i b
      → now ≡ old ++ map f (names_in_arms (arms (map branch_trees (take i bs)))) → new ≡ now ++ map f (names_in (expr_tree b.condition) ++ names_in (expr_tree b.value))
      → new ≡ old ++ map f (names_in_arms (arms (map branch_trees (take (i + 1) bs))))
  branch_on bs i b l at h g =
      gains_both f old now new (names_in_arms (arms (map branch_trees (take i bs)))) (names_in (expr_tree b.condition) ++ names_in (expr_tree b.value)) h g
      ∙ ap (λ ns. old ++ map f ns) (sym (ap (λ ts. names_in_arms (arms ts)) (one_on branch_trees bs i b l at)
      ∙ (arm_names_behind (map branch_trees (take i bs)) (branch_trees b)
      ∙ ap (λ t. names_in_arms (arms (map branch_trees (take i bs))) ++ (names_in t.0 ++ names_in t.1)) (branch_parts b))))
