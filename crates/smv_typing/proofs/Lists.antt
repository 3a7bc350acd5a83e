-- Judgements of several expressions, one after the other.
use Rattle.std.proofs.Common.{◌≡◌, ℕ, ◌+◌, ◌<◌, ◌≤◌, List, [], ◌∷◌, ◌++◌, map, take, get_or, length, suc, refl, ap, sym, ◌∙◌, append_assoc, arith}
use Rattle.std.specs.Prelude.{Ok, Err}
use Rattle.std.proofs.Math.Seq.{take-suc}
use Rattle.std.proofs.lemmas.List.{map-append, take_all}
use Rattle.smv_tree.specs.Trees.{Tree, trees, arms, expr_tree, expr_step, branch_step}
use Rattle.smv_tree.specs.declared.expr.Expr.{Expr}
use Rattle.smv_tree.specs.declared.expr.Expr.TheFolds.{fold_out-Branch}
use Rattle.smv_tree.specs.declared.expr.Branch.{Branch}
use Rattle.smv_kinds.specs.declared.typing.Typing.{Typing}
use Rattle.smv_typing.specs.declared.scope.Scope.{Scope}
use Rattle.smv_typing.specs.declared.standing.Standing.{Standing}
use Rattle.smv_typing.specs.Judging.{Judgement, both, pair, before, arm_before, judged, all_judged, arms_judged}
use Rattle.smv_typing.specs.Kept.{behind, arm_behind, branch_trees}

-- what stands before is joined before or after what stands behind
turned : {A B : Type 0} (f : A → B → B) (g : B → A → B) → ((a : A) (b : B) (c : A) → f a (g b c) ≡ g (f a b) c) → (u : Judgement A) (x : Judgement B) (v : Judgement A) → both f u (both g x v) ≡ both g (both f u x) v
unfolding both
turned f g h (Ok a) (Ok b) (Ok c) = ap Ok (h a b c)
turned f g h (Ok a) (Ok b) (Err gs) = refl
turned f g h (Ok a) (Err fs) (Ok c) = refl
turned f g h (Ok a) (Err fs) (Err gs) = refl
turned f g h (Err es) (Ok b) (Ok c) = refl
turned f g h (Err es) (Ok b) (Err gs) = refl
turned f g h (Err es) (Err fs) (Ok c) = refl
turned f g h (Err es) (Err fs) (Err gs) = ap Err (sym (append_assoc es fs gs))

alone : (x : Judgement Typing) → both before x (Ok []) ≡ both behind (Ok []) x
unfolding both
alone (Ok t) = refl
alone (Err fs) = refl

alone_arm : (x : Judgement (Typing × Typing)) → both arm_before x (Ok ([], [])) ≡ both arm_behind (Ok ([], [])) x
unfolding both
alone_arm (Ok t) = refl
alone_arm (Err fs) = refl

module _ (names : List (List ℕ) → Standing) (s : Scope) where
  all_behind : (es : List Tree) (e : Tree) → all_judged names s (trees (es ++ e ∷ [])) ≡ both behind (all_judged names s (trees es)) (judged names s e)
  unfolding all_judged
  all_behind [] e = alone (judged names s e)
  all_behind (d ∷ es) e = ap (both before (judged names s d)) (all_behind es e) ∙ turned before behind (λ a b c. refl) (judged names s d) (all_judged names s (trees es)) (judged names s e)

  arms_behind : (bs : List (Tree × Tree)) (b : Tree × Tree) → arms_judged names s (arms (bs ++ b ∷ [])) ≡ both arm_behind (arms_judged names s (arms bs)) (both pair (judged names s b.0) (judged names s b.1))
  unfolding arms_judged
  arms_behind [] b = alone_arm (both pair (judged names s b.0) (judged names s b.1))
  arms_behind (d ∷ bs) b = ap (both arm_before (both pair (judged names s d.0) (judged names s d.1))) (arms_behind bs b) ∙ turned arm_before arm_behind (λ a c e. refl) (both pair (judged names s d.0) (judged names s d.1)) (arms_judged names s (arms bs)) (both pair (judged names s b.0) (judged names s b.1))

  -- the first of a list, and one more
  one_more : {X : Type 0} (xs : List X) (i : ℕ) (x : X) → i < length xs → x ≡ get_or xs i x → take (i + 1) xs ≡ take i xs ++ x ∷ []
  one_more xs i x h e =
      let n : i + 1 ≡ suc i = omega arith in
      ap (λ j. take j xs) n ∙ (take-suc xs i x h ∙ ap (λ y. take i xs ++ y ∷ []) (sym e))

  pub all_step : (es : List Expr) (i : ℕ) (e : Expr) → i < length es → e ≡ get_or es i e → both behind (all_judged names s (trees (map expr_tree (take i es)))) (judged names s (expr_tree e)) ≡ all_judged names s (trees (map expr_tree (take (i + 1) es)))
  all_step es i e h g =
      sym (ap (λ xs. all_judged names s (trees (map expr_tree xs))) (one_more es i e h g)
      ∙ (ap (λ ts. all_judged names s (trees ts)) (map-append expr_tree (take i es) (e ∷ []))
      ∙ all_behind (map expr_tree (take i es)) (expr_tree e)))

  pub all_end : (es : List Expr) (i : ℕ) → length es ≤ i → all_judged names s (trees (map expr_tree (take i es))) ≡ all_judged names s (trees (map expr_tree es))
  all_end es i h = ap (λ xs. all_judged names s (trees (map expr_tree xs))) (take_all i es h)

  -- a branch is its condition and its value
  branch_parts : (b : Branch) → branch_trees b ≡ (expr_tree b.condition, expr_tree b.value)
  branch_parts b = fold_out-Branch Tree (Tree × Tree) expr_step branch_step b

  pub arms_step : (bs : List Branch) (i : ℕ) (b : Branch) → i < length bs → b ≡ get_or bs i b → both arm_behind (arms_judged names s (arms (map branch_trees (take i bs)))) (both pair (judged names s (expr_tree b.condition)) (judged names s (expr_tree b.value))) ≡ arms_judged names s (arms (map branch_trees (take (i + 1) bs)))
  arms_step bs i b h g =
      let old = arms_judged names s (arms (map branch_trees (take i bs))) in
      sym (ap (λ xs. arms_judged names s (arms (map branch_trees xs))) (one_more bs i b h g)
      ∙ (ap (λ ts. arms_judged names s (arms ts)) (map-append branch_trees (take i bs) (b ∷ []))
      ∙ (arms_behind (map branch_trees (take i bs)) (branch_trees b)
      ∙ ap (λ t. both arm_behind old (both pair (judged names s t.0) (judged names s t.1))) (branch_parts b))))

  pub arms_end : (bs : List Branch) (i : ℕ) → length bs ≤ i → arms_judged names s (arms (map branch_trees (take i bs))) ≡ arms_judged names s (arms (map branch_trees bs))
  arms_end bs i h = ap (λ xs. arms_judged names s (arms (map branch_trees xs))) (take_all i bs h)
