-- What is kept of an expression, and of its parts.
use Rattle.std.proofs.Common.{◌≡◌, ℕ, List, ap, sym, ◌∙◌}
use Rattle.smv_tree.specs.declared.expr.Expr.{Expr}
use Rattle.smv_tree.specs.Trees.{Tree, expr_tree}
use Rattle.smv_kinds.specs.declared.typing.Typing.{Typing}
use Rattle.smv_typing.specs.declared.scope.Scope.{Scope}
use Rattle.smv_typing.specs.declared.standing.Standing.{Standing}
use Rattle.smv_typing.specs.Judging.{judged}
use Rattle.smv_typing.specs.Firsts.{Kept, firsts}

module _ (names : List (List ℕ) → Standing) (s : Scope) where
  pub of_part : {j : Kept Typing} {e d : Expr} → e ≡ d → j ≡ firsts (judged names s (expr_tree e)) → j ≡ firsts (judged names s (expr_tree d))
  of_part i h = h ∙ ap (λ (x : Expr). firsts (judged names s (expr_tree x))) i

  pub of_whole : {j : Kept Typing} {e d : Tree} → e ≡ d → j ≡ firsts (judged names s d) → j ≡ firsts (judged names s e)
  of_whole i h = h ∙ sym (ap (λ x. firsts (judged names s x)) i)
