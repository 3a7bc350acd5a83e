-- The twins of the trees, which hold no pointers, and the way from a tree to its twin.
use Rattle.std.specs.Prelude.{ℕ, ℤ, Bool, List, [], ◌∷◌}
use Rattle.smv_tree.specs.declared.place.Place.{Place}
use Rattle.smv_tree.specs.declared.expr.Op1.{Op1}
use Rattle.smv_tree.specs.declared.expr.Op2.{Op2}
use Rattle.smv_tree.specs.declared.expr.Expr.{Expr, Expr-F, fold-Expr}
use Rattle.smv_tree.specs.declared.expr.Branch.{Branch-F}
use Rattle.smv_tree.specs.Word.{Word}

mutual
  -- an expression
  pub data Tree : Type 0 where
    truth : Place → Bool → Tree
    number : Place → ℕ → Tree
    word : Place → Word → Tree
    name : Place → List (List ℕ) → Tree
    span : Place → ℤ → ℤ → Tree
    set : Place → Trees → Tree
    cases : Place → Arms → Tree
    choice : Place → Tree → Tree → Tree → Tree
    one : Place → Op1 → Tree → Tree
    two : Place → Op2 → Tree → Tree → Tree
    select : Place → Tree → ℕ → ℕ → Tree
    next : Place → Tree → Tree
    widen : Place → Bool → Tree → ℕ → Tree
    const : Place → Bool → ℤ → ℕ → Tree
    count : Place → Trees → Tree

  -- expressions in order
  pub data Trees : Type 0 where
    no_trees : Trees
    tree : Tree → Trees → Trees

  -- the branches of a case: a condition and a value each
  pub data Arms : Type 0 where
    no_arms : Arms
    arm : Tree → Tree → Arms → Arms

-- a list of trees as trees
abbrev pub trees : List Tree → Trees
trees [] = no_trees
trees (t ∷ ts) = tree t (trees ts)

-- a list of pairs as branches
abbrev pub arms : List (Tree × Tree) → Arms
arms [] = no_arms
arms (b ∷ bs) = arm b.0 b.1 (arms bs)

-- one level of an expression, with a twin in the place of each part
abbrev pub expr_step : Expr-F Tree (Tree × Tree) → Tree
expr_step (Expr-F.Truth p b) = truth p b
expr_step (Expr-F.Number p n) = number p n
expr_step (Expr-F.Word p w) = word p w
expr_step (Expr-F.Name p path) = name p path
expr_step (Expr-F.Span p low high) = span p low high
expr_step (Expr-F.Set p es) = set p (trees es.items)
expr_step (Expr-F.Case p bs) = cases p (arms bs.items)
expr_step (Expr-F.If p c a b) = choice p c.value a.value b.value
expr_step (Expr-F.One p o a) = one p o a.value
expr_step (Expr-F.Two p o a b) = two p o a.value b.value
expr_step (Expr-F.Select p a high low) = select p a.value high low
expr_step (Expr-F.Next p a) = next p a.value
expr_step (Expr-F.Widen p resize a n) = widen p resize a.value n
expr_step (Expr-F.Const p signed v n) = const p signed v n
expr_step (Expr-F.Count p es) = count p (trees es.items)

abbrev pub branch_step : Branch-F Tree (Tree × Tree) → Tree × Tree
branch_step b = (b.condition, b.value)

-- the twin of an expression
abbrev pub expr_tree : Expr → Tree
expr_tree = fold-Expr Tree (Tree × Tree) expr_step branch_step
