-- What is kept of a node, from what is kept of its parts.
use Rattle.std.specs.Prelude.{List, [], ◌∷◌, ◌++◌, Ok, Err}
use Rattle.smv_tree.specs.Trees.{Tree, expr_step, branch_step}
use Rattle.smv_tree.specs.declared.expr.Branch.{Branch, fold-Branch}
use Rattle.smv_kinds.specs.declared.typing.Typing.{Typing}
use Rattle.type_fault.specs.First.{earlier}
use Rattle.smv_typing.specs.Judging.{Judgement}
use Rattle.smv_typing.specs.Firsts.{Kept, firsts}

-- what two parts make, from what is kept of each
unfoldable pub kept_both : {A B C : Type 0} → (A → B → C) → Kept A → Kept B → Kept C
kept_both f (Ok a) (Ok b) = Ok (f a b)
kept_both f (Ok a) (Err g) = Err g
kept_both f (Err g) (Ok b) = Err g
kept_both f (Err g) (Err h) = Err (earlier g h)

-- a node over its parts, from what is kept of them
unfoldable pub kept_over : {A B : Type 0} → (A → Judgement B) → Kept A → Kept B
kept_over f (Ok a) = firsts (f a)
kept_over f (Err g) = Err g

-- types, and one more behind them
abbrev pub behind : List Typing → Typing → List Typing
behind ts t = ts ++ t ∷ []

abbrev pub arm_behind : List Typing × List Typing → Typing × Typing → List Typing × List Typing
arm_behind ts t = (ts.0 ++ t.0 ∷ [], ts.1 ++ t.1 ∷ [])

-- a branch of a case: its condition and its value
abbrev pub branch_trees : Branch → Tree × Tree
branch_trees = fold-Branch Tree (Tree × Tree) expr_step branch_step
