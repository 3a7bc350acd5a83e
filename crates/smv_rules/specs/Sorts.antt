-- What rules give.
use Rattle.std.specs.Prelude.{ℕ, ℤ, Bool, List}
use Rattle.smv_tree.specs.declared.place.Place.{Place}
use Rattle.smv_tree.specs.declared.value.Value.{Value}
use Rattle.smv_tree.specs.Trees.{Tree}
use Rattle.smv_tree.specs.Models.{Body, Claim, Formal, Part, Shape}

-- An expression with its depth, and whether it is a range that stands alone, to which brackets add
-- nothing.
pub record Expression : Type 0 where
  pub tree : Tree
  pub depth : ℕ
  pub bare : Bool

-- a formula with its depth
pub record Formula : Type 0 where
  pub claim : Claim
  pub depth : ℕ

-- expressions, or branches of a case, in order, with the depth of the deepest
pub record Operands : Type 0 where
  pub trees : List Tree
  pub depth : ℕ

pub record Branches : Type 0 where
  pub arms : List (Tree × Tree)
  pub depth : ℕ

-- the sorts of what rules give
pub data Sort : Type 0 where
  a_place : Sort
  a_flag : Sort
  a_name : Sort
  a_count : Sort
  an_integer : Sort
  some_names : Sort
  an_expression : Sort
  some_operands : Sort
  some_branches : Sort
  a_formula : Sort
  a_value : Sort
  some_values : Sort
  a_shape : Sort
  some_formals : Sort
  some_parts : Sort
  some_bodies : Sort

abbrev pub Gift : Sort → Type 0
Gift a_place = Place
Gift a_flag = Bool
Gift a_name = List ℕ × Place
Gift a_count = ℕ
Gift an_integer = ℤ
Gift some_names = List (List ℕ)
Gift an_expression = Expression
Gift some_operands = Operands
Gift some_branches = Branches
Gift a_formula = Formula
Gift a_value = Value
Gift some_values = List Value
Gift a_shape = Shape
Gift some_formals = List Formal
Gift some_parts = List Part
Gift some_bodies = List Body
