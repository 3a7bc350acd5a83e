-- The variables of a module, and assignments of them that exclude each other.
use Rattle.std.specs.Prelude.{ℕ, Bool, false, ◌&&◌, List, Option, Some, None, find, option_and_then}
use Rattle.std.specs.List.{list_any}
use Rattle.std.specs.Str.{bytes_eq}
use Rattle.smv_tree.specs.declared.program.Moment.{Moment}
use Rattle.smv_tree.specs.Models.{Part, variable, assign, plain}
use Rattle.smv_meaning.specs.Definitions.{declares}
use Rattle.smv_kinds.specs.Nodes.{declared_sort}
use Rattle.smv_typing.specs.Uses.{excludes}
use Rattle.smv_types.specs.declared.variable.VariableType.{VariableType}

-- what kinds of values a declared variable has
abbrev pub variable_type : Part → Option VariableType
variable_type (variable k n p (plain t q)) = Some (record { kind = k; sort = declared_sort t })
variable_type _ = None

-- the variable of this name
abbrev pub variable_named : List Part → List ℕ → Option VariableType
variable_named parts n = option_and_then variable_type (find (declares n) parts)

-- an assignment of this name, which excludes one at this moment
abbrev pub excludes_one : Moment → List ℕ → Part → Bool
excludes_one m n (assign l o p e) = bytes_eq o n && excludes l m
excludes_one m n _ = false

-- an assignment that an earlier one of the module excludes
abbrev pub is_again : List Part → Part → Bool
is_again before (assign m n p e) = list_any (excludes_one m n) before
is_again before _ = false
