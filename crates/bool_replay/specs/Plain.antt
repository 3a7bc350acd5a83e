-- The models that can be run so far: one boolean module.
use Rattle.std.specs.Prelude.{◌≡◌, ℕ, Bool, true, false, not, ◌&&◌, List, [], ◌∷◌, codes, Option, Some, None}
use Rattle.std.specs.List.{list_any, list_all, filter_map}
use Rattle.std.specs.Str.{bytes_eq}
use Rattle.smv_tree.specs.Trees.{Tree, truth, name, next, one, two}
use Rattle.smv_tree.specs.Models.{Body, Part, variable, constraint, plain}
use Rattle.smv_tree.specs.declared.expr.Op1.TheVariants as op1
use Rattle.smv_tree.specs.declared.expr.Op2.TheVariants as op2
use Rattle.smv_tree.specs.declared.program.Kind.TheVariants as kind
use Rattle.smv_tree.specs.declared.program.Section.TheVariants as section
use Rattle.smv_tree.specs.declared.value.Ty.TheVariants as type

abbrev pub declared_name : Part → Option (List ℕ)
declared_name (variable k n p s) = Some n
declared_name _ = None

-- the variables that a module declares, in order
abbrev pub names_of : List Part → List (List ℕ)
names_of parts = filter_map declared_name parts

abbrev pub is_declared : List (List ℕ) → List ℕ → Bool
is_declared names n = list_any (bytes_eq n) names

abbrev pub is_variable : List (List ℕ) → Tree → Bool
is_variable names (name p (n ∷ [])) = is_declared names n
is_variable names _ = false

-- an expression of constants, declared variables, `!` and `=`; with `next` before a variable where it may stand
abbrev pub is_plain : List (List ℕ) → Bool → Tree → Bool
is_plain names may_next (truth p b) = true
is_plain names may_next (name p path) = is_variable names (name p path)
is_plain names may_next (next p e) = may_next && is_variable names e
is_plain names may_next (one p op1.Not e) = is_plain names may_next e
is_plain names may_next (two p op2.Eq a b) = is_plain names may_next a && is_plain names may_next b
is_plain names may_next _ = false

-- a boolean state variable, or a constraint on the first state or on a step
abbrev pub is_plain_part : List (List ℕ) → Part → Bool
is_plain_part names (variable kind.State n p (plain type.Bool q)) = true
is_plain_part names (constraint section.Init p e) = is_plain names false e
is_plain_part names (constraint section.Trans p e) = is_plain names true e
is_plain_part names _ = false

-- no name comes twice
abbrev pub are_distinct : List (List ℕ) → Bool
are_distinct [] = true
are_distinct (n ∷ names) = not (is_declared names n) && are_distinct names

abbrev pub is_empty : {A : Type 0} → List A → Bool
is_empty [] = true
is_empty (x ∷ xs) = false

-- the module is `main`, has no parameters, and its parts are plain, each name declared once
abbrev pub is_plain_body : Body → Bool
is_plain_body b =
    bytes_eq b.name (codes "main") && is_empty b.params && are_distinct (names_of b.parts)
    && list_all (is_plain_part (names_of b.parts)) b.parts

-- the program is one boolean module
abbrev pub is_plain_program : List Body → Bool
is_plain_program (b ∷ []) = is_plain_body b
is_plain_program _ = false

abbrev pub IsPlain : List Body → Type 0
IsPlain program = is_plain_program program ≡ true
