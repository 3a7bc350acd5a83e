-- What a path of names stands for in an instance.
use Rattle.std.specs.Prelude.{ℕ, Bool, true, false, List, [], ◌∷◌, ◌++◌, codes, Option, Some, None, if◌then◌else◌, find, position, slice_get}
use Rattle.std.specs.List.{list_any}
use Rattle.std.specs.Str.{bytes_eq}
use Rattle.smv_tree.specs.Trees.{Tree, name}
use Rattle.smv_tree.specs.Models.{Body, Part, variable, define, plain, instance}
use Rattle.smv_tree.specs.declared.value.Value.{Value}
use Rattle.smv_tree.specs.declared.value.Value.TheVariants.{Sym}
use Rattle.smv_tree.specs.declared.value.Ty.TheVariants.{Enum}
use Rattle.smv_meaning.specs.Instances.{Instance, instances}

-- what a path of names stands for
pub data Target : Type 0 where
  -- the variable of this path
  to_variable : List (List ℕ) → Target
  -- an expression, which stands in the instance of these names from the innermost outwards
  to_body : List (List ℕ) → Tree → Target
  -- the instance of these names
  to_instance : List (List ℕ) → Target
  -- a symbol
  to_symbol : List ℕ → Target
  to_nothing : Target

-- the lists of names are the same
abbrev pub same_names : List (List ℕ) → List (List ℕ) → Bool
same_names [] [] = true
same_names (a ∷ as_) (b ∷ bs) = if bytes_eq a b then same_names as_ bs else false
same_names _ _ = false

-- the instance of these names from the innermost outwards
abbrev pub instance_at : List Instance → List (List ℕ) → Option Instance
instance_at all up = find (λ i. same_names i.up up) all

-- what a declaration makes of a name, if it declares it
abbrev pub declared : List (List ℕ) → List (List ℕ) → List ℕ → Part → Option Target
declared path up n (variable kind m p (plain type q)) =
    if bytes_eq m n then Some (to_variable (path ++ m ∷ [])) else None
declared path up n (variable kind m p (instance b q actuals)) =
    if bytes_eq m n then Some (to_instance (m ∷ up)) else None
declared path up n (define m p e) = if bytes_eq m n then Some (to_body up e) else None
declared path up n _ = None

-- the first of two, if it is there, else the second
abbrev pub or_else : {A : Type 0} → Option A → A → A
or_else None b = b
or_else (Some a) b = a

-- what the declarations of a module make of a name
abbrev pub member_of : List (List ℕ) → List (List ℕ) → List ℕ → List Part → Target → Target
member_of path up n [] other = other
member_of path up n (part ∷ parts) other = or_else (declared path up n part) (member_of path up n parts other)

abbrev pub is_symbol : List ℕ → Value → Bool
is_symbol n (Sym m) = bytes_eq m n
is_symbol n _ = false

abbrev pub names_symbol : List ℕ → Part → Bool
names_symbol n (variable kind m p (plain (Enum values) q)) = list_any (is_symbol n) values
names_symbol n _ = false

-- a symbol of an enumeration anywhere in the program
abbrev pub symbol_of : List Body → List ℕ → Target
symbol_of program n =
    if list_any (λ b. list_any (names_symbol n) b.parts) program then to_symbol n else to_nothing

-- what an actual parameter stands for: another name's target in the instance around, or an expression there
abbrev pub actual_target : List (List ℕ) → (List (List ℕ) → Target) → Tree → Target
actual_target around resolve (name p names) = resolve names
actual_target around resolve e = to_body around e

-- what a first name stands for: a parameter, a declaration, `self`, or a symbol
abbrev pub first_target : List Body → (Tree → Target) → Instance → List ℕ → Target
first_target program actual i n =
    elim (position (λ f. bytes_eq f.name n) i.body.params) [
      | Some k ↦ or_else (elim (slice_get i.actuals k) [ Some e ↦ Some (actual e) | None ↦ None ]) to_nothing
      | None ↦ member_of i.path i.up n i.body.parts
          (if bytes_eq (codes "self") n then to_instance i.up else symbol_of program n)
    ]

-- what further names stand for behind an instance: its variables, instances and defines
abbrev pub follow : List Instance → Target → List (List ℕ) → Target
follow all t [] = t
follow all (to_instance up) (n ∷ rest) =
    elim (instance_at all up) [
      | Some i ↦ follow all (member_of i.path i.up n i.body.parts to_nothing) rest
      | None ↦ to_nothing
    ]
follow all t (n ∷ rest) = to_nothing

abbrev pub resolve_from : List Body → (Tree → Target) → List (List ℕ) → List (List ℕ) → Target
resolve_from program actual up [] = to_nothing
resolve_from program actual up (n ∷ rest) =
    elim (instance_at (instances program) up) [
      | Some i ↦ follow (instances program) (first_target program actual i n) rest
      | None ↦ to_nothing
    ]

-- what a path of names stands for in the instance of these names from the innermost outwards; the
-- main module has no parameters
abbrev pub resolve : List Body → List (List ℕ) → List (List ℕ) → Target
resolve program [] = resolve_from program (λ _. to_nothing) []
resolve program (n ∷ around) =
    resolve_from program (actual_target around (resolve program around)) (n ∷ around)
