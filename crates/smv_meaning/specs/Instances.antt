-- The instances of a program and their variables.
use Rattle.std.specs.Prelude.{ℕ, zero, suc, List, [], ◌∷◌, ◌++◌, length, codes, Option, Some, None, if◌then◌else◌, flat_map, filter_map}
use Rattle.std.specs.Str.{bytes_eq}
use Rattle.smv_tree.specs.Trees.{Tree}
use Rattle.smv_tree.specs.Models.{Body, Part, variable, plain, instance}
use Rattle.smv_tree.specs.declared.program.Kind.{Kind}
use Rattle.smv_tree.specs.declared.value.Ty.{Ty}

-- an instance of a module: its path from the main module, the same names from the innermost
-- outwards, and the actual parameters, which stand in the instance around it
pub record Instance : Type 0 where
  pub path : List (List ℕ)
  pub up : List (List ℕ)
  pub body : Body
  pub actuals : List Tree

-- a variable of an instance
pub record Variable : Type 0 where
  pub path : List (List ℕ)
  pub kind : Kind
  pub type : Ty

-- what a program brings
pub data Entry : Type 0 where
  is_instance : Instance → Entry
  is_variable : Variable → Entry

-- the first module of a name
abbrev pub find_body : List ℕ → List Body → Option Body
find_body name [] = None
find_body name (b ∷ bs) = if bytes_eq b.name name then Some b else find_body name bs

-- what an option holds turned into a list, and nothing where it holds nothing
abbrev pub list_of : {A B : Type 0} → (A → List B) → Option A → List B
list_of f None = []
list_of f (Some x) = f x

-- what a declaration brings in an instance; below gives what an instance variable brings
abbrev pub part_entries : (List (List ℕ) → List (List ℕ) → List ℕ → List Tree → List Entry)
    → List (List ℕ) → List (List ℕ) → Part → List Entry
part_entries below path up (variable kind n p (plain type q)) =
    is_variable (record { path = path ++ n ∷ []; kind = kind; type = type }) ∷ []
part_entries below path up (variable kind n p (instance m q actuals)) =
    below (path ++ n ∷ []) (n ∷ up) m actuals
part_entries below path up _ = []

-- an instance and all that it brings, depth first in the order of the text, down to this depth
abbrev pub entries_below : ℕ → List Body → List (List ℕ) → List (List ℕ) → List ℕ → List Tree → List Entry
entries_below zero program path up m actuals = []
entries_below (suc depth) program path up m actuals =
    list_of
    (λ body. is_instance (record { path = path; up = up; body = body; actuals = actuals })
    ∷ flat_map (part_entries (entries_below depth program) path up) body.parts)
    (find_body m program)

-- all that a program brings. Where no module contains itself, instances are nested no deeper than
-- there are modules
abbrev pub entries : List Body → List Entry
entries program = entries_below (length program) program [] [] (codes "main") []

abbrev pub instance_of : Entry → Option Instance
instance_of (is_instance i) = Some i
instance_of (is_variable v) = None

abbrev pub variable_of : Entry → Option Variable
variable_of (is_instance i) = None
variable_of (is_variable v) = Some v

-- the instances of a program, in order
abbrev pub instances : List Body → List Instance
instances program = filter_map instance_of (entries program)

-- the variables of a program, in order
abbrev pub variables : List Body → List Variable
variables program = filter_map variable_of (entries program)
