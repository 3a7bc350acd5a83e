-- The modules of a program as a graph: each leads to the modules of its instance variables.
use Rattle.std.specs.Prelude.{◌≡◌, ◌<◌, ℕ, List, Contains, Option, Some, None, map, length, position, slice_get}
use Rattle.std.specs.Str.{bytes_eq}
use Rattle.std.specs.Map.{lookup}
use Rattle.smv_tree.specs.Models.{Body, Part, variable, instance}
use Rattle.smv_meaning.specs.Instances.{list_of}
use Rattle.smv_meaning.specs.Walks.{IsWalk}

-- the number of the module of an instance variable, if it is there: that of the first of its name
abbrev pub module_number : List Body → Part → Option ℕ
module_number program (variable k n p (instance m q es)) = position (λ b. bytes_eq b.name m) program
module_number program _ = None

-- for each module, what each part of its sections leads to
abbrev pub graph_of : List Body → List (List (Option ℕ))
graph_of program = map (λ b. map (module_number program) b.parts) program

-- the row of a module
abbrev pub row_of : List (List (Option ℕ)) → ℕ → List (Option ℕ)
row_of graph a = list_of (λ row. row) (slice_get graph a)

-- the module of the first number has an instance variable of the module of the second
abbrev pub Leads : List (List (Option ℕ)) → ℕ → ℕ → Type 0
Leads graph a b = Contains (row_of graph a) (Some b)

-- some walk of one step or more leads from the first module to the second
abbrev pub Reaches : List (List (Option ℕ)) → ℕ → ℕ → Type 0
Reaches graph a b = (xs : List ℕ) × IsWalk (Leads graph) a xs b

-- all numbers in the graph are those of modules
abbrev pub IsClosed : List (List (Option ℕ)) → Type 0
IsClosed graph = (a b : ℕ) → Leads graph a b → b < length graph

-- what a part leads to, by a list of names with numbers
abbrev pub target_in : List (List ℕ × ℕ) → Part → Option ℕ
target_in numbers (variable k n p (instance m q es)) = lookup (bytes_eq m) numbers
target_in numbers _ = None

-- the first module of the name has this number
abbrev pub IsNumbered : List Body → List ℕ → ℕ → Type 0
IsNumbered program m a = position (λ b. bytes_eq b.name m) program ≡ Some a
