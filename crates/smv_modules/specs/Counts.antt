-- Modules by their numbers, and how many parameters they have.
use Rattle.std.specs.Prelude.{◌≡◌, ◌⊎◌, ℕ, ◌==◌, List, [], ◌∷◌, length, codes, Option, Some, None, position, if◌then◌else◌}
use Rattle.std.specs.Map.{lookup}
use Rattle.std.specs.Str.{bytes_eq}
use Rattle.smv_tree.specs.declared.place.Place.{Place}
use Rattle.smv_tree.specs.Models.{Body}
use Rattle.smv_meaning.specs.ModuleCycles.{IsReached}
use Rattle.smv_graph.specs.Graph.{graph_of, Reaches, IsNumbered}
use Rattle.type_fault.specs.declared.fault.TypeFault.{TypeFault}
use Rattle.type_fault.specs.declared.fault.TypeFault.TheVariants.{Unknown, Arity}
use Rattle.type_fault.specs.First.{earliest}
use Rattle.smv_modules.specs.References.{references_in}

-- each name has the number of its first module
abbrev pub AreNumbers : List (List ℕ × ℕ) → List Body → Type 0
AreNumbers numbers program = (m : List ℕ) → lookup (bytes_eq m) numbers ≡ position (λ b. bytes_eq b.name m) program

-- how many parameters a module has
abbrev pub count_of : Option Body → Option ℕ
count_of None = None
count_of (Some b) = Some (length b.params)

-- what is wrong with an instance, by the number of parameters of its module
abbrev pub counted_fault : List ℕ → Place → ℕ → Option ℕ → Option TypeFault
counted_fault m place given None = Some (Unknown place (m ∷ []))
counted_fault m place given (Some count) = if count == given then None else Some (Arity place)

-- the number of the main module, or of one that it reaches
abbrev pub IsReachedNumber : List Body → ℕ → Type 0
IsReachedNumber program a =
    (main : ℕ) × IsNumbered program (codes "main") main × ((a ≡ main) ⊎ Reaches (graph_of program) main a)

-- the first fault of a module's references where main reaches it, and else none
abbrev pub IsFaultIfReached : List Body → Body → Option TypeFault → Type 0
IsFaultIfReached program b f =
    (IsReached program b.name × (f ≡ earliest (references_in program b)))
    ⊎ ((¬ IsReached program b.name) × (f ≡ None))
