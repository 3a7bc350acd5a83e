-- The fault that tells of a module that contains itself.
use Rattle.std.specs.Prelude.{◌≡◌, ℕ, List, ◌∷◌, ◌++◌, [], Some, map, slice_get}
use Rattle.smv_tree.specs.Models.{Body}
use Rattle.smv_meaning.specs.Instances.{list_of}
use Rattle.smv_meaning.specs.ModuleCycles.{IsToldModuleCycle}
use Rattle.type_fault.specs.declared.fault.TypeFault.{TypeFault}
use Rattle.type_fault.specs.declared.fault.TypeFault.TheVariants as faults

-- the name of the module of a number
abbrev pub name_of : List Body → ℕ → List ℕ
name_of program a = list_of (λ b. b.name) (slice_get program a)

-- it tells of the cycle through the module of this number, with these between
abbrev pub TellsOf : List Body → ℕ → List ℕ → TypeFault → Type 0
TellsOf program number between f =
    (b : Body) × (slice_get program number ≡ Some b)
    × (f ≡ faults.Contains b.place (b.name ∷ (map (name_of program) between ++ b.name ∷ [])))

-- the cycle of modules that is told, with its place
abbrev pub IsCycleFault : List Body → TypeFault → Type 0
IsCycleFault program (faults.Contains place names) = IsToldModuleCycle program place names
IsCycleFault program _ = ⊥
