-- What is wrong with the instances that the modules reached from main have.
use Rattle.std.specs.Prelude.{◌≡◌, ◌⊎◌, ℕ, ◌==◌, not, ◌&&◌, List, [], ◌∷◌, ◌++◌, length, flat_map, codes, Option, Some, None, if◌then◌else◌}
use Rattle.std.specs.Str.{bytes_eq}
use Rattle.smv_tree.specs.declared.place.Place.{Place}
use Rattle.smv_tree.specs.Models.{Body, Part, variable, instance}
use Rattle.smv_meaning.specs.Instances.{find_body}
use Rattle.smv_meaning.specs.ModuleCycles.{IsReached}
use Rattle.type_fault.specs.declared.fault.TypeFault.{TypeFault}
use Rattle.type_fault.specs.declared.fault.TypeFault.TheVariants.{Unknown, Arity}

-- of a list, exactly those elements of which something holds, in their order
abbrev pub AreThoseOf : {A : Type 0} → (A → Type 0) → List A → List A → Type 0
AreThoseOf holds [] some = some ≡ []
AreThoseOf {A} holds (x ∷ xs) some =
    (holds x × ((rest : List A) × (some ≡ x ∷ rest) × AreThoseOf holds xs rest))
    ⊎ ((¬ holds x) × AreThoseOf holds xs some)

-- an instance of this module gets so many actual parameters: the module is not there, or has not so many
abbrev pub reference_faults : List ℕ → Place → ℕ → Option Body → List TypeFault
reference_faults m place given None = Unknown place (m ∷ []) ∷ []
reference_faults m place given (Some b) = if length b.params == given then [] else Arity place ∷ []

abbrev pub part_faults : List Body → Part → List TypeFault
part_faults program (variable k n p (instance m place actuals)) =
    reference_faults m place (length actuals) (find_body m program)
part_faults program _ = []

-- the main module has no parameters
abbrev pub main_faults : Body → List TypeFault
main_faults b =
    if bytes_eq b.name (codes "main") && not (length b.params == 0) then Arity b.place ∷ [] else []

abbrev pub references_in : List Body → Body → List TypeFault
references_in program b = main_faults b ++ flat_map (part_faults program) b.parts

-- the faults of all references to modules, in the modules that main reaches
pub record AreReferenceFaults (program : List Body) (faults : List TypeFault) : Type 0 where
  pub reached : List Body
  pub are_reached : AreThoseOf (λ b. IsReached program b.name) program reached
  pub listed : faults ≡ flat_map (references_in program) reached
