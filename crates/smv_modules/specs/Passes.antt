-- The passes over names, over the modules that main reaches, and over instances: the first with a fault decides.
use Rattle.std.specs.Prelude.{◌≡◌, List, [], ◌∷◌, ◌++◌}
use Rattle.std.specs.declared.alloc.AllocError.{AllocError}
use Rattle.smv_tree.specs.Models.{Body}
use Rattle.smv_meaning.specs.ModuleCycles.{HasModuleCycle}
use Rattle.type_fault.specs.declared.fault.TypeFault.{TypeFault}
use Rattle.type_fault.specs.declared.fault.TypeFault.TheVariants.{NoMemory}
use Rattle.type_fault.specs.First.{IsFirst}
use Rattle.smv_modules.specs.Declarations.{name_faults}
use Rattle.smv_modules.specs.References.{AreReferenceFaults}
use Rattle.smv_modules.specs.CycleFaults.{IsCycleFault}
use Rattle.smv_modules.specs.Limits.{IsWithinLimits, IsLimitFault}

-- one cycle is told where a module contains itself, and else none
abbrev pub AreCycleFaults : List Body → List TypeFault → Type 0
AreCycleFaults program [] = ¬ HasModuleCycle program
AreCycleFaults program (f ∷ []) = IsCycleFault program f
AreCycleFaults program _ = ⊥

-- the faults of the modules that main reaches: those of their references, and the cycle that is told
pub record AreReachedFaults (program : List Body) (faults : List TypeFault) : Type 0 where
  pub references : List TypeFault
  pub cycle : List TypeFault
  pub are_references : AreReferenceFaults program references
  pub are_cycles : AreCycleFaults program cycle
  pub listed : faults ≡ references ++ cycle

-- no pass has a fault
pub record AreModulesRight (program : List Body) : Type 0 where
  pub names : name_faults program ≡ []
  pub reached : AreReachedFaults program []
  pub limits : IsWithinLimits program

-- the first fault of the first pass that has one, or that memory was refused
pub data IsModuleFault (program : List Body) (f : TypeFault) : Type 0 where
  of_names : IsFirst (name_faults program) f → IsModuleFault program f
  of_reached : (faults : List TypeFault) → name_faults program ≡ [] → AreReachedFaults program faults
      → IsFirst faults f → IsModuleFault program f
  of_limits : name_faults program ≡ [] → AreReachedFaults program [] → IsLimitFault program f
      → IsModuleFault program f
  of_memory : (e : AllocError) → f ≡ NoMemory e → IsModuleFault program f
