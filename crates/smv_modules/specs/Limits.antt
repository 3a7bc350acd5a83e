-- How many instances a program may have, and how deep they may be nested.
use Rattle.std.specs.Prelude.{◌≡◌, ◌<◌, ◌≤◌, ℕ, List, length, Contains, ⊤}
use Rattle.smv_tree.specs.Models.{Body}
use Rattle.smv_meaning.specs.Instances.{Instance, instances}
use Rattle.smv_meaning.specs.FirstCycles.{IsFirstOf}
use Rattle.type_fault.specs.declared.fault.TypeFault.{TypeFault}
use Rattle.type_fault.specs.declared.fault.TypeFault.TheVariants as faults

-- there are at most 100,000 instances, each with a path of at most 64 names
pub record IsWithinLimits (program : List Body) : Type 0 where
  pub few : length (instances program) ≤ 100000
  pub shallow : (i : Instance) → Contains (instances program) i → length i.path ≤ 64

-- the path of the first instance that has 65 names, depth first
pub record IsFirstDeep (program : List Body) (path : List (List ℕ)) : Type 0 where
  pub instance : Instance
  pub first : IsFirstOf (λ (i : Instance). length i.path ≡ 65) (instances program) instance
  pub told : path ≡ instance.path

-- why the instances of a program are not listed: there are too many, or not too many, but one is too deep
abbrev pub IsLimitFault : List Body → TypeFault → Type 0
IsLimitFault program faults.Instances = 100000 < length (instances program)
IsLimitFault program (faults.Deep path) = (length (instances program) ≤ 100000) × IsFirstDeep program path
IsLimitFault program (faults.NoMemory e) = ⊤
IsLimitFault program _ = ⊥
