-- Modules that contain themselves.
use Rattle.std.specs.Prelude.{◌≡◌, ◌⊎◌, ℕ, List, [], ◌∷◌, ◌++◌, Contains, codes, Option, Some, None, map, filter_map}
use Rattle.std.specs.List.{IsDistinct}
use Rattle.std.specs.Str.{bytes_eq}
use Rattle.smv_tree.specs.declared.place.Place.{Place}
use Rattle.smv_tree.specs.Models.{Body, Part, variable, instance}
use Rattle.smv_meaning.specs.Instances.{find_body, list_of}
use Rattle.smv_meaning.specs.Walks.{IsWalk, IsOnCycle, IsTopological}
use Rattle.smv_meaning.specs.FirstCycles.{IsFirstOf, StandsBefore, IsFirstCycle}

-- the module of an instance variable
abbrev pub module_of : Part → Option (List ℕ)
module_of (variable k n p (instance m q actuals)) = Some m
module_of _ = None

-- the module of the first name has an instance variable of the module of the second
abbrev pub Instantiates : List Body → List ℕ → List ℕ → Type 0
Instantiates program m n = Contains (list_of (λ b. filter_map module_of b.parts) (find_body m program)) n

-- a module is main, or stands in it, maybe within others
abbrev pub IsReached : List Body → List ℕ → Type 0
IsReached program m =
    (m ≡ codes "main") ⊎ ((xs : List (List ℕ)) × IsWalk (Instantiates program) (codes "main") xs m)

-- a module that is reached from main contains itself, maybe through others
abbrev pub ContainsItself : List Body → List ℕ → Type 0
ContainsItself program m = IsReached program m × IsOnCycle (Instantiates program) m

abbrev pub HasModuleCycle : List Body → Type 0
HasModuleCycle program = (m : List ℕ) × ContainsItself program m

-- the names of the modules, as they are declared
abbrev pub module_names : List Body → List (List ℕ)
module_names program = map (λ b. b.name) program

-- an order of declared modules, each once and main among them, in which each has only instances of
-- earlier ones
pub record IsModuleOrder (program : List Body) (order : List (List ℕ)) : Type 0 where
  pub ordered : IsTopological (Instantiates program) Contains [] order
  pub main : Contains order (codes "main")
  pub once : IsDistinct bytes_eq order
  pub declared : (m : List ℕ) → Contains order m → Contains (module_names program) m

-- the cycle of modules that is named: the first of the shortest ones through the first module that
-- lies on one, with what stands between
pub record IsModuleCycle (program : List Body) (m : List ℕ) (between : List (List ℕ)) : Type 0 where
  pub through : IsFirstOf (ContainsItself program) (module_names program) m
  pub cycle : IsFirstCycle (Instantiates program) (λ n. StandsBefore (module_names program)) m between

-- a cycle of modules as it is told: with its first module at both ends, at the place of that module's name
pub record IsToldModuleCycle (program : List Body) (place : Place) (names : List (List ℕ)) : Type 0 where
  pub first : Body
  pub between : List (List ℕ)
  pub found : find_body first.name program ≡ Some first
  pub cycle : IsModuleCycle program first.name between
  pub at_it : place ≡ first.place
  pub told : names ≡ first.name ∷ (between ++ first.name ∷ [])
