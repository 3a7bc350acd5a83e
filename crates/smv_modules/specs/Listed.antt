-- Instances that are listed from their nodes.
use Rattle.std.specs.Prelude.{◌≡◌, ◌<◌, ◌≤◌, ℕ, List, [], ◌∷◌, ◌++◌, length, Option, Some, None, slice_get}
use Rattle.smv_modules.specs.declared.nodes.Node.{Node}
use Rattle.smv_modules.specs.declared.instances.Instance.{Instance}

-- the path of an instance by its name and the number of the instance around it, which is among these
abbrev pub IsPathIn : List Instance → Option (List ℕ) → ℕ → List (List ℕ) → Type 0
IsPathIn some None k path = path ≡ []
IsPathIn some (Some n) k path = (i : Instance) × (slice_get some k ≡ Some i) × (path ≡ i.path ++ n ∷ [])

-- the instance around a node is among these
abbrev pub StandsIn : List Instance → Node → Type 0
StandsIn some node = (n : List ℕ) → node.name ≡ Some n → node.parent < length some

-- the instance of a node
pub record IsOf (some : List Instance) (node : Node) (i : Instance) : Type 0 where
  pub path : IsPathIn some node.name node.parent i.path
  pub number : i.module_number ≡ node.number
  pub parent : i.parent ≡ node.parent
  pub shallow : length i.path ≤ 64

-- the instance of a node is listed behind these, or its path has more than 64 names
abbrev pub Lists : List Instance → Node → Option (List (List ℕ)) → List Instance → Type 0
Lists some node None new = (i : Instance) × (new ≡ some ++ i ∷ []) × IsOf some node i
Lists some node (Some path) new = IsPathIn some node.name node.parent path × (64 < length path)
