-- The instances of a program as the nodes of a tree: each by its name in the instance around it, and by the
-- number of that one.
use Rattle.std.specs.Prelude.{◌≡◌, ◌≤◌, ℕ, List, [], ◌∷◌, ◌++◌, ⊤, Option, Some, None, length, position, reverse, slice_get, flat_map, filter_map}
use Rattle.std.specs.List.{AllZip}
use Rattle.std.specs.Map.{lookup}
use Rattle.std.specs.Str.{bytes_eq}
use Rattle.smv_tree.specs.Trees.{Tree}
use Rattle.smv_tree.specs.Models.{Body, Part, variable, instance}
use Rattle.smv_meaning.specs.Instances.{Instance, instance_of, entries_below, instances}
use Rattle.smv_meaning.specs.ModuleCycles.{IsReached}
use Rattle.smv_graph.specs.Graph.{IsNumbered}
use Rattle.smv_modules.specs.declared.nodes.Node.{Node}

-- the node of an instance of this name, if its module is there
abbrev pub node_of : List ℕ → ℕ → Option ℕ → Option Node
node_of name parent None = None
node_of name parent (Some number) = Some (record { name = Some name; number = number; parent = parent })

-- what a part adds below the instance of a number
abbrev pub node_in : List (List ℕ × ℕ) → ℕ → Part → Option Node
node_in numbers parent (variable k n p (instance m q es)) = node_of n parent (lookup (bytes_eq m) numbers)
node_in numbers parent _ = None

-- an instance has this name in one of these, which has this number; the main one has no name
abbrev pub IsPlaced : List Instance → Option (List ℕ) → ℕ → List (List ℕ) → List (List ℕ) → Type 0
IsPlaced all None k path up = (k ≡ 0) × (path ≡ []) × (up ≡ [])
IsPlaced all (Some n) k path up =
    (j : Instance) × (slice_get all k ≡ Some j) × (path ≡ j.path ++ n ∷ []) × (up ≡ n ∷ j.up)

-- the node of an instance which stands behind these
pub record IsNode (program : List Body) (before : List Instance) (i : Instance) (node : Node) : Type 0 where
  pub first : position (λ b. bytes_eq b.name i.body.name) program ≡ Some node.number
  pub placed : IsPlaced before node.name node.parent i.path i.up

-- a node for each instance, in order
abbrev pub AreNodesBehind : List Body → List Instance → List Instance → List Node → Type 0
AreNodesBehind program before [] [] = ⊤
AreNodesBehind program before (i ∷ all) (node ∷ nodes) =
    IsNode program before i node × AreNodesBehind program (before ++ i ∷ []) all nodes
AreNodesBehind program before _ _ = ⊥

abbrev pub AreNodes : List Body → List Node → Type 0
AreNodes program nodes = AreNodesBehind program [] (instances program) nodes

-- an instance that is still to be listed, with all below it
pub record Waiting : Type 0 where
  pub path : List (List ℕ)
  pub up : List (List ℕ)
  pub of : List ℕ
  pub actuals : List Tree

-- the instances that it brings
abbrev pub brought : List Body → Waiting → List Instance
brought program w =
    filter_map instance_of (entries_below (length program) program w.path w.up w.of w.actuals)

-- the node of an instance that waits while these are listed
pub record IsWaiting (program : List Body) (listed : List Instance) (w : Waiting) (node : Node) : Type 0 where
  pub numbered : IsNumbered program w.of node.number
  pub reached : IsReached program w.of
  pub placed : IsPlaced listed node.name node.parent w.path w.up

-- the nodes of the first instances, and those that wait, the next one last
pub record IsSearch (program : List Body) (nodes waiting : List Node) : Type 0 where
  pub listed : List Instance
  pub waits : List Waiting
  pub are_nodes : AreNodesBehind program [] listed nodes
  pub are_waiting : AllZip (IsWaiting program listed) waits (reverse waiting)
  pub all : instances program ≡ listed ++ flat_map (brought program) waits

-- the nodes of all instances, which are at most 100,000
abbrev pub AreFewNodes : List Body → List Node → Type 0
AreFewNodes program nodes = AreNodes program nodes × (length nodes ≤ 100000)
