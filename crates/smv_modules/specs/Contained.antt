-- The first module that contains itself.
use Rattle.std.specs.Prelude.{◌≡◌, ℕ, List, Some, slice_get}
use Rattle.smv_tree.specs.Models.{Body}
use Rattle.smv_meaning.specs.Instances.{find_body}
use Rattle.smv_meaning.specs.FirstCycles.{IsFirstOf}
use Rattle.smv_meaning.specs.ModuleCycles.{ContainsItself, module_names}
use Rattle.smv_graph.specs.Graph.{IsNumbered}

-- the number of the first declared module that main reaches and that contains itself
pub record IsFirstContained (program : List Body) (number : ℕ) : Type 0 where
  pub first : Body
  pub there : slice_get program number ≡ Some first
  pub numbered : IsNumbered program first.name number
  pub found : find_body first.name program ≡ Some first
  pub through : IsFirstOf (ContainsItself program) (module_names program) first.name
