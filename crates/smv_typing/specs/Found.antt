-- What is found in the atoms of a formula.
use Rattle.std.specs.Prelude.{◌≡◌, ℕ, List, Option, Some, None}
use Rattle.smv_tree.specs.declared.place.Place.{Place}
use Rattle.smv_tree.specs.Trees.{Tree}
use Rattle.type_fault.specs.declared.fault.TypeFault.{TypeFault}
use Rattle.type_fault.specs.First.{earliest}
use Rattle.smv_typing.specs.declared.standing.Standing.{Standing}
use Rattle.smv_typing.specs.Formulas.{head, own_faults, faults_within}

-- the first of two, if it is there, else the second
abbrev pub first_there : Option TypeFault → Option TypeFault → Option TypeFault
first_there None g = g
first_there (Some f) g = Some f

-- that the first atom at fault as such is found, and the first fault within atoms
pub record Finds (names : List (List ℕ) → Standing) (p : Option Place) (es : List Tree) (r : Option TypeFault × Option TypeFault) : Type 0 where
  pub itself : r.0 ≡ earliest (head (own_faults names p es))
  pub inside : r.1 ≡ earliest (faults_within names es)
