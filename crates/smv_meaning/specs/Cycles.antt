-- Programs in which names come to an end, and the cycles of definitions by which they don't.
use Rattle.std.specs.Prelude.{◌≡◌, ◌⊎◌, ◌<◌, ℕ, zero, suc, List, [], Contains, Some, slice_get, ⊤, ◌∷◌, ◌++◌, map, reverse}
use Rattle.smv_tree.specs.declared.place.Place.{Place}
use Rattle.smv_tree.specs.Trees.{Tree, name}
use Rattle.smv_tree.specs.Models.{Body}
use Rattle.smv_meaning.specs.Names.{Target, to_variable, to_body, to_instance, to_symbol, to_nothing, resolve}
use Rattle.smv_meaning.specs.Walks.{IsOnCycle, IsTopological}
use Rattle.smv_meaning.specs.FirstCycles.{IsFirstOf, IsFirstCycle}
use Rattle.smv_meaning.specs.Definitions.{Definition, definitions, names_in, Names, Uses}

-- of each path of names in an expression
abbrev pub EachName : (List (List ℕ) → Type 0) → Tree → Type 0
EachName P e = (names : List (List ℕ)) → Contains (names_in e) names → P names

-- of an expression and the instance in which it stands, if a name stands for one
abbrev pub OnBody : (List (List ℕ) → Tree → Type 0) → Target → Type 0
OnBody P (to_body up e) = P up e
OnBody P (to_variable path) = ⊤
OnBody P (to_instance up) = ⊤
OnBody P (to_symbol n) = ⊤
OnBody P to_nothing = ⊤

-- from what a name stands for, names lead through fewer bodies than this to what is no body
abbrev pub Settles : List Body → ℕ → Target → Type 0
Settles program zero t = ⊥
Settles program (suc n) t =
    OnBody (λ up e. EachName (λ names. Settles program n (resolve program up names)) e) t

-- each path of names in each instance comes to an end: no define or parameter is defined by itself,
-- not even through others
abbrev pub IsSettled : List Body → Type 0
IsSettled program = (up names : List (List ℕ)) → (n : ℕ) × Settles program n (resolve program up names)

-- a define or a parameter is defined by itself, maybe through others
abbrev pub HasDefinitionCycle : List Body → Type 0
HasDefinitionCycle program = (d : Definition) × IsOnCycle (Uses program) d

-- a definition is only a name of an instance, which has no values
pub record IsInstanceName (program : List Body) (d : Definition) : Type 0 where
  pub place : Place
  pub names : List (List ℕ)
  pub up : List (List ℕ)
  pub only : d.body ≡ name place names
  pub stands : resolve program d.around names ≡ to_instance up

-- a definition is among these, or it is a name of an instance, which need not be
abbrev pub IsAmong : List Body → List Definition → Definition → Type 0
IsAmong program defs d = Contains defs d ⊎ IsInstanceName program d

-- a list has each definition of a program once, all of them but for names of instances, and nothing else
pub record AreListed (program : List Body) (defs : List Definition) : Type 0 where
  pub once : (i j : ℕ) (d : Definition) → slice_get defs i ≡ Some d → slice_get defs j ≡ Some d → i ≡ j
  pub complete : (d : Definition) → Contains (definitions program) d → IsAmong program defs d
  pub nothing_else : (d : Definition) → Contains defs d → Contains (definitions program) d

-- an order of the definitions of a program in which each uses only earlier ones and names of instances
pub record IsOrder (program : List Body) (order : List Definition) : Type 0 where
  pub ordered : IsTopological (Uses program) (IsAmong program) [] order
  pub listed : AreListed program order

-- of the names in the body of a definition, one that names the first of two others stands before
-- each that names the second
pub record UsesBefore (program : List Body) (d e f : Definition) : Type 0 where
  pub number : ℕ
  pub names : List (List ℕ)
  pub stands : slice_get (names_in d.body) number ≡ Some names
  pub named : Names program d.around names e
  pub later : (j : ℕ) (other : List (List ℕ)) → slice_get (names_in d.body) j ≡ Some other
      → Names program d.around other f → number < j

-- the cycle of definitions that is named: the first of the shortest ones through the first
-- definition that lies on one, with what stands between
pub record IsDefinitionCycle (program : List Body) (d : Definition) (between : List Definition) : Type 0 where
  pub through : IsFirstOf (IsOnCycle (Uses program)) (definitions program) d
  pub cycle : IsFirstCycle (Uses program) (UsesBefore program) d between

-- the path of a definition, from the main module
abbrev pub definition_path : Definition → List (List ℕ)
definition_path d = reverse (d.name ∷ d.up)

-- a cycle of definitions as it is told: with its first definition at both ends, at the place of
-- that definition's name
pub record IsToldDefinitionCycle (program : List Body) (place : Place) (paths : List (List (List ℕ)))
    : Type 0 where
  pub first : Definition
  pub between : List Definition
  pub cycle : IsDefinitionCycle program first between
  pub at_it : place ≡ first.place
  pub told : paths ≡ map definition_path (first ∷ (between ++ first ∷ []))
