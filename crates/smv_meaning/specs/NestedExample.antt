-- A worked example of modules that contain one another.
--
--   MODULE main
--   VAR a : m;
--   MODULE m
--   VAR b : n;
--   MODULE n
--   VAR c : m;
use Rattle.std.specs.Prelude.{ℕ, List, [], ◌∷◌, codes}
use Rattle.smv_tree.specs.declared.place.Place.{Place}
use Rattle.smv_tree.specs.declared.program.Kind.TheVariants as kind
use Rattle.smv_tree.specs.Models.{Body, variable, instance}

abbrev pub at_line : ℕ → Place
at_line n = record { line = n; column = 8 }

-- a module with one variable, an instance of another module
abbrev pub with_one : List ℕ → Place → List ℕ → List ℕ → Body
with_one name place x other = record {
  name = name;
  place = place;
  params = [];
  parts = variable kind.State x place (instance other place []) ∷ [];
}

abbrev pub m : List ℕ
m = codes "m"

abbrev pub n : List ℕ
n = codes "n"

abbrev pub nested : List Body
nested =
    with_one (codes "main") (at_line 1) (codes "a") m ∷ with_one m (at_line 3) (codes "b") n
    ∷ with_one n (at_line 5) (codes "c") m ∷ []
