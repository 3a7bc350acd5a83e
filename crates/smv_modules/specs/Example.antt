-- Worked examples of names that are declared twice.
use Rattle.std.specs.Prelude.{ℕ, List, [], ◌∷◌, codes}
use Rattle.smv_tree.specs.declared.place.Place.{Place}
use Rattle.smv_tree.specs.declared.program.Kind.TheVariants as kind
use Rattle.smv_tree.specs.declared.value.Ty.TheVariants as type
use Rattle.smv_tree.specs.declared.value.Value.TheVariants.{Sym}
use Rattle.smv_tree.specs.Models.{Body, variable, plain}

abbrev pub at_column : ℕ → Place
at_column n = record { line = 1; column = n }

abbrev pub x : List ℕ
x = codes "x"

-- MODULE main VAR x : boolean; x : boolean;
abbrev pub variable_twice : List Body
variable_twice = record {
  name = codes "main";
  place = at_column 8;
  params = [];
  parts = variable kind.State x (at_column 17) (plain type.Bool (at_column 21))
      ∷ variable kind.State x (at_column 30) (plain type.Bool (at_column 34)) ∷ [];
} ∷ []

-- MODULE main(x) VAR x : {a, b, a};
abbrev pub parameter_and_value : List Body
parameter_and_value = record {
  name = codes "main";
  place = at_column 8;
  params = record { name = x; place = at_column 13 } ∷ [];
  parts = variable kind.State x (at_column 20)
      (plain (type.Enum (Sym (codes "a") ∷ Sym (codes "b") ∷ Sym (codes "a") ∷ [])) (at_column 24)) ∷ [];
} ∷ []
