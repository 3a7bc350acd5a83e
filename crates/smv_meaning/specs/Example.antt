-- A worked example: a ring of two cells, in which each takes over what the other shows.
--
--   MODULE main
--   VAR a : cell(b.off); b : cell(a.v);
--
--   MODULE cell(p)
--   VAR v : boolean;
--   DEFINE off := !v;
--   ASSIGN init(v) := FALSE; next(v) := p;
use Rattle.std.specs.Prelude.{ℕ, Bool, true, false, List, [], ◌∷◌, codes, None}
use Rattle.smv_tree.specs.declared.place.Place.{Place}
use Rattle.smv_tree.specs.declared.expr.Op1.TheVariants as op
use Rattle.smv_tree.specs.declared.program.Kind.TheVariants as kind
use Rattle.smv_tree.specs.declared.program.Moment.TheVariants as moment
use Rattle.smv_tree.specs.declared.value.Ty.TheVariants as type
use Rattle.smv_tree.specs.declared.value.Value.{Value}
use Rattle.smv_tree.specs.declared.value.Value.TheVariants.{Truth}
use Rattle.smv_tree.specs.Trees.{Tree, truth, name, one}
use Rattle.smv_tree.specs.Models.{Body, Claim, variable, define, assign, plain, instance, atom, always, some_time}
use Rattle.smv_meaning.specs.Marks.{MarkedRun}

-- all parts of the example have one place
abbrev pub here : Place
here = record { line = 1; column = 1 }

abbrev pub a : List ℕ
a = codes "a"

abbrev pub b : List ℕ
b = codes "b"

abbrev pub p : List ℕ
p = codes "p"

abbrev pub v : List ℕ
v = codes "v"

abbrev pub off : List ℕ
off = codes "off"

abbrev pub path : List (List ℕ) → Tree
path names = name here names

abbrev pub cell : Body
cell = record {
  name = codes "cell";
  place = here;
  params = record { name = p; place = here } ∷ [];
  parts =
      variable kind.State v here (plain type.Bool here)
      ∷ define off here (one here op.Not (path (v ∷ [])))
      ∷ assign moment.First v here (truth here false)
      ∷ assign moment.Next v here (path (p ∷ []))
      ∷ [];
}

abbrev pub main : Body
main = record {
  name = codes "main";
  place = here;
  params = [];
  parts =
      variable kind.State a here (instance (codes "cell") here (path (b ∷ off ∷ []) ∷ []))
      ∷ variable kind.State b here (instance (codes "cell") here (path (a ∷ v ∷ []) ∷ []))
      ∷ [];
}

abbrev pub ring : List Body
ring = main ∷ cell ∷ []

-- the state in which the variables of a and of b have these values
abbrev pub showing : Bool → Bool → List Value
showing x y = Truth x ∷ Truth y ∷ []

-- once around: the last state is the first again
abbrev pub once_around : List (List Value)
once_around =
    showing false false ∷ showing true false ∷ showing true true ∷ showing false true
    ∷ showing false false ∷ []

-- b.off
abbrev pub is_off : Tree
is_off = path (b ∷ off ∷ [])

-- G F b.off
abbrev pub off_again_and_again : Claim
off_again_and_again = always (some_time (atom is_off))

-- the path of three states at whose end b.off is false
abbrev pub until_on : MarkedRun
until_on = record {
  states = showing false false ∷ showing true false ∷ showing true true ∷ [];
  inputs = [] ∷ [] ∷ [];
  mark = None;
}
