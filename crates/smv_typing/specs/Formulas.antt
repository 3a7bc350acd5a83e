-- What is wrong in a formula.
use Rattle.std.specs.Prelude.{ℕ, List, [], ◌∷◌, ◌++◌, Option, Some, None, Ok, Err, flat_map}
use Rattle.smv_tree.specs.declared.place.Place.{Place}
use Rattle.smv_tree.specs.Trees.{Tree}
use Rattle.smv_tree.specs.Models.{Claim, atom, no, after, always, some_time, both}
use Rattle.smv_kinds.specs.declared.typing.Typing.{Typing}
use Rattle.smv_kinds.specs.Nodes.{constraint_fault}
use Rattle.type_fault.specs.declared.fault.TypeFault.{TypeFault}
use Rattle.smv_typing.specs.declared.standing.Standing.{Standing}
use Rattle.smv_typing.specs.Judging.{Judgement, judged}
use Rattle.smv_typing.specs.Uses.{listed, of_state, place_in}

-- the atoms of a formula, in the order of the text
unfoldable pub atoms : Claim → List Tree
atoms (atom e) = e ∷ []
atoms (no f) = atoms f
atoms (after f) = atoms f
atoms (always f) = atoms f
atoms (some_time f) = atoms f
atoms (both o f g) = atoms f ++ atoms g

-- the place of an atom's own fault: that of the property's section word, or where there is none the atom's
abbrev pub atom_place : Option Place → Tree → Place
atom_place (Some p) e = p
atom_place None e = place_in e

-- that an atom is no single boolean
abbrev pub own : Place → Judgement Typing → List TypeFault
own p (Ok t) = listed p (constraint_fault t)
own p (Err fs) = []

-- what is wrong in an atom
abbrev pub within : Judgement Typing → List TypeFault
within (Ok t) = []
within (Err fs) = fs

-- those of several
abbrev pub own_faults : (List (List ℕ) → Standing) → Option Place → List Tree → List TypeFault
own_faults names p es = flat_map (λ e. own (atom_place p e) (judged names of_state e)) es

abbrev pub faults_within : (List (List ℕ) → Standing) → List Tree → List TypeFault
faults_within names es = flat_map (λ e. within (judged names of_state e)) es

-- of a list what it begins with
abbrev pub head : List TypeFault → List TypeFault
head [] = []
head (f ∷ fs) = f ∷ []

-- of the atoms that are no single booleans the first in the text is told, since all have one place
unfoldable pub formula_faults : (List (List ℕ) → Standing) → Option Place → Claim → List TypeFault
formula_faults names p f = head (own_faults names p (atoms f)) ++ faults_within names (atoms f)
