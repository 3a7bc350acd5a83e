-- What is wrong with the types of a program, where names stand for these.
use Rattle.std.specs.Prelude.{ℕ, Bool, List, [], ◌∷◌, ◌++◌, Option, Some, None, flat_map}
use Rattle.smv_tree.specs.declared.place.Place.{Place}
use Rattle.smv_tree.specs.declared.program.Moment.{Moment}
use Rattle.smv_tree.specs.Trees.{Tree}
use Rattle.smv_tree.specs.Models.{Body, Part, variable, define, assign, constraint, property, plain, instance}
use Rattle.smv_meaning.specs.Instances.{Instance, instances}
use Rattle.type_fault.specs.declared.fault.TypeFault.{TypeFault}
use Rattle.smv_typing.specs.declared.standing.Standing.{Standing}
use Rattle.smv_typing.specs.Uses.{constraint_faults, body_faults, actual_faults, assignment_faults, type_faults}
use Rattle.smv_typing.specs.Formulas.{formula_faults}
use Rattle.smv_types.specs.declared.variable.VariableType.{VariableType}
use Rattle.smv_types.specs.Standings.{Standings}
use Rattle.smv_types.specs.Assigning.{variable_named, is_again}

module _ (names : List (List ℕ) → Standing) where
  -- an assignment to this variable; that there is no such variable is told of unknown names
  abbrev pub assigned_faults : Option VariableType → Bool → Moment → Place → List ℕ → Tree → List TypeFault
  assigned_faults None again m p n e = []
  assigned_faults (Some v) again m p n e =
      assignment_faults names (record { sort = v.sort; kind = v.kind; again = again }) m p n e

  -- a part of a module with these variables; again says whether an earlier assignment excludes it
  abbrev pub part_faults : (List ℕ → Option VariableType) → Bool → Part → List TypeFault
  part_faults variables again (variable k n p (plain t q)) = type_faults q t
  part_faults variables again (variable k n p (instance m q es)) = flat_map (actual_faults names) es
  part_faults variables again (define n p e) = body_faults names e
  part_faults variables again (assign m n p e) = assigned_faults (variables n) again m p n e
  part_faults variables again (constraint c p e) = constraint_faults names c p e
  part_faults variables again (property n p f) = formula_faults names (Some p) f

  -- parts one behind the other, behind those before
  abbrev pub parts_faults : (List ℕ → Option VariableType) → List Part → List Part → List TypeFault
  parts_faults variables before [] = []
  parts_faults variables before (part ∷ parts) =
      part_faults variables (is_again before part) part ++ parts_faults variables (before ++ part ∷ []) parts

-- those of an instance
abbrev pub instance_faults : Standings → Instance → List TypeFault
instance_faults s i = parts_faults (s i.up) (variable_named i.body.parts) [] i.body.parts

-- those of all instances, in their order
abbrev pub typing_faults : List Body → Standings → List TypeFault
typing_faults program s = flat_map (instance_faults s) (instances program)
