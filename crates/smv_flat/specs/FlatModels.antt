-- The twins of a flat model and its parts, which hold no pointers, and the way to them.
use Rattle.std.specs.Prelude.{ℕ, List, Option, map}
use Rattle.smv_tree.specs.declared.place.Place.{Place}
use Rattle.smv_tree.specs.declared.formula.FormOp.{FormOp}
use Rattle.smv_tree.specs.declared.program.Section.{Section}
use Rattle.smv_tree.specs.Models.{Claim, formula_claim}
use Rattle.smv_meaning.specs.Instances.{Variable}
use Rattle.smv_meaning.specs.FlatTrees.{Flat}
use Rattle.smv_flat.specs.Views.{flat_tree}
use Rattle.smv_flat.specs.declared.flat_formula.FlatFormula.{FlatFormula, FlatFormula-F, fold-FlatFormula}
use Rattle.smv_flat.specs.declared.flat_model.FlatVar.{FlatVar}
use Rattle.smv_flat.specs.declared.flat_model.FlatDef.{FlatDef}
use Rattle.smv_flat.specs.declared.flat_model.Constraint.{Constraint}
use Rattle.smv_flat.specs.declared.flat_model.FlatSpec.{FlatSpec}
use Rattle.smv_flat.specs.declared.flat_model.FlatLists.{FlatLists}

-- a formula over the numbers of a flat model
pub data FlatClaim : Type 0 where
  atom : Flat → FlatClaim
  no : FlatClaim → FlatClaim
  after : FlatClaim → FlatClaim
  always : FlatClaim → FlatClaim
  some_time : FlatClaim → FlatClaim
  both : FormOp → FlatClaim → FlatClaim → FlatClaim

abbrev pub flat_formula_step : FlatFormula-F FlatClaim → FlatClaim
flat_formula_step (FlatFormula-F.Atom e) = atom (flat_tree e)
flat_formula_step (FlatFormula-F.Not a) = no a.value
flat_formula_step (FlatFormula-F.Next a) = after a.value
flat_formula_step (FlatFormula-F.Always a) = always a.value
flat_formula_step (FlatFormula-F.Eventually a) = some_time a.value
flat_formula_step (FlatFormula-F.Two o a b) = both o a.value b.value

-- the twin of a flat formula
abbrev pub flat_claim : FlatFormula → FlatClaim
flat_claim = fold-FlatFormula FlatClaim flat_formula_step

-- a define or a parameter of an instance
pub record FlatDefinition : Type 0 where
  pub path : List (List ℕ)
  pub body : Flat

-- a constraint of the instance of this path; an assignment is one of its right side
pub record FlatConstraint : Type 0 where
  pub section : Section
  pub assigned : Option (List ℕ)
  pub path : List (List ℕ)
  pub place : Place
  pub body : Flat

-- a property of the instance of this path
pub record FlatProperty : Type 0 where
  pub name : Option (List ℕ)
  pub path : List (List ℕ)
  pub claim : Claim
  pub flat : FlatClaim

-- a flat model: its variables and definitions by number; what the first state, each state and each
-- step meet; its properties
pub record FlatModel : Type 0 where
  pub vars : List Variable
  pub defs : List FlatDefinition
  pub inits : List FlatConstraint
  pub invars : List FlatConstraint
  pub steps_to : List FlatConstraint
  pub specs : List FlatProperty

abbrev pub variable_of : FlatVar → Variable
variable_of v = record { path = v.path; kind = v.kind; type = v.ty }

abbrev pub definition_of : FlatDef → FlatDefinition
definition_of d = record { path = d.path; body = flat_tree d.body }

abbrev pub constraint_of : Constraint → FlatConstraint
constraint_of c = record {
  section = c.section;
  assigned = c.assigned;
  path = c.path;
  place = c.place;
  body = flat_tree c.body;
}

abbrev pub property_of : FlatSpec → FlatProperty
property_of s = record {
  name = s.name;
  path = s.path;
  claim = formula_claim s.formula;
  flat = flat_claim s.flat;
}

-- the twin of a flat model
abbrev pub model_of : FlatLists → FlatModel
model_of l = record {
  vars = map variable_of l.vars.items;
  defs = map definition_of l.defs.items;
  inits = map constraint_of l.inits.items;
  invars = map constraint_of l.invars.items;
  steps_to = map constraint_of l.steps_to.items;
  specs = map property_of l.specs.items;
}

-- the bodies of its definitions
abbrev pub bodies_of : FlatModel → List Flat
bodies_of flat = map (λ d. d.body) flat.defs
