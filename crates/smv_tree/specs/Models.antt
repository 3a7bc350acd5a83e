-- The twins of formulas, modules and programs, and the way to them.
use Rattle.std.specs.Prelude.{List, map, Option, ℕ}
use Rattle.smv_tree.specs.declared.place.Place.{Place}
use Rattle.smv_tree.specs.declared.formula.FormOp.{FormOp}
use Rattle.smv_tree.specs.declared.formula.Formula.{Formula, Formula-F, fold-Formula}
use Rattle.smv_tree.specs.declared.program.Kind.{Kind}
use Rattle.smv_tree.specs.declared.program.Moment.{Moment}
use Rattle.smv_tree.specs.declared.program.Section.{Section}
use Rattle.smv_tree.specs.declared.program.TypeSyntax as syntax
use Rattle.smv_tree.specs.declared.program.Item as item
use Rattle.smv_tree.specs.declared.program.Param.{Param}
use Rattle.smv_tree.specs.declared.program.Module.{Module}
use Rattle.smv_tree.specs.declared.program.Program.{Program}
use Rattle.smv_tree.specs.declared.value.Ty.{Ty}
use Rattle.smv_tree.specs.Trees.{Tree, expr_tree}

-- a formula
pub data Claim : Type 0 where
  atom : Tree → Claim
  no : Claim → Claim
  after : Claim → Claim
  always : Claim → Claim
  some_time : Claim → Claim
  both : FormOp → Claim → Claim → Claim

abbrev pub formula_step : Formula-F Claim → Claim
formula_step (Formula-F.Atom e) = atom (expr_tree e)
formula_step (Formula-F.Not a) = no a.value
formula_step (Formula-F.Next a) = after a.value
formula_step (Formula-F.Always a) = always a.value
formula_step (Formula-F.Eventually a) = some_time a.value
formula_step (Formula-F.Two o a b) = both o a.value b.value

-- the twin of a formula
abbrev pub formula_claim : Formula → Claim
formula_claim = fold-Formula Claim formula_step

-- what a variable is declared as
pub data Shape : Type 0 where
  plain : Ty → Place → Shape
  instance : List ℕ → Place → List Tree → Shape

-- what a section holds
pub data Part : Type 0 where
  variable : Kind → List ℕ → Place → Shape → Part
  define : List ℕ → Place → Tree → Part
  assign : Moment → List ℕ → Place → Tree → Part
  constraint : Section → Place → Tree → Part
  property : Option (List ℕ) → Place → Claim → Part

-- a formal parameter and its place
pub record Formal : Type 0 where
  pub name : List ℕ
  pub place : Place

-- a module
pub record Body : Type 0 where
  pub name : List ℕ
  pub place : Place
  pub params : List Formal
  pub parts : List Part

abbrev pub shape_of : syntax.TypeSyntax → Shape
shape_of (syntax.TheVariants.Plain t p) = plain t p
shape_of (syntax.TheVariants.Instance m p es) = instance m p (map expr_tree es.items)

abbrev pub part_of : item.Item → Part
part_of (item.TheVariants.Var k n p t) = variable k n p (shape_of t)
part_of (item.TheVariants.Define n p e) = define n p (expr_tree e)
part_of (item.TheVariants.Assign m n p e) = assign m n p (expr_tree e)
part_of (item.TheVariants.Constraint s p e) = constraint s p (expr_tree e)
part_of (item.TheVariants.Spec n p f) = property n p (formula_claim f)

abbrev pub formal_of : Param → Formal
formal_of p = record { name = p.name; place = p.place }

abbrev pub body_of : Module → Body
body_of m = record { name = m.name; place = m.place; params = map formal_of m.params.items; parts = map part_of m.items.items }

-- the twin of a program: its modules in the order of the text
abbrev pub bodies : Program → List Body
bodies p = map body_of p.modules.items
