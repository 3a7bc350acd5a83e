-- What the table of a module's items tells of a name, by the meaning of its declarations.
use Rattle.std.specs.Prelude.{◌≡◌, ℕ, List, [], ◌∷◌, ◌++◌, Option, Some, None, slice_get, filter_map}
use Rattle.smv_tree.specs.declared.place.Place.{Place}
use Rattle.smv_tree.specs.declared.program.Kind.{Kind}
use Rattle.smv_tree.specs.declared.value.Ty.{Ty}
use Rattle.smv_tree.specs.Trees.{Tree}
use Rattle.smv_tree.specs.Models.{Part, variable, define, plain, instance}
use Rattle.smv_meaning.specs.Names.{Target, to_variable, to_body, to_instance}
use Rattle.smv_meaning.specs.Definitions.{define_of}
use Rattle.smv_names.specs.declared.declared.Declared.{Declared}
use Rattle.smv_names.specs.declared.declared.Declared.TheVariants.{Variable, Instance, Define}

module _ (path up : List (List ℕ)) (m : List ℕ) (parts : List Part) (t : Target) where
  -- the item of this number declares a variable of this name, for which the name stands
  pub record TellsVariable (k : ℕ) : Type 0 where
    pub kind : Kind
    pub place : Place
    pub type : Ty
    pub at : Place
    pub item : slice_get parts k ≡ Some (variable kind m place (plain type at))
    pub stands : t ≡ to_variable (path ++ m ∷ [])

  pub record TellsInstance (k : ℕ) : Type 0 where
    pub kind : Kind
    pub place : Place
    pub module_name : List ℕ
    pub at : Place
    pub actuals : List Tree
    pub item : slice_get parts k ≡ Some (variable kind m place (instance module_name at actuals))
    pub stands : t ≡ to_instance (m ∷ up)

  -- the define is this one of the defines in their order
  pub record TellsDefine (k r : ℕ) : Type 0 where
    pub place : Place
    pub body : Tree
    pub item : slice_get parts k ≡ Some (define m place body)
    pub ranked : slice_get (filter_map (define_of up) parts) r
        ≡ Some (record { up = up; name = m; place = place; around = up; body = body })
    pub stands : t ≡ to_body up body

-- what the table tells of a name is what the name stands for behind an instance of this path and these
-- names, and where it tells nothing, the name stands for something else
abbrev pub Tells : List (List ℕ) → List (List ℕ) → List ℕ → List Part → Target → Option Declared → Target → Type 0
Tells path up m parts other None t = t ≡ other
Tells path up m parts other (Some (Variable k)) t = TellsVariable path up m parts t k
Tells path up m parts other (Some (Instance k)) t = TellsInstance path up m parts t k
Tells path up m parts other (Some (Define k r)) t = TellsDefine path up m parts t k r
