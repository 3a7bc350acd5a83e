-- When a line of flat bodies stands for the definitions of a program.
use Rattle.std.specs.Prelude.{◌≡◌, ℕ, ℤ, Bool, List, [], ◌∷◌, ◌++◌, Some, map, slice_get, ⊤}
use Rattle.smv_tree.specs.declared.place.Place.{Place}
use Rattle.smv_tree.specs.declared.expr.Op1.{Op1}
use Rattle.smv_tree.specs.declared.expr.Op2.{Op2}
use Rattle.smv_tree.specs.declared.value.Value.{Value}
use Rattle.smv_tree.specs.Word.{Word}
use Rattle.smv_tree.specs.Trees.{Tree, Trees, Arms}
use Rattle.smv_tree.specs.Trees as tree
use Rattle.smv_tree.specs.Models.{Body}
use Rattle.smv_meaning.specs.Instances.{Variable, variables}
use Rattle.smv_meaning.specs.Names.{to_variable, to_symbol, resolve}
use Rattle.smv_meaning.specs.Values.{Snapshot, variable_values}
use Rattle.smv_meaning.specs.Definitions.{Definition, Names}
use Rattle.smv_meaning.specs.Cycles.{AreListed}
use Rattle.smv_meaning.specs.FlatTrees.{FlatName, slot, def, symbol, Flat, Flats, FlatArms, Numbers, eval}
use Rattle.smv_meaning.specs.FlatTrees as flat

-- a path of names in an instance refers to the variable, the definition of these or the symbol of a flat name
pub data Refers (program : List Body) (defs : List Definition) (up names : List (List ℕ))
    : FlatName → Type 0 where
  to_slot : (k : ℕ) (v : Variable) → slice_get (variables program) k ≡ Some v
      → resolve program up names ≡ to_variable v.path → Refers program defs up names (slot k)
  to_def : (k : ℕ) (d : Definition) → slice_get defs k ≡ Some d → Names program up names d
      → Refers program defs up names (def k)
  to_name : (n : List ℕ) → resolve program up names ≡ to_symbol n → Refers program defs up names (symbol n)

-- an expression in an instance is the flat one, each name referring to that of its place
mutual
  pub data Fits (program : List Body) (defs : List Definition) (up : List (List ℕ))
      : Tree → Flat → Type 0 where
    fits_truth : (p q : Place) (b : Bool) → Fits program defs up (tree.truth p b) (flat.truth q b)
    fits_number : (p q : Place) (n : ℕ) → Fits program defs up (tree.number p n) (flat.number q n)
    fits_word : (p q : Place) (w : Word) → Fits program defs up (tree.word p w) (flat.word q w)
    fits_name : (p q : Place) (names : List (List ℕ)) (x : FlatName) → Refers program defs up names x
        → Fits program defs up (tree.name p names) (flat.name q x)
    fits_span : (p q : Place) (low high : ℤ)
        → Fits program defs up (tree.span p low high) (flat.span q low high)
    fits_set : (p q : Place) (es : Trees) (fs : Flats) → FitAll program defs up es fs
        → Fits program defs up (tree.set p es) (flat.set q fs)
    fits_cases : (p q : Place) (bs : Arms) (cs : FlatArms) → FitArms program defs up bs cs
        → Fits program defs up (tree.cases p bs) (flat.cases q cs)
    fits_choice : (p q : Place) (a b c : Tree) (x y z : Flat) → Fits program defs up a x
        → Fits program defs up b y → Fits program defs up c z
        → Fits program defs up (tree.choice p a b c) (flat.choice q x y z)
    fits_one : (p q : Place) (o : Op1) (a : Tree) (x : Flat) → Fits program defs up a x
        → Fits program defs up (tree.one p o a) (flat.one q o x)
    fits_two : (p q : Place) (o : Op2) (a b : Tree) (x y : Flat) → Fits program defs up a x
        → Fits program defs up b y → Fits program defs up (tree.two p o a b) (flat.two q o x y)
    fits_select : (p q : Place) (a : Tree) (x : Flat) (high low : ℕ) → Fits program defs up a x
        → Fits program defs up (tree.select p a high low) (flat.select q x high low)
    fits_next : (p q : Place) (a : Tree) (x : Flat) → Fits program defs up a x
        → Fits program defs up (tree.next p a) (flat.next q x)
    fits_widen : (p q : Place) (resize : Bool) (a : Tree) (x : Flat) (n : ℕ) → Fits program defs up a x
        → Fits program defs up (tree.widen p resize a n) (flat.widen q resize x n)
    fits_const : (p q : Place) (signed : Bool) (v : ℤ) (n : ℕ)
        → Fits program defs up (tree.const p signed v n) (flat.const q signed v n)
    fits_count : (p q : Place) (es : Trees) (fs : Flats) → FitAll program defs up es fs
        → Fits program defs up (tree.count p es) (flat.count q fs)

  pub data FitAll (program : List Body) (defs : List Definition) (up : List (List ℕ))
      : Trees → Flats → Type 0 where
    fit_none : FitAll program defs up tree.no_trees flat.no_flats
    fit_more : (e : Tree) (es : Trees) (f : Flat) (fs : Flats) → Fits program defs up e f
        → FitAll program defs up es fs → FitAll program defs up (tree.tree e es) (flat.flat f fs)

  pub data FitArms (program : List Body) (defs : List Definition) (up : List (List ℕ))
      : Arms → FlatArms → Type 0 where
    fit_no_arm : FitArms program defs up tree.no_arms flat.no_arms
    fit_arm : (c a : Tree) (bs : Arms) (x y : Flat) (zs : FlatArms) → Fits program defs up c x
        → Fits program defs up a y → FitArms program defs up bs zs
        → FitArms program defs up (tree.arm c a bs) (flat.arm x y zs)

-- each flat body is that of its definition, over the definitions before it
abbrev pub AreLined : List Body → List Definition → List Definition → List Flat → Type 0
AreLined program before [] [] = ⊤
AreLined program before (d ∷ ds) (f ∷ fs) =
    Fits program before d.around d.body f × AreLined program (before ++ d ∷ []) ds fs
AreLined program before _ _ = ⊥

-- a line of flat bodies for the definitions of a program
pub record IsLine (program : List Body) (defs : List Definition) (bodies : List Flat) : Type 0 where
  pub lined : AreLined program [] defs bodies
  pub listed : AreListed program defs

-- the values of the variables at a moment, by number
abbrev pub slot_values : List Body → Snapshot → List (List Value)
slot_values program m = map (λ v. variable_values (variables program) m v.path) (variables program)

-- the values of definitions by number: those that are known, and then those of flat bodies, each
-- over the ones before it
abbrev pub def_values : List (List Value) → List (List Value) → List Flat → List (List Value)
def_values slots known [] = known
def_values slots known (f ∷ fs) =
    let now : Numbers = record { slots = slots; defs = known } in
    def_values slots (known ++ eval now now f ∷ []) fs

-- the values of a flat model's variables and definitions at a moment
abbrev pub numbers_at : List Body → List Flat → Snapshot → Numbers
numbers_at program bodies m = record {
  slots = slot_values program m;
  defs = def_values (slot_values program m) [] bodies;
}
