-- The tables of a program are ready for look-ups.
use Rattle.std.specs.Prelude.{◌≡◌, ◌<◌, ℕ, List, [], ◌∷◌, length, Option, Some, position, slice_get}
use Rattle.std.specs.List.{AllZip, list_any}
use Rattle.std.specs.Map.{lookup}
use Rattle.std.specs.Str.{bytes_eq}
use Rattle.smv_tree.specs.Trees.{Tree}
use Rattle.smv_tree.specs.Models.{Body}
use Rattle.smv_meaning.specs.Instances.{Instance, instances}
use Rattle.smv_meaning.specs.Names.{Target, to_nothing, names_symbol, resolve, actual_target}
use Rattle.smv_meaning.specs.Rows.{IsNumber}
use Rattle.smv_names.specs.declared.declared.Declared.TheVariants as declared
use Rattle.smv_names.specs.declared.target.Target.{Target as Numbered}
use Rattle.smv_names.specs.declared.scopes.ModuleNames.{ModuleNames}
use Rattle.smv_names.specs.declared.scopes.Scopes.{Scopes}
use Rattle.smv_names.specs.declared.resolver.Resolver.{Resolver}
use Rattle.smv_names.specs.Tables.{AreSame, part_entries}
use Rattle.smv_names.specs.SymbolSets.{has}
use Rattle.smv_names.specs.Targets.{meant}
use Rattle.smv_names.specs.Lookups.{child_in, actual_at}
use Rattle.smv_names.specs.Whole.{IsWhole}

-- the names of a module
pub record AreNamesOf (b : Body) (names : ModuleNames) : Type 0 where
  pub parameters : (m : List ℕ) → lookup (bytes_eq m) names.parameters ≡ position (λ f. bytes_eq f.name m) b.params
  pub items : AreSame names.items (part_entries 0 0 b.parts)

-- the module of an instance has this number
abbrev pub IsModuleOf : List Body → Instance → ℕ → Type 0
IsModuleOf program i k = slice_get program k ≡ Some i.body

-- the instances that the items of each instance declare, by the number of the instance and of the item
abbrev pub AreChildren : List Body → (ℕ → ℕ → Option ℕ) → Type 0
AreChildren program child = (n k : ℕ) (i : Instance) (m : List ℕ) → slice_get (instances program) n ≡ Some i
    → lookup (bytes_eq m) (part_entries 0 0 i.body.parts) ≡ Some (declared.Instance k)
    → (c : ℕ) × (child n k ≡ Some c) × IsNumber program c (m ∷ i.up)

-- what the actual parameters of an instance stand for; the main one has none
abbrev pub actual_in : List Body → List (List ℕ) → Tree → Target
actual_in program [] e = to_nothing
actual_in program (n ∷ around) e = actual_target around (resolve program around) e

-- what each actual parameter stands for, by the number of the instance, of those below this one, and of
-- the parameter
abbrev pub AreActuals : List Body → List (List ℕ) → ℕ → (ℕ → ℕ → Option Numbered) → Type 0
AreActuals program symbols below target = (n k : ℕ) (i : Instance) (e : Tree) → n < below
    → slice_get (instances program) n ≡ Some i → slice_get i.actuals k ≡ Some e
    → meant program symbols (target n k) ≡ Some (actual_in program i.up e)

-- exactly the symbols of a program
abbrev pub AreSymbols : List Body → List (List ℕ) → Type 0
AreSymbols program symbols = (m : List ℕ) → has symbols m ≡ list_any (λ b. list_any (names_symbol m) b.parts) program

-- the names of the modules of a program, and the modules of its instances
pub record AreScopes (program : List Body) (s : Scopes) : Type 0 where
  pub modules : AllZip AreNamesOf program s.modules.items
  pub numbers : AllZip (IsModuleOf program) (instances program) s.module_numbers.items

-- the tables of a program, with the actual parameters of the instances below this number
pub record IsReadyBelow (program : List Body) (below : ℕ) (r : Resolver) : Type 0 where
  pub whole : IsWhole program
  pub scopes : AreScopes program r.scopes
  pub children : AreChildren program (child_in r.children.entries)
  pub symbols : AreSymbols program r.symbols
  pub counted : length r.actuals.items ≡ below
  pub actuals : AreActuals program r.symbols below (actual_at r)

abbrev pub IsReady : List Body → Resolver → Type 0
IsReady program r = IsReadyBelow program (length (instances program)) r
