-- What a text declares, and what it declares twice.
use Rattle.std.specs.Prelude.{ℕ, Bool, List, [], ◌∷◌, ◌++◌, map, flat_map, codes, if◌then◌else◌}
use Rattle.std.specs.List.{list_any}
use Rattle.std.specs.Fmt.{signed_decimal}
use Rattle.std.specs.Str.{bytes_eq}
use Rattle.smv_tree.specs.declared.place.Place.{Place}
use Rattle.smv_tree.specs.declared.value.Value.{Value}
use Rattle.smv_tree.specs.declared.value.Value.TheVariants.{Int, Sym}
use Rattle.smv_tree.specs.declared.value.Ty.TheVariants.{Enum}
use Rattle.smv_tree.specs.Models.{Body, Part, Formal, variable, define, plain}
use Rattle.type_fault.specs.declared.fault.TypeFault.{TypeFault}
use Rattle.type_fault.specs.declared.fault.TypeFault.TheVariants.{NoMain, Twice}

-- a name that is declared at a place
pub record Declaration : Type 0 where
  pub name : List ℕ
  pub place : Place

-- a name is declared among these
abbrev pub declares : List Declaration → List ℕ → Bool
declares ds name = list_any (λ d. bytes_eq name d.name) ds

-- a fault for each of some declarations whose name is declared before it, there or among those before all
abbrev pub doubled_behind : List Declaration → List Declaration → List TypeFault
doubled_behind before [] = []
doubled_behind before (d ∷ ds) =
    (if declares before d.name then Twice d.place d.name ∷ [] else []) ++ doubled_behind (before ++ d ∷ []) ds

-- a fault for each declaration whose name is declared before it
abbrev pub doubled : List Declaration → List TypeFault
doubled ds = doubled_behind [] ds

abbrev pub module_declaration : Body → Declaration
module_declaration b = record { name = b.name; place = b.place }

abbrev pub formal_declaration : Formal → Declaration
formal_declaration f = record { name = f.name; place = f.place }

-- variables, instances and defines declare their name; an assignment, a constraint and a property declare
-- none, though a property may have a name
abbrev pub part_declarations : Part → List Declaration
part_declarations (variable k n p t) = record { name = n; place = p } ∷ []
part_declarations (define n p e) = record { name = n; place = p } ∷ []
part_declarations _ = []

-- what a module declares: its parameters, and what its sections hold
abbrev pub declarations : Body → List Declaration
declarations b = map formal_declaration b.params ++ flat_map part_declarations b.parts

-- a value of an enumeration by the text that it has, at the place of the type
abbrev pub value_declarations : Place → Value → List Declaration
value_declarations p (Int z) = record { name = signed_decimal z; place = p } ∷ []
value_declarations p (Sym n) = record { name = n; place = p } ∷ []
value_declarations p _ = []

-- the values of the enumeration that a variable is declared with
abbrev pub enumeration_declarations : Part → List Declaration
enumeration_declarations (variable k n p (plain (Enum vs) q)) = flat_map (value_declarations q) vs
enumeration_declarations _ = []

-- what a module declares twice: names, and values within one enumeration
abbrev pub doubled_in : Body → List TypeFault
doubled_in b = doubled (declarations b) ++ flat_map (λ part. doubled (enumeration_declarations part)) b.parts

-- a module has the name main
abbrev pub has_main : List Body → Bool
has_main program = list_any (λ b. bytes_eq b.name (codes "main")) program

-- the faults of all names of a text: that it has no main module, modules of one name, and what is declared
-- twice in each module
abbrev pub name_faults : List Body → List TypeFault
name_faults program =
    (if has_main program then [] else NoMain ∷ [])
    ++ (doubled (map module_declaration program) ++ flat_map doubled_in program)
