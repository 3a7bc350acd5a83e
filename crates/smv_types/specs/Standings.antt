-- What names stand for in each instance, as far as types are concerned.
use Rattle.std.specs.Prelude.{◌≡◌, ℕ, Bool, true, false, List, Option, Some, None, Ok, Err, find}
use Rattle.std.specs.List.{list_any}
use Rattle.smv_tree.specs.declared.program.Kind.{Kind}
use Rattle.smv_tree.specs.declared.program.Kind.TheVariants as kind
use Rattle.smv_tree.specs.Trees.{Tree}
use Rattle.smv_tree.specs.Models.{Body}
use Rattle.smv_meaning.specs.Instances.{Variable, variables}
use Rattle.smv_meaning.specs.Names.{Target, to_variable, to_body, to_instance, to_symbol, to_nothing, same_names, resolve}
use Rattle.smv_meaning.specs.Definitions.{names_in}
use Rattle.smv_kinds.specs.declared.sort.Sort.TheVariants.{Symbolic, Instance}
use Rattle.smv_kinds.specs.declared.typing.Typing.{Typing}
use Rattle.smv_kinds.specs.Results.{single}
use Rattle.smv_kinds.specs.Nodes.{declared_sort, body_fault}
use Rattle.smv_typing.specs.declared.standing.Standing.{Standing}
use Rattle.smv_typing.specs.declared.standing.Standing.TheVariants.{Typed, Faulty}
use Rattle.smv_typing.specs.Judging.{Judgement, judged}
use Rattle.smv_typing.specs.Uses.{of_definition}

-- what each path of names stands for in each instance, which is given by its names from the innermost outwards
abbrev pub Standings : Type 0
Standings = List (List ℕ) → List (List ℕ) → Standing

abbrev pub is_input : Kind → Bool
is_input kind.Input = true
is_input _ = false

-- a variable, whose kind is known also where something is wrong with its type
abbrev pub variable_standing : Option Variable → Standing
variable_standing None = Faulty
variable_standing (Some v) = Typed (single (declared_sort v.type)) (is_input v.kind)

-- the name of an input, or of what speaks of one
abbrev pub has_input : Standing → Bool
has_input (Typed t input) = input
has_input Faulty = false

-- a body speaks of an input where one of its names does
abbrev pub speaks : (List (List ℕ) → Standing) → Tree → Bool
speaks names e = list_any (λ path. has_input (names path)) (names_in e)

-- the type of a body, unless something is wrong in it or it is an instance
abbrev pub typed_body : Bool → Judgement Typing → Standing
typed_body input (Err faults) = Faulty
typed_body input (Ok t) = elim (body_fault t) [ None ↦ Typed t input | Some f ↦ Faulty ]

unfoldable pub body_standing : (List (List ℕ) → Standing) → Tree → Standing
body_standing names e = typed_body (speaks names e) (judged names of_definition e)

-- a variable; the body of a define, or an actual parameter that is no path alone; an instance; a symbol
abbrev pub target_standing : List Variable → Standings → Target → Standing
target_standing vars s (to_variable path) = variable_standing (find (λ v. same_names v.path path) vars)
target_standing vars s (to_body up e) = body_standing (s up) e
target_standing vars s (to_instance up) = Typed (single Instance) false
target_standing vars s (to_symbol n) = Typed (single Symbolic) false
target_standing vars s to_nothing = Faulty

-- each path of names stands for what it leads to
abbrev pub AreStandings : List Body → Standings → Type 0
AreStandings program s =
    (up names : List (List ℕ)) → s up names ≡ target_standing (variables program) s (resolve program up names)
