-- What a target of numbers stands for.
use Rattle.std.specs.Prelude.{ℕ, List, [], ◌∷◌, ◌++◌, Option, Some, None, slice_get, option_map, option_and_then}
use Rattle.smv_tree.specs.Models.{Body, Part, variable, define, plain}
use Rattle.smv_meaning.specs.Instances.{Instance, instances}
use Rattle.smv_meaning.specs.Names.{Target, to_variable, to_body, to_instance, to_symbol, to_nothing}
use Rattle.smv_meaning.specs.Definitions.{outer}
use Rattle.smv_names.specs.declared.target.Target.{Target as Numbered}
use Rattle.smv_names.specs.declared.target.Target.TheVariants as numbered

-- the variable that an item of an instance declares
abbrev pub variable_of : Instance → Part → Option Target
variable_of i (variable kind m p (plain type q)) = Some (to_variable (i.path ++ m ∷ []))
variable_of i _ = None

-- the define that an item of an instance is
abbrev pub define_of : Instance → Part → Option Target
define_of i (define m p e) = Some (to_body i.up e)
define_of i _ = None

-- what a target stands for in a program with these symbols, if its numbers are those of something
abbrev pub meant : List Body → List (List ℕ) → Option Numbered → Option Target
meant program symbols None = Some to_nothing
meant program symbols (Some (numbered.Variable n k)) =
    option_and_then
    (λ i. option_and_then (variable_of i) (slice_get i.body.parts k))
    (slice_get (instances program) n)
meant program symbols (Some (numbered.Define n k)) =
    option_and_then
    (λ i. option_and_then (define_of i) (slice_get i.body.parts k))
    (slice_get (instances program) n)
meant program symbols (Some (numbered.Parameter n k)) =
    option_and_then
    (λ i. option_map (to_body (outer i.up)) (slice_get i.actuals k))
    (slice_get (instances program) n)
meant program symbols (Some (numbered.Instance n)) =
    option_map (λ i. to_instance i.up) (slice_get (instances program) n)
meant program symbols (Some (numbered.Symbol k)) = option_map to_symbol (slice_get symbols k)
