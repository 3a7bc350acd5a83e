-- Values on a flat model are those of the program that its variables and definitions are of.
use Rattle.std.proofs.Common.{◌≡◌, ℕ, List, [], map, ap, ◌∙◌}
use Rattle.std.specs.Prelude.{Some}
use Rattle.std.specs.List.{IsDistinct}
use Rattle.smv_tree.specs.Trees.{Tree}
use Rattle.smv_tree.specs.Models.{Body}
use Rattle.smv_tree.specs.declared.value.Value.{Value}
use Rattle.smv_meaning.specs.Instances.{variables}
use Rattle.smv_meaning.specs.Names.{same_names}
use Rattle.smv_meaning.specs.Values.{Snapshot}
use Rattle.smv_meaning.specs.Runs.{HasValues}
use Rattle.smv_meaning.specs.Definitions.{Definition}
use Rattle.smv_meaning.specs.FlatTrees.{Flat, eval}
use Rattle.smv_meaning.specs.FlatLines.{Fits, IsLine, slot_values, def_values, numbers_at}
use Rattle.smv_meaning.proofs.FlatValues.{flat_values}
use Rattle.smv_flat.specs.FlatModels.{FlatModel, bodies_of}
use Rattle.smv_flat.specs.Slots.{slots_of}
use Rattle.smv_flat.specs.Moments.{numbers_with, flat_numbers, fitting_at}
use Rattle.smv_flat.proofs.Moments.{at_law}
use Rattle.smv_flat.proofs.SlotPaths.{path_law}

numbers_law : (program : List Body) (flat : FlatModel) (state input : List Value) → flat.vars ≡ variables program
    → IsDistinct same_names (map (λ v. v.path) (variables program))
    → flat_numbers flat state input ≡ numbers_at program (bodies_of flat) (record { state = state; input = input })
numbers_law program flat state input same once =
    let m : Snapshot = record { state = state; input = input } in
    let slots : slots_of flat.vars state input ≡ slot_values program m = ap (λ vars. slots_of vars state input) same ∙ path_law (variables program) m once in
    ap (λ s. numbers_with s (def_values s [] (bodies_of flat))) slots

pub program_law : (program : List Body) (defs : List Definition) (flat : FlatModel) (state input next : List Value) (up : List (List ℕ))
    (e : Tree) (f : Flat) (vs : List Value) → flat.vars ≡ variables program → IsDistinct same_names (map (λ v. v.path) (variables program))
    → IsLine program defs (bodies_of flat) → Fits program defs up e f → fitting_at flat state input next f ≡ Some vs
    → HasValues program (record { state = state; input = input }) (record { state = next; input = [] }) up e vs
program_law program defs flat state input next up e f vs same once line fits h =
    let m : Snapshot = record { state = state; input = input } in
    let n : Snapshot = record { state = next; input = [] } in
    (flat_values program defs (bodies_of flat) m n up e f vs line fits).1
    (at_law flat state input next f vs h ∙ (λ i. eval (numbers_law program flat state input same once i) (numbers_law program flat next [] same once i) f))
