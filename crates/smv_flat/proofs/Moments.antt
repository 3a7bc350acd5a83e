-- Where the program can hold all that is looked at, values on the flat model are those that its definitions give.
use Rattle.std.proofs.Common.{◌≡◌, List, [], ◌∷◌, ◌++◌, Option, Some, None, map, refl, sym, ap, ◌∙◌}
use Rattle.std.specs.Prelude.{option_map, option_and_then}
use Rattle.smv_tree.specs.declared.value.Value.{Value}
use Rattle.smv_meaning.specs.FlatTrees.{Flat, Numbers, eval}
use Rattle.smv_meaning.specs.FlatLines.{def_values}
use Rattle.smv_flat.specs.Fitting.{fitting_eval}
use Rattle.smv_flat.specs.FlatModels.{FlatModel, FlatDefinition}
use Rattle.smv_flat.specs.Slots.{slots_of}
use Rattle.smv_flat.specs.Moments.{numbers_with, flat_numbers, one_more, fitting_defs, all_defs, fitting_numbers, fitting_at}
use Rattle.smv_flat.proofs.Held.{some_is, never, eval_law}

parted : {A B : Type 0} (o : Option A) (f : A → Option B) (b : B) → option_and_then f o ≡ Some b
    → (a : A) × (o ≡ Some a) × (f a ≡ Some b)
parted (Some a) f b e = (a, refl, e)
parted None f b e = absurd (never b e)

mapped : {A B : Type 0} (o : Option A) (f : A → B) (b : B) → option_map f o ≡ Some b → (a : A) × (o ≡ Some a) × (b ≡ f a)
mapped (Some a) f b e = (a, refl, some_is (f a) b e)
mapped None f b e = absurd (never b e)

defs_law : (slots known : List (List Value)) (ds : List FlatDefinition) (defs : List (List Value)) → fitting_defs slots known ds ≡ Some defs
    → defs ≡ def_values slots known (map (λ d. d.body) ds)
defs_law slots known [] defs h = some_is known defs h
defs_law slots known (d ∷ ds) defs h =
    let now : Numbers = numbers_with slots known in
    let s = parted (one_more slots known d.body) (λ more. fitting_defs slots more ds) defs h in
    let t = mapped (fitting_eval now now d.body) (λ vs. known ++ vs ∷ []) s.0 s.1 in
    defs_law slots s.0 ds defs s.2
    ∙ ap (λ more. def_values slots more (map (λ d. d.body) ds)) (t.2 ∙ ap (λ vs. known ++ vs ∷ []) (eval_law now now d.body t.0 t.1))

pub numbers_law : (flat : FlatModel) (state input : List Value) (now : Numbers) → fitting_numbers flat state input ≡ Some now
    → now ≡ flat_numbers flat state input
numbers_law flat state input now h =
    let slots = slots_of flat.vars state input in
    let s = mapped (all_defs flat state input) (numbers_with slots) now h in
    s.2 ∙ ap (numbers_with slots) (defs_law slots [] flat.defs s.0 s.1)

pub at_law : (flat : FlatModel) (state input next : List Value) (e : Flat) (vs : List Value) → fitting_at flat state input next e ≡ Some vs
    → vs ≡ eval (flat_numbers flat state input) (flat_numbers flat next []) e
at_law flat state input next e vs h =
    let s = parted (fitting_numbers flat state input) (λ now. option_and_then (λ later. fitting_eval now later e) (fitting_numbers flat next [])) vs h in
    let t = parted (fitting_numbers flat next []) (λ later. fitting_eval s.0 later e) vs s.2 in
    eval_law s.0 t.0 e vs t.2 ∙ (λ i. eval (numbers_law flat state input s.0 s.1 i) (numbers_law flat next [] t.0 t.1 i) e)
