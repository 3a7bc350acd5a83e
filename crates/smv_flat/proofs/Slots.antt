-- What stands at a variable's spot is the value that it has by its number.
use Rattle.std.proofs.Common.{◌≡◌, ℕ, zero, suc, ◌+◌, Bool, true, false, List, [], ◌∷◌, take, drop, refl, sym, ap, ◌∙◌, add-one}
use Rattle.std.specs.Prelude.{unwrap_or, slice_get, if◌then◌else◌}
use Rattle.smv_tree.specs.declared.value.Value.{Value}
use Rattle.smv_meaning.specs.Instances.{Variable}
use Rattle.smv_meaning.specs.Values.{is_of_state}
use Rattle.smv_flat.specs.Slots.{slots_of}
use Rattle.smv_flat.specs.declared.spots.Spot.TheVariants as spot
use Rattle.smv_flat.specs.Spots.{spots, one_at, at_spot}

-- the first of those that are left
next_one : (n : ℕ) (values : List Value) → take 1 (drop n values) ≡ one_at values n
next_one zero [] = refl
next_one zero (v ∷ values) = refl
next_one (suc n) [] = refl
next_one (suc n) (v ∷ values) = next_one n values

left_behind : (n : ℕ) (values : List Value) → drop 1 (drop n values) ≡ drop (suc n) values
left_behind zero [] = refl
left_behind zero (v ∷ values) = refl
left_behind (suc n) [] = refl
left_behind (suc n) (v ∷ values) = left_behind n values

rest_left : (n : ℕ) (values : List Value) → drop 1 (drop n values) ≡ drop (n + 1) values
rest_left n values = left_behind n values ∙ ap (λ m. drop m values) (sym (add-one n))

-- behind so many values of a state and of an input
spots_from : (vars : List Variable) (state input : List Value) (a b n : ℕ)
    → unwrap_or (slice_get (slots_of vars (drop a state) (drop b input)) n) [] ≡ at_spot state input (slice_get (spots a b vars) n)
spots_from [] state input a b n = refl
spots_from (v ∷ vars) state input a b n = by_kind (is_of_state v.kind) n (spots_from vars state input)
  where
    by_kind : (is_state : Bool) (n : ℕ)
        → ((a b n : ℕ) → unwrap_or (slice_get (slots_of vars (drop a state) (drop b input)) n) [] ≡ at_spot state input (slice_get (spots a b vars) n))
        → unwrap_or (slice_get (if is_state then take 1 (drop a state) ∷ slots_of vars (drop 1 (drop a state)) (drop b input) else take 1 (drop b input) ∷ slots_of vars (drop a state) (drop 1 (drop b input))) n) []
        ≡ at_spot state input (slice_get (if is_state then spot.State a ∷ spots (a + 1) b vars else spot.Input b ∷ spots a (b + 1) vars) n)
    by_kind true zero rest = next_one a state
    by_kind false zero rest = next_one b input
    by_kind true (suc n) rest = ap (λ s. unwrap_or (slice_get (slots_of vars s (drop b input)) n) []) (rest_left a state) ∙ rest (a + 1) b n
    by_kind false (suc n) rest = ap (λ s. unwrap_or (slice_get (slots_of vars (drop a state) s) n) []) (rest_left b input) ∙ rest a (b + 1) n

pub spot_law : (vars : List Variable) (state input : List Value) (n : ℕ)
    → unwrap_or (slice_get (slots_of vars state input) n) [] ≡ at_spot state input (slice_get (spots 0 0 vars) n)
spot_law vars state input n = spots_from vars state input 0 0 n
