-- A count of lists, one by one, is the count of all.
use Rattle.std.proofs.Common.{arith, ◌≡◌, ℕ, true, false, List, [], ◌∷◌, Option, Some, None, refl, sym, ap, ◌∙◌}
use Rattle.std.specs.Prelude.{option_map, ◌+◌}
use Rattle.smv_tree.specs.declared.value.Value.{Value}
use Rattle.smv_tree.specs.declared.value.Value.TheVariants as value
use Rattle.smv_meaning.specs.Operators.{counted}
use Rattle.smv_values.specs.Answers.{kept}
use Rattle.smv_flat.specs.Fitting.{fitting_count, truth_of}
use Rattle.smv_flat.specs.Counts.{count_more, count_values}

-- all operands, from a count on
abbrev pub count_on : Option ℕ → List (List Value) → Option ℕ
count_on n [] = n
count_on n (vs ∷ lists) = count_on (count_more n (truth_of vs)) lists

nothing_counted : (lists : List (List Value)) → count_on None lists ≡ None
nothing_counted [] = refl
nothing_counted (vs ∷ lists) = nothing_counted lists

counted_so : (n : ℕ) (lists : List (List Value)) → counted n lists ≡ count_values (count_on (Some n) lists)
counted_so n [] = refl
counted_so n ((value.Truth true ∷ []) ∷ rest) = counted_so (n + 1) rest
counted_so n ((value.Truth false ∷ []) ∷ rest) = counted_so n rest
counted_so n ([] ∷ rest) = sym (ap count_values (nothing_counted rest))
counted_so n ((value.Int z ∷ []) ∷ rest) = sym (ap count_values (nothing_counted rest))
counted_so n ((value.Sym s ∷ []) ∷ rest) = sym (ap count_values (nothing_counted rest))
counted_so n ((value.Word w ∷ []) ∷ rest) = sym (ap count_values (nothing_counted rest))
counted_so n ((value.Truth true ∷ v ∷ vs) ∷ rest) = sym (ap count_values (nothing_counted rest))
counted_so n ((value.Truth false ∷ v ∷ vs) ∷ rest) = sym (ap count_values (nothing_counted rest))
counted_so n ((value.Int z ∷ v ∷ vs) ∷ rest) = sym (ap count_values (nothing_counted rest))
counted_so n ((value.Sym s ∷ v ∷ vs) ∷ rest) = sym (ap count_values (nothing_counted rest))
counted_so n ((value.Word w ∷ v ∷ vs) ∷ rest) = sym (ap count_values (nothing_counted rest))

pub count_told : (found : Option (List (List Value))) (n : Option ℕ) → option_map (count_on (Some 0)) found ≡ Some n
    → fitting_count found ≡ kept (count_values n)
count_told (Some lists) n e = ap kept (counted_so 0 lists) ∙ ap (λ o. kept (count_values o)) (inner e)
  where
    value_or : Option (Option ℕ) → Option ℕ
    value_or (Some m) = m
    value_or None = None

    inner : Some (count_on (Some 0) lists) ≡ Some n → count_on (Some 0) lists ≡ n
    inner e = ap value_or e
count_told None n e = grind (arith, e)
