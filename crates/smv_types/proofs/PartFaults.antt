-- The faults of parts, one behind the other.
use Rattle.std.proofs.Common.{◌≡◌, ℕ, ◌+◌, ◌<◌, Bool, false, List, [], ◌∷◌, ◌++◌, length, get_or, map, take, refl, ap, sym, ◌∙◌, append_assoc}
use Rattle.std.specs.Prelude.{Option, Some, slice_get, unwrap_or}
use Rattle.std.proofs.lemmas.List.{append-nil, take_more, take-map}
use Rattle.std.proofs.lemmas.Option.{slice_get_within, slice_get_read, get_or_from_slice_get}
use Rattle.smv_tree.specs.declared.program.Item.{Item}
use Rattle.smv_tree.specs.Models.{Part, part_of}
use Rattle.smv_meaning.proofs.Lists.{slice_get-map}
use Rattle.type_fault.specs.declared.fault.TypeFault.{TypeFault}
use Rattle.type_fault.specs.First.{earlier, earliest}
use Rattle.type_fault.proofs.Firsts.{earliest_both}
use Rattle.smv_typing.specs.declared.standing.Standing.{Standing}
use Rattle.smv_types.specs.declared.variable.VariableType.{VariableType}
use Rattle.smv_types.specs.Assigning.{is_again}
use Rattle.smv_types.specs.Excluded.{AreAgain}
use Rattle.smv_types.specs.Faults.{part_faults, parts_faults}

module _ (names : List (List ℕ) → Standing) (variables : List ℕ → Option VariableType) where
  parts_more : (before xs : List Part) (x : Part) → parts_faults names variables before (xs ++ x ∷ []) ≡ parts_faults names variables before xs ++ part_faults names variables (is_again (before ++ xs) x) x
  parts_more before [] x = append-nil (part_faults names variables (is_again before x) x) ∙ ap (λ b. part_faults names variables (is_again b x) x) (sym (append-nil before))
  parts_more before (y ∷ xs) x =
      ap (λ fs. part_faults names variables (is_again before y) y ++ fs) (parts_more (before ++ y ∷ []) xs x)
      ∙ (sym (append_assoc (part_faults names variables (is_again before y) y) (parts_faults names variables (before ++ y ∷ []) xs) (part_faults names variables (is_again ((before ++ y ∷ []) ++ xs) x) x))
      ∙ ap (λ b. parts_faults names variables before (y ∷ xs) ++ part_faults names variables (is_again b x) x) (append_assoc before (y ∷ []) xs))

  pub faults_on : (parts : List Part) (i : ℕ) (part : Part) (first found next : Option TypeFault) → slice_get parts i ≡ Some part → first ≡ earliest (parts_faults names variables [] (take i parts))
      → found ≡ earliest (part_faults names variables (is_again (take i parts) part) part) → next ≡ earlier first found → next ≡ earliest (parts_faults names variables [] (take (i + 1) parts))
  faults_on parts i part first found next at h k e =
      e ∙ (ap (λ f. earlier f found) h ∙ (ap (earlier (earliest (parts_faults names variables [] (take i parts)))) k
      ∙ (sym (earliest_both (parts_faults names variables [] (take i parts)) (part_faults names variables (is_again (take i parts) part) part))
      ∙ ap earliest (sym (ap (parts_faults names variables []) more ∙ parts_more [] (take i parts) part)))))
    where
      more : take (i + 1) parts ≡ take i parts ++ part ∷ []
      more = take_more parts i part (slice_get_within parts i part at) ∙ ap (λ y. take i parts ++ y ∷ []) (get_or_from_slice_get parts i part part at)

  -- the same for items and flags of theirs
  pub items_on : (xs : List Item) (flags : List Bool) (i : ℕ) (x : Item) (b : Bool) (first found next : Option TypeFault) → AreAgain (map part_of xs) flags → i < length xs → x ≡ get_or xs i x
      → first ≡ earliest (parts_faults names variables [] (map part_of (take i xs))) → b ≡ unwrap_or (slice_get flags i) false → found ≡ earliest (part_faults names variables b (part_of x))
      → next ≡ earlier first found → next ≡ earliest (parts_faults names variables [] (map part_of (take (i + 1) xs)))
  items_on xs flags i x b first found next again l at h flag k e =
      faults_on (map part_of xs) i (part_of x) first found next there
      (h ∙ ap (λ ys. earliest (parts_faults names variables [] ys)) (sym (take-map part_of i xs)))
      (k ∙ ap (λ f. earliest (part_faults names variables f (part_of x))) (flag ∙ ap (λ o. unwrap_or o false) (again i (part_of x) there)))
      e
      ∙ ap (λ ys. earliest (parts_faults names variables [] ys)) (take-map part_of (i + 1) xs)
    where
      there : slice_get (map part_of xs) i ≡ Some (part_of x)
      there = slice_get-map part_of xs i x (slice_get_read xs (length xs) i x refl l at)
