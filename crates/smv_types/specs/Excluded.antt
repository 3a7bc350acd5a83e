-- Excluded assignments by tables of names, for functions of this crate alone.
use Rattle.std.specs.Prelude.{◌≡◌, ℕ, Bool, false, List, Some, is_some, slice_get, take}
use Rattle.std.specs.Map.{lookup}
use Rattle.std.specs.Str.{bytes_eq}
use Rattle.smv_tree.specs.declared.program.Moment.{Moment}
use Rattle.smv_tree.specs.declared.program.Moment.TheVariants as moment
use Rattle.smv_tree.specs.Models.{Part, assign}
use Rattle.smv_types.specs.declared.again.Excluded.{Excluded}
use Rattle.smv_types.specs.Assigning.{is_again}

abbrev pub excluded_at : Excluded → Moment → List (List ℕ × ℕ)
excluded_at e moment.First = e.first
excluded_at e moment.Each = e.each
excluded_at e moment.Next = e.next

abbrev pub is_excluded : Excluded → Moment → List ℕ → Bool
is_excluded e m n = is_some (lookup (bytes_eq n) (excluded_at e m))

abbrev pub is_again_by : Excluded → Part → Bool
is_again_by e (assign m n p x) = is_excluded e m n
is_again_by e _ = false

-- a flag for each part: whether it is an assignment that an earlier one excludes
abbrev pub AreAgain : List Part → List Bool → Type 0
AreAgain parts flags = (k : ℕ) (part : Part) → slice_get parts k ≡ Some part
    → slice_get flags k ≡ Some (is_again (take k parts) part)
