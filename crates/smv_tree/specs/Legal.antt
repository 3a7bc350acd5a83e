-- The values that a type lists.
use Rattle.std.specs.Prelude.{◌≤ℤ◌, Contains, ⊤}
use Rattle.smv_tree.specs.declared.value.Value.{Value}
use Rattle.smv_tree.specs.declared.value.Value.TheVariants.{Truth, Int, Sym, Word as Bits}
use Rattle.smv_tree.specs.declared.value.Ty.{Ty}
use Rattle.smv_tree.specs.declared.value.Ty.TheVariants as type
use Rattle.smv_tree.specs.Word.{IsWordOf}

-- the type lists the value
abbrev pub IsLegal : Ty → Value → Type 0
IsLegal type.Bool (Truth b) = ⊤
IsLegal (type.Range low high) (Int z) = (low ≤ℤ z) × (z ≤ℤ high)
IsLegal (type.Enum all) v = Contains all v
IsLegal (type.Word signed width) (Bits w) = IsWordOf signed width w
IsLegal _ _ = ⊥
