-- Numbers as the shell's words and variables write them.
use Rattle.std.specs.Prelude.{ℕ, ◌+◌, ◌-◌, ◌*◌, Bool, ◌&&◌, nat_le, nat_lt, List, length, Option, Some, None, fold, if◌then◌else◌}
use Rattle.std.specs.List.{list_all}

-- the byte is a decimal digit
abbrev pub is_digit : ℕ → Bool
is_digit byte = nat_le 48 byte && nat_le byte 57

-- the value of decimal digits
abbrev pub digits_value : List ℕ → ℕ
digits_value digits = fold (λ value digit. 10 * value + (digit - 48)) 0 digits

-- the text is one or more decimal digits
abbrev pub is_digits : List ℕ → Bool
is_digits text = nat_lt 0 (length text) && list_all is_digit text

-- the number that a text writes
abbrev pub number_of : List ℕ → Option ℕ
number_of text =
    if is_digits text && nat_le (digits_value text) 9223372036854775807 then Some (digits_value text) else None
