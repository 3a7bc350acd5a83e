-- The bytes of a line, by what they stand for.
use Rattle.std.specs.Prelude.{ℕ, Bool, ◌&&◌, ◌||◌, ◌==◌, not, nat_le}
use Rattle.outside.specs.Number.{is_digit}
use Rattle.text_lines.specs.Lines.{is_blank}

-- a letter, a digit or `_`: what a variable's name is made of after a `$`
abbrev pub is_name_byte : ℕ → Bool
is_name_byte byte = is_digit byte || (nat_le 65 byte && nat_le byte 90) || (nat_le 97 byte && nat_le byte 122) || byte == 95

-- a byte that stands for itself outside quotes: no blank, and none of `"`, `#`, `$` and `;`
abbrev pub is_plain : ℕ → Bool
is_plain byte = not (is_blank byte || byte == 34 || byte == 35 || byte == 36 || byte == 59)

-- a byte inside quotes: all but the quote itself
abbrev pub is_quoted : ℕ → Bool
is_quoted byte = not (byte == 34)
