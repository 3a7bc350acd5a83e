use Rattle.std.specs.Prelude.{◌≡◌, ◌<◌, ℕ, ◌*◌, ◌^◌, Bool, ◌&&◌, nat_le, if◌then◌else◌, ℤ, pos, ◌-ℤ◌}

-- a word: its bits as a natural number below two to the width, read as signed or not
pub record Word : Type 0 where
  pub signed : Bool
  pub width : ℕ
  pub bits : ℕ

-- the highest bit is set
abbrev pub is_high : Word → Bool
is_high w = nat_le (2 ^ w.width) (2 * w.bits)

-- the number that a word stands for
abbrev pub word_number : Word → ℤ
word_number w = if w.signed && is_high w then pos w.bits -ℤ pos (2 ^ w.width) else pos w.bits

-- a word of this sign and width, with no bit beyond the width
pub record IsWordOf (signed : Bool) (width : ℕ) (w : Word) : Type 0 where
  pub same_sign : w.signed ≡ signed
  pub same_width : w.width ≡ width
  pub fits : w.bits < 2 ^ width
