use Rattle.std.specs.Prelude.{ℕ, ℤ, Bool, List}
use Rattle.gates.specs.Literal.{Literal}
use Rattle.gates.specs.Valuation.{values_of}
use Rattle.word_bits.specs.Number.{number, signed_number}

-- the number that literals spell, where the nodes have these values
abbrev pub unsigned : List Bool → List Literal → ℕ
unsigned values ls = number (values_of values ls)

-- the signed number that they spell
abbrev pub signed : List Bool → List Literal → ℤ
signed values ls = signed_number (values_of values ls)
