use Rattle.std.specs.Prelude.{ℕ, ℤ, pos, ◌-ℤ◌, ◌+◌, ◌*◌, ◌-◌, ◌^◌, Bool, false, not, ◌||◌, ◌&&◌, if◌then◌else◌, List, [], ◌∷◌, length, map, slice_index_or, unsigned_abs}
use Rattle.std.specs.Int.{int_rem_euclid}

-- 1 for true, 0 for false
abbrev pub digit : Bool → ℕ
digit b = if b then 1 else 0

-- the number of a list of truth values, the lowest bit first
abbrev pub number : List Bool → ℕ
number [] = 0
number (b ∷ bs) = digit b + 2 * number bs

-- the highest bit
abbrev pub top : List Bool → Bool
top bs = slice_index_or bs (length bs - 1) false

-- the signed number of a list of truth values, in two's complement
abbrev pub signed_number : List Bool → ℤ
signed_number bs = pos (number bs) -ℤ pos (if top bs then 2 ^ length bs else 0)

-- an integer modulo two to a width
abbrev pub wrapped : ℕ → ℤ → ℕ
wrapped width z = unsigned_abs (int_rem_euclid z (pos (2 ^ width)))

-- whether two truth values differ
abbrev pub xor : Bool → Bool → Bool
xor a b = if a then not b else b

-- the number of the places at which a list differs from a truth value
abbrev pub number_against : Bool → List Bool → ℕ
number_against f bs = number (map (xor f) bs)

-- the carry of the sum of three bits: whether two of them are true
abbrev pub carry : Bool → Bool → Bool → Bool
carry a b c = if a then (b || c) else (b && c)
