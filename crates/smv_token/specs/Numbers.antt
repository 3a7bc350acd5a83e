-- Numbers and word constants.
use Rattle.std.specs.Prelude.{ℕ, ◌+◌, ◌-◌, ◌*◌, ◌&&◌, ◌||◌, ◌==◌, Bool, false, not, List, [], ◌∷◌, Option, Some, None, if◌then◌else◌, nat_le, nat_lt, count_by}
use Rattle.smv_token.specs.declared.number.Base.{Base}
use Rattle.smv_token.specs.declared.number.Base.TheVariants as base

abbrev pub is_decimal : ℕ → Bool
is_decimal c = nat_le 48 c && nat_le c 57

-- the value of a digit, of any base up to 16
abbrev pub digit_of : ℕ → ℕ
digit_of c = if is_decimal c then c - 48 else (if nat_le 97 c && nat_le c 102 then c - 87 else (if nat_le 65 c && nat_le c 70 then c - 55 else 0))

-- a digit of a base
abbrev pub is_digit_in : ℕ → ℕ → Bool
is_digit_in radix c = (is_decimal c || (nat_le 97 c && nat_le c 102) || (nat_le 65 c && nat_le c 70)) && nat_lt (digit_of c) radix

-- the number that digits write behind those of a number; underscores are passed over
abbrev pub value_after : ℕ → ℕ → List ℕ → ℕ
value_after radix n [] = n
value_after radix n (c ∷ cs) = if c == 95 then value_after radix n cs else value_after radix (n * radix + digit_of c) cs

abbrev pub at_most : ℕ → ℕ → Option ℕ
at_most limit n = if nat_le n limit then Some n else None

abbrev pub radix_of : Base → ℕ
radix_of base.Binary = 2
radix_of base.Octal = 8
radix_of base.Decimal = 10
radix_of base.Hex = 16

-- the letters of the bases, in either case
abbrev pub base_of : ℕ → Option Base
base_of c = if c == 98 || c == 66 then Some base.Binary else (if c == 111 || c == 79 then Some base.Octal else (if c == 100 || c == 68 then Some base.Decimal else (if c == 104 || c == 72 then Some base.Hex else None)))

abbrev pub in_base : Bool → ℕ → Option Base → Option (Bool × Base × ℕ)
in_base signed len None = None
in_base signed len (Some b) = Some (signed, b, len)

abbrev pub base_at : List ℕ → Option Base
base_at [] = None
base_at (c ∷ cs) = base_of c

-- behind a `0`: whether a word constant is signed, its base, and how long its head is with the `0`
unfoldable pub word_head : List ℕ → Option (Bool × Base × ℕ)
word_head [] = None
word_head (c ∷ cs) = if c == 117 || c == 115 then in_base (c == 115) 3 (base_at cs) else in_base false 2 (base_of c)

-- how many bits the digits take, where no width is written
abbrev pub own_width : Base → ℕ → Option ℕ
own_width base.Binary n = at_most 128 n
own_width base.Octal n = at_most 128 (n * 3)
own_width base.Decimal n = None
own_width base.Hex n = at_most 128 (n * 4)

-- the width of a word constant: the one that is written, or that of the digits
unfoldable pub width_of : Base → List ℕ → List ℕ → Option ℕ
width_of b [] digits = own_width b (count_by (λ c. not (c == 95)) digits)
width_of b (w ∷ ws) digits = at_most 128 (value_after 10 0 (w ∷ ws))
