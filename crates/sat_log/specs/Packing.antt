-- Literals packed into one number.
use Rattle.std.specs.Prelude.{◌≡◌, ◌==◌, ◌+◌, ◌*◌, ◌/◌, ◌%◌, ℕ, if◌then◌else◌}
use Rattle.std.proofs.Common.{arith}
use Rattle.std.proofs.lemmas.Bool.Decides.{nat_tests}
use Rattle.sat_log.specs.Literal.{Literal}

-- a literal as one number: twice its variable, and one more if it is negated
abbrev pub packed : Literal → ℕ
packed l = 2 * l.var + (if l.negative then 1 else 0)

abbrev pub unpacked : ℕ → Literal
unpacked n = record { var = n / 2; negative = n % 2 == 1 }

parity : (n : ℕ) → (if n % 2 == 1 then 1 else 0) ≡ n % 2
parity n = grind (arith, nat_tests)

-- packing undoes unpacking
pub packed-unpacked : (n : ℕ) → packed (unpacked n) ≡ n
packed-unpacked n = omega (arith, parity n)
