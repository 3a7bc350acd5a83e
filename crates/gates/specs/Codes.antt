use Rattle.std.proofs.Common.{◌≡◌, ℕ, arith}
use Rattle.std.proofs.lemmas.Bool.Decides.{nat_tests}
use Rattle.gates.specs.Literal.{literal_of, code_of}

-- a number is kept by the literal that it stands for
pub code_of-literal_of : (n : ℕ) → code_of (literal_of n) ≡ n
code_of-literal_of n = grind (arith, nat_tests)
