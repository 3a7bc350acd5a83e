-- What the places of faults need.
use Rattle.std.proofs.Common.{◌≡◌, ◌<◌, ◌≤◌, ℕ, zero, suc, List, [], ◌∷◌, get_or, length, ap, arith}
use Rattle.smv_token.specs.declared.left_out.LeftOut.{LeftOut}
use Rattle.smv_token.specs.declared.left_out.LeftOut.TheVariants as out
use Rattle.smv_token.specs.declared.token.Token.{Token}
use Rattle.smv_token.specs.LeftOut.{text}
use Rattle.smv_grammar.specs.Faults.{place_at}

-- a left-out word has the length of a name
pub text_within : (w : LeftOut) → (1 ≤ length (text w)) × (length (text w) ≤ 255)
unfolding text
text_within out.Process = (omega arith, omega arith)
text_within w = (omega arith, omega arith)

pub place_of : (ts : List Token) (i : ℕ) (t : Token) → i < length ts → t ≡ get_or ts i t → t.place ≡ place_at ts i
place_of [] i t h e = absurd (omega arith)
place_of (u ∷ us) zero t h e = ap (λ (v : Token). v.place) e
place_of (u ∷ us) (suc i) t h e = place_of us i t (omega (arith, h)) e
