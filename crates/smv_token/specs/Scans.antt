-- What the code hands on of a text's tokens, and how long their pieces are.
use Rattle.std.specs.Prelude.{◌≡◌, ◌≤◌, ℕ, Bool, true, false, List, length}
use Rattle.smv_token.specs.declared.token.Piece.{Piece}
use Rattle.smv_token.specs.declared.token.Piece.TheVariants as piece
use Rattle.smv_token.specs.declared.token.ScannedText.{ScannedText}
use Rattle.smv_token.specs.Tokens.{Scanned}

abbrev pub scan_of : ScannedText → Scanned
scan_of s = record { tokens = s.tokens.items; stop = s.stop }

abbrev pub is_named : Piece → Bool
is_named piece.Name = true
is_named p = false

-- a piece is not empty and lies in its text, and a name has at most 255 bytes
pub record Fits (bs : List ℕ) (k : ℕ × Piece) : Type 0 where
  pub some : 1 ≤ k.0
  pub within : k.0 ≤ length bs
  pub short : is_named k.1 ≡ true → k.0 ≤ 255
