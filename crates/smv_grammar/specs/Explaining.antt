-- Which texts spell what, and why a text spells nothing, by any grammar: S says what all tokens of a text
-- spell, F that the tokens up to others are a front, D that it gets too deep at the token before others.
use Rattle.std.specs.Prelude.{◌≡◌, ◌<◌, ◌+◌, ℕ, List, Some, None, drop, length}
use Rattle.smv_tree.specs.declared.place.Place.{Place}
use Rattle.smv_grammar.specs.declared.fault.ParseFault.{ParseFault}
use Rattle.smv_grammar.specs.declared.fault.ParseFault.TheVariants as faults
use Rattle.smv_token.specs.declared.token.Flaw.{Flaw}
use Rattle.smv_token.specs.declared.token.Token.{Token}
use Rattle.smv_grammar.specs.Faults.{end_of, fault_of, place_at}
use Rattle.smv_token.specs.Tokens.{scanned, tokens_of}

-- all of the text is tokens, and they spell this
pub record SpellsText {X : Type 0} (S : List Token → X → Type 0) (bytes : List ℕ) (x : X) : Type 0 where
  pub tokens : List Token
  pub scanned : tokens_of bytes ≡ Some tokens
  pub spelled : S tokens x

-- so many tokens are a front, and at none of them it gets too deep
pub record Reaches (F D : List Token → List Token → Type 0) (ts : List Token) (i : ℕ) : Type 0 where
  pub front : F ts (drop i ts)
  pub shallow : (j : ℕ) → j < i → D ts (drop (j + 1) ts) → ⊥

-- The fault of a text is the first. At a place where no token begins: all tokens before it are a front.
-- At a token: those before it are a front, and with it they are none. At the end: all tokens are a
-- front, and they spell nothing. At a token at which it gets too deep.
pub data ExplainsText {X : Type 0} (S : List Token → X → Type 0) (F D : List Token → List Token → Type 0) (bytes : List ℕ) : ParseFault → Type 0 where
  flawed : (p : Place) (w : Flaw) → (scanned bytes).stop ≡ Some (p, w) → Reaches F D (scanned bytes).tokens (length (scanned bytes).tokens) → ExplainsText S F D bytes (fault_of p w)
  unexpected : (i : ℕ) → i < length (scanned bytes).tokens → Reaches F D (scanned bytes).tokens i → (F (scanned bytes).tokens (drop (i + 1) (scanned bytes).tokens) → ⊥) → ExplainsText S F D bytes (faults.Unexpected (place_at (scanned bytes).tokens i))
  ended : (scanned bytes).stop ≡ None → Reaches F D (scanned bytes).tokens (length (scanned bytes).tokens) → ((x : X) → S (scanned bytes).tokens x → ⊥) → ExplainsText S F D bytes (faults.End (end_of bytes))
  too_deep : (i : ℕ) → i < length (scanned bytes).tokens → D (scanned bytes).tokens (drop (i + 1) (scanned bytes).tokens) → ((j : ℕ) → j < i → D (scanned bytes).tokens (drop (j + 1) (scanned bytes).tokens) → ⊥) → ExplainsText S F D bytes (faults.Deep (place_at (scanned bytes).tokens i))
