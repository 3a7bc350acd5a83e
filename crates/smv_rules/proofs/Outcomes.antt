-- What is known of what reading gives.
use Rattle.std.proofs.Common.{◌≡◌, ◌≤◌, ℕ, List, length, Result, Ok, Err}
use Rattle.smv_token.specs.declared.token.Token.{Token}
use Rattle.smv_rules.specs.Reading.{Got, Stop, wrong, deep}
use Rattle.smv_rules.proofs.Rests.{Left}

-- reading leaves at most so many tokens, unless it is too deep
unfoldable pub ReachedTo : {X : Type 0} → ℕ → Got X → Type 0
ReachedTo k (Ok y) = length y.1 ≤ k
ReachedTo k (Err (wrong j)) = j ≤ k
ReachedTo k (Err (deep j)) = Unit {0}

-- reading ends where it is too deep, with at least so many tokens left
pub record SinksTo {X : Type 0} (m : ℕ) (r : Result X Stop) : Type 0 where
  pub left : ℕ
  pub is : r ≡ Err (deep left)
  pub far : m ≤ left

-- What a result of reading tells of the tokens, where S says what the tokens up to others spell, F that
-- they are a front, and D that it gets too deep at the last of them.
unfoldable pub TellsOf : {X : Type 0} → (List Token → X → Type 0) → (List Token → Type 0) → (List Token → Type 0) → Got X → Type 0
TellsOf S F D (Ok x) = S x.1 x.0
TellsOf S F D (Err (wrong n)) = Left F n
TellsOf S F D (Err (deep n)) = Left D n
