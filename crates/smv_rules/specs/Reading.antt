-- What reading gives.
use Rattle.std.specs.Prelude.{ℕ, suc, List, [], ◌∷◌, Result, Ok, Err, length}
use Rattle.smv_token.specs.declared.token.Token.{Token}

-- Why reading stopped, with the number of tokens that are left: at one that cannot stand there, or
-- behind one at which it is too deep.
pub data Stop : Type 0 where
  wrong : ℕ → Stop
  deep : ℕ → Stop

infixl 10 ◌>>=◌
abbrev pub ◌>>=◌ : {A B : Type 0} → Result A Stop → (A → Result B Stop) → Result B Stop
(Ok x) >>= f = f x
(Err s) >>= f = Err s

-- what was read, and the tokens after it
abbrev pub Got : Type 0 → Type 0
Got X = Result (X × List Token) Stop

-- what was read, where nothing is left
abbrev pub to_end : {X : Type 0} → X → List Token → Result X Stop
to_end x [] = Ok x
to_end x (t ∷ ts) = Err (wrong (suc (length ts)))

abbrev pub all_read : {X : Type 0} → Got X → Result X Stop
all_read r = r >>= (λ x. to_end x.0 x.1)
