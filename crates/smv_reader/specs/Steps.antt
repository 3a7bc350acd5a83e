-- Steps one behind the other, and what waits for their end.
use Rattle.std.specs.Prelude.{ℕ, zero, suc, List, [], ◌∷◌, Result, Ok}
use Rattle.smv_rules.specs.Reading.{Stop, ◌>>=◌}

-- so many steps from a number on
unfoldable pub steps : {X : Type 0} → (ℕ → X → Result X Stop) → ℕ → ℕ → X → Result X Stop
steps f i zero x = Ok x
steps f i (suc j) x = f i x >>= steps f (suc i) j

-- what all that wait make of a result, the last of them first
unfoldable pub resumed : {W X : Type 0} → (W → X → Result X Stop) → List W → Result X Stop → Result X Stop
resumed go [] r = r
resumed go (w ∷ ws) r = resumed go ws r >>= go w
