-- How rules are read from tokens.
use Rattle.std.specs.Prelude.{ℕ, zero, suc, List, [], ◌∷◌, Option, Some, None, Ok, Err, length}
use Rattle.smv_token.specs.declared.token.Token.{Token}
use Rattle.smv_rules.specs.Reading.{wrong, deep, ◌>>=◌, Got}
use Rattle.smv_rules.specs.Keys.{Key, Payload, sees}
use Rattle.smv_rules.specs.Rules.{Rule, gives, too_deep, must, may, part, then, again}
use Rattle.smv_rules.specs.Sorts.{Gift, Sort}
use Rattle.smv_rules.specs.Table.{table}

-- what follows the token that was asked for, or the other where it was not there
abbrev pub if_seen : {P X : Type 0} → Option P → (P → X) → X → X
if_seen (Some p) f y = f p
if_seen None f y = y

-- As many more as there are, where one reads what follows the token with which each begins. Each takes
-- a token, so that there are no more than the number.
unfoldable pub repeated : (s : Sort) (k : Key) → (Gift s → Payload k → List Token → Got (Gift s)) → ℕ → Gift s → List Token → Got (Gift s)
repeated s k one n a [] = Ok (a, [])
repeated s k one zero a (t ∷ ts) = if_seen (sees k t ts) (λ p. Err (wrong (length (t ∷ ts)))) (Ok (a, t ∷ ts))
repeated s k one (suc n) a (t ∷ ts) = if_seen (sees k t ts) (λ p. one a p ts >>= (λ b. repeated s k one n b.0 b.1)) (Ok (a, t ∷ ts))

-- what a rule says, where so many nestings may still be opened
unfoldable pub run : ℕ → {s : Sort} → Rule s → List Token → Got (Gift s)
run n (gives s x) ts = Ok (x, ts)
run n (too_deep s) ts = Err (deep (length ts))
run n (must s k f) [] = Err (wrong 0)
run n (must s k f) (t ∷ ts) = if_seen (sees k t ts) (λ p. run n (f p) ts) (Err (wrong (length (t ∷ ts))))
run n (may s k f r) [] = run n r []
run n (may s k f r) (t ∷ ts) = if_seen (sees k t ts) (λ p. run n (f p) ts) (run n r (t ∷ ts))
run zero (part s p r) ts = run zero r ts
run (suc n) (part s p r) ts = run n (table p) ts
run n (then z s r f) ts = run n r ts >>= (λ a. run n (f a.0) a.1)
run n (again s k f a) ts = repeated s k (λ b p us. run n (f b p) us) (length ts) a ts
