-- One more of what comes again.
use Rattle.std.specs.Prelude.{ℕ, List, [], ◌∷◌, Option, Some, None, Result, Ok}
use denote.Ref.{Bor}
use Rattle.smv_token.specs.declared.token.Token.{Token}
use Rattle.smv_rules.specs.Reading.{Stop, ◌>>=◌}
use Rattle.smv_rules.specs.Keys.{Key, Payload, sees}
use Rattle.smv_rules.specs.Rules.{Rule, again}
use Rattle.smv_rules.specs.Running.{if_seen, run}
use Rattle.smv_rules.specs.Sorts.{Gift, Sort}

-- what was given so far, and, where one more was read, the tokens behind it
abbrev pub Turn : Type 0 → Type 0
Turn X = Result (X × Option (List Token)) Stop

-- one more of what comes again by a rule, if it comes again
unfoldable pub turn : ℕ → {s : Sort} → Rule s → List Token → Turn (Gift s)
turn n (again s k f a) [] = Ok (a, None)
turn n (again s k f a) (t ∷ ts) = if_seen (sees k t ts) (λ p. run n (f a p) ts >>= (λ b. Ok (b.0, Some b.1))) (Ok (a, None))
turn n r ts = run n r ts >>= (λ b. Ok (b.0, None))

abbrev pub seen_rest : Option (Bor (List Token)) → Option (List Token)
seen_rest None = None
seen_rest (Some ts) = Some ts.now
