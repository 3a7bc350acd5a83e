-- The flags of tokens are those of what is left of them.
use Rattle.std.proofs.Common.{◌≡◌, ℕ, Bool, List, [], ◌∷◌, Option, Some, None, Ok, Err, refl, subst}
use Rattle.smv_token.specs.declared.token.Token.{Token}
use Rattle.smv_rules.proofs.Rests.{Rest, rest_more}
use Rattle.smv_rules.specs.Reading.{◌>>=◌, Got}
use Rattle.smv_formula_reader.specs.Flags.{Flagged}
use Rattle.smv_formula_reader.proofs.GroupFlags.{flagged_rest}
use Rattle.smv_rules.proofs.Outcomes.{TellsOf}
use Rattle.smv_rules.specs.Keys.{Key, Payload, sees}
use Rattle.smv_rules.specs.Rules.{Rule, again}
use Rattle.smv_rules.specs.Running.{if_seen, run}
use Rattle.smv_rules.specs.Sorts.{Gift, Sort}
use Rattle.smv_rules.proofs.Told.{Tells, told}
use Rattle.smv_rules.proofs.Ways.{follows_rest}
use Rattle.smv_reader.specs.Turns.{Turn, turn}

left_rest : (n : ℕ) (s : Sort) (r : Rule s) (ts us : List Token) (x : Gift s) → run n r ts ≡ Ok (x, us) → Rest us ts
unfolding TellsOf
left_rest n s r ts us x e = let P : Got (Gift s) → Type 0 = λ o. Tells n r ts o in follows_rest (subst P e (told n r ts))

-- behind what a rule says
pub flagged_left : (flags : List Bool) (n : ℕ) (s : Sort) (r : Rule s) (ts us : List Token) (x : Gift s) → run n r ts ≡ Ok (x, us) → Flagged flags ts → Flagged flags us
flagged_left flags n s r ts us x e h = flagged_rest flags ts us (left_rest n s r ts us x e) h

-- behind one more of what comes again
abbrev Behind : {X : Type 0} → List Token → Turn X → Type 0
Behind ts (Ok (b, None)) = Unit {0}
Behind ts (Ok (b, Some us)) = Rest us ts
Behind ts (Err e) = Unit {0}

one_behind : (n : ℕ) (s : Sort) (r : Rule s) (t : Token) (ts : List Token) (out : Got (Gift s)) → run n r ts ≡ out → Behind (t ∷ ts) (out >>= (λ b. Ok (b.0, Some b.1)))
one_behind n s r t ts (Ok b) e = rest_more b.1 ts t (left_rest n s r ts b.1 b.0 e)
one_behind n s r t ts (Err i) e = tt

turn_behind : (n : ℕ) (s : Sort) (k : Key) (f : Gift s → Payload k → Rule s) (a : Gift s) (ts : List Token) → Behind ts (turn n (again s k f a) ts)
unfolding turn
turn_behind n s k f a [] = tt
turn_behind n s k f a (t ∷ ts) = by_seen (sees k t ts) where
  by_seen : (o : Option (Payload k)) → Behind (t ∷ ts) (if_seen o (λ p. run n (f a p) ts >>= (λ b. Ok (b.0, Some b.1))) (Ok (a, None)))
  by_seen None = tt
  by_seen (Some p) = one_behind n s (f a p) t ts (run n (f a p) ts) refl

pub flagged_turn : (flags : List Bool) (n : ℕ) (s : Sort) (k : Key) (f : Gift s → Payload k → Rule s) (a b : Gift s) (ts us : List Token) → turn n (again s k f a) ts ≡ Ok (b, Some us) → Flagged flags ts → Flagged flags us
flagged_turn flags n s k f a b ts us e h = let P : Turn (Gift s) → Type 0 = λ o. Behind ts o in flagged_rest flags ts us (subst P e (turn_behind n s k f a ts)) h
