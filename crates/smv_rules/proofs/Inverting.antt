-- What tokens of a rule are, by the rule's form.
use Rattle.std.proofs.Common.{◌≡◌, ℕ, List, ◌∷◌, Some, ◌⊎◌, refl, inl, inr}
use Rattle.smv_token.specs.declared.token.Token.{Token}
use Rattle.smv_rules.specs.Keys.{Key, Payload, sees}
use Rattle.smv_rules.specs.Sorts.{Gift, Sort}
use Rattle.smv_rules.specs.Rules.{Rule, gives, too_deep, must, may, part, then, again}
use Rattle.smv_rules.specs.Follows.{Mode, Follows, done, has, takes, skips, nests, stays, chains, stops, goes_on}

-- a token that was asked for, and what follows it
pub record Had (m : Mode) (n : ℕ) (s : Sort) (k : Key) (f : Payload k → Rule s) (ts rest : List Token) (x : Gift s) : Type 0 where
  pub first : Token
  pub others : List Token
  pub load : Payload k
  pub is : ts ≡ first ∷ others
  pub seen : sees k first others ≡ Some load
  pub follows : Follows m n s (f load) others rest x

-- a rule and then another
pub record Chained (m : Mode) (n : ℕ) (z s : Sort) (r : Rule z) (f : Gift z → Rule s) (ts rest : List Token) (x : Gift s) : Type 0 where
  pub between : List Token
  pub given : Gift z
  pub before : Follows m n z r ts between given
  pub behind : Follows m n s (f given) between rest x

unfoldable pub Inverted : (m : Mode) (n : ℕ) {s : Sort} → Rule s → List Token → List Token → Gift s → Type 0
Inverted m n (gives s y) ts rest x = ts ≡ rest
Inverted m n (too_deep s) ts rest x = ⊥
Inverted m n (must s k f) ts rest x = Had m n s k f ts rest x
Inverted m n (may s k f r) ts rest x = Had m n s k f ts rest x ⊎ Follows m n s r ts rest x
Inverted m n (part s p r) ts rest x = Unit {0}
Inverted m n (then z s r f) ts rest x = Chained m n z s r f ts rest x
Inverted m n (again s k f a) ts rest x = Unit {0}

pub inverted : {m : Mode} {n : ℕ} {s : Sort} {r : Rule s} {ts rest : List Token} {x : Gift s} → Follows m n s r ts rest x → Inverted m n r ts rest x
unfolding Inverted
inverted (done n s x ts) = refl
inverted (has n s k f t p ts rest x e h) = record { first = t; others = ts; load = p; is = refl; seen = e; follows = h }
inverted (takes n s k f r t p ts rest x e h) = inl (record { first = t; others = ts; load = p; is = refl; seen = e; follows = h })
inverted (skips n s k f r ts rest x u h) = inr h
inverted (nests n s p r ts rest x h) = tt
inverted (stays s p r ts rest x h) = tt
inverted (chains n z s r f ts us rest a x h j) = record { between = us; given = a; before = h; behind = j }
inverted (stops n s k f a ts u) = tt
inverted (goes_on n s k f a t p ts us rest b x e h j) = tt
