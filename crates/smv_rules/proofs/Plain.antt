-- Where the tokens that may follow tell what is left out and what ends, the next token decides nothing:
-- the plain rules spell the same.
use Rattle.std.proofs.Common.{◌≡◌, ◌<◌, ℕ, zero, suc, true, List, [], ◌∷◌, length, Option, Some, None, ◌⊎◌, refl, sym, subst, inl, inr, arith}
use Rattle.std.proofs.lemmas.Bool.{cases_lt}
use Rattle.smv_token.specs.declared.token.Token.{Token}
use Rattle.smv_rules.specs.Keys.{Key, Payload, Unseen, before_formula, group, present, sees}
use Rattle.smv_rules.specs.Sorts.{Gift, Sort}
use Rattle.smv_rules.specs.Rules.{Rule, gives, too_deep, must, may, part, then, again}
use Rattle.smv_rules.specs.Table.{table}
use Rattle.smv_rules.specs.Running.{run}
use Rattle.smv_rules.specs.Follows.{by_token, plain, Ruled, Follows, done, has, takes, skips, nests, stays, chains, stops, goes_on, End, anywhere, Leads, here, deep_here, past_token, past_taken, past_skipped, in_part, in_other, in_first, past_first, in_next, past_next}
use Rattle.smv_rules.proofs.Meeting.{Met}
use Rattle.smv_rules.proofs.Rests.{rest_same}
use Rattle.smv_rules.proofs.Ways.{anyhow, follows_leads, follows_rest}

-- the first token is what is asked for
abbrev pub Seen : Key → List Token → Type 0
Seen k [] = ⊥
Seen k (t ∷ ts) = present (sees k t ts) ≡ true

-- The tokens are what a rule says, and what follows them may follow; or they lead into it, by one at least.
pub data Goes (n : ℕ) (s : Sort) (r : Rule s) (C : List Token → Type 0) (ts : List Token) : Type 0 where
  through : (rest : List Token) (x : Gift s) → Follows plain n s r ts rest x → C rest → Goes n s r C ts
  within : (rest : List Token) → Leads plain anywhere n s r ts rest → length rest < length ts → Goes n s r C ts

-- the tokens go so for a rule that is for some gift
pub record Begins (n : ℕ) (s : Sort) {X : Type 0} (f : X → Rule s) (C : List Token → Type 0) (ts : List Token) : Type 0 where
  pub from : X
  pub goes : Goes n s (f from) C ts

-- What begins with a token that is asked for is nothing of the other rule; or, where the other rule only
-- leads on from it, it leads no further.
pub record Apart (n : ℕ) (s : Sort) (k : Key) (f : Payload k → Rule s) (r : Rule s) (C : List Token → Type 0) : Type 0 where
  pub ends : (us rest : List Token) (x : Gift s) → Ruled k us → Follows plain n s r us rest x → C rest → Unseen k us
  pub leads : (t : Token) (us rest : List Token) (p : Payload k) → Ruled k (t ∷ us) → Leads plain anywhere n s r (t ∷ us) rest → length rest < length (t ∷ us) → sees k t us ≡ Some p → Met anywhere (length rest) (run n (f p) us)

-- Where these may follow a rule, they tell what it leaves out and where what comes again ends.
unfoldable pub Clear : ℕ → {s : Sort} → Rule s → (List Token → Type 0) → Type 0
Clear n (gives s x) C = Unit {0}
Clear n (too_deep s) C = Unit {0}
Clear n (must s k f) C = (p : Payload k) → Clear n (f p) C
Clear n (may s k f r) C = ((p : Payload k) → Clear n (f p) C) × Clear n r C × Apart n s k f r C
Clear zero (part s p r) C = Clear zero r C
Clear (suc n) (part s p r) C = Clear n (table p) C
Clear n (then z s r f) C = Clear n r (Begins n s f C) × ((a : Gift z) → Clear n (f a) C)
Clear n (again s k f a) C = ((b : Gift s) (p : Payload k) → Clear n (f b p) (Begins n s (λ c. again s k f c) C)) × ((us : List Token) → C us → Unseen k us)

-- the plain rules spell the same
pub plain_law : {n : ℕ} {s : Sort} {r : Rule s} {ts rest : List Token} {x : Gift s} → Follows plain n s r ts rest x → (C : List Token → Type 0) → Clear n r C → C rest → Follows by_token n s r ts rest x
unfolding Clear
plain_law (done n s x ts) C h c = done n s x ts
plain_law (has n s k f t p ts rest x e j) C h c = has n s k f t p ts rest x e (plain_law j C (h p) c)
plain_law (takes n s k f r t p ts rest x e j) C h c = takes n s k f r t p ts rest x e (plain_law j C (h.0 p) c)
plain_law (skips n s k f r ts rest x u j) C h c = skips n s k f r ts rest x (h.2.ends ts rest x u j c) (plain_law j C h.1 c)
plain_law (nests n s p r ts rest x j) C h c = nests n s p r ts rest x (plain_law j C h c)
plain_law (stays s p r ts rest x j) C h c = stays s p r ts rest x (plain_law j C h c)
plain_law (chains n z s r f ts us rest a x j i) C h c = chains n z s r f ts us rest a x (plain_law j (Begins n s f C) h.0 (record { from = a; goes = through rest x i c })) (plain_law i C (h.1 a) c)
plain_law (stops n s k f a ts u) C h c = stops n s k f a ts (h.1 ts c)
plain_law (goes_on n s k f a t p ts us rest b x e j i) C h c = goes_on n s k f a t p ts us rest b x e (plain_law j (Begins n s (λ d. again s k f d) C) (h.0 a p) (record { from = b; goes = through rest x i c })) (plain_law i C (h.0, h.1) c)

unseen_plain : (k : Key) (ts : List Token) → Unseen k ts → Ruled k ts
unseen_plain k ts u = by k u where
  by : (k : Key) → Unseen k ts → Ruled k ts
  by before_formula u = u
  by group u = u
  by k u = tt

-- what the next token decides is what the plain rules say
pub token_plain : {n : ℕ} {s : Sort} {r : Rule s} {ts rest : List Token} {x : Gift s} → Follows by_token n s r ts rest x → Follows plain n s r ts rest x
token_plain (done n s x ts) = done n s x ts
token_plain (has n s k f t p ts rest x e j) = has n s k f t p ts rest x e (token_plain j)
token_plain (takes n s k f r t p ts rest x e j) = takes n s k f r t p ts rest x e (token_plain j)
token_plain (skips n s k f r ts rest x u j) = skips n s k f r ts rest x (unseen_plain k ts u) (token_plain j)
token_plain (nests n s p r ts rest x j) = nests n s p r ts rest x (token_plain j)
token_plain (stays s p r ts rest x j) = stays s p r ts rest x (token_plain j)
token_plain (chains n z s r f ts us rest a x j i) = chains n z s r f ts us rest a x (token_plain j) (token_plain i)
token_plain (stops n s k f a ts u) = stops n s k f a ts (unseen_plain k ts u)
token_plain (goes_on n s k f a t p ts us rest b x e j i) = goes_on n s k f a t p ts us rest b x e (token_plain j) (token_plain i)

-- and what it leads to
pub leads_plain : {e : End} {n : ℕ} {s : Sort} {r : Rule s} {ts rest : List Token} → Leads by_token e n s r ts rest → Leads plain e n s r ts rest
leads_plain (here n s r ts) = here n s r ts
leads_plain (deep_here n s ts) = deep_here n s ts
leads_plain (past_token e n s k f t p ts rest q j) = past_token e n s k f t p ts rest q (leads_plain j)
leads_plain (past_taken e n s k f r t p ts rest q j) = past_taken e n s k f r t p ts rest q (leads_plain j)
leads_plain (past_skipped e n s k f r ts rest u j) = past_skipped e n s k f r ts rest (unseen_plain k ts u) (leads_plain j)
leads_plain (in_part e n s p r ts rest j) = in_part e n s p r ts rest (leads_plain j)
leads_plain (in_other e s p r ts rest j) = in_other e s p r ts rest (leads_plain j)
leads_plain (in_first e n z s r f ts rest j) = in_first e n z s r f ts rest (leads_plain j)
leads_plain (past_first e n z s r f ts us rest a j q) = past_first e n z s r f ts us rest a (token_plain j) (leads_plain q)
leads_plain (in_next e n s k f a t p ts rest q j) = in_next e n s k f a t p ts rest q (leads_plain j)
leads_plain (past_next e n s k f a t p ts us rest b q j w) = past_next e n s k f a t p ts us rest b q (token_plain j) (leads_plain w)

-- what holds where more may follow holds where less may
goes_less : (n : ℕ) (s : Sort) (r : Rule s) (C D : List Token → Type 0) → ((us : List Token) → D us → C us) → (us : List Token) → Goes n s r D us → Goes n s r C us
goes_less n s r C D g us (through rest x j c) = through rest x j (g rest c)
goes_less n s r C D g us (within rest j lt) = within rest j lt

begins_less : (n : ℕ) (s : Sort) {X : Type 0} (f : X → Rule s) (C D : List Token → Type 0) → ((us : List Token) → D us → C us) → (us : List Token) → Begins n s f D us → Begins n s f C us
begins_less n s f C D g us h = record { from = h.from; goes = goes_less n s (f h.from) C D g us h.goes }

pub clear_less : (n : ℕ) {s : Sort} (r : Rule s) (C D : List Token → Type 0) → ((us : List Token) → D us → C us) → Clear n r C → Clear n r D
unfolding Clear
clear_less n (gives s x) C D g h = tt
clear_less n (too_deep s) C D g h = tt
clear_less n (must s k f) C D g h = λ p. clear_less n (f p) C D g (h p)
clear_less n (may s k f r) C D g h = ((λ p. clear_less n (f p) C D g (h.0 p)), clear_less n r C D g h.1, record { ends = λ us rest x i j c. h.2.ends us rest x i j (g rest c); leads = h.2.leads })
clear_less zero (part s p r) C D g h = clear_less zero r C D g h
clear_less (suc n) (part s p r) C D g h = clear_less n (table p) C D g h
clear_less n (then z s r f) C D g h = (clear_less n r (Begins n s f C) (Begins n s f D) (begins_less n s f C D g) h.0, (λ a. clear_less n (f a) C D g (h.1 a)))
clear_less n (again s k f a) C D g h = ((λ b p. clear_less n (f b p) (Begins n s (λ c. again s k f c) C) (Begins n s (λ c. again s k f c) D) (begins_less n s (λ c. again s k f c) C D g) (h.0 b p)), (λ us c. h.1 us (g us c)))

-- what the tokens of a rule and of what may follow it begin with
unfoldable pub Starts : ℕ → {s : Sort} → Rule s → (List Token → Type 0) → List Token → Type 0
Starts n (gives s x) C us = C us
Starts n (too_deep s) C us = ⊥
Starts n (must s k f) C us = Seen k us
Starts n (may s k f r) C us = Seen k us ⊎ Starts n r C us
Starts zero (part s p r) C us = Starts zero r C us
Starts (suc n) (part s p r) C us = Starts n (table p) C us
Starts n (then z s r f) C us = Starts n r (Begins n s f C) us
Starts n (again s k f a) C us = Seen k us ⊎ C us

seen : (k : Key) (t : Token) (p : Payload k) (ts : List Token) → sees k t ts ≡ Some p → Seen k (t ∷ ts)
seen k t p ts e = let P : Option (Payload k) → Type 0 = λ o. present o ≡ true in subst P (sym e) refl

-- of two rules one behind the other a token belongs to the second, or to the first
either_some : (n : ℕ) (s : Sort) {X : Type 0} (f : X → Rule s) (C : List Token → Type 0) (ts us rest : List Token) (a : X) → Leads plain anywhere n s (f a) us rest → length rest < length ts → Begins n s f C us ⊎ (length us < length ts)
either_some n s f C ts us rest a q l = elim (cases_lt (length rest) (length us)) [
  | inl i ↦ inl (record { from = a; goes = within rest q i })
  | inr i ↦ inr (omega (arith, i, l))
]

none_some : (k : Key) (t : Token) (ts : List Token) (p : Payload k) → sees k t ts ≡ None → sees k t ts ≡ Some p → ⊥
none_some k t ts p a b = absurd (cc)

-- what a rule spells begins so, where what follows may follow or a token is spelled
pub starts_law : {n : ℕ} {s : Sort} {r : Rule s} {ts rest : List Token} {x : Gift s} → Follows plain n s r ts rest x → (C : List Token → Type 0) → C rest ⊎ (length rest < length ts) → Starts n r C ts
unfolding Starts
starts_law (done n s x ts) C (inl c) = c
starts_law (done n s x ts) C (inr l) = absurd (omega (arith, l))
starts_law (has n s k f t p ts rest x e j) C c = seen k t p ts e
starts_law (takes n s k f r t p ts rest x e j) C c = inl (seen k t p ts e)
starts_law (skips n s k f r ts rest x u j) C c = inr (starts_law j C c)
starts_law (nests n s p r ts rest x j) C c = starts_law j C c
starts_law (stays s p r ts rest x j) C c = starts_law j C c
starts_law (chains n z s r f ts us rest a x j i) C (inl c) = starts_law j (Begins n s f C) (inl (record { from = a; goes = through rest x i c }))
starts_law (chains n z s r f ts us rest a x j i) C (inr l) = starts_law j (Begins n s f C) (either_some n s f C ts us rest a (follows_leads i rest (follows_rest i) (rest_same rest)) l)
starts_law (stops n s k f a ts u) C (inl c) = inr c
starts_law (stops n s k f a ts u) C (inr l) = absurd (omega (arith, l))
starts_law (goes_on n s k f a t p ts us rest b x e j i) C c = inl (seen k t p ts e)

-- what leads into a rule by a token begins so
leads_starts : {e : End} {n : ℕ} {s : Sort} {r : Rule s} {ts rest : List Token} → Leads plain e n s r ts rest → (C : List Token → Type 0) → length rest < length ts → Starts n r C ts
unfolding Starts
leads_starts (here n s r ts) C l = absurd (omega (arith, l))
leads_starts (deep_here n s ts) C l = absurd (omega (arith, l))
leads_starts (past_token e n s k f t p ts rest q j) C l = seen k t p ts q
leads_starts (past_taken e n s k f r t p ts rest q j) C l = inl (seen k t p ts q)
leads_starts (past_skipped e n s k f r ts rest u j) C l = inr (leads_starts j C l)
leads_starts (in_part e n s p r ts rest j) C l = leads_starts j C l
leads_starts (in_other e s p r ts rest j) C l = leads_starts j C l
leads_starts (in_first e n z s r f ts rest j) C l = leads_starts j (Begins n s f C) l
leads_starts (past_first e n z s r f ts us rest a j q) C l = starts_law j (Begins n s f C) (either_some n s f C ts us rest a (anyhow q) l)
leads_starts (in_next e n s k f a t p ts rest q j) C l = inl (seen k t p ts q)
leads_starts (past_next e n s k f a t p ts us rest b q j w) C l = inl (seen k t p ts q)

pub goes_starts : (n : ℕ) (s : Sort) (r : Rule s) (C : List Token → Type 0) (us : List Token) → Goes n s r C us → Starts n r C us
goes_starts n s r C us (through rest x j c) = starts_law j C (inl c)
goes_starts n s r C us (within rest j l) = leads_starts j C l

-- the other rule begins with no token that is asked for
pub apart : {n : ℕ} {s : Sort} {k : Key} {f : Payload k → Rule s} {r : Rule s} {C : List Token → Type 0} → ((us : List Token) → Ruled k us → Starts n r C us → Unseen k us) → Apart n s k f r C
apart {n} {s} {k} {f} {r} {C} h = record {
  ends = λ us rest x i j c. h us i (starts_law j C (inl c));
  leads = λ t us rest p i j l e. absurd (none_some k t us p (h (t ∷ us) i (leads_starts j C l)) e);
}
