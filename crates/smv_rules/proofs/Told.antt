-- What is read by a rule is what the rule says, and where reading stops the rule has led there.
use Rattle.std.proofs.Common.{◌≡◌, ◌≤◌, ℕ, zero, suc, List, [], ◌∷◌, length, Option, Some, None, Ok, Err, refl, arith}
use Rattle.smv_token.specs.declared.token.Token.{Token}
use Rattle.smv_rules.specs.Reading.{wrong, deep, ◌>>=◌, Got}
use Rattle.smv_rules.proofs.Outcomes.{TellsOf}
use Rattle.smv_rules.proofs.Rests.{rest_length}
use Rattle.smv_rules.specs.Keys.{Key, Payload, sees}
use Rattle.smv_rules.specs.Sorts.{Gift, Sort}
use Rattle.smv_rules.specs.Rules.{Rule, gives, too_deep, must, may, part, then, again}
use Rattle.smv_rules.specs.Table.{table}
use Rattle.smv_rules.specs.Running.{if_seen, repeated, run}
use Rattle.smv_rules.specs.Follows.{by_token, End, anywhere, at_depth, Follows, done, has, takes, skips, nests, stays, chains, stops, goes_on, Leads, here, deep_here, past_token, past_taken, past_skipped, in_part, in_other, in_first, past_first, in_next, past_next}
use Rattle.smv_rules.proofs.Ways.{follows_rest}

-- what a result of reading by a rule tells of the tokens
abbrev pub Tells : (n : ℕ) {s : Sort} → Rule s → List Token → Got (Gift s) → Type 0
Tells n {s} r ts out = TellsOf (Follows by_token n s r ts) (Leads by_token anywhere n s r ts) (Leads by_token at_depth n s r ts) out

-- what tells of one rule tells of another from which it is reached
as_well : (n m : ℕ) {s : Sort} (q r : Rule s) (us ts : List Token) → ((rest : List Token) (x : Gift s) → Follows by_token n s q us rest x → Follows by_token m s r ts rest x) → ((e : End) (rest : List Token) → Leads by_token e n s q us rest → Leads by_token e m s r ts rest) → (out : Got (Gift s)) → Tells n q us out → Tells m r ts out
unfolding TellsOf
as_well n m q r us ts f g (Ok x) h = f x.1 x.0 h
as_well n m q r us ts f g (Err (wrong i)) h = record { rest = h.rest; count = h.count; holds = g anywhere h.rest h.holds }
as_well n m q r us ts f g (Err (deep i)) h = record { rest = h.rest; count = h.count; holds = g at_depth h.rest h.holds }

must_told : (n : ℕ) (s : Sort) (k : Key) (f : Payload k → Rule s) (t : Token) (ts : List Token) → ((p : Payload k) → Tells n (f p) ts (run n (f p) ts)) → (o : Option (Payload k)) → sees k t ts ≡ o → Tells n (must s k f) (t ∷ ts) (if_seen o (λ p. run n (f p) ts) (Err (wrong (length (t ∷ ts)))))
unfolding TellsOf
must_told n s k f t ts next (Some p) e = as_well n n (f p) (must s k f) ts (t ∷ ts) (λ rest x h. has n s k f t p ts rest x e h) (λ i rest h. past_token i n s k f t p ts rest e h) (run n (f p) ts) (next p)
must_told n s k f t ts next None e = record { rest = t ∷ ts; count = refl; holds = here n s (must s k f) (t ∷ ts) }

may_told : (n : ℕ) (s : Sort) (k : Key) (f : Payload k → Rule s) (r : Rule s) (t : Token) (ts : List Token) → ((p : Payload k) → Tells n (f p) ts (run n (f p) ts)) → Tells n r (t ∷ ts) (run n r (t ∷ ts)) → (o : Option (Payload k)) → sees k t ts ≡ o → Tells n (may s k f r) (t ∷ ts) (if_seen o (λ p. run n (f p) ts) (run n r (t ∷ ts)))
may_told n s k f r t ts next other (Some p) e = as_well n n (f p) (may s k f r) ts (t ∷ ts) (λ rest x h. takes n s k f r t p ts rest x e h) (λ i rest h. past_taken i n s k f r t p ts rest e h) (run n (f p) ts) (next p)
may_told n s k f r t ts next other None e = as_well n n r (may s k f r) (t ∷ ts) (t ∷ ts) (λ rest x h. skips n s k f r (t ∷ ts) rest x e h) (λ i rest h. past_skipped i n s k f r (t ∷ ts) rest e h) (run n r (t ∷ ts)) other

then_told : (n : ℕ) (z s : Sort) (r : Rule z) (f : Gift z → Rule s) (ts : List Token) → ((a : Gift z) (us : List Token) → Tells n (f a) us (run n (f a) us)) → (out : Got (Gift z)) → Tells n r ts out → Tells n (then z s r f) ts (out >>= (λ a. run n (f a.0) a.1))
unfolding TellsOf
then_told n z s r f ts next (Ok a) h = as_well n n (f a.0) (then z s r f) a.1 ts (λ rest x j. chains n z s r f ts a.1 rest a.0 x h j) (λ i rest j. past_first i n z s r f ts a.1 rest a.0 h j) (run n (f a.0) a.1) (next a.0 a.1)
then_told n z s r f ts next (Err (wrong i)) h = record { rest = h.rest; count = h.count; holds = in_first anywhere n z s r f ts h.rest h.holds }
then_told n z s r f ts next (Err (deep i)) h = record { rest = h.rest; count = h.count; holds = in_first at_depth n z s r f ts h.rest h.holds }

-- one more, and then as many more as there are
next_told : (n : ℕ) (s : Sort) (k : Key) (f : Gift s → Payload k → Rule s) (a : Gift s) (t : Token) (p : Payload k) (ts : List Token) → sees k t ts ≡ Some p → (go : Gift s → List Token → Got (Gift s)) → ((b : Gift s) (us : List Token) → Follows by_token n s (f a p) ts us b → Tells n (again s k f b) us (go b us)) → (out : Got (Gift s)) → Tells n (f a p) ts out → Tells n (again s k f a) (t ∷ ts) (out >>= (λ b. go b.0 b.1))
unfolding TellsOf
next_told n s k f a t p ts e go more (Ok b) h = as_well n n (again s k f b.0) (again s k f a) b.1 (t ∷ ts) (λ rest x j. goes_on n s k f a t p ts b.1 rest b.0 x e h j) (λ i rest j. past_next i n s k f a t p ts b.1 rest b.0 e h j) (go b.0 b.1) (more b.0 b.1 h)
next_told n s k f a t p ts e go more (Err (wrong i)) h = record { rest = h.rest; count = h.count; holds = in_next anywhere n s k f a t p ts h.rest e h.holds }
next_told n s k f a t p ts e go more (Err (deep i)) h = record { rest = h.rest; count = h.count; holds = in_next at_depth n s k f a t p ts h.rest e h.holds }

again_told : (n : ℕ) (s : Sort) (k : Key) (f : Gift s → Payload k → Rule s) → ((a : Gift s) (p : Payload k) (us : List Token) → Tells n (f a p) us (run n (f a p) us)) → (m : ℕ) (a : Gift s) (ts : List Token) → length ts ≤ m → Tells n (again s k f a) ts (repeated s k (λ b p us. run n (f b p) us) m a ts)
unfolding TellsOf repeated
again_told n s k f one m a [] le = stops n s k f a [] tt
again_told n s k f one zero a (t ∷ ts) le = absurd (omega (arith, le))
again_told n s k f one (suc m) a (t ∷ ts) le = by_seen (λ b us j. again_told n s k f one m b us j) (sees k t ts) refl where
  More : Type 0
  More = (b : Gift s) (us : List Token) → length us ≤ m → Tells n (again s k f b) us (repeated s k (λ b p us. run n (f b p) us) m b us)

  by_seen : More → (o : Option (Payload k)) → sees k t ts ≡ o → Tells n (again s k f a) (t ∷ ts) (if_seen o (λ p. run n (f a p) ts >>= (λ b. repeated s k (λ b p us. run n (f b p) us) m b.0 b.1)) (Ok (a, t ∷ ts)))
  by_seen more None e = stops n s k f a (t ∷ ts) e
  by_seen more (Some p) e = next_told n s k f a t p ts e (λ b us. repeated s k (λ b p us. run n (f b p) us) m b us) (λ b us h. let len = rest_length us ts (follows_rest h) in more b us (omega (arith, le, len))) (run n (f a p) ts) (one a p ts)

pub told : (n : ℕ) {s : Sort} (r : Rule s) (ts : List Token) → Tells n r ts (run n r ts)
unfolding TellsOf run
told n (gives s x) ts = done n s x ts
told n (too_deep s) ts = record { rest = ts; count = refl; holds = deep_here n s ts }
told n (must s k f) [] = record { rest = []; count = refl; holds = here n s (must s k f) [] }
told n (must s k f) (t ∷ ts) = must_told n s k f t ts (λ p. told n (f p) ts) (sees k t ts) refl
told n (may s k f r) [] = as_well n n r (may s k f r) [] [] (λ rest x h. skips n s k f r [] rest x tt h) (λ i rest h. past_skipped i n s k f r [] rest tt h) (run n r []) (told n r [])
told n (may s k f r) (t ∷ ts) = may_told n s k f r t ts (λ p. told n (f p) ts) (told n r (t ∷ ts)) (sees k t ts) refl
told zero (part s p r) ts = as_well zero zero r (part s p r) ts ts (λ rest x h. stays s p r ts rest x h) (λ i rest h. in_other i s p r ts rest h) (run zero r ts) (told zero r ts)
told (suc n) (part s p r) ts = as_well n (suc n) (table p) (part s p r) ts ts (λ rest x h. nests n s p r ts rest x h) (λ i rest h. in_part i n s p r ts rest h) (run n (table p) ts) (told n (table p) ts)
told n (then z s r f) ts = then_told n z s r f ts (λ a us. told n (f a) us) (run n r ts) (told n r ts)
told n (again s k f a) ts = again_told n s k f (λ b p us. told n (f b p) us) (length ts) a ts (omega arith)
