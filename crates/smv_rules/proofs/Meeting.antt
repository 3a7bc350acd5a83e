-- What a rule says is read by it, and reading meets each place to which a rule leads.
use Rattle.std.proofs.Common.{◌≡◌, ◌≤◌, ℕ, zero, suc, List, [], ◌∷◌, length, Option, Some, None, Ok, Err, refl, sym, ◌∙◌, ap, subst, arith}
use Rattle.smv_token.specs.declared.token.Token.{Token}
use Rattle.smv_rules.specs.Reading.{Stop, wrong, deep, ◌>>=◌, Got}
use Rattle.smv_rules.proofs.Outcomes.{ReachedTo, TellsOf}
use Rattle.smv_rules.proofs.Rests.{rest_length}
use Rattle.smv_rules.specs.Keys.{Key, Payload, Unseen, sees}
use Rattle.smv_rules.specs.Sorts.{Gift, Sort}
use Rattle.smv_rules.specs.Rules.{Part, Rule, gives, too_deep, must, may, part, then, again}
use Rattle.smv_rules.specs.Table.{table}
use Rattle.smv_rules.specs.Running.{if_seen, repeated, run}
use Rattle.smv_rules.specs.Follows.{by_token, End, anywhere, at_depth, Follows, done, has, takes, skips, nests, stays, chains, stops, goes_on, Leads, here, deep_here, past_token, past_taken, past_skipped, in_part, in_other, in_first, past_first, in_next, past_next}
use Rattle.smv_rules.proofs.Ways.{follows_rest, leads_rest}
use Rattle.smv_rules.proofs.Told.{Tells, told}

-- the equations of reading
pub must_read : (n : ℕ) (s : Sort) (k : Key) (f : Payload k → Rule s) (t : Token) (p : Payload k) (ts : List Token) → sees k t ts ≡ Some p → run n (must s k f) (t ∷ ts) ≡ run n (f p) ts
unfolding run
must_read n s k f t p ts e = ap (λ (o : Option (Payload k)). if_seen o (λ p. run n (f p) ts) (Err (wrong (length (t ∷ ts))))) e

-- where a token is must_fails, reading stops
pub must_fails : (n : ℕ) (s : Sort) (k : Key) (f : Payload k → Rule s) (ts : List Token) → Unseen k ts → run n (must s k f) ts ≡ Err (wrong (length ts))
unfolding run
must_fails n s k f [] u = refl
must_fails n s k f (t ∷ ts) u = ap (λ (o : Option (Payload k)). if_seen o (λ p. run n (f p) ts) (Err (wrong (length (t ∷ ts))))) u

pub then_fails : (n : ℕ) (z s : Sort) (r : Rule z) (f : Gift z → Rule s) (ts : List Token) (i : Stop) → run n r ts ≡ Err i → run n (then z s r f) ts ≡ Err i
unfolding run
then_fails n z s r f ts i h = ap (λ (q : Got (Gift z)). q >>= (λ a. run n (f a.0) a.1)) h

pub take_read : (n : ℕ) (s : Sort) (k : Key) (f : Payload k → Rule s) (r : Rule s) (t : Token) (p : Payload k) (ts : List Token) → sees k t ts ≡ Some p → run n (may s k f r) (t ∷ ts) ≡ run n (f p) ts
unfolding run
take_read n s k f r t p ts e = ap (λ (o : Option (Payload k)). if_seen o (λ p. run n (f p) ts) (run n r (t ∷ ts))) e

pub skip_read : (n : ℕ) (s : Sort) (k : Key) (f : Payload k → Rule s) (r : Rule s) (ts : List Token) → Unseen k ts → run n (may s k f r) ts ≡ run n r ts
unfolding run
skip_read n s k f r [] u = refl
skip_read n s k f r (t ∷ ts) u = ap (λ (o : Option (Payload k)). if_seen o (λ p. run n (f p) ts) (run n r (t ∷ ts))) u

pub then_read : (n : ℕ) (z s : Sort) (r : Rule z) (f : Gift z → Rule s) (ts us : List Token) (a : Gift z) → run n r ts ≡ Ok (a, us) → run n (then z s r f) ts ≡ run n (f a) us
unfolding run
then_read n z s r f ts us a e = ap (λ (q : Got (Gift z)). q >>= (λ b. run n (f b.0) b.1)) e

pub stop_read : (n : ℕ) (s : Sort) (k : Key) (f : Gift s → Payload k → Rule s) (a : Gift s) (ts : List Token) → Unseen k ts → run n (again s k f a) ts ≡ Ok (a, ts)
unfolding run repeated
stop_read n s k f a [] u = refl
stop_read n s k f a (t ∷ ts) u = ap (λ (o : Option (Payload k)). if_seen o (λ p. run n (f a p) ts >>= (λ b. repeated s k (λ b p us. run n (f b p) us) (length ts) b.0 b.1)) (Ok (a, t ∷ ts))) u

-- what is left is a rest of the tokens
told_within : (n : ℕ) {s : Sort} (r : Rule s) (ts : List Token) (out : Got (Gift s)) → Tells n r ts out → ReachedTo (length ts) out
unfolding TellsOf ReachedTo
told_within n r ts (Ok x) h = rest_length x.1 ts (follows_rest h)
told_within n r ts (Err (wrong i)) h = let c = h.count in let l = rest_length h.rest ts (leads_rest h.holds) in omega (arith, c, l)
told_within n r ts (Err (deep i)) h = tt

pub run_within : (n : ℕ) {s : Sort} (r : Rule s) (ts : List Token) → ReachedTo (length ts) (run n r ts)
run_within n r ts = told_within n r ts (run n r ts) (told n r ts)

-- the number of tokens is enough for all that come again
same_then : {X : Type 0} (k : ℕ) (out : Got X) (f g : X × List Token → Got X) → ReachedTo k out → ((x : X × List Token) → length x.1 ≤ k → f x ≡ g x) → (out >>= f) ≡ (out >>= g)
unfolding ReachedTo
same_then k (Ok x) f g h e = e x h
same_then k (Err i) f g h e = refl

enough : (n : ℕ) (s : Sort) (k : Key) (f : Gift s → Payload k → Rule s) (i j : ℕ) (a : Gift s) (ts : List Token) → length ts ≤ i → length ts ≤ j → repeated s k (λ b p us. run n (f b p) us) i a ts ≡ repeated s k (λ b p us. run n (f b p) us) j a ts
unfolding repeated
enough n s k f i j a [] le le2 = refl
enough n s k f zero j a (t ∷ ts) le le2 = absurd (omega (arith, le))
enough n s k f (suc i) zero a (t ∷ ts) le le2 = absurd (omega (arith, le2))
enough n s k f (suc i) (suc j) a (t ∷ ts) le le2 = by_seen (λ b us l l2. enough n s k f i j b us l l2) (sees k t ts) where
  go : ℕ → Gift s × List Token → Got (Gift s)
  go m b = repeated s k (λ b p us. run n (f b p) us) m b.0 b.1

  More : Type 0
  More = (b : Gift s) (us : List Token) → length us ≤ i → length us ≤ j → go i (b, us) ≡ go j (b, us)

  by_seen : More → (o : Option (Payload k)) → if_seen o (λ p. run n (f a p) ts >>= go i) (Ok (a, t ∷ ts)) ≡ if_seen o (λ p. run n (f a p) ts >>= go j) (Ok (a, t ∷ ts))
  by_seen more None = refl
  by_seen more (Some p) = same_then (length ts) (run n (f a p) ts) (go i) (go j) (run_within n (f a p) ts) (λ x l. more x.0 x.1 (omega (arith, le, l)) (omega (arith, le2, l)))

-- behind one more, reading goes on as behind what it gave
pub next_read : (n : ℕ) (s : Sort) (k : Key) (f : Gift s → Payload k → Rule s) (a : Gift s) (t : Token) (p : Payload k) (ts : List Token) → sees k t ts ≡ Some p → run n (again s k f a) (t ∷ ts) ≡ (run n (f a p) ts >>= (λ b. run n (again s k f b.0) b.1))
unfolding run repeated
next_read n s k f a t p ts e =
    let go : Gift s × List Token → Got (Gift s) = λ b. repeated s k (λ b p us. run n (f b p) us) (length ts) b.0 b.1 in
    ap (λ (o : Option (Payload k)). if_seen o (λ p. run n (f a p) ts >>= go) (Ok (a, t ∷ ts))) e
    ∙ same_then (length ts) (run n (f a p) ts) go (λ b. repeated s k (λ b p us. run n (f b p) us) (length b.1) b.0 b.1) (run_within n (f a p) ts) (λ x l. enough n s k f (length ts) (length x.1) x.0 x.1 l (omega arith))

pub given : {X Y : Type 0} (out : Got X) (f : X × List Token → Got Y) (x : X) (us : List Token) → out ≡ Ok (x, us) → (out >>= f) ≡ f (x, us)
given out f x us e = ap (λ (q : Got _). q >>= f) e

pub part_read : (n : ℕ) (s : Sort) (p : Part s) (r : Rule s) (ts : List Token) → run (suc n) (part s p r) ts ≡ run n (table p) ts
unfolding run
part_read n s p r ts = refl

pub other_read : (s : Sort) (p : Part s) (r : Rule s) (ts : List Token) → run 0 (part s p r) ts ≡ run 0 r ts
unfolding run
other_read s p r ts = refl

pub done_read : (n : ℕ) (s : Sort) (x : Gift s) (ts : List Token) → run n (gives s x) ts ≡ Ok (x, ts)
unfolding run
done_read n s x ts = refl

deep_read : (n : ℕ) (s : Sort) (ts : List Token) → run n (too_deep s) ts ≡ Err (deep (length ts))
unfolding run
deep_read n s ts = refl

-- what a rule says is read
pub follows_read : {n : ℕ} {s : Sort} {r : Rule s} {ts rest : List Token} {x : Gift s} → Follows by_token n s r ts rest x → run n r ts ≡ Ok (x, rest)
follows_read (done n s x ts) = done_read n s x ts
follows_read (has n s k f t p ts rest x e h) = must_read n s k f t p ts e ∙ follows_read h
follows_read (takes n s k f r t p ts rest x e h) = take_read n s k f r t p ts e ∙ follows_read h
follows_read (skips n s k f r ts rest x u h) = skip_read n s k f r ts u ∙ follows_read h
follows_read (nests n s p r ts rest x h) = part_read n s p r ts ∙ follows_read h
follows_read (stays s p r ts rest x h) = other_read s p r ts ∙ follows_read h
follows_read (chains n z s r f ts us rest a x h j) = then_read n z s r f ts us a (follows_read h) ∙ follows_read j
follows_read (stops n s k f a ts u) = stop_read n s k f a ts u
follows_read (goes_on n s k f a t p ts us rest b x e h j) = next_read n s k f a t p ts e ∙ given (run n (f a p) ts) (λ b. run n (again s k f b.0) b.1) b us (follows_read h) ∙ follows_read j

-- reading goes at least as far as a place, or ends there since it is too deep
unfoldable pub Met : {X : Type 0} → End → ℕ → Got X → Type 0
Met anywhere m out = ReachedTo m out
Met at_depth m out = out ≡ Err (deep m)

-- by what follows, reading goes no less far
pub met_then : {X Y : Type 0} (e : End) (m : ℕ) (out : Got X) (f : X × List Token → Got Y) → ((x : X × List Token) → ReachedTo (length x.1) (f x)) → Met e m out → Met e m (out >>= f)
unfolding Met ReachedTo
met_then {Y = Y} anywhere m (Ok x) f h g = less (f x) (h x) where
  less : (q : Got Y) → ReachedTo (length x.1) q → ReachedTo m q
  less (Ok y) i = omega (arith, g, i)
  less (Err (wrong j)) i = omega (arith, g, i)
  less (Err (deep j)) i = tt
met_then anywhere m (Err (wrong i)) f h g = g
met_then anywhere m (Err (deep i)) f h g = tt
met_then at_depth m out f h g = ap (λ q. q >>= f) g

pub met_as : {X : Type 0} (e : End) (m : ℕ) (out other : Got X) → out ≡ other → Met e m other → Met e m out
met_as {X} e m out other i h = let P : Got X → Type 0 = λ q. Met e m q in subst P (sym i) h

pub first_met : (e : End) (m n : ℕ) (z s : Sort) (r : Rule z) (f : Gift z → Rule s) (ts : List Token) → Met e m (run n r ts) → Met e m (run n (then z s r f) ts)
unfolding run
first_met e m n z s r f ts h = met_then e m (run n r ts) (λ a. run n (f a.0) a.1) (λ a. run_within n (f a.0) a.1) h

here_met : (n : ℕ) (s : Sort) (r : Rule s) (ts : List Token) → Met anywhere (length ts) (run n r ts)
unfolding Met
here_met n s r ts = run_within n r ts

deep_met : (n : ℕ) (s : Sort) (ts : List Token) → Met at_depth (length ts) (run n (too_deep s) ts)
unfolding Met
deep_met n s ts = deep_read n s ts

-- reading meets each place to which a rule leads
pub leads_met : {e : End} {n : ℕ} {s : Sort} {r : Rule s} {ts rest : List Token} → Leads by_token e n s r ts rest → Met e (length rest) (run n r ts)
leads_met (here n s r ts) = here_met n s r ts
leads_met (deep_here n s ts) = deep_met n s ts
leads_met (past_token e n s k f t p ts rest i h) = met_as e (length rest) (run n (must s k f) (t ∷ ts)) (run n (f p) ts) (must_read n s k f t p ts i) (leads_met h)
leads_met (past_taken e n s k f r t p ts rest i h) = met_as e (length rest) (run n (may s k f r) (t ∷ ts)) (run n (f p) ts) (take_read n s k f r t p ts i) (leads_met h)
leads_met (past_skipped e n s k f r ts rest u h) = met_as e (length rest) (run n (may s k f r) ts) (run n r ts) (skip_read n s k f r ts u) (leads_met h)
leads_met (in_part e n s p r ts rest h) = met_as e (length rest) (run (suc n) (part s p r) ts) (run n (table p) ts) (part_read n s p r ts) (leads_met h)
leads_met (in_other e s p r ts rest h) = met_as e (length rest) (run 0 (part s p r) ts) (run 0 r ts) (other_read s p r ts) (leads_met h)
leads_met (in_first e n z s r f ts rest h) = first_met e (length rest) n z s r f ts (leads_met h)
leads_met (past_first e n z s r f ts us rest a h j) = met_as e (length rest) (run n (then z s r f) ts) (run n (f a) us) (then_read n z s r f ts us a (follows_read h)) (leads_met j)
leads_met (in_next e n s k f a t p ts rest i h) = met_as e (length rest) (run n (again s k f a) (t ∷ ts)) (run n (f a p) ts >>= (λ b. run n (again s k f b.0) b.1)) (next_read n s k f a t p ts i) (met_then e (length rest) (run n (f a p) ts) (λ b. run n (again s k f b.0) b.1) (λ b. run_within n (again s k f b.0) b.1) (leads_met h))
leads_met (past_next e n s k f a t p ts us rest b i h j) = met_as e (length rest) (run n (again s k f a) (t ∷ ts)) (run n (again s k f b) us) (next_read n s k f a t p ts i ∙ given (run n (f a p) ts) (λ b. run n (again s k f b.0) b.1) b us (follows_read h)) (leads_met j)
