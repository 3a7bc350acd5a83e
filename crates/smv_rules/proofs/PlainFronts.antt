-- Reading gets at least as far as the plain rules lead.
use Rattle.std.proofs.Common.{◌≡◌, ◌≤◌, ℕ, suc, List, [], ◌∷◌, length, Option, Some, None, Ok, Err, refl, inl, inr, arith}
use Rattle.std.proofs.lemmas.Bool.{cases_lt}
use Rattle.smv_token.specs.declared.token.Token.{Token}
use Rattle.smv_rules.specs.Keys.{Key, Payload, sees}
use Rattle.smv_rules.specs.Sorts.{Gift, Sort}
use Rattle.smv_rules.specs.Reading.{wrong, deep, Got}
use Rattle.smv_rules.specs.Rules.{Rule, gives, too_deep, must, may, part, then, again}
use Rattle.smv_rules.specs.Running.{run}
use Rattle.smv_rules.specs.Table.{table}
use Rattle.smv_rules.specs.Follows.{plain, Ruled, Follows, done, has, takes, skips, nests, stays, chains, stops, goes_on, End, anywhere, Leads, here, deep_here, past_token, past_taken, past_skipped, in_part, in_other, in_first, past_first, in_next, past_next}
use Rattle.smv_rules.proofs.Outcomes.{ReachedTo}
use Rattle.smv_rules.proofs.Rests.{rest_same}
use Rattle.smv_rules.proofs.Ways.{anyhow, follows_leads, follows_rest}
use Rattle.smv_rules.proofs.Meeting.{Met, first_met, follows_read, met_as, must_read, next_read, other_read, part_read, run_within, skip_read, take_read, then_read}
use Rattle.smv_rules.proofs.Plain.{Apart, Begins, Clear, plain_law, within}

pub met_more : {X : Type 0} (m k : ℕ) (out : Got X) → m ≤ k → Met anywhere m out → Met anywhere k out
unfolding Met ReachedTo
met_more m k (Ok y) le h = omega (arith, le, h)
met_more m k (Err (wrong j)) le h = omega (arith, le, h)
met_more m k (Err (deep j)) le h = tt

pub met_here : (n : ℕ) {s : Sort} (r : Rule s) (ts : List Token) → Met anywhere (length ts) (run n r ts)
unfolding Met
met_here n r ts = run_within n r ts

-- past a token that may be left out
skipped : (n : ℕ) (s : Sort) (k : Key) (f : Payload k → Rule s) (r : Rule s) (C : List Token → Type 0) (ts rest : List Token) → Apart n s k f r C → Ruled k ts → Leads plain anywhere n s r ts rest → Met anywhere (length rest) (run n r ts) → Met anywhere (length rest) (run n (may s k f r) ts)
skipped n s k f r C [] rest h i j m = met_as anywhere (length rest) (run n (may s k f r) []) (run n r []) (skip_read n s k f r [] tt) m
skipped n s k f r C (t ∷ us) rest h i j m = by (sees k t us) refl where
  taken : (p : Payload k) → sees k t us ≡ Some p → Met anywhere (length rest) (run n (f p) us)
  taken p e = elim (cases_lt (length rest) (length (t ∷ us))) [
    | inl l ↦ h.leads t us rest p i j l e
    | inr l ↦ met_more (length us) (length rest) (run n (f p) us) (omega (arith, l)) (met_here n (f p) us)
  ]

  by : (o : Option (Payload k)) → sees k t us ≡ o → Met anywhere (length rest) (run n (may s k f r) (t ∷ us))
  by None e = met_as anywhere (length rest) (run n (may s k f r) (t ∷ us)) (run n r (t ∷ us)) (skip_read n s k f r (t ∷ us) e) m
  by (Some p) e = met_as anywhere (length rest) (run n (may s k f r) (t ∷ us)) (run n (f p) us) (take_read n s k f r t p us e) (taken p e)

-- past a rule and into another
chained : (n : ℕ) (z s : Sort) (r : Rule z) (f : Gift z → Rule s) (C : List Token → Type 0) (ts us rest : List Token) (a : Gift z) → Clear n r (Begins n s f C) → Follows plain n z r ts us a → Leads plain anywhere n s (f a) us rest → Met anywhere (length us) (run n r ts) → Met anywhere (length rest) (run n (f a) us) → Met anywhere (length rest) (run n (then z s r f) ts)
chained n z s r f C ts us rest a h j q m w = elim (cases_lt (length rest) (length us)) [
  | inl l ↦ met_as anywhere (length rest) (run n (then z s r f) ts) (run n (f a) us) (then_read n z s r f ts us a (follows_read (plain_law j (Begins n s f C) h (record { from = a; goes = within rest q l })))) w
  | inr l ↦ met_more (length us) (length rest) (run n (then z s r f) ts) l (first_met anywhere (length us) n z s r f ts m)
]

-- past one more and into what comes again
repeated : (n : ℕ) (s : Sort) (k : Key) (f : Gift s → Payload k → Rule s) (a : Gift s) (t : Token) (p : Payload k) (ts rest : List Token) → sees k t ts ≡ Some p → Met anywhere (length rest) (run n (then s s (f a p) (λ b. again s k f b)) ts) → Met anywhere (length rest) (run n (again s k f a) (t ∷ ts))
unfolding run
repeated n s k f a t p ts rest e m = met_as anywhere (length rest) (run n (again s k f a) (t ∷ ts)) (run n (then s s (f a p) (λ b. again s k f b)) ts) (next_read n s k f a t p ts e) m

-- what is spelled is reached
follows_met : {n : ℕ} {s : Sort} {r : Rule s} {ts rest : List Token} {x : Gift s} → Follows plain n s r ts rest x → (C : List Token → Type 0) → Clear n r C → Met anywhere (length rest) (run n r ts)
unfolding Clear
follows_met (done n s x ts) C h = met_here n (gives s x) ts
follows_met (has n s k f t p ts rest x e j) C h = met_as anywhere (length rest) (run n (must s k f) (t ∷ ts)) (run n (f p) ts) (must_read n s k f t p ts e) (follows_met j C (h p))
follows_met (takes n s k f r t p ts rest x e j) C h = met_as anywhere (length rest) (run n (may s k f r) (t ∷ ts)) (run n (f p) ts) (take_read n s k f r t p ts e) (follows_met j C (h.0 p))
follows_met (skips n s k f r ts rest x u j) C h = skipped n s k f r C ts rest h.2 u (follows_leads j rest (follows_rest j) (rest_same rest)) (follows_met j C h.1)
follows_met (nests n s p r ts rest x j) C h = met_as anywhere (length rest) (run (suc n) (part s p r) ts) (run n (table p) ts) (part_read n s p r ts) (follows_met j C h)
follows_met (stays s p r ts rest x j) C h = met_as anywhere (length rest) (run 0 (part s p r) ts) (run 0 r ts) (other_read s p r ts) (follows_met j C h)
follows_met (chains n z s r f ts us rest a x j i) C h = chained n z s r f C ts us rest a h.0 j (follows_leads i rest (follows_rest i) (rest_same rest)) (follows_met j (Begins n s f C) h.0) (follows_met i C (h.1 a))
follows_met (stops n s k f a ts u) C h = met_here n (again s k f a) ts
follows_met (goes_on n s k f a t p ts us rest b x e j i) C h = repeated n s k f a t p ts rest e (chained n s s (f a p) (λ c. again s k f c) C ts us rest b (h.0 a p) j (follows_leads i rest (follows_rest i) (rest_same rest)) (follows_met j (Begins n s (λ c. again s k f c) C) (h.0 a p)) (follows_met i C (h.0, h.1)))

-- where a rule leads is reached
pub leads_front : {e : End} {n : ℕ} {s : Sort} {r : Rule s} {ts rest : List Token} → Leads plain e n s r ts rest → (C : List Token → Type 0) → Clear n r C → Met anywhere (length rest) (run n r ts)
unfolding Clear
leads_front (here n s r ts) C h = met_here n r ts
leads_front (deep_here n s ts) C h = met_here n (too_deep s) ts
leads_front (past_token e n s k f t p ts rest q j) C h = met_as anywhere (length rest) (run n (must s k f) (t ∷ ts)) (run n (f p) ts) (must_read n s k f t p ts q) (leads_front j C (h p))
leads_front (past_taken e n s k f r t p ts rest q j) C h = met_as anywhere (length rest) (run n (may s k f r) (t ∷ ts)) (run n (f p) ts) (take_read n s k f r t p ts q) (leads_front j C (h.0 p))
leads_front (past_skipped e n s k f r ts rest u j) C h = skipped n s k f r C ts rest h.2 u (anyhow j) (leads_front j C h.1)
leads_front (in_part e n s p r ts rest j) C h = met_as anywhere (length rest) (run (suc n) (part s p r) ts) (run n (table p) ts) (part_read n s p r ts) (leads_front j C h)
leads_front (in_other e s p r ts rest j) C h = met_as anywhere (length rest) (run 0 (part s p r) ts) (run 0 r ts) (other_read s p r ts) (leads_front j C h)
leads_front (in_first e n z s r f ts rest j) C h = first_met anywhere (length rest) n z s r f ts (leads_front j (Begins n s f C) h.0)
leads_front (past_first e n z s r f ts us rest a j q) C h = chained n z s r f C ts us rest a h.0 j (anyhow q) (follows_met j (Begins n s f C) h.0) (leads_front q C (h.1 a))
leads_front (in_next e n s k f a t p ts rest q j) C h = repeated n s k f a t p ts rest q (first_met anywhere (length rest) n s s (f a p) (λ b. again s k f b) ts (leads_front j (Begins n s (λ c. again s k f c) C) (h.0 a p)))
leads_front (past_next e n s k f a t p ts us rest b q j w) C h = repeated n s k f a t p ts rest q (chained n s s (f a p) (λ c. again s k f c) C ts us rest b (h.0 a p) j (anyhow w) (follows_met j (Begins n s (λ c. again s k f c) C) (h.0 a p)) (leads_front w C (h.0, h.1)))
