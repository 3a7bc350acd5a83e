-- What a rule spells and where it leads to are rests of the tokens, and each place on a way is reached.
use Rattle.std.proofs.Common.{◌≡◌, ℕ, List, ◌∷◌, sym, subst, inl, inr}
use Rattle.smv_token.specs.declared.token.Token.{Token}
use Rattle.smv_rules.proofs.Rests.{Rest, either, rest_behind, rest_both, rest_more, rest_same, rest_trans}
use Rattle.smv_rules.specs.Sorts.{Gift, Sort}
use Rattle.smv_rules.specs.Rules.{Rule, gives, too_deep, must, may, again}
use Rattle.smv_rules.specs.Follows.{Mode, End, anywhere, Follows, done, has, takes, skips, nests, stays, chains, stops, goes_on, Leads, here, deep_here, past_token, past_taken, past_skipped, in_part, in_other, in_first, past_first, in_next, past_next}

pub follows_rest : {m : Mode} {n : ℕ} {s : Sort} {r : Rule s} {ts rest : List Token} {x : Gift s} → Follows m n s r ts rest x → Rest rest ts
follows_rest (done n s x ts) = rest_same ts
follows_rest (has n s k f t p ts rest x e h) = rest_more rest ts t (follows_rest h)
follows_rest (takes n s k f r t p ts rest x e h) = rest_more rest ts t (follows_rest h)
follows_rest (skips n s k f r ts rest x u h) = follows_rest h
follows_rest (nests n s p r ts rest x h) = follows_rest h
follows_rest (stays s p r ts rest x h) = follows_rest h
follows_rest (chains n z s r f ts us rest a x h j) = rest_trans rest us ts (follows_rest j) (follows_rest h)
follows_rest (stops n s k f a ts u) = rest_same ts
follows_rest (goes_on n s k f a t p ts us rest b x e h j) = rest_more rest ts t (rest_trans rest us ts (follows_rest j) (follows_rest h))

pub leads_rest : {m : Mode} {e : End} {n : ℕ} {s : Sort} {r : Rule s} {ts rest : List Token} → Leads m e n s r ts rest → Rest rest ts
leads_rest (here n s r ts) = rest_same ts
leads_rest (deep_here n s ts) = rest_same ts
leads_rest (past_token e n s k f t p ts rest i h) = rest_more rest ts t (leads_rest h)
leads_rest (past_taken e n s k f r t p ts rest i h) = rest_more rest ts t (leads_rest h)
leads_rest (past_skipped e n s k f r ts rest u h) = leads_rest h
leads_rest (in_part e n s p r ts rest h) = leads_rest h
leads_rest (in_other e s p r ts rest h) = leads_rest h
leads_rest (in_first e n z s r f ts rest h) = leads_rest h
leads_rest (past_first e n z s r f ts us rest a h j) = rest_trans rest us ts (leads_rest j) (follows_rest h)
leads_rest (in_next e n s k f a t p ts rest i h) = rest_more rest ts t (leads_rest h)
leads_rest (past_next e n s k f a t p ts us rest b i h j) = rest_more rest ts t (rest_trans rest us ts (leads_rest j) (follows_rest h))

-- the first place of a way
at_first : {m : Mode} (n : ℕ) (s : Sort) (r : Rule s) (ts cut : List Token) → cut ≡ ts → Leads m anywhere n s r ts cut
at_first {m} n s r ts cut e = let P : List Token → Type 0 = λ us. Leads m anywhere n s r ts us in subst P (sym e) (here n s r ts)

-- what is spelled is reached, and so is each place in it
pub follows_leads : {m : Mode} {n : ℕ} {s : Sort} {r : Rule s} {ts rest : List Token} {x : Gift s} → Follows m n s r ts rest x → (cut : List Token) → Rest cut ts → Rest rest cut → Leads m anywhere n s r ts cut
follows_leads (done n s x ts) cut a b = at_first n s (gives s x) ts cut (rest_both cut ts a b)
follows_leads (has n s k f t p ts rest x e h) cut a b = elim (rest_behind cut ts t a) [
  | inl i ↦ at_first n s (must s k f) (t ∷ ts) cut i
  | inr i ↦ past_token anywhere n s k f t p ts cut e (follows_leads h cut i b)
]
follows_leads (takes n s k f r t p ts rest x e h) cut a b = elim (rest_behind cut ts t a) [
  | inl i ↦ at_first n s (may s k f r) (t ∷ ts) cut i
  | inr i ↦ past_taken anywhere n s k f r t p ts cut e (follows_leads h cut i b)
]
follows_leads (skips n s k f r ts rest x u h) cut a b = past_skipped anywhere n s k f r ts cut u (follows_leads h cut a b)
follows_leads (nests n s p r ts rest x h) cut a b = in_part anywhere n s p r ts cut (follows_leads h cut a b)
follows_leads (stays s p r ts rest x h) cut a b = in_other anywhere s p r ts cut (follows_leads h cut a b)
follows_leads (chains n z s r f ts us rest c x h j) cut a b = elim (either us cut ts (follows_rest h) a) [
  | inl i ↦ in_first anywhere n z s r f ts cut (follows_leads h cut a i)
  | inr i ↦ past_first anywhere n z s r f ts us cut c h (follows_leads j cut i b)
]
follows_leads (stops n s k f c ts u) cut a b = at_first n s (again s k f c) ts cut (rest_both cut ts a b)
follows_leads (goes_on n s k f c t p ts us rest d x e h j) cut a b = elim (rest_behind cut ts t a) [
  | inl i ↦ at_first n s (again s k f c) (t ∷ ts) cut i
  | inr i ↦ elim (either us cut ts (follows_rest h) i) [
    | inl q ↦ in_next anywhere n s k f c t p ts cut e (follows_leads h cut i q)
    | inr q ↦ past_next anywhere n s k f c t p ts us cut d e h (follows_leads j cut q b)
  ]
]

-- each place on a way is reached
pub leads_passed : {m : Mode} {e : End} {n : ℕ} {s : Sort} {r : Rule s} {ts rest : List Token} → Leads m e n s r ts rest → (cut : List Token) → Rest cut ts → Rest rest cut → Leads m anywhere n s r ts cut
leads_passed (here n s r ts) cut a b = at_first n s r ts cut (rest_both cut ts a b)
leads_passed (deep_here n s ts) cut a b = at_first n s (too_deep s) ts cut (rest_both cut ts a b)
leads_passed (past_token e n s k f t p ts rest i h) cut a b = elim (rest_behind cut ts t a) [
  | inl q ↦ at_first n s (must s k f) (t ∷ ts) cut q
  | inr q ↦ past_token anywhere n s k f t p ts cut i (leads_passed h cut q b)
]
leads_passed (past_taken e n s k f r t p ts rest i h) cut a b = elim (rest_behind cut ts t a) [
  | inl q ↦ at_first n s (may s k f r) (t ∷ ts) cut q
  | inr q ↦ past_taken anywhere n s k f r t p ts cut i (leads_passed h cut q b)
]
leads_passed (past_skipped e n s k f r ts rest u h) cut a b = past_skipped anywhere n s k f r ts cut u (leads_passed h cut a b)
leads_passed (in_part e n s p r ts rest h) cut a b = in_part anywhere n s p r ts cut (leads_passed h cut a b)
leads_passed (in_other e s p r ts rest h) cut a b = in_other anywhere s p r ts cut (leads_passed h cut a b)
leads_passed (in_first e n z s r f ts rest h) cut a b = in_first anywhere n z s r f ts cut (leads_passed h cut a b)
leads_passed (past_first e n z s r f ts us rest c h j) cut a b = elim (either us cut ts (follows_rest h) a) [
  | inl i ↦ in_first anywhere n z s r f ts cut (follows_leads h cut a i)
  | inr i ↦ past_first anywhere n z s r f ts us cut c h (leads_passed j cut i b)
]
leads_passed (in_next e n s k f c t p ts rest i h) cut a b = elim (rest_behind cut ts t a) [
  | inl q ↦ at_first n s (again s k f c) (t ∷ ts) cut q
  | inr q ↦ in_next anywhere n s k f c t p ts cut i (leads_passed h cut q b)
]
leads_passed (past_next e n s k f c t p ts us rest d i h j) cut a b = elim (rest_behind cut ts t a) [
  | inl q ↦ at_first n s (again s k f c) (t ∷ ts) cut q
  | inr q ↦ elim (either us cut ts (follows_rest h) q) [
    | inl w ↦ in_next anywhere n s k f c t p ts cut i (follows_leads h cut q w)
    | inr w ↦ past_next anywhere n s k f c t p ts us cut d i h (leads_passed j cut w b)
  ]
]

-- what leads to a place at which it is too deep leads there
pub anyhow : {m : Mode} {e : End} {n : ℕ} {s : Sort} {r : Rule s} {ts rest : List Token} → Leads m e n s r ts rest → Leads m anywhere n s r ts rest
anyhow {rest = rest} h = leads_passed h rest (leads_rest h) (rest_same rest)
