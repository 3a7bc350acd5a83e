-- Reading decides what tokens spell by a rule: first up to where it ends in the tokens, then of all
-- tokens, by their numbers.
use Rattle.std.proofs.Common.{◌≡◌, ◌<◌, ◌≤◌, ◌+◌, ◌-◌, ℕ, List, [], ◌∷◌, length, drop, Result, Ok, Err, refl, sym, ◌∙◌, ap, subst, arith}
use Rattle.std.proofs.lemmas.List.{length-drop}
use Rattle.smv_token.specs.declared.token.Token.{Token}
use Rattle.smv_rules.specs.Reading.{Got, Stop, wrong, deep, all_read, to_end}
use Rattle.smv_rules.specs.Sorts.{Sort}
use Rattle.smv_rules.specs.Rules.{Rule}
use Rattle.smv_rules.specs.Running.{run}
use Rattle.smv_rules.specs.Follows.{by_token, Follows, Leads, anywhere, at_depth}
use Rattle.smv_rules.proofs.Rests.{Left, Rest, drop_end, drop_further, drop_rest, rest_drop, rest_length, rest_same}
use Rattle.smv_rules.proofs.Outcomes.{ReachedTo, SinksTo, TellsOf}
use Rattle.smv_rules.proofs.Ways.{follows_leads, follows_rest, leads_passed, leads_rest}
use Rattle.smv_rules.proofs.Told.{told}
use Rattle.smv_rules.proofs.Meeting.{Met, follows_read, leads_met}

-- Reading decides a grammar: S says what the tokens up to others spell, F that they are a front, and D
-- that it gets too deep at the last of them.
pub record Decides {X : Type 0} (S : List Token → List Token → X → Type 0) (F D : List Token → List Token → Type 0) (read : List Token → Got X) : Type 0 where
  pub tells : (ts : List Token) → TellsOf (S ts) (F ts) (D ts) (read ts)
  pub only : (ts rest : List Token) (x : X) → S ts rest x → read ts ≡ Ok (x, rest)
  pub fronts : (ts rest : List Token) (x : X) → S ts rest x → F ts rest
  pub reached : (ts rest : List Token) → F ts rest → ReachedTo (length rest) (read ts)
  pub sinks : (ts rest : List Token) → D ts rest → SinksTo (length rest) (read ts)
  pub behind : (ts rest : List Token) → F ts rest → Rest rest ts
  pub prefix : (ts rest cut : List Token) → F ts rest → Rest cut ts → Rest rest cut → F ts cut
  pub deep_front : (ts rest : List Token) → D ts rest → F ts rest
  pub deep_some : (ts rest : List Token) → D ts rest → length rest < length ts

-- The reading of all tokens decides what they spell, by the numbers of their fronts and of the tokens at
-- which it gets too deep.
pub record DecidesAll {X : Type 0} (S : List Token → X → Type 0) (F D : List Token → List Token → Type 0) (all : List Token → Result X Stop) : Type 0 where
  pub found : (ts : List Token) (x : X) → all ts ≡ Ok x → S ts x
  pub only : (ts : List Token) (x : X) → S ts x → all ts ≡ Ok x
  pub whole : (ts : List Token) (x : X) → S ts x → F ts (drop (length ts) ts)
  pub stuck : (ts : List Token) (k : ℕ) → all ts ≡ Err (wrong k) → (k ≤ length ts) × F ts (drop (length ts - k) ts)
  pub sunk : (ts : List Token) (k : ℕ) → all ts ≡ Err (deep k) → (k < length ts) × D ts (drop (length ts - k - 1 + 1) ts)
  pub reached : (ts : List Token) (i k : ℕ) → F ts (drop i ts) → all ts ≡ Err (wrong k) → k ≤ length ts - i
  pub sinks : (ts : List Token) (i : ℕ) → D ts (drop (i + 1) ts) → SinksTo (length ts - (i + 1)) (all ts)
  pub prefix : (ts : List Token) (i j : ℕ) → i ≤ j → F ts (drop j ts) → F ts (drop i ts)
  pub deep_front : (ts : List Token) (i : ℕ) → D ts (drop (i + 1) ts) → F ts (drop (i + 1) ts)

end_ok : {X : Type 0} (x y : X) (rest : List Token) → to_end y rest ≡ Ok x → (rest ≡ []) × (y ≡ x)
end_ok x y [] e = (refl, cc)
end_ok x y (t ∷ ts) e = absurd (cc)

end_wrong : {X : Type 0} (y : X) (rest : List Token) (k : ℕ) → to_end y rest ≡ Err (wrong k) → length rest ≡ k
end_wrong y [] k e = absurd (cc)
end_wrong y (t ∷ ts) k e = cc

end_deep : {X : Type 0} (y : X) (rest : List Token) (k : ℕ) → to_end y rest ≡ Err (deep k) → ⊥
end_deep y [] k e = absurd (cc)
end_deep y (t ∷ ts) k e = absurd (cc)

pub reached_known : {X : Type 0} (m k : ℕ) (out : Got X) → ReachedTo m out → all_read out ≡ Err (wrong k) → k ≤ m
unfolding ReachedTo
reached_known m k (Ok y) h e = let w = end_wrong y.0 y.1 k e in omega (arith, h, w)
reached_known m k (Err (wrong j)) h e = let w : j ≡ k = cc in omega (arith, h, w)
reached_known m k (Err (deep j)) h e = absurd (cc)

sinks_known : {X : Type 0} (m : ℕ) (out : Got X) → SinksTo m out → SinksTo m (all_read out)
sinks_known m out h = record { left = h.left; is = ap all_read h.is; far = h.far }

module _ {X : Type 0} {S : List Token → List Token → X → Type 0} {F D : List Token → List Token → Type 0} {read : List Token → Got X} where
  all_found : Decides S F D read → (ts : List Token) (x : X) (out : Got X) → TellsOf (S ts) (F ts) (D ts) out → all_read out ≡ Ok x → S ts [] x
  unfolding TellsOf
  all_found law ts x (Ok y) h e = let k = end_ok x y.0 y.1 e in subst (λ z. S ts [] z) k.1 (subst (λ us. S ts us y.0) k.0 h)
  all_found law ts x (Err e) h v = absurd (cc)

  all_stuck : Decides S F D read → (ts : List Token) (k : ℕ) (out : Got X) → TellsOf (S ts) (F ts) (D ts) out → all_read out ≡ Err (wrong k) → Left (F ts) k
  unfolding TellsOf
  all_stuck law ts k (Ok y) h e = record { rest = y.1; count = end_wrong y.0 y.1 k e; holds = law.fronts ts y.1 y.0 h }
  all_stuck law ts k (Err (wrong j)) h e = let same : j ≡ k = cc in record { rest = h.rest; count = h.count ∙ same; holds = h.holds }
  all_stuck law ts k (Err (deep j)) h e = absurd (cc)

  all_sunk : Decides S F D read → (ts : List Token) (k : ℕ) (out : Got X) → TellsOf (S ts) (F ts) (D ts) out → all_read out ≡ Err (deep k) → Left (D ts) k
  unfolding TellsOf
  all_sunk law ts k (Ok y) h e = absurd (end_deep y.0 y.1 k e)
  all_sunk law ts k (Err (wrong j)) h e = absurd (cc)
  all_sunk law ts k (Err (deep j)) h e = let same : j ≡ k = cc in record { rest = h.rest; count = h.count ∙ same; holds = h.holds }

  left_front : Decides S F D read → (ts : List Token) (k : ℕ) → Left (F ts) k → (k ≤ length ts) × F ts (drop (length ts - k) ts)
  left_front law ts k h =
      let a = law.behind ts h.rest h.holds in
      let n = rest_length h.rest ts a in
      let c = h.count in
      (omega (arith, n, c), subst (λ us. F ts us) (sym (ap (λ j. drop (length ts - j) ts) (sym h.count) ∙ rest_drop h.rest ts a)) h.holds)

  left_deep : Decides S F D read → (ts : List Token) (k : ℕ) → Left (D ts) k → (k < length ts) × D ts (drop (length ts - k - 1 + 1) ts)
  left_deep law ts k h =
      let n = law.deep_some ts h.rest h.holds in
      let c = h.count in
      let i : length ts - k - 1 + 1 ≡ length ts - length h.rest = omega (arith, n, c) in
      let a = law.behind ts h.rest (law.deep_front ts h.rest h.holds) in
      (omega (arith, n, c), subst (λ us. D ts us) (sym (ap (λ j. drop j ts) i ∙ rest_drop h.rest ts a)) h.holds)

  pub decides_all : Decides S F D read → DecidesAll (λ ts x. S ts [] x) F D (λ ts. all_read (read ts))
  decides_all law = record {
    found = λ ts x e. all_found law ts x (read ts) (law.tells ts) e;
    only = λ ts x h. ap all_read (law.only ts [] x h);
    whole = λ ts x h. subst (λ us. F ts us) (sym (drop_end ts)) (law.fronts ts [] x h);
    stuck = λ ts k e. left_front law ts k (all_stuck law ts k (read ts) (law.tells ts) e);
    sunk = λ ts k e. left_deep law ts k (all_sunk law ts k (read ts) (law.tells ts) e);
    reached = λ ts i k h e. let m = length-drop i ts in let l = reached_known (length (drop i ts)) k (read ts) (law.reached ts (drop i ts) h) e in omega (arith, m, l);
    sinks = λ ts i h. let m = length-drop (i + 1) ts in let s = sinks_known (length (drop (i + 1) ts)) (read ts) (law.sinks ts (drop (i + 1) ts) h) in record { left = s.left; is = s.is; far = let f = s.far in omega (arith, m, f) };
    prefix = λ ts i j le h. law.prefix ts (drop j ts) (drop i ts) h (drop_rest i ts) (drop_further i j ts le);
    deep_front = λ ts i h. law.deep_front ts (drop (i + 1) ts) h;
  }

pub reached : {X : Type 0} (m : ℕ) (out : Got X) → Met anywhere m out → ReachedTo m out
unfolding Met
reached m out h = h

sunk : {X : Type 0} (m : ℕ) (out : Got X) → Met at_depth m out → SinksTo m out
unfolding Met
sunk m out h = record { left = m; is = h; far = omega arith }

-- Where a rule is not too deep before its first token, reading decides it.
pub rule_decides : (n : ℕ) (s : Sort) (r : Rule s) → ((ts rest : List Token) → Leads by_token at_depth n s r ts rest → length rest < length ts) → Decides (Follows by_token n s r) (Leads by_token anywhere n s r) (Leads by_token at_depth n s r) (run n r)
rule_decides n s r some = record {
  tells = told n r;
  only = λ ts rest x h. follows_read h;
  fronts = λ ts rest x h. follows_leads h rest (follows_rest h) (rest_same rest);
  reached = λ ts rest h. reached (length rest) (run n r ts) (leads_met h);
  sinks = λ ts rest h. sunk (length rest) (run n r ts) (leads_met h);
  behind = λ ts rest h. leads_rest h;
  prefix = λ ts rest cut h a b. leads_passed h cut a b;
  deep_front = λ ts rest h. leads_passed h rest (leads_rest h) (rest_same rest);
  deep_some = some;
}
