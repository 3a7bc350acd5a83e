-- What is left of tokens.
use Rattle.std.proofs.Common.{◌≡◌, ◌≤◌, ◌⊎◌, ℕ, zero, suc, ◌-◌, List, [], ◌∷◌, ◌++◌, length, drop, length-append, refl, sym, ◌∙◌, ap, append_assoc, inl, inr, arith}
use Rattle.std.proofs.Math.Seq.{drop-append_seam}
use Rattle.smv_token.specs.declared.token.Token.{Token}

-- the first tokens are the last of the second
pub record Rest (us ts : List Token) : Type 0 where
  pub used : List Token
  pub split : ts ≡ used ++ us

-- so many tokens are left, with this property
pub record Left (P : List Token → Type 0) (n : ℕ) : Type 0 where
  pub rest : List Token
  pub count : length rest ≡ n
  pub holds : P rest

pub rest_same : (ts : List Token) → Rest ts ts
rest_same ts = record { used = []; split = refl }

pub rest_more : (us ts : List Token) (t : Token) → Rest us ts → Rest us (t ∷ ts)
rest_more us ts t h = record { used = t ∷ h.used; split = ap (λ vs. t ∷ vs) h.split }

pub rest_trans : (us vs ts : List Token) → Rest us vs → Rest vs ts → Rest us ts
rest_trans us vs ts h g = record { used = g.used ++ h.used; split = g.split ∙ ap (λ ws. g.used ++ ws) h.split ∙ sym (append_assoc g.used h.used us) }

pub rest_length : (us ts : List Token) → Rest us ts → length us ≤ length ts
rest_length us ts h = let e = length-append h.used us in let s = ap length h.split in omega (arith, e, s)

behind : (s t : Token) (us vs : List Token) → s ∷ us ≡ t ∷ vs → us ≡ vs
behind s t us vs e = cc

-- of two rests one is a rest of the other
either_of : (us ws a b : List Token) → us ++ a ≡ ws ++ b → Rest a b ⊎ Rest b a
either_of [] ws a b e = inr (record { used = ws; split = e })
either_of (u ∷ us) [] a b e = inl (record { used = u ∷ us; split = sym e })
either_of (u ∷ us) (w ∷ ws) a b e = either_of us ws a b (behind u w (us ++ a) (ws ++ b) e)

pub either : (a b ts : List Token) → Rest a ts → Rest b ts → Rest a b ⊎ Rest b a
either a b ts h g = either_of h.used g.used a b (sym h.split ∙ g.split)

-- what is a rest of a token and others is all of it, or a rest of the others
pub rest_behind : (us ts : List Token) (t : Token) → Rest us (t ∷ ts) → (us ≡ t ∷ ts) ⊎ Rest us ts
rest_behind us ts t h = by h.used h.split where
  by : (vs : List Token) → t ∷ ts ≡ vs ++ us → (us ≡ t ∷ ts) ⊎ Rest us ts
  by [] e = inl (sym e)
  by (v ∷ vs) e = inr (record { used = vs; split = behind t v ts (vs ++ us) e })

-- a rest of a rest that is all of it is the same
pub rest_both : (a b : List Token) → Rest a b → Rest b a → a ≡ b
rest_both a b h g = by h.used h.split where
  by : (vs : List Token) → b ≡ vs ++ a → a ≡ b
  by [] e = sym e
  by (v ∷ vs) e = let n = ap length e in let m = length-append vs a in let k = rest_length b a g in absurd (omega (arith, n, m, k))

-- rests by the number of tokens before them
pub rest_drop : (us ts : List Token) → Rest us ts → drop (length ts - length us) ts ≡ us
rest_drop us ts h =
    let n = length-append h.used us in
    let s = ap length h.split in
    let i : length ts - length us ≡ length h.used = omega (arith, n, s) in
    ap (λ j. drop j ts) i ∙ ap (drop (length h.used)) h.split ∙ drop-append_seam h.used us

pub drop_rest : (i : ℕ) (ts : List Token) → Rest (drop i ts) ts
drop_rest zero ts = rest_same ts
drop_rest (suc i) [] = rest_same []
drop_rest (suc i) (t ∷ ts) = rest_more (drop i ts) ts t (drop_rest i ts)

pub drop_further : (i j : ℕ) (ts : List Token) → i ≤ j → Rest (drop j ts) (drop i ts)
drop_further zero j ts h = drop_rest j ts
drop_further (suc i) zero ts h = absurd (omega (arith, h))
drop_further (suc i) (suc j) [] h = rest_same []
drop_further (suc i) (suc j) (t ∷ ts) h = drop_further i j ts (omega (arith, h))

pub drop_end : (ts : List Token) → drop (length ts) ts ≡ []
drop_end [] = refl
drop_end (t ∷ ts) = drop_end ts
