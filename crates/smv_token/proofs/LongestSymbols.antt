-- The first symbol of the list that stands at the front of bytes is the longest.
use Rattle.std.proofs.Common.{◌≡◌, ◌≤◌, ◌⊎◌, ◌&&◌, ℕ, zero, suc, Bool, true, false, cond, List, [], ◌∷◌, Option, Some, None, length, refl, sym, inl, inr, ap, arith}
use Rattle.std.specs.Prelude.{nat_eq, nat_le}
use Rattle.std.specs.List.{Contains, find, starts_with}
use Rattle.std.proofs.lemmas.Bool.{leb-true}
use Rattle.std.proofs.lemmas.List.Elements.{Contains-append_cases, Contains-append_right}
use Rattle.smv_token.specs.declared.mark.Mark.{Mark}
use Rattle.smv_token.specs.Marks.{symbol_at, symbols, text}
use Rattle.smv_token.specs.LongestSymbol.{BeginsWith}

abbrev len : Mark → ℕ
len m = length (text m)

-- none is longer than the one before it
unfoldable falls : ℕ → List Mark → Bool
falls l [] = true
falls l (x ∷ xs) = nat_le (len x) l && falls (len x) xs

both : (a b : Bool) → (a && b) ≡ true → (a ≡ true) × (b ≡ true)
both true b e = (refl, e)
both false b e = absurd (cc)

here : (x : Mark) (xs : List Mark) → Contains (x ∷ xs) x
here x xs = (0, omega arith, refl)

behind : (x : Mark) (xs : List Mark) (y : Mark) → Contains xs y → Contains (x ∷ xs) y
behind x xs y h = Contains-append_right (x ∷ []) xs y h

cases : (x : Mark) (xs : List Mark) (y : Mark) → Contains (x ∷ xs) y → (y ≡ x) ⊎ Contains xs y
cases x xs y h = elim (Contains-append_cases (x ∷ []) xs y h) [ inl c ↦ inl (only c) | inr c ↦ inr c ] where
  only : Contains (x ∷ []) y → y ≡ x
  only (zero, l, e) = sym e
  only (suc k, l, e) = absurd (omega (arith, l))

none_there : (n : Mark) → Contains [] n → ⊥
none_there n (k, i, e) = absurd (omega (arith, i))

module _ (test : Mark → Bool) where
  abbrev Stood : List Mark → Mark → Type 0
  Stood xs m = Contains xs m × (test m ≡ true)

  abbrev Told : List Mark → Option Mark → Type 0
  Told xs None = (n : Mark) → Stood xs n → ⊥
  Told xs (Some m) = Stood xs m × ((n : Mark) → Stood xs n → len n ≤ len m)

  short : (l : ℕ) (xs : List Mark) → falls l xs ≡ true → (n : Mark) → Contains xs n → len n ≤ l
  unfolding falls
  short l [] f n c = absurd (none_there n c)
  short l (x ∷ xs) f n c =
      let g = both (nat_le (len x) l) (falls (len x) xs) f in
      let a = leb-true (len x) l g.0 in
      elim (cases x xs n c) [
        | inl e ↦ (let i = ap len e in omega (arith, a, i))
        | inr d ↦ (let i = short (len x) xs g.1 n d in omega (arith, a, i))
      ]

  found : (l : ℕ) (xs : List Mark) → falls l xs ≡ true → Told xs (find test xs)
  unfolding falls
  found l [] f = λ n s. none_there n s.0
  found l (x ∷ xs) f = by (test x) refl (find test xs) (found (len x) xs g.1) where
    g : (nat_le (len x) l ≡ true) × (falls (len x) xs ≡ true)
    g = both (nat_le (len x) l) (falls (len x) xs) f

    passed : test x ≡ false → (n : Mark) → Stood (x ∷ xs) n → Stood xs n
    passed e n s = elim (cases x xs n s.0) [
      | inl i ↦ absurd (let j = s.1 in cc)
      | inr c ↦ (c, s.1)
    ]

    by : (b : Bool) → test x ≡ b → (o : Option Mark) → Told xs o → Told (x ∷ xs) (cond b (Some x) o)
    by true e o h = ((here x xs, e), (λ n s. elim (cases x xs n s.0) [ inl i ↦ (let j = ap len i in omega (arith, j)) | inr c ↦ short (len x) xs g.1 n c ]))
    by false e None h = λ n s. h n (passed e n s)
    by false e (Some m) h = ((behind x xs m h.0.0, h.0.1), (λ n s. h.1 n (passed e n s)))

fall : falls 3 symbols ≡ true
unfolding falls symbols text
fall = refl

pub longest : (bytes : List ℕ) → BeginsWith bytes (symbol_at bytes)
unfolding symbol_at
longest bytes = by (find test symbols) (found test 3 symbols fall) where
  test : Mark → Bool
  test m = starts_with nat_eq bytes (text m)

  by : (o : Option Mark) → Told test symbols o → BeginsWith bytes o
  by None h = λ n s. h n (s.symbol, s.front)
  by (Some m) h = record { stands = record { symbol = h.0.0; front = h.0.1 }; most = λ n s. h.1 n (s.symbol, s.front) }
