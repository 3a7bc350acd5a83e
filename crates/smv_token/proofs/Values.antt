-- What is known of the numbers that digits write.
use Rattle.std.proofs.Common.{◌≡◌, ◌<◌, ◌≤◌, ◌+◌, ◌-◌, ◌*◌, ◌/◌, ℕ, inl, inr, List, [], ◌∷◌, Some, None, refl, sym, ap, ◌∙◌, length, get_or, drop, arith}
use Rattle.std.proofs.Math.Nat.{le-div_iff_mul-le, mul-le-mul_left}
use Rattle.std.proofs.lemmas.Bool.{lt-leb, ne_eqb}
use Rattle.std.proofs.lemmas.Bool.Decides.{eqb_tells, leb_tells}
use Rattle.std.proofs.lemmas.List.{at_drop_more}
use Rattle.smv_token.specs.Numbers.{at_most, digit_of, value_after}

pub fits_by_quotient : (value radix digit limit : ℕ) → 1 ≤ radix → digit ≤ limit → value ≤ (limit - digit) / radix → value * radix + digit ≤ limit
fits_by_quotient value radix digit limit hr hd hv = let h : value * radix ≤ limit - digit = (le-div_iff_mul-le {k = radix} {x = value} {y = limit - digit} hr).0 hv in omega arith

pub exceeds_by_quotient : (value radix digit limit : ℕ) → 1 ≤ radix → digit ≤ limit → (limit - digit) / radix < value → limit < value * radix + digit
exceeds_by_quotient value radix digit limit hr hd hv =
    elim (leb_tells (value * radix + digit) limit) [
      | inl h ↦ let k : value * radix ≤ limit - digit = omega (arith, h.1) in let q = (le-div_iff_mul-le {k = radix} {x = value} {y = limit - digit} hr).1 k in absurd (omega arith)
      | inr h ↦ h.1
    ]

grows : (radix n : ℕ) (cs : List ℕ) → 1 ≤ radix → n ≤ value_after radix n cs
grows radix n [] hr = omega arith
grows radix n (c ∷ cs) hr =
    elim (eqb_tells c 95) [
      | inl h ↦ rw h.0 (grows radix n cs hr)
      | inr h ↦ rw h.0 (let m = mul-le-mul_left {m = 1} {n = radix} n hr in let g = grows radix (n * radix + digit_of c) cs hr in omega (arith, m, g))
    ]

at_most_none : (limit n : ℕ) → at_most limit n ≡ None → limit < n
at_most_none limit n e = elim (leb_tells n limit) [ inl h ↦ absurd (let k : at_most limit n ≡ Some n = rw h.0 refl in cc) | inr h ↦ h.1 ]

at_most_over : (limit n : ℕ) → limit < n → at_most limit n ≡ None
at_most_over limit n h = rw (lt-leb n limit h) refl

pub too_large : (limit radix n : ℕ) (cs : List ℕ) → 1 ≤ radix → at_most limit n ≡ None → at_most limit (value_after radix n cs) ≡ None
too_large limit radix n cs hr e = let h = at_most_none limit n e in let g = grows radix n cs hr in at_most_over limit (value_after radix n cs) (omega arith)

pub stops_at : (limit radix v i d : ℕ) (ds : List ℕ) → 1 ≤ radix → i < length ds → (get_or ds i 0 ≡ 95 → ⊥) → d ≡ digit_of (get_or ds i 0) → None ≡ at_most limit (v * radix + d) → value_after radix v (drop i ds) ≡ value_after radix 0 ds → None ≡ at_most limit (value_after radix 0 ds)
stops_at limit radix v i d ds hr hi hc hd hn hv =
    let step : value_after radix v (drop i ds) ≡ value_after radix (v * radix + d) (drop (i + 1) ds) = at_drop_more (value_after radix v) ds i 0 hi ∙ passes (get_or ds i 0) (drop (i + 1) ds) hc hd in
    let t = too_large limit radix (v * radix + d) (drop (i + 1) ds) hr (sym hn) in
    sym (ap (at_most limit) (sym hv ∙ step) ∙ t) where
      passes : (c : ℕ) (cs : List ℕ) → (c ≡ 95 → ⊥) → d ≡ digit_of c → value_after radix v (c ∷ cs) ≡ value_after radix (v * radix + d) cs
      passes c cs ne e = rw (ne_eqb c 95 ne) (ap (λ k. value_after radix (v * radix + k) cs) (sym e))
