-- The flags of tokens tell what each of their brackets opens, and are those of what is left of them.
use Rattle.std.proofs.Common.{◌≡◌, ◌<◌, ◌≤◌, ◌+◌, ◌-◌, ◌++◌, ◌||◌, ℕ, zero, suc, Bool, false, List, [], ◌∷◌, get_or, length, length-append, take, drop, Option, Some, None, IfSome, refl, sym, ◌∙◌, ap, subst, append_assoc, arith, rules, tests}
use Rattle.std.proofs.lemmas.List.{take_all}
use Rattle.std.specs.List.{list_any}
use Rattle.smv_token.specs.declared.token.Token.{Token}
use Rattle.smv_grammar.specs.Formulas.{Role, closes, group, group_on, holds_temporal, is_temporal, opens, plain, role, temporal}
use Rattle.smv_rules.proofs.Rests.{Rest}
use Rattle.smv_formula_reader.specs.Flags.{Flagged, closers, closers_on, closes_late, group_flags}

-- the flags of a rest
pub flagged_rest : (flags : List Bool) (ts rest : List Token) → Rest rest ts → Flagged flags ts → Flagged flags rest
flagged_rest flags ts rest b h = record { tells = λ vs ws k. h.tells (b.used ++ vs) ws (b.split ∙ ap (λ xs. b.used ++ xs) k ∙ sym (append_assoc b.used vs ws)) }

pub behind_first : (ts : List Token) → 1 ≤ length ts → Rest (take (length ts - 1) (drop 1 ts)) ts
behind_first [] h = absurd (omega (arith, h))
behind_first (t ∷ ts) h = record { used = t ∷ []; split = ap (λ us. t ∷ us) (sym (take_all (length (t ∷ ts) - 1) ts (omega arith))) }

pub flagged_behind : (flags : List Bool) (ts : List Token) → 1 ≤ length ts → Flagged flags ts → Flagged flags (take (length ts - 1) (drop 1 ts))
flagged_behind flags ts h f = flagged_rest flags ts (take (length ts - 1) (drop 1 ts)) (behind_first ts h) f

pub flag_within : (flags : List Bool) (ts : List Token) → Flagged flags ts → length ts < length flags
flag_within flags ts h = (h.tells [] ts refl).0

pub flag_is : (flags : List Bool) (ts : List Token) → Flagged flags ts → get_or flags (length ts) false ≡ holds_temporal 0 ts
flag_is flags ts h = (h.tells [] ts refl).1

-- a group holds such a word where not too many brackets close before one
holds_on : (r : Role) (t : Token) (n : ℕ) (more : ℕ → List Token) → role t ≡ r → (x : Option ℕ) → ((m : ℕ) → list_any (λ t. is_temporal (role t)) (more m) ≡ closes_late x m) → list_any (λ t. is_temporal (role t)) (group_on r n t more) ≡ closes_late (closers_on r x) n
holds_on opens t n more e None h = ap (λ r. is_temporal r || list_any (λ t. is_temporal (role t)) (more (suc n))) e ∙ h (suc n)
holds_on opens t n more e (Some k) h = ap (λ r. is_temporal r || list_any (λ t. is_temporal (role t)) (more (suc n))) e ∙ h (suc n) ∙ search (rules, tests)
holds_on closes t zero more e None h = refl
holds_on closes t zero more e (Some k) h = search (rules, tests)
holds_on closes t (suc n) more e None h = ap (λ r. is_temporal r || list_any (λ t. is_temporal (role t)) (more n)) e ∙ h n
holds_on closes t (suc n) more e (Some k) h = ap (λ r. is_temporal r || list_any (λ t. is_temporal (role t)) (more n)) e ∙ h n ∙ search (rules, tests)
holds_on temporal t n more e x h = ap (λ r. is_temporal r || list_any (λ t. is_temporal (role t)) (more n)) e ∙ search (rules, tests)
holds_on plain t n more e None h = ap (λ r. is_temporal r || list_any (λ t. is_temporal (role t)) (more n)) e ∙ h n
holds_on plain t n more e (Some k) h = ap (λ r. is_temporal r || list_any (λ t. is_temporal (role t)) (more n)) e ∙ h n

holds_is : (ts : List Token) (n : ℕ) → holds_temporal n ts ≡ closes_late (closers ts) n
unfolding holds_temporal group closers
holds_is [] n = refl
holds_is (t ∷ ts) n = holds_on (role t) t n (λ m. group m ts) refl (closers ts) (λ m. holds_is ts m)

-- the flags, from the last token to the first
pub flags_none : (ts : List Token) → group_flags (drop (length ts) ts) ≡ false ∷ []
unfolding group_flags holds_temporal group
flags_none [] = refl
flags_none (t ∷ ts) = flags_none ts

pub closers_none : (ts : List Token) → closers (drop (length ts) ts) ≡ None
unfolding closers
closers_none [] = refl
closers_none (t ∷ ts) = closers_none ts

next_token : (i : ℕ) (t : Token) (ts : List Token) → i < length ts → t ≡ get_or ts i t → drop i ts ≡ t ∷ drop (i + 1) ts
next_token i t [] h e = absurd (omega (arith, h))
next_token zero t (u ∷ us) h e = ap (λ v. v ∷ us) (sym e)
next_token (suc i) t (u ∷ us) h e = next_token i t us (omega (arith, h)) e ∙ ap (λ k. t ∷ drop k (u ∷ us)) (let s : suc (i + 1) ≡ suc i + 1 = omega arith in s)

pub closers_more : (i : ℕ) (t : Token) (ts : List Token) → i < length ts → t ≡ get_or ts i t → closers (drop i ts) ≡ closers_on (role t) (closers (drop (i + 1) ts))
unfolding closers
closers_more i t ts h e = ap closers (next_token i t ts h e)

pub flags_more : (i : ℕ) (t : Token) (ts : List Token) → i < length ts → t ≡ get_or ts i t → group_flags (drop i ts) ≡ group_flags (drop (i + 1) ts) ++ closes_late (closers (drop i ts)) 0 ∷ []
unfolding group_flags
flags_more i t ts h e =
    let n = next_token i t ts h e in
    ap group_flags n ∙ ap (λ b. group_flags (drop (i + 1) ts) ++ b ∷ []) (holds_is (t ∷ drop (i + 1) ts) 0 ∙ ap (λ us. closes_late (closers us) 0) (sym n))

pub small_more : (r : Role) (x : Option ℕ) (k : ℕ) → IfSome x (λ n. n ≤ k) → IfSome (closers_on r x) (λ n. n ≤ k + 1)
small_more opens None k h = tt
small_more opens (Some n) k h = omega (arith, h)
small_more closes None k h = tt
small_more closes (Some n) k h = omega (arith, h)
small_more temporal x k h = omega arith
small_more plain None k h = tt
small_more plain (Some n) k h = omega (arith, h)

-- the flags of all tokens tell it of each rest
flags_length : (ts : List Token) → length (group_flags ts) ≡ length ts + 1
unfolding group_flags
flags_length [] = refl
flags_length (t ∷ ts) = let e = length-append (group_flags ts) (holds_temporal 0 (t ∷ ts) ∷ []) in let k = flags_length ts in omega (arith, e, k)

get_before : (xs ys : List Bool) (i : ℕ) → i < length xs → get_or (xs ++ ys) i false ≡ get_or xs i false
get_before [] ys i h = absurd (omega (arith, h))
get_before (x ∷ xs) ys zero h = refl
get_before (x ∷ xs) ys (suc i) h = get_before xs ys i (omega (arith, h))

get_at : (xs : List Bool) (b : Bool) (i : ℕ) → i ≡ length xs → get_or (xs ++ b ∷ []) i false ≡ b
get_at [] b zero h = refl
get_at [] b (suc i) h = absurd (omega (arith, h))
get_at (x ∷ xs) b zero h = absurd (omega (arith, h))
get_at (x ∷ xs) b (suc i) h = get_at xs b i (omega (arith, h))

flag_of : (us vs : List Token) → get_or (group_flags (us ++ vs)) (length vs) false ≡ holds_temporal 0 vs
unfolding group_flags
flag_of [] [] = refl
flag_of [] (t ∷ vs) = get_at (group_flags vs) (holds_temporal 0 (t ∷ vs)) (length (t ∷ vs)) (let k = flags_length vs in omega (arith, k))
flag_of (u ∷ us) vs = get_before (group_flags (us ++ vs)) (holds_temporal 0 (u ∷ us ++ vs) ∷ []) (length vs) (let k = flags_length (us ++ vs) in let e = length-append us vs in omega (arith, k, e)) ∙ flag_of us vs

pub all_flagged : (flags : List Bool) (ts : List Token) → flags ≡ group_flags ts → Flagged flags ts
all_flagged flags ts h = let P : List Bool → Type 0 = λ fs. Flagged fs ts in subst P (sym h) (record { tells = λ us vs e. (let k = flags_length ts in let n = length-append us vs in let m = ap length e in omega (arith, k, n, m), ap (λ ws. get_or (group_flags ws) (length vs) false) e ∙ flag_of us vs) })
