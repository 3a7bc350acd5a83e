-- Sweeps over tests that agree.
use Rattle.std.proofs.Common.{◌≡◌, ℕ, zero, suc, ◌+◌, ◌-◌, ◌<◌, ◌≤◌, Bool, List, length, true, false, ◌||◌, ◌&&◌, inl, inr, refl, sym, ap, subst, ◌∙◌, arith}
use Rattle.std.proofs.lemmas.Bool.Decides.{Decides-ltb}
use Rattle.std.specs.Prelude.{nat_lt, slice_set, Result, Ok, Err, IfOk}
use Rattle.std.specs.declared.alloc.AllocError.{AllocError}
use Rattle.std.proofs.lemmas.Bool.{cases_lt}
use Rattle.std.proofs.lemmas.List.{get_or-set_same, get_or-set_other}
use Rattle.smv_meaning.specs.Places.{next_place}
use Rattle.smv_meaning.proofs.Lassos.{next_last, next_other}
use Rattle.smv_meaning.specs.Sweeps.{swept, ahead, around}
use Rattle.smv_meaning.proofs.Sweeping.{ahead_past, ahead_step}
use Rattle.ltl_form.specs.Rows.{told, turned, ahead_turned, around_turned, IsRow}

swept_same : (f g h i : ℕ → Bool) (x : Bool) (m p : ℕ) → ((q : ℕ) → q < p + m → f q ≡ h q) → ((q : ℕ) → q < p + m → g q ≡ i q) → swept f g x p m ≡ swept h i x p m
unfolding swept
swept_same f g h i x zero p ef eg = refl
swept_same f g h i x (suc m) p ef eg =
    let a : f p ≡ h p = ef p (omega arith) in
    let b : g p ≡ i p = eg p (omega arith) in
    let c : swept f g x (p + 1) m ≡ swept h i x (p + 1) m = swept_same f g h i x m (p + 1) (λ q w. ef q (omega arith)) (λ q w. eg q (omega arith)) in
    cc

pub ahead_same : (k : ℕ) (f g h i : ℕ → Bool) (x : Bool) (p : ℕ) → p ≤ k → ((q : ℕ) → q < k → f q ≡ h q) → ((q : ℕ) → q < k → g q ≡ i q) → ahead k f g x p ≡ ahead k h i x p
unfolding ahead
ahead_same k f g h i x p b ef eg = swept_same f g h i x (k - p) p (λ q w. ef q (omega arith)) (λ q w. eg q (omega arith))

pub around_same : (k l : ℕ) (f g h i : ℕ → Bool) (p : ℕ) → l ≤ k → p ≤ k → ((q : ℕ) → q < k → f q ≡ h q) → ((q : ℕ) → q < k → g q ≡ i q) → around k l f g p ≡ around k l h i p
around_same k l f g h i p a b ef eg =
    ahead_same k f g h i (ahead k f g false l) p b ef eg ∙ ap (λ x. ahead k h i x p) (ahead_same k f g h i false l a ef eg)

pub turned_twice : (d x : Bool) → turned d (turned d x) ≡ x
turned_twice true true = refl
turned_twice true false = refl
turned_twice false x = refl

pub turned_self : (d : Bool) → turned d d ≡ false
turned_self true = refl
turned_self false = refl

-- a sweep begins with what comes after the last place, and goes on from place to place
pub sweep_begins : (d : Bool) (k : ℕ) (f g : ℕ → Bool) (x : Bool) → x ≡ ahead_turned d k f g x k
sweep_begins d k f g x = sym (ap (turned d) (ahead_past k (λ q. turned d (f q)) (λ q. turned d (g q)) (turned d x)) ∙ turned_twice d x)

pub sweep_steps : (d : Bool) (k : ℕ) (f g : ℕ → Bool) (x : Bool) (p : ℕ) (v : Bool) → p < k → v ≡ ahead_turned d k f g x (p + 1) → turned d (turned d (g p) || (turned d (f p) && turned d v)) ≡ ahead_turned d k f g x p
sweep_steps d k f g x p v b e =
    let F = λ (q : ℕ). turned d (f q) in
    let G = λ (q : ℕ). turned d (g q) in
    let w : turned d v ≡ ahead k F G (turned d x) (p + 1) = ap (turned d) e ∙ turned_twice d (ahead k F G (turned d x) (p + 1)) in
    ap (λ y. turned d (turned d (g p) || (turned d (f p) && y))) w ∙ ap (turned d) (sym (ahead_step k F G (turned d x) p b))

-- a value that is written at a place, before right ones
pub written : (k : ℕ) (row : List Bool) (p : ℕ) (v : Bool) (value : ℕ → Bool) → p < length row → v ≡ value p → ((q : ℕ) → p + 1 ≤ q → q < k → told row q ≡ value q) → (q : ℕ) → p ≤ q → q < k → told (slice_set row p v) q ≡ value q
written k row p v value b e old q a w = elim (cases_lt p q) [
  | inl later ↦ get_or-set_other row p q v false (λ i. absurd (omega arith)) ∙ old q (omega arith) w
  | inr now ↦ let i : p ≡ q = omega arith in subst (λ n. told (slice_set row p v) n ≡ value n) i (get_or-set_same row p v false b ∙ e)
]

-- the second sweep begins with what the first found at the start of the loop
pub around_found : (d : Bool) (k l : ℕ) (f g : ℕ → Bool) (v : Bool) → v ≡ ahead_turned d k f g d l → (p : ℕ) → ahead_turned d k f g v p ≡ around_turned d k l f g p
around_found d k l f g v e p =
    let F = λ (q : ℕ). turned d (f q) in
    let G = λ (q : ℕ). turned d (g q) in
    let w : turned d v ≡ ahead k F G false l = ap (turned d) e ∙ turned_twice d (ahead k F G (turned d d) l) ∙ ap (λ x. ahead k F G x l) (turned_self d) in
    ap (λ x. turned d (ahead k F G x p)) w

-- rows that agree with tests
pub around_row : (d : Bool) (k l : ℕ) (f h g : ℕ → Bool) (p : ℕ) → l ≤ k → p ≤ k → ((q : ℕ) → q < k → f q ≡ h q) → around_turned d k l f g p ≡ around_turned d k l h g p
around_row d k l f h g p a b e =
    ap (turned d) (around_same k l (λ q. turned d (f q)) (λ q. turned d (g q)) (λ q. turned d (h q)) (λ q. turned d (g q)) p a b (λ q w. ap (turned d) (e q w)) (λ q w. refl))

-- what a row that was made tells, in other words
pub on_value : (r : Result (List Bool) AllocError) (p : ℕ) (v w : Bool) → IfOk r (λ row. told row p ≡ v) → v ≡ w → IfOk r (λ row. told row p ≡ w)
on_value (Ok row) p v w e f = e ∙ f
on_value (Err a) p v w e f = tt

-- a row whose places and values are known
pub row_so : (r : Result (List Bool) AllocError) (m n : ℕ) (v w : ℕ → Bool) → m ≡ n → IfOk r (λ row. length row ≡ m) → ((p : ℕ) → p < m → IfOk r (λ row. told row p ≡ v p)) → ((p : ℕ) → p < n → v p ≡ w p) → IfOk r (IsRow n w)
row_so (Ok row) m n v w e f g s = record { has = f ∙ e; values = λ p b. g p (omega arith) ∙ s p b }
row_so (Err a) m n v w e f g s = tt

-- the values at the next places of a lasso
pub next_row : (part : List Bool) (l : ℕ) (v : Bool) (r : Result (List Bool) AllocError) → v ≡ told part l → IfOk r (λ row. length row ≡ length part) → ((p : ℕ) → p + 1 < length part → IfOk r (λ row. told row p ≡ told part (p + 1))) → IfOk r (λ row. (p : ℕ) → p + 1 ≡ length part → told row p ≡ v) → IfOk r (IsRow (length part) (λ p. told part (next_place (length part) l p)))
next_row part l v (Ok row) e n s t = record {
  has = n;
  values = λ p b. elim (cases_lt (p + 1) (length part)) [
    | inl more ↦ s p more ∙ ap (told part) (sym (next_other (length part) l p more))
    | inr end ↦ let i : p + 1 ≡ length part = omega arith in t p i ∙ e ∙ ap (told part) (sym (next_last (length part) l p i))
  ];
}
next_row part l v (Err a) e n s t = tt

not_so : (b : Bool) → (b ≡ true → ⊥) → b ≡ false
not_so true n = absurd (n refl)
not_so false n = refl

-- the values at the next places of a path, which ends with the last one
pub short_next : (part : List Bool) (k : ℕ) (r : Result (List Bool) AllocError) → length part ≡ k + 1 → IfOk r (λ row. length row ≡ length part) → ((p : ℕ) → p + 1 < length part → IfOk r (λ row. told row p ≡ told part (p + 1))) → IfOk r (λ row. (p : ℕ) → p + 1 ≡ length part → told row p ≡ false) → IfOk r (IsRow (k + 1) (λ p. nat_lt p k && told part (p + 1)))
short_next part k (Ok row) m n s t = record {
  has = n ∙ m;
  values = λ p b. elim (cases_lt p k) [
    | inl more ↦ s p (omega arith) ∙ sym (ap (λ (x : Bool). x && told part (p + 1)) ((Decides-ltb p k).1 more))
    | inr end ↦ t p (omega arith) ∙ sym (ap (λ (x : Bool). x && told part (p + 1)) (not_so (nat_lt p k) (λ e. let w : p < k = (Decides-ltb p k).0 e in absurd (omega arith))))
  ];
}
short_next part k (Err a) m n s t = tt
