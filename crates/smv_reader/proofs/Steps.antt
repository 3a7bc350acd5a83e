-- Steps one behind the other, what waits for their end, and why they halt.
use Rattle.std.proofs.Common.{◌≡◌, ◌<◌, ◌≤◌, ◌+◌, ◌-◌, ◌++◌, ℕ, zero, suc, List, [], ◌∷◌, Result, Ok, Err, refl, sym, ◌∙◌, ap, subst, inl, inr, arith}
use Rattle.std.proofs.lemmas.Bool.Decides.{eqb_tells}
use Rattle.smv_rules.specs.Reading.{Stop, wrong, deep, ◌>>=◌}
use Rattle.smv_reader.specs.declared.halt.Halt.{Halt}
use Rattle.smv_reader.specs.declared.halt.Halt.TheVariants as halts
use Rattle.smv_reader.specs.Halts.{Halts}
use Rattle.smv_reader.specs.Steps.{resumed, steps}

pub bind_end : {X : Type 0} (r : Result X Stop) → (r >>= (λ x. Ok x)) ≡ r
bind_end (Err s) = refl
bind_end (Ok x) = refl

pub bind_bind : {X Y Z : Type 0} (r : Result X Stop) (f : X → Result Y Stop) (g : Y → Result Z Stop) → ((r >>= f) >>= g) ≡ (r >>= (λ x. f x >>= g))
bind_bind (Err s) f g = refl
bind_bind (Ok x) f g = refl

pub bind_same : {X Y : Type 0} (r : Result X Stop) (f g : X → Result Y Stop) → ((x : X) → f x ≡ g x) → (r >>= f) ≡ (r >>= g)
bind_same (Err s) f g h = refl
bind_same (Ok x) f g h = h x

-- why one halts is why all of them do
pub halts_then : {X Y : Type 0} (h : Halt) (r : Result X Stop) (f : X → Result Y Stop) → Halts h r → Halts h (r >>= f)
halts_then (halts.Wrong n) r f e = ap (λ (z : Result _ Stop). z >>= f) e
halts_then (halts.Deep n) r f e = ap (λ (z : Result _ Stop). z >>= f) e
halts_then (halts.NoMemory a) r f e = tt

pub halts_same : {X : Type 0} (h : Halt) (r s : Result X Stop) → r ≡ s → Halts h r → Halts h s
halts_same h r s e g = let P : Result _ Stop → Type 0 = λ z. Halts h z in subst P e g

-- one step more
pub steps_more : {X : Type 0} (f : ℕ → X → Result X Stop) (i j : ℕ) (x : X) → steps f i (suc j) x ≡ (steps f i j x >>= f (i + j))
unfolding steps
steps_more f i zero x = let s : i ≡ i + 0 = omega arith in bind_end (f i x) ∙ ap (λ k. f k x) s
steps_more f i (suc j) x =
    let s : suc i + j ≡ i + suc j = omega arith in
    bind_same (f i x) (steps f (suc i) (suc j)) (λ y. steps f (suc i) j y >>= f (suc i + j)) (λ y. steps_more f (suc i) j y)
    ∙ sym (bind_bind (f i x) (steps f (suc i) j) (f (suc i + j)))
    ∙ ap (λ k. (f i x >>= steps f (suc i) j) >>= f k) s

-- steps that change nothing
pub steps_none : {X : Type 0} (f : ℕ → X → Result X Stop) (i j : ℕ) (x : X) → ((k : ℕ) → i ≤ k → k < i + j → f k x ≡ Ok x) → steps f i j x ≡ Ok x
unfolding steps
steps_none f i zero x h = refl
steps_none f i (suc j) x h =
    ap (λ (r : Result _ Stop). r >>= steps f (suc i) j) (h i (omega arith) (omega arith))
    ∙ steps_none f (suc i) j x (λ k ge le. h k (omega (arith, ge)) (omega (arith, le)))

-- the first that changes something
pub steps_to : {X : Type 0} (f : ℕ → X → Result X Stop) (i j m : ℕ) (x : X) → i ≤ m → m < i + j → ((k : ℕ) → i ≤ k → k < m → f k x ≡ Ok x) → steps f i j x ≡ steps f m (i + j - m) x
unfolding steps
steps_to f i zero m x hi hj h = absurd (omega (arith, hi, hj))
steps_to f i (suc j) m x hi hj h =
    elim (eqb_tells i m) [
      | inl g ↦ let s : suc j ≡ i + suc j - i = omega arith in ap (λ k. steps f i k x) s ∙ ap (λ k. steps f k (i + suc j - k) x) g.1
      | inr g ↦
          let ne : i ≡ m → ⊥ = g.1 in
          let s : suc i + j ≡ i + suc j = omega arith in
          ap (λ (r : Result _ Stop). r >>= steps f (suc i) j) (h i (omega arith) (omega (arith, ne, hi)))
          ∙ steps_to f (suc i) j m x (omega (arith, ne, hi)) (omega (arith, hj)) (λ k ge le. h k (omega (arith, ge)) le)
          ∙ ap (λ k. steps f m (k - m) x) s
    ]

-- one more that waits, and why all that wait halt
pub resumed_push : {W X : Type 0} (go : W → X → Result X Stop) (ws : List W) (w : W) (r : Result X Stop) → resumed go (ws ++ w ∷ []) r ≡ resumed go ws (r >>= go w)
unfolding resumed
resumed_push go [] w r = refl
resumed_push go (v ∷ ws) w r = ap (λ (z : Result _ Stop). z >>= go v) (resumed_push go ws w r)

resumed_halts : {W X : Type 0} (h : Halt) (go : W → X → Result X Stop) (ws : List W) (r : Result X Stop) → Halts h r → Halts h (resumed go ws r)
unfolding resumed
resumed_halts h go [] r e = e
resumed_halts h go (w ∷ ws) r e = halts_then h (resumed go ws r) (go w) (resumed_halts h go ws r e)

pub waiting_halts : {W X : Type 0} (h : Halt) (go : W → X → Result X Stop) (ws : List W) (r out : Result X Stop) → Halts h r → resumed go ws r ≡ out → Halts h out
waiting_halts h go ws r out e is = halts_same h (resumed go ws r) out is (resumed_halts h go ws r e)

pub waiting_ends : {W X : Type 0} (go : W → X → Result X Stop) (ws : List W) (r out : Result X Stop) → ws ≡ [] → resumed go ws r ≡ out → r ≡ out
unfolding resumed
waiting_ends go ws r out z is = sym (ap (λ ws. resumed go ws r) z) ∙ is
