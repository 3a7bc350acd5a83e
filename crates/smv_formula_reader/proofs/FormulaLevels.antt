-- A formula is its first operand, and the operators of the levels up to its own.
use Rattle.std.proofs.Common.{◌≡◌, ◌<◌, ◌≤◌, ◌+◌, ◌-◌, ◌*◌, ◌==◌, ◌++◌, ℕ, zero, suc, max, Bool, true, false, if◌then◌else◌, List, [], ◌∷◌, Option, None, Some, Ok, refl, ◌∙◌, ap, sym, subst, length, inl, inr, arith, eqb-true, ltb-false, ltb-true, nat_lt}
use Rattle.std.proofs.lemmas.Bool.Decides.{eqb_tells}
use Rattle.std.proofs.lemmas.List.{length-append}
use Rattle.smv_tree.specs.declared.formula.FormOp.{FormOp}
use Rattle.smv_tree.specs.Models.{both}
use Rattle.smv_token.specs.declared.token.Token.{Token}
use Rattle.smv_grammar.specs.Formulas.{joining, of_atom, outermost, start_of}
use Rattle.smv_rules.specs.Reading.{◌>>=◌, Got}
use Rattle.smv_rules.specs.Formulas.{an_atom, connected, deeper, enclosed, formula_level, implied, joined, operand, prefixed, side}
use Rattle.smv_rules.specs.Keys.{Unseen, if_there, is_bracket, of_level, prefix_of, sees}
use Rattle.smv_rules.specs.Keys as key
use Rattle.smv_rules.proofs.Meeting.{done_read, next_read, skip_read, stop_read, take_read}
use Rattle.smv_rules.specs.Rules.{Rule, gives, ◌>>=◌ as ◌>>>◌}
use Rattle.smv_rules.specs.Running.{run}
use Rattle.smv_rules.specs.Sorts.{Formula, a_formula}
use Rattle.smv_formula_reader.specs.FormulaClimbing.{Connective, Given, both_of, connective_at, in_reach, step, tail, up, with_left}
use Rattle.smv_formula_reader.specs.FormulaViews.{formula_of}
use Rattle.smv_reader.specs.Steps.{resumed, steps}
use Rattle.smv_formula_reader.specs.declared.formulas.WaitingFormula.{WaitingFormula}
use Rattle.smv_reader.specs.declared.halt.Halt.{Halt}
use Rattle.smv_reader.specs.Halts.{Halts}
use Rattle.smv_formula_reader.specs.Flags.{Flagged}
use Rattle.smv_formula_reader.proofs.GroupFlags.{flagged_rest}
use Rattle.smv_reader.proofs.Steps.{bind_bind, bind_end, bind_same, halts_then, resumed_push, steps_more, steps_none, steps_to, waiting_ends, waiting_halts}
use Rattle.smv_reader.proofs.Parts.{left_within}
use Rattle.smv_rules.proofs.Rests.{Rest, rest_more, rest_same}

-- a level is the next tighter one and its operators
is_not : (x k : ℕ) → (x ≡ k → ⊥) → (x == k) ≡ false
is_not x k ne = elim (eqb_tells x k) [ inl h ↦ absurd (ne h.1) | inr h ↦ h.0 ]

level_operand : (n l : ℕ) (ts : List Token) → l ≤ 1 → run n (formula_level l) ts ≡ run n operand ts
unfolding formula_level
level_operand n zero ts h = refl
level_operand n (suc zero) ts h = refl
level_operand n (suc (suc l)) ts h = absurd (omega (arith, h))

tail_by : (n l : ℕ) (r : Rule a_formula) (ts : List Token) (b c : Bool) → b ≡ false → run n (if b then operand else (if c then r >>> implied else r >>> joined l r)) ts ≡ (run n r ts >>= (λ x. run n (if c then implied x.0 else joined l r x.0) x.1))
unfolding run
tail_by n l r ts true c e = absurd (cc)
tail_by n l r ts false true e = refl
tail_by n l r ts false false e = refl

level_step : (n l : ℕ) (ts : List Token) → 1 ≤ l → run n (formula_level (suc l)) ts ≡ (run n (formula_level l) ts >>= step n l)
unfolding formula_level
level_step n l ts h = tail_by n (suc l) (formula_level l) ts (suc l == 1) (suc l == outermost) (is_not (suc l) 1 (λ e. omega (arith, e, h)))

level_steps : (n j l : ℕ) (ts : List Token) → 1 + j ≡ l → run n (formula_level l) ts ≡ (run n operand ts >>= steps (step n) 1 j)
unfolding steps
level_steps n zero l ts e = level_operand n l ts (omega (arith, e)) ∙ sym (bind_end (run n operand ts))
level_steps n (suc j) l ts e =
    let s : l ≡ suc (1 + j) = omega (arith, e) in
    ap (λ k. run n (formula_level k) ts) s
    ∙ level_step n (1 + j) ts (omega arith)
    ∙ ap (λ (r : Got Formula). r >>= step n (1 + j)) (level_steps n j (1 + j) ts refl)
    ∙ bind_bind (run n operand ts) (steps (step n) 1 j) (step n (1 + j))
    ∙ bind_same (run n operand ts) (λ x. steps (step n) 1 j x >>= step n (1 + j)) (steps (step n) 1 (suc j)) (λ x. sym (steps_more (step n) 1 j x))

level_up : (n l : ℕ) (ts : List Token) → run n (formula_level l) ts ≡ (run n operand ts >>= up n 1 l)
unfolding steps
level_up n zero ts = level_operand n 0 ts (omega arith) ∙ sym (bind_end (run n operand ts))
level_up n (suc l) ts = let s : 1 + (suc l - 1) ≡ suc l = omega arith in level_steps n (suc l - 1) (suc l) ts s

pub first_read : (n l : ℕ) (ts us : List Token) (a : Formula) → run n operand ts ≡ Ok (a, us) → run n (formula_level l) ts ≡ up n 1 l (a, us)
first_read n l ts us a e = level_up n l ts ∙ ap (λ (r : Got Formula). r >>= up n 1 l) e

pub first_halts : (h : Halt) (n l : ℕ) (ts : List Token) → Halts h (run n operand ts) → Halts h (run n (formula_level l) ts)
first_halts h n l ts e = let P : Got Formula → Type 0 = λ r. Halts h r in subst P (sym (level_up n l ts)) (halts_then h (run n operand ts) (up n 1 l) e)

-- an operand that is an atom
no_prefix : (t : Token) (ts : List Token) → start_of (t ∷ ts) ≡ of_atom → sees key.before_formula t ts ≡ None
unfolding sees
no_prefix t ts e = ap prefix_of e

no_group : (t : Token) (ts : List Token) → start_of (t ∷ ts) ≡ of_atom → sees key.group t ts ≡ None
unfolding sees
no_group t ts e = ap (λ x. if_there (is_bracket x) t.place) e

pub operand_atom : (n : ℕ) (ts : List Token) → start_of ts ≡ of_atom → run n operand ts ≡ run n an_atom ts
operand_atom n [] e = skip_read n a_formula key.before_formula (λ f. prefixed f) _ [] tt ∙ skip_read n a_formula key.group (λ p. enclosed) an_atom [] tt
operand_atom n (t ∷ ts) e = skip_read n a_formula key.before_formula (λ f. prefixed f) _ (t ∷ ts) (no_prefix t ts e) ∙ skip_read n a_formula key.group (λ p. enclosed) an_atom (t ∷ ts) (no_group t ts e)

pub no_start : (ts : List Token) → length ts < 1 → start_of ts ≡ of_atom
no_start [] h = refl
no_start (t ∷ ts) h = absurd (omega (arith, h))

-- where no operator of a level follows, it adds nothing
not_own : (k : ℕ) (x : ℕ × FormOp) → (x.0 ≡ k → ⊥) → of_level k (Some x) ≡ None
not_own k x ne = ap (λ (b : Bool). if b then Some x.1 else None) (is_not x.0 k ne)

tail_none : (n k : ℕ) (tighter : Rule a_formula) (a : Formula) (ts : List Token) (b : Bool) → (b ≡ true → k ≡ outermost) → Unseen (key.connective k) ts → run n (if b then implied a else joined k tighter a) ts ≡ Ok (a, ts)
tail_none n k tighter a ts true o u =
    let P : ℕ → Type 0 = λ k. Unseen (key.connective k) ts in
    skip_read n a_formula (key.connective outermost) (λ o. connected side a o) (gives a_formula a) ts (subst P (o refl) u) ∙ done_read n a_formula a ts
tail_none n k tighter a ts false o u = stop_read n a_formula (key.connective k) (λ a o. connected tighter a o) a ts u

step_none : (n i : ℕ) (x : Formula × List Token) → Unseen (key.connective (suc i)) x.1 → step n i x ≡ Ok x
step_none n i x u = tail_none n (suc i) (formula_level i) x.0 x.1 (suc i == outermost) (λ e. eqb-true (suc i) outermost e) u

abbrev connective_is : ℕ → FormOp → List Token → Option Connective
connective_is own op ts = Some (own, op, ts)

out_of_reach : (i l k : ℕ) (o : Option (ℕ × FormOp)) (ts : List Token) → in_reach i l o ts ≡ None → i < k → k ≤ l → of_level k o ≡ None
out_of_reach i l k None ts e above within = refl
out_of_reach i l k (Some o) ts e above within = not_own k o (λ s. by (nat_lt l o.0) (nat_lt i o.0) refl refl s e) where
  by : (b c : Bool) → b ≡ nat_lt l o.0 → c ≡ nat_lt i o.0 → o.0 ≡ k → (if b then None else (if c then connective_is o.0 o.1 ts else None)) ≡ None → ⊥
  by true c u v s f = omega (arith, within, s, ltb-true l o.0 (sym u))
  by false true u v s f = absurd (cc)
  by false false u v s f = omega (arith, above, s, ltb-false i o.0 (sym v))

unseen : (i l k : ℕ) (ts : List Token) → None ≡ connective_at i l ts → i < k → k ≤ l → Unseen (key.connective k) ts
unfolding connective_at sees
unseen i l k [] e above within = tt
unseen i l k (t ∷ ts) e above within = out_of_reach i l k (joining t) ts (sym e) above within

pub ends : (n i l : ℕ) (x : Formula × List Token) → None ≡ connective_at i l x.1 → up n i l x ≡ Ok x
ends n i l x e = steps_none (step n) i (l - i) x (λ k ge le. step_none n k x (unseen i l (suc k) x.1 e (omega (arith, ge)) (omega (arith, ge, le))))

-- the operator at the front
record Joins (i l own : ℕ) (op : FormOp) (us : List Token) (o : Option (ℕ × FormOp)) (ts : List Token) : Type 0 where
  pub seen : o ≡ Some (own, op)
  pub rest : ts ≡ us
  pub above : i < own
  pub within : own ≤ l

reached : (i l own : ℕ) (op : FormOp) (us : List Token) (o : Option (ℕ × FormOp)) (ts : List Token) → in_reach i l o ts ≡ connective_is own op us → Joins i l own op us o ts
reached i l own op us None ts e = absurd (cc)
reached i l own op us (Some (k, q)) ts e = by (nat_lt l k) (nat_lt i k) refl refl e where
  by : (b c : Bool) → b ≡ nat_lt l k → c ≡ nat_lt i k → (if b then None else (if c then connective_is k q ts else None)) ≡ connective_is own op us → Joins i l own op us (Some (k, q)) ts
  by true c u v f = absurd (cc)
  by false false u v f = absurd (cc)
  by false true u v f =
      let h : ◌≡◌ {A = Connective} (k, q, ts) (own, op, us) = cc in
      record {
        seen = ap (λ x. Some (x.0, x.1)) h;
        rest = ap (λ x. x.2) h;
        above = omega (arith, ltb-true i k (sym v), ap (λ x. x.0) h);
        within = omega (arith, ltb-false l k (sym u), ap (λ x. x.0) h);
      }

pub connective_behind : (i l own : ℕ) (op : FormOp) (ts us : List Token) → Some (own, op, us) ≡ connective_at i l ts → Rest us ts × (length us < length ts)
unfolding connective_at
connective_behind i l own op [] us e = absurd (cc)
connective_behind i l own op (t ∷ ts) us e =
    let h = reached i l own op us (joining t) ts (sym e) in
    let P : List Token → Type 0 = λ vs. Rest vs (t ∷ ts) in
    (subst P h.rest (rest_more ts ts t (rest_same ts)), omega (arith, ap length h.rest))

pub flagged_connective : (flags : List Bool) (i l own : ℕ) (op : FormOp) (ts us : List Token) → Some (own, op, us) ≡ connective_at i l ts → Flagged flags ts → Flagged flags us
flagged_connective flags i l own op ts us e f = flagged_rest flags ts us (connective_behind i l own op ts us e).0 f

-- the levels before that of the operator at the front add nothing
own_seen : (own : ℕ) (op : FormOp) (t : Token) (us : List Token) → joining t ≡ Some (own, op) → sees (key.connective own) t us ≡ Some op
unfolding sees
own_seen own op t us e = ap (of_level own) e ∙ (elim (eqb_tells own own) [ inl h ↦ ap (λ (b : Bool). if b then Some op else None) h.0 | inr h ↦ absurd (h.1 refl) ])

other_unseen : (k own : ℕ) (op : FormOp) (t : Token) (us : List Token) → joining t ≡ Some (own, op) → (own ≡ k → ⊥) → Unseen (key.connective k) (t ∷ us)
unfolding sees
other_unseen k own op t us e ne = ap (of_level k) e ∙ not_own k (own, op) ne

up_to : (n i l m : ℕ) (op : FormOp) (a : Formula) (t : Token) (us : List Token) → joining t ≡ Some (suc m, op) → i < suc m → suc m ≤ l → up n i l (a, t ∷ us) ≡ (step n m (a, t ∷ us) >>= up n (suc m) l)
unfolding steps
up_to n i l m op a t us e above within =
    let s : i + (l - i) - m ≡ suc (l - suc m) = omega (arith, above, within) in
    steps_to (step n) i (l - i) m (a, t ∷ us) (omega (arith, above)) (omega (arith, above, within)) (λ k ge le. step_none n k (a, t ∷ us) (other_unseen (suc k) (suc m) op t us e (λ g. omega (arith, g, le))))
    ∙ ap (λ j. steps (step n) m j (a, t ∷ us)) s

-- an arrow and its right side
turn_implies : (n i l own : ℕ) (op : FormOp) (a : Formula) (ts us : List Token) → Some (own, op, us) ≡ connective_at i l ts → own ≡ outermost → up n i l (a, ts) ≡ (run n (connected side a op) us >>= up n outermost l)
unfolding connective_at
turn_implies n i l own op a [] us e z = absurd (cc)
turn_implies n i l own op a (t ∷ ts) us e z =
    let h = reached i l own op us (joining t) ts (sym e) in
    let seen : joining t ≡ Some (outermost, op) = h.seen ∙ ap (λ k. Some (k, op)) z in
    up_to n i l 5 op a t ts seen (omega (arith, h.above, z)) (omega (arith, h.within, z))
    ∙ ap (λ (r : Got Formula). r >>= up n outermost l) (take_read n a_formula (key.connective outermost) (λ o. connected side a o) (gives a_formula a) t op ts (own_seen outermost op t ts seen))
    ∙ ap (λ us. run n (connected side a op) us >>= up n outermost l) h.rest

-- an operator between operands
step_joined : (n m : ℕ) (x : Formula × List Token) → (suc m ≡ outermost → ⊥) → step n m x ≡ run n (joined (suc m) (formula_level m) x.0) x.1
step_joined n m x ne = ap (λ (b : Bool). run n (if b then implied x.0 else joined (suc m) (formula_level m) x.0) x.1) (is_not (suc m) outermost ne)

joins_front : (n i l m : ℕ) (op : FormOp) (a : Formula) (t : Token) (us : List Token) → joining t ≡ Some (suc m, op) → i < suc m → suc m ≤ l → (suc m ≡ outermost → ⊥) → up n i l (a, t ∷ us) ≡ (run n (connected (formula_level m) a op) us >>= up n m l)
unfolding steps
joins_front n i l m op a t us e above within ne =
    let w : l - m ≡ suc (l - suc m) = omega (arith, within) in
    let right : Got Formula = run n (connected (formula_level m) a op) us in
    up_to n i l m op a t us e above within
    ∙ ap (λ (r : Got Formula). r >>= up n (suc m) l) (step_joined n m (a, t ∷ us) ne ∙ next_read n a_formula (key.connective (suc m)) (λ a o. connected (formula_level m) a o) a t op us (own_seen (suc m) op t us e))
    ∙ bind_bind right (λ x. run n (joined (suc m) (formula_level m) x.0) x.1) (up n (suc m) l)
    ∙ bind_same right (λ x. run n (joined (suc m) (formula_level m) x.0) x.1 >>= up n (suc m) l) (up n m l) (λ x. ap (λ (r : Got Formula). r >>= up n (suc m) l) (sym (step_joined n m x ne)) ∙ ap (λ j. steps (step n) m j x) (sym w))

turn_joins : (n i l own : ℕ) (op : FormOp) (a : Formula) (ts us : List Token) → Some (own, op, us) ≡ connective_at i l ts → (own ≡ outermost → ⊥) → up n i l (a, ts) ≡ (run n (connected (formula_level (own - 1)) a op) us >>= up n (own - 1) l)
unfolding connective_at
turn_joins n i l own op a [] us e ne = absurd (cc)
turn_joins n i l own op a (t ∷ ts) us e ne =
    let h = reached i l own op us (joining t) ts (sym e) in
    let s : own ≡ suc (own - 1) = omega (arith, h.above) in
    joins_front n i l (own - 1) op a t ts (h.seen ∙ ap (λ k. Some (k, op)) s) (omega (arith, h.above)) (omega (arith, h.above, h.within)) (λ z. ne (s ∙ z))
    ∙ ap (λ us. run n (connected (formula_level (own - 1)) a op) us >>= up n (own - 1) l) h.rest

-- nothing waits
pub none_yet : (n : ℕ) (ws : List WaitingFormula) (r out : Got Formula) → ws ≡ [] → out ≡ r → Given n ws r out
unfolding resumed
none_yet n ws r out z e = ap (λ ws. resumed (with_left n) ws r) z ∙ sym e

pub none_waits : (n i l : ℕ) (ws : List WaitingFormula) (x : Formula × List Token) (out : Got Formula) → ws ≡ [] → None ≡ connective_at i l x.1 → Given n ws (up n i l x) out → out ≡ Ok x
none_waits n i l ws x out z e is = sym (waiting_ends (with_left n) ws (up n i l x) out z is) ∙ ends n i l x e

-- the last that waits gets its right operand
last_given : (n i l : ℕ) (ws vs : List WaitingFormula) (w : WaitingFormula) (x : Formula × List Token) (out : Got Formula) → ws ≡ vs ++ w ∷ [] → None ≡ connective_at i l x.1 → Given n ws (up n i l x) out → Given n vs (with_left n w x) out
last_given n i l ws vs w x out z e is =
    sym (resumed_push (with_left n) vs w (Ok x))
    ∙ ap (resumed (with_left n) (vs ++ w ∷ [])) (sym (ends n i l x e))
    ∙ ap (λ ws. resumed (with_left n) ws (up n i l x)) (sym z)
    ∙ is

pub resumes_halts : (h : Halt) (n i l : ℕ) (ws vs : List WaitingFormula) (w : WaitingFormula) (x : Formula × List Token) (out : Got Formula) → ws ≡ vs ++ w ∷ [] → None ≡ connective_at i l x.1 → Halts h (run n (both_of w x.0) x.1) → Given n ws (up n i l x) out → Halts h out
resumes_halts h n i l ws vs w x out z e f is = waiting_halts h (with_left n) vs (with_left n w x) out (halts_then h (run n (both_of w x.0) x.1) (up n w.tighter w.loosest) f) (last_given n i l ws vs w x out z e is)

pub resumes_goes : (n i l : ℕ) (ws vs : List WaitingFormula) (w : WaitingFormula) (x y : Formula × List Token) (out : Got Formula) → ws ≡ vs ++ w ∷ [] → None ≡ connective_at i l x.1 → run n (both_of w x.0) x.1 ≡ Ok y → Given n ws (up n i l x) out → Given n vs (up n w.tighter w.loosest y) out
resumes_goes n i l ws vs w x y out z e f is =
    ap (λ (r : Got Formula). resumed (with_left n) vs (r >>= up n w.tighter w.loosest)) (sym f)
    ∙ last_given n i l ws vs w x out z e is

-- an arrow
pub implies_halts : (h : Halt) (n i l own : ℕ) (ws : List WaitingFormula) (op : FormOp) (a : Formula) (ts us : List Token) (out : Got Formula) → Some (own, op, us) ≡ connective_at i l ts → own ≡ outermost → Halts h (run n (connected side a op) us) → Given n ws (up n i l (a, ts)) out → Halts h out
implies_halts h n i l own ws op a ts us out e z f is =
    waiting_halts h (with_left n) ws (run n (connected side a op) us >>= up n outermost l) out (halts_then h (run n (connected side a op) us) (up n outermost l) f) (ap (resumed (with_left n) ws) (sym (turn_implies n i l own op a ts us e z)) ∙ is)

pub implies_goes : (n i l own : ℕ) (ws : List WaitingFormula) (op : FormOp) (a : Formula) (ts us : List Token) (y : Formula × List Token) (out : Got Formula) → Some (own, op, us) ≡ connective_at i l ts → own ≡ outermost → run n (connected side a op) us ≡ Ok y → Given n ws (up n i l (a, ts)) out → Given n ws (up n own l y) out
implies_goes n i l own ws op a ts us y out e z f is =
    ap (λ k. resumed (with_left n) ws (up n k l y)) z
    ∙ ap (λ (r : Got Formula). resumed (with_left n) ws (r >>= up n outermost l)) (sym f)
    ∙ ap (resumed (with_left n) ws) (sym (turn_implies n i l own op a ts us e z))
    ∙ is

-- an operator whose right operand is read while the left one waits
right_given : (n i l own : ℕ) (ws : List WaitingFormula) (op : FormOp) (a : Formula) (ts us : List Token) (out : Got Formula) → Some (own, op, us) ≡ connective_at i l ts → (own ≡ outermost → ⊥) → Given n ws (up n i l (a, ts)) out → Given n ws (run n (connected (formula_level (own - 1)) a op) us >>= up n (own - 1) l) out
right_given n i l own ws op a ts us out e ne is = ap (resumed (with_left n) ws) (sym (turn_joins n i l own op a ts us e ne)) ∙ is

connected_is : (n : ℕ) (right : Rule a_formula) (a : Formula) (op : FormOp) (us : List Token) → run n (connected right a op) us ≡ (run n right us >>= (λ b. run n (deeper (both op a.claim b.0.claim) (max a.depth b.0.depth)) b.1))
unfolding run
connected_is n right a op us = refl

pub waits_halts : (h : Halt) (n i l own : ℕ) (ws : List WaitingFormula) (op : FormOp) (a : Formula) (ts us : List Token) (out : Got Formula) → Some (own, op, us) ≡ connective_at i l ts → (own ≡ outermost → ⊥) → Halts h (run n operand us) → Given n ws (up n i l (a, ts)) out → Halts h out
waits_halts h n i l own ws op a ts us out e ne f is =
    let right : Got Formula = run n (formula_level (own - 1)) us in
    let joins : Formula × List Token → Got Formula = λ b. run n (deeper (both op a.claim b.0.claim) (max a.depth b.0.depth)) b.1 in
    waiting_halts h (with_left n) ws ((right >>= joins) >>= up n (own - 1) l) out
    (halts_then h (right >>= joins) (up n (own - 1) l) (halts_then h right joins (first_halts h n (own - 1) us f)))
    (ap (λ (r : Got Formula). resumed (with_left n) ws (r >>= up n (own - 1) l)) (sym (connected_is n (formula_level (own - 1)) a op us)) ∙ right_given n i l own ws op a ts us out e ne is)

pub waits_goes : (n i l own : ℕ) (vs ws : List WaitingFormula) (w : WaitingFormula) (y : Formula × List Token) (ts us : List Token) (out : Got Formula) → vs ≡ ws ++ w ∷ [] → w.loosest ≡ l → w.tighter ≡ own - 1 → Some (own, w.op, us) ≡ connective_at i l ts → (own ≡ outermost → ⊥) → run n operand us ≡ Ok y → Given n ws (up n i l (formula_of w.left, ts)) out → Given n vs (up n 1 (own - 1) y) out
waits_goes n i l own vs ws w y ts us out z s t e ne f is =
    let right : Got Formula = run n (formula_level (own - 1)) us in
    ap (λ vs. resumed (with_left n) vs (up n 1 (own - 1) y)) z
    ∙ resumed_push (with_left n) ws w (up n 1 (own - 1) y)
    ∙ ap (λ (r : Got Formula). resumed (with_left n) ws (r >>= with_left n w)) (sym (first_read n (own - 1) us y.1 y.0 f))
    ∙ ap (resumed (with_left n) ws) (sym (bind_bind right (λ x. run n (both_of w x.0) x.1) (up n w.tighter w.loosest)))
    ∙ ap (λ k. resumed (with_left n) ws ((right >>= (λ x. run n (both_of w x.0) x.1)) >>= up n k w.loosest)) t
    ∙ ap (λ k. resumed (with_left n) ws ((right >>= (λ x. run n (both_of w x.0) x.1)) >>= up n (own - 1) k)) s
    ∙ ap (λ (r : Got Formula). resumed (with_left n) ws (r >>= up n (own - 1) l)) (sym (connected_is n (formula_level (own - 1)) (formula_of w.left) w.op us))
    ∙ right_given n i l own ws w.op (formula_of w.left) ts us out e ne is

pub resumed_less : (n : ℕ) (ws vs : List WaitingFormula) (w : WaitingFormula) (x y : Formula × List Token) → ws ≡ vs ++ w ∷ [] → run n (both_of w x.0) x.1 ≡ Ok y → 2 * length y.1 + length vs < 2 * length x.1 + length ws
resumed_less n ws vs w x y z e =
    let within : length y.1 ≤ length x.1 = left_within n a_formula (both_of w x.0) x.1 y.1 y.0 e in
    omega (arith, within, ap length z, length-append vs (w ∷ []))

pub implies_less : (n i l own : ℕ) (op : FormOp) (a : Formula) (ts us : List Token) (y : Formula × List Token) → Some (own, op, us) ≡ connective_at i l ts → run n (connected side a op) us ≡ Ok y → length y.1 < length ts
implies_less n i l own op a ts us y e f =
    let within : length y.1 ≤ length us = left_within n a_formula (connected side a op) us y.1 y.0 f in
    omega (arith, within, (connective_behind i l own op ts us e).1)
