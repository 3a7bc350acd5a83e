-- What the loop over the operators behind an expression rests on, while operands wait.
use Rattle.std.proofs.Common.{◌≡◌, ◌<◌, ◌≤◌, ◌+◌, ◌-◌, ◌*◌, ◌++◌, ◌⊎◌, inl, inr, ℕ, max, List, [], ◌∷◌, length, take, Option, Some, None, Result, Ok, Err, refl, sym, ◌∙◌, ap, subst, arith}
use Rattle.std.proofs.lemmas.List.{length-append}
use Rattle.smv_tree.specs.declared.place.Place.{Place}
use Rattle.smv_tree.specs.declared.expr.Op2.{Op2}
use Rattle.smv_tree.specs.Trees.{two}
use Rattle.smv_token.specs.declared.mark.Mark.{Mark}
use Rattle.smv_token.specs.declared.mark.Mark.TheVariants as marks
use Rattle.smv_token.specs.declared.token.Token.{Token}
use Rattle.smv_token.specs.declared.token.Lexeme.{Lexeme}
use Rattle.smv_token.specs.declared.token.Lexeme.TheVariants as lexeme
use Rattle.smv_reader.specs.declared.halt.Halt.{Halt}
use Rattle.smv_reader.specs.declared.halt.Halt.TheVariants as halts
use Rattle.smv_reader.specs.Halts.{Halts}
use Rattle.smv_rules.specs.Reading.{Stop, wrong, deep, ◌>>=◌, Got}
use Rattle.smv_rules.proofs.Outcomes.{ReachedTo}
use Rattle.smv_rules.specs.Keys.{mark_of}
use Rattle.smv_rules.specs.Rules.{Rule, too_deep, part, bits}
use Rattle.smv_rules.specs.Running.{run}
use Rattle.smv_rules.specs.Sorts.{Expression, Gift, Sort, an_expression}
use Rattle.smv_rules.specs.Expressions.{choosing, deeper, implying, level}
use Rattle.smv_rules.proofs.Meeting.{run_within}
use Rattle.smv_expression_reader.specs.Climbing.{closed_at, closed_by, infix_at, next_level, reached, up}
use Rattle.smv_reader.specs.Views.{expression_of}
use Rattle.smv_reader.specs.Steps.{resumed}
use Rattle.smv_expression_reader.specs.Waiting.{all_resumed, both_of, with_left}
use Rattle.smv_reader.proofs.Steps.{bind_bind, halts_then, resumed_push, waiting_ends, waiting_halts}
use Rattle.smv_expression_reader.specs.declared.operators.Waiting.{Waiting}
use Rattle.smv_expression_reader.proofs.Climbing.{Place_of, climb_none}
use Rattle.smv_reader.proofs.Parts.{left_within}
use Rattle.smv_expression_reader.proofs.Turning.{closed_up, infix_less, infix_level, turn_closes, turn_joins, with_right}

-- nothing waits yet
pub none_yet : (n : ℕ) (ws : List Waiting) (r out : Got Expression) → ws ≡ [] → out ≡ r → all_resumed n ws r ≡ out
unfolding resumed
none_yet n ws r out z e = ap (λ ws. all_resumed n ws r) z ∙ sym e

pub none_left : {W : Type 0} (k : ℕ) (ws vs : List W) → ws ≡ vs ++ [] → vs ≡ take (k - 1) ws → k ≡ 0 → ws ≡ []
none_left k ws vs e r z = let s : k - 1 ≡ 0 = omega (arith, z) in e ∙ ap (λ vs. vs ++ []) (r ∙ ap (λ j. take j ws) s)

-- one waits less, or one more behind a token less
pub resumed_less : (n : ℕ) (ws vs : List Waiting) (w : Waiting) (x y : Place_of) → ws ≡ vs ++ w ∷ [] → run n (both_of w x.0) x.1 ≡ Ok y → 2 * length y.1 + length vs < 2 * length x.1 + length ws
resumed_less n ws vs w x y z e =
    let within : length y.1 ≤ length x.1 = left_within n an_expression (both_of w x.0) x.1 y.1 y.0 e in
    omega (arith, within, ap length z, length-append vs (w ∷ []))

pub waits_less : {W : Type 0} (ws vs : List W) (w : W) (ts us rest : List Token) → vs ≡ ws ++ w ∷ [] → length us < length ts → length rest ≤ length us → 2 * length rest + length vs < 2 * length ts + length ws
waits_less ws vs w ts us rest z fewer within = omega (arith, fewer, within, ap length z, length-append ws (w ∷ []))

-- no operator of a level within reach is next
pub out_of_reach : (i l next : ℕ) → (next ≤ i) ⊎ ((i < next) × (l < next)) → i < next → l < next
out_of_reach i l next (inl h) g = absurd (omega (arith, h, g))
out_of_reach i l next (inr h) g = h.1

ends : (n i l next : ℕ) (x : Place_of) → next ≡ next_level x.1 → (i < next → l < next) → up n i l x ≡ Ok x
ends n i l next x e h = climb_none n i (l - i) x (λ g. omega (arith, e, g, h (omega (arith, e, g))))

pub none_waits : (n i l next : ℕ) (ws : List Waiting) (x : Place_of) (out : Got Expression) → ws ≡ [] → next ≡ next_level x.1 → (i < next → l < next) → all_resumed n ws (up n i l x) ≡ out → out ≡ Ok x
none_waits n i l next ws x out z e h is = sym (waiting_ends (with_left n) ws (up n i l x) out z is) ∙ ends n i l next x e h

-- the last that waits gets its right operand
last_resumed : (n i l next : ℕ) (ws vs : List Waiting) (w : Waiting) (x : Place_of) (out : Got Expression) → ws ≡ vs ++ w ∷ [] → next ≡ next_level x.1 → (i < next → l < next) → all_resumed n ws (up n i l x) ≡ out → all_resumed n vs (with_left n w x) ≡ out
last_resumed n i l next ws vs w x out z e h is =
    sym (resumed_push (with_left n) vs w (Ok x))
    ∙ ap (all_resumed n (vs ++ w ∷ [])) (sym (ends n i l next x e h))
    ∙ ap (λ ws. all_resumed n ws (up n i l x)) (sym z)
    ∙ is

pub resumes_halts : (h : Halt) (n i l next : ℕ) (ws vs : List Waiting) (w : Waiting) (x : Place_of) (out : Got Expression) → ws ≡ vs ++ w ∷ [] → next ≡ next_level x.1 → (i < next → l < next) → Halts h (run n (both_of w x.0) x.1) → all_resumed n ws (up n i l x) ≡ out → Halts h out
resumes_halts h n i l next ws vs w x out z e g f is = waiting_halts h (with_left n) vs (with_left n w x) out (halts_then h (run n (both_of w x.0) x.1) (up n w.tighter w.loosest) f) (last_resumed n i l next ws vs w x out z e g is)

pub resumes_goes : (n i l next : ℕ) (ws vs : List Waiting) (w : Waiting) (x y : Place_of) (out : Got Expression) → ws ≡ vs ++ w ∷ [] → next ≡ next_level x.1 → (i < next → l < next) → run n (both_of w x.0) x.1 ≡ Ok y → all_resumed n ws (up n i l x) ≡ out → all_resumed n vs (up n w.tighter w.loosest y) ≡ out
resumes_goes n i l next ws vs w x y out z e h f is =
    ap (λ (r : Got Expression). all_resumed n vs (r >>= up n w.tighter w.loosest)) (sym f)
    ∙ last_resumed n i l next ws vs w x out z e h is

-- an operator between operands
right_wanted : (n i l next j : ℕ) (ws : List Waiting) (a : Expression) (o : Op2) (p : Place) (ts us : List Token) (out : Got Expression) → Some (j, o, p, us) ≡ infix_at ts → next ≡ next_level ts → i < next → next ≤ l → all_resumed n ws (up n i l (a, ts)) ≡ out → all_resumed n ws (with_right n (j - 1) a o p us >>= up n (j - 1) l) ≡ out
right_wanted n i l next j ws a o p ts us out e w hi hl is =
    let own = infix_level j o p ts us (sym e) in
    ap (all_resumed n ws) (sym (turn_joins n i l j a o p ts us (sym e) (omega (arith, own, w)) (omega (arith, own, w)))) ∙ is

pub waits_halts : (h : Halt) (n i l next j : ℕ) (ws : List Waiting) (a : Expression) (o : Op2) (p : Place) (ts us : List Token) (out : Got Expression) → Some (j, o, p, us) ≡ infix_at ts → next ≡ next_level ts → i < next → next ≤ l → Halts h (run n (level (j - 1)) us) → all_resumed n ws (up n i l (a, ts)) ≡ out → Halts h out
waits_halts h n i l next j ws a o p ts us out e w hi hl g is =
    waiting_halts h (with_left n) ws (with_right n (j - 1) a o p us >>= up n (j - 1) l) out
    (halts_then h (with_right n (j - 1) a o p us) (up n (j - 1) l) (halts_then h (run n (level (j - 1)) us) (λ b. run n (deeper (two p o a.tree b.0.tree) (max a.depth b.0.depth)) b.1) g))
    (right_wanted n i l next j ws a o p ts us out e w hi hl is)

pub waits_goes : (n i l next j : ℕ) (vs ws : List Waiting) (w : Waiting) (k : ℕ) (y : Place_of) (ts us : List Token) (out : Got Expression) → vs ≡ ws ++ w ∷ [] → w.loosest ≡ l → w.tighter ≡ j - 1 → Some (j, w.op, w.place, us) ≡ infix_at ts → next ≡ next_level ts → i < next → next ≤ l → run n (level (j - 1)) us ≡ up n k (j - 1) y → all_resumed n ws (up n i l (expression_of w.left, ts)) ≡ out → all_resumed n vs (up n k (j - 1) y) ≡ out
waits_goes n i l next j vs ws w k y ts us out z s t e u hi hl g is =
    let right : Got Expression = run n (level (j - 1)) us in
    ap (λ vs. all_resumed n vs (up n k (j - 1) y)) z
    ∙ resumed_push (with_left n) ws w (up n k (j - 1) y)
    ∙ ap (λ (r : Got Expression). all_resumed n ws (r >>= with_left n w)) (sym g)
    ∙ ap (all_resumed n ws) (sym (bind_bind right (λ x. run n (both_of w x.0) x.1) (up n w.tighter w.loosest)))
    ∙ ap (λ m. all_resumed n ws ((right >>= (λ x. run n (both_of w x.0) x.1)) >>= up n m w.loosest)) t
    ∙ ap (λ l. all_resumed n ws (with_right n (j - 1) (expression_of w.left) w.op w.place us >>= up n (j - 1) l)) s
    ∙ right_wanted n i l next j ws (expression_of w.left) w.op w.place ts us out e u hi hl is

-- an operator that is none between operands
pub closes_halts : (h : Halt) (n i l next : ℕ) (ws : List Waiting) (a : Expression) (ts : List Token) (out : Got Expression) → None ≡ infix_at ts → next ≡ next_level ts → i < next → next ≤ l → Halts h (closed_at n a ts) → all_resumed n ws (up n i l (a, ts)) ≡ out → Halts h out
closes_halts h n i l next ws a ts out e w hi hl g is =
    waiting_halts h (with_left n) ws (closed_up n l (closed_at n a ts)) out (halts_then h (closed_at n a ts) (λ x. up n x.0 l x.1) g)
    (ap (all_resumed n ws) (sym (turn_closes n i l a ts (sym e) (omega (arith, w)) (omega (arith, w)))) ∙ is)

pub closes_goes : (n i l next k : ℕ) (ws : List Waiting) (a : Expression) (ts : List Token) (y : Place_of) (out : Got Expression) → None ≡ infix_at ts → next ≡ next_level ts → i < next → next ≤ l → closed_at n a ts ≡ Ok (k, y) → all_resumed n ws (up n i l (a, ts)) ≡ out → all_resumed n ws (up n k l y) ≡ out
closes_goes n i l next k ws a ts y out e w hi hl g is =
    ap (all_resumed n ws) (sym (ap (closed_up n l) g) ∙ sym (turn_closes n i l a ts (sym e) (omega (arith, w)) (omega (arith, w)))) ∙ is

abbrev Left : ℕ → Result (ℕ × Place_of) Stop → Type 0
Left m (Ok x) = length x.1.1 ≤ m
Left m (Err s) = Unit {0}

left_by : (k m : ℕ) (out : Got Expression) → ReachedTo m out → Left m (reached k out)
unfolding ReachedTo
left_by k m (Ok x) h = h
left_by k m (Err s) h = tt

left_closed : (n : ℕ) (a : Expression) (l : Option Mark) (p : Place) (ts : List Token) → Left (length ts) (closed_by n a l p ts)
left_closed n a (Some marks.OpenSquare) p ts = left_by 0 (length ts) (run n (part an_expression (bits a p) (too_deep an_expression)) ts) (run_within n (part an_expression (bits a p) (too_deep an_expression)) ts)
left_closed n a (Some marks.Question) p ts = left_by 13 (length ts) (run n (choosing a p) ts) (run_within n (choosing a p) ts)
left_closed n a (Some marks.Arrow) p ts = left_by 15 (length ts) (run n (implying a p) ts) (run_within n (implying a p) ts)
left_closed n a (Some m) p ts = tt
left_closed n a None p ts = tt

pub closed_less : (n k : ℕ) (a : Expression) (ts : List Token) (y : Place_of) → closed_at n a ts ≡ Ok (k, y) → length y.1 < length ts
unfolding closed_at
closed_less n k a [] y e = absurd (cc)
closed_less n k a (t ∷ ts) y e = let P : Result (ℕ × Place_of) Stop → Type 0 = λ r. Left (length ts) r in omega (arith, subst P e (left_closed n a (mark_of t.lexeme) t.place ts))
