-- An expression is its first operand, and the operators of the levels from that one's on.
use Rattle.std.proofs.Common.{◌≡◌, ◌<◌, ◌≤◌, ◌+◌, ◌-◌, ◌==◌, ℕ, zero, suc, max, Bool, true, false, if◌then◌else◌, List, [], ◌∷◌, length, Option, Some, None, Result, Ok, Err, refl, sym, ◌∙◌, ap, subst, ◌⊎◌, inl, inr, arith, eqb-true}
use Rattle.std.proofs.lemmas.Bool.Decides.{eqb_tells}
use Rattle.smv_tree.specs.declared.place.Place.{Place}
use Rattle.smv_tree.specs.declared.expr.Op1.{Op1}
use Rattle.smv_tree.specs.declared.expr.Op1.TheVariants as op1
use Rattle.smv_tree.specs.declared.expr.Op2.{Op2}
use Rattle.smv_tree.specs.Trees.{two}
use Rattle.smv_token.specs.declared.mark.Mark.{Mark}
use Rattle.smv_token.specs.declared.mark.Mark.TheVariants as marks
use Rattle.smv_token.specs.declared.token.Token.{Token}
use Rattle.smv_token.specs.declared.token.Lexeme.{Lexeme}
use Rattle.smv_token.specs.declared.token.Lexeme.TheVariants as lexeme
use Rattle.smv_grammar.specs.Forms.{infix_of}
use Rattle.smv_grammar.specs.Levels.{level_of}
use Rattle.smv_grammar.specs.IsMark.{is_mark, same_mark}
use Rattle.smv_reader.specs.declared.halt.Halt.{Halt}
use Rattle.smv_reader.specs.declared.halt.Halt.TheVariants as halts
use Rattle.smv_reader.specs.Halts.{Halts}
use Rattle.smv_rules.specs.Reading.{Stop, wrong, deep, ◌>>=◌, Got}
use Rattle.smv_rules.proofs.Outcomes.{ReachedTo}
use Rattle.smv_rules.specs.Keys.{Key, Payload, Unseen, by_mark, if_there, mark_of, of_level, sees, with_place}
use Rattle.smv_rules.specs.Keys as key
use Rattle.smv_rules.specs.Rules.{Rule, gives, may, ◌>>=◌ as ◌>>>◌}
use Rattle.smv_rules.specs.Running.{if_seen, run}
use Rattle.smv_rules.specs.Sorts.{Expression, Gift, Sort, an_expression}
use Rattle.smv_rules.specs.Expressions.{chosen, deeper, implied, joined, level, prefixed, primary, selected}
use Rattle.smv_rules.proofs.Meeting.{done_read, next_read, run_within, skip_read, stop_read, take_read}
use Rattle.smv_expression_reader.specs.Climbing.{Infix, Prefix, as_infix, climb, infix_at, level_by, marked_infix, marked_level, next_level, prefix_at, step, tail, up}
use Rattle.smv_reader.specs.Steps.{steps}
use Rattle.smv_reader.proofs.Steps.{bind_bind, bind_end, bind_same, steps_more, steps_none, steps_to}

abbrev pub Place_of : Type 0
Place_of = Expression × List Token

-- a level is the next tighter one and its operators, where no operator before an operand is its own
step_by : (n l : ℕ) (tighter : Rule an_expression) (ts : List Token) (b c d e f : Bool) → (c ≡ true → Unseen (key.mark marks.Bang) ts) → (d ≡ true → Unseen key.minus ts)
    → run n (if b then tighter >>> selected else (if c then may an_expression (key.mark marks.Bang) (λ p. prefixed p op1.Not 2) tighter else (if d then may an_expression key.minus (λ p. prefixed p op1.Neg 4) tighter else (if e then tighter >>> chosen else (if f then tighter >>> implied else tighter >>> joined l tighter))))) ts
    ≡ (run n tighter ts >>= (λ y. run n (if b then selected y.0 else (if c then gives an_expression y.0 else (if d then gives an_expression y.0 else (if e then chosen y.0 else (if f then implied y.0 else joined l tighter y.0))))) y.1))
unfolding run
step_by n l tighter ts true c d e f u v = refl
step_by n l tighter ts false true d e f u v = skip_read n an_expression (key.mark marks.Bang) (λ p. prefixed p op1.Not 2) tighter ts (u refl) ∙ sym (bind_end (run n tighter ts))
step_by n l tighter ts false false true e f u v = skip_read n an_expression key.minus (λ p. prefixed p op1.Neg 4) tighter ts (v refl) ∙ sym (bind_end (run n tighter ts))
step_by n l tighter ts false false false true f u v = refl
step_by n l tighter ts false false false false true u v = refl
step_by n l tighter ts false false false false false u v = refl

level_step : (n l : ℕ) (ts : List Token) → (suc l ≡ 2 → Unseen (key.mark marks.Bang) ts) → (suc l ≡ 4 → Unseen key.minus ts) → run n (level (suc l)) ts ≡ (run n (level l) ts >>= (λ y. run n (tail (suc l) (level l) y.0) y.1))
unfolding level
level_step n l ts u v = step_by n (suc l) (level l) ts (suc l == 1) (suc l == 2) (suc l == 4) (suc l == 13) (suc l == 15) (λ e. u (eqb-true (suc l) 2 e)) (λ e. v (eqb-true (suc l) 4 e))

-- one level more
climb_more : (n i j m : ℕ) (x : Place_of) → i + j ≡ m → climb n i (suc j) x ≡ (climb n i j x >>= step n m)
climb_more n i j m x e = steps_more (step n) i j x ∙ ap (λ k. climb n i j x >>= step n k) e

-- where a level is known to begin with an operand of a tighter one, so does each looser one
climbs : (n i j m : ℕ) (r : Got Expression) (ts : List Token) → i + j ≡ m → run n (level m) ts ≡ (r >>= climb n i j) → (suc m ≡ 2 → Unseen (key.mark marks.Bang) ts) → (suc m ≡ 4 → Unseen key.minus ts) → run n (level (suc m)) ts ≡ (r >>= climb n i (suc j))
climbs n i j m r ts e h u v =
    level_step n m ts u v
    ∙ ap (λ (o : Got Expression). o >>= (λ y. run n (tail (suc m) (level m) y.0) y.1)) h
    ∙ bind_bind r (climb n i j) (λ y. run n (tail (suc m) (level m) y.0) y.1)
    ∙ bind_same r (λ x. climb n i j x >>= (λ y. run n (tail (suc m) (level m) y.0) y.1)) (climb n i (suc j)) (λ x. sym (climb_more n i j m x e))

-- an operand that begins with no operator
pub primary_climbs : (n l : ℕ) (ts : List Token) → (2 ≤ l → Unseen (key.mark marks.Bang) ts) → (4 ≤ l → Unseen key.minus ts) → run n (level l) ts ≡ (run n primary ts >>= climb n 0 l)
unfolding level steps
primary_climbs n zero ts u v = sym (bind_end (run n primary ts))
primary_climbs n (suc l) ts u v = climbs n 0 l l (run n primary ts) ts (omega arith) (primary_climbs n l ts (λ h. u (omega (arith, h))) (λ h. v (omega (arith, h)))) (λ e. u (omega (arith, e))) (λ e. v (omega (arith, e)))

-- a `!`, and a `-` that is an operator
pub bang_climbs : (n j l : ℕ) (t : Token) (p : Place) (ts : List Token) → 2 + j ≡ l → sees (key.mark marks.Bang) t ts ≡ Some p → Unseen key.minus (t ∷ ts) → run n (level l) (t ∷ ts) ≡ (run n (prefixed p op1.Not 2) ts >>= climb n 2 j)
unfolding level steps
bang_climbs n zero l t p ts s e u =
    let z : l ≡ 2 = omega (arith, s) in
    ap (λ k. run n (level k) (t ∷ ts)) z
    ∙ take_read n an_expression (key.mark marks.Bang) (λ p. prefixed p op1.Not 2) (level 1) t p ts e ∙ sym (bind_end (run n (prefixed p op1.Not 2) ts))
bang_climbs n (suc j) l t p ts s e u =
    let z : l ≡ suc (2 + j) = omega (arith, s) in
    ap (λ k. run n (level k) (t ∷ ts)) z
    ∙ climbs n 2 j (2 + j) (run n (prefixed p op1.Not 2) ts) (t ∷ ts) refl (bang_climbs n j (2 + j) t p ts refl e u) (λ g. absurd (omega (arith, g))) (λ g. u)

pub minus_climbs : (n j l : ℕ) (t : Token) (p : Place) (ts : List Token) → 4 + j ≡ l → sees key.minus t ts ≡ Some p → run n (level l) (t ∷ ts) ≡ (run n (prefixed p op1.Neg 4) ts >>= climb n 4 j)
unfolding level steps
minus_climbs n zero l t p ts s e =
    let z : l ≡ 4 = omega (arith, s) in
    ap (λ k. run n (level k) (t ∷ ts)) z
    ∙ take_read n an_expression key.minus (λ p. prefixed p op1.Neg 4) (level 3) t p ts e ∙ sym (bind_end (run n (prefixed p op1.Neg 4) ts))
minus_climbs n (suc j) l t p ts s e =
    let z : l ≡ suc (4 + j) = omega (arith, s) in
    ap (λ k. run n (level k) (t ∷ ts)) z
    ∙ climbs n 4 j (4 + j) (run n (prefixed p op1.Neg 4) ts) (t ∷ ts) refl (minus_climbs n j (4 + j) t p ts refl e) (λ g. absurd (omega (arith, g))) (λ g. absurd (omega (arith, g)))

-- where no operator of the levels follows, nothing is added
square_unseen : (l : Lexeme) (p : Place) → (marked_level (mark_of l) ≡ 1 → ⊥) → if_there (is_mark marks.OpenSquare l) p ≡ None
unfolding same_mark
square_unseen (lexeme.Mark marks.OpenSquare) p ne = absurd (ne refl)
square_unseen (lexeme.Mark m) p ne = refl
square_unseen (lexeme.Name x) p ne = refl
square_unseen (lexeme.Number x) p ne = refl
square_unseen (lexeme.Word x) p ne = refl

question_unseen : (l : Lexeme) (p : Place) → (marked_level (mark_of l) ≡ 13 → ⊥) → if_there (is_mark marks.Question l) p ≡ None
unfolding same_mark
question_unseen (lexeme.Mark marks.Question) p ne = absurd (ne refl)
question_unseen (lexeme.Mark m) p ne = refl
question_unseen (lexeme.Name x) p ne = refl
question_unseen (lexeme.Number x) p ne = refl
question_unseen (lexeme.Word x) p ne = refl

arrow_unseen : (l : Lexeme) (p : Place) → (marked_level (mark_of l) ≡ 15 → ⊥) → if_there (is_mark marks.Arrow l) p ≡ None
unfolding same_mark
arrow_unseen (lexeme.Mark marks.Arrow) p ne = absurd (ne refl)
arrow_unseen (lexeme.Mark m) p ne = refl
arrow_unseen (lexeme.Name x) p ne = refl
arrow_unseen (lexeme.Number x) p ne = refl
arrow_unseen (lexeme.Word x) p ne = refl

other_level : (k : ℕ) (o : Option (ℕ × Op2)) (p : Place) → (level_of o ≡ k → ⊥) → with_place (of_level k o) p ≡ None
other_level k None p ne = refl
other_level k (Some x) p ne = elim (eqb_tells x.0 k) [
  | inl h ↦ absurd (ne h.1)
  | inr h ↦ ap (λ b. with_place (if b then Some x.1 else None) p) h.0
]

infix_unseen : (k : ℕ) (l : Lexeme) (p : Place) → (marked_level (mark_of l) ≡ k → ⊥) → with_place (of_level k (by_mark infix_of (mark_of l))) p ≡ None
infix_unseen k (lexeme.Mark marks.OpenSquare) p ne = refl
infix_unseen k (lexeme.Mark marks.Question) p ne = refl
infix_unseen k (lexeme.Mark marks.Arrow) p ne = refl
infix_unseen k (lexeme.Mark m) p ne = other_level k (infix_of m) p ne
infix_unseen k (lexeme.Name x) p ne = refl
infix_unseen k (lexeme.Number x) p ne = refl
infix_unseen k (lexeme.Word x) p ne = refl

tail_unseen : (n k : ℕ) (tighter : Rule an_expression) (a : Expression) (ts : List Token) (b c d e f : Bool) → (b ≡ true → Unseen (key.mark marks.OpenSquare) ts) → (e ≡ true → Unseen (key.mark marks.Question) ts) → (f ≡ true → Unseen (key.mark marks.Arrow) ts) → Unseen (key.operator k) ts
    → run n (if b then selected a else (if c then gives an_expression a else (if d then gives an_expression a else (if e then chosen a else (if f then implied a else joined k tighter a))))) ts ≡ Ok (a, ts)
tail_unseen n k tighter a ts true c d e f u v w z = stop_read n an_expression (key.mark marks.OpenSquare) _ a ts (u refl)
tail_unseen n k tighter a ts false true d e f u v w z = done_read n an_expression a ts
tail_unseen n k tighter a ts false false true e f u v w z = done_read n an_expression a ts
tail_unseen n k tighter a ts false false false true f u v w z = skip_read n an_expression (key.mark marks.Question) _ (gives an_expression a) ts (v refl) ∙ done_read n an_expression a ts
tail_unseen n k tighter a ts false false false false true u v w z = skip_read n an_expression (key.mark marks.Arrow) _ (gives an_expression a) ts (w refl) ∙ done_read n an_expression a ts
tail_unseen n k tighter a ts false false false false false u v w z = stop_read n an_expression (key.operator k) _ a ts z

mark_unseen : (k : ℕ) (ts : List Token) → (next_level ts ≡ k → ⊥) → (k ≡ 1 → Unseen (key.mark marks.OpenSquare) ts) × (k ≡ 13 → Unseen (key.mark marks.Question) ts) × (k ≡ 15 → Unseen (key.mark marks.Arrow) ts) × Unseen (key.operator k) ts
unfolding next_level sees
mark_unseen k [] ne = ((λ e. tt), (λ e. tt), (λ e. tt), tt)
mark_unseen k (t ∷ ts) ne = ((λ e. square_unseen t.lexeme t.place (λ g. ne (g ∙ sym e))), (λ e. question_unseen t.lexeme t.place (λ g. ne (g ∙ sym e))), (λ e. arrow_unseen t.lexeme t.place (λ g. ne (g ∙ sym e))), infix_unseen k t.lexeme t.place ne)

tail_none : (n k : ℕ) (tighter : Rule an_expression) (a : Expression) (ts : List Token) → (next_level ts ≡ k → ⊥) → run n (tail k tighter a) ts ≡ Ok (a, ts)
tail_none n k tighter a ts ne =
    let u = mark_unseen k ts ne in
    tail_unseen n k tighter a ts (k == 1) (k == 2) (k == 4) (k == 13) (k == 15) (λ e. u.0 (eqb-true k 1 e)) (λ e. u.1 (eqb-true k 13 e)) (λ e. u.2 (eqb-true k 15 e)) u.3

pub climb_none : (n i j : ℕ) (x : Place_of) → (i < next_level x.1 → i + j < next_level x.1) → climb n i j x ≡ Ok x
climb_none n i j x h = steps_none (step n) i j x (λ k ge lt. tail_none n (suc k) (level k) x.0 x.1 (λ e. omega (arith, e, ge, lt, h (omega (arith, e, ge)))))

-- where the operator of one of the levels follows, the levels before it add nothing
pub climb_to : (n i j m : ℕ) (x : Place_of) → next_level x.1 ≡ suc m → i ≤ m → m < i + j → climb n i j x ≡ climb n m (i + j - m) x
climb_to n i j m x e hi hj = steps_to (step n) i j m x hi hj (λ k ge lt. tail_none n (suc k) (level k) x.0 x.1 (λ g. omega (arith, g, e, lt)))
