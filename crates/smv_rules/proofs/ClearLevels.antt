-- What follows an expression of a level tells where its parts end, at each level and in each nesting.
use Rattle.std.proofs.Common.{◌≡◌, ◌<◌, ℕ, zero, suc, Bool, true, false, cond, List, [], ◌∷◌, Option, None, ◌⊎◌, refl, inl, inr, arith}
use Rattle.smv_tree.specs.declared.place.Place.{Place}
use Rattle.smv_tree.specs.Trees.{arms}
use Rattle.smv_tree.specs.Trees as tree
use Rattle.smv_token.specs.declared.mark.Mark.{Mark}
use Rattle.smv_token.specs.declared.mark.Mark.TheVariants as marks
use Rattle.smv_token.specs.declared.token.Token.{Token}
use Rattle.smv_token.specs.declared.token.Lexeme.TheVariants as lexeme
use Rattle.smv_grammar.specs.Forms.{capped}
use Rattle.smv_grammar.specs.IsMark.{is_mark}
use Rattle.smv_rules.specs.Keys.{Key, Opener, Primary, Unseen, begins_with, below, if_there, number_of, opens, present, primary_by, primary_of, round, set, branches, count, next, function, widen, const, sees, with_place}
use Rattle.smv_rules.specs.Keys as key
use Rattle.smv_rules.specs.Sorts.{Branches, Expression, Operands, Sort, an_expression, some_branches, some_operands}
use Rattle.smv_rules.specs.Rules.{Rule, gives, too_deep, part, again, inside, bits, ◌>>=◌}
use Rattle.smv_rules.specs.Expressions.{bracketed, branch, chosen, deeper, expr, no_branches, implied, last_semicolon, level, mark, nested, opened, operands, prefixed, selected, selecting, side}
use Rattle.smv_rules.specs.Table.{table}
use Rattle.smv_rules.proofs.Plain.{Begins, Clear, Seen, Starts, apart, clear_less}
use Rattle.smv_rules.proofs.Firsts.{Closed, closed_less, closed_mark, primary_no_mark, seen_closed, seen_other, tail_level}
use Rattle.smv_rules.proofs.Minus.{minus_led, tight_no_minus}
use Rattle.smv_rules.proofs.ClearExpressions.{begins_starts, deeper_begins, deeper_clear, infix_clear, int_clear, mark_begins, primary_clear}

-- the parts that are nested once more
pub record Nested (n : ℕ) : Type 1 where
  pub two : Clear n (opened 2) (Closed 2)
  pub four : Clear n (opened 4) (Closed 4)
  pub thirteen : Clear n (side 13) (Closed 13)
  pub fifteen : Clear n (side 15) (Closed 15)
  pub inner : (o : Opener) (p : Place) → Clear n (part an_expression (inside o p) (too_deep an_expression)) (Closed 0)
  pub chosen_bits : (a : Expression) (p : Place) (C : List Token → Type 0) → Clear n (part an_expression (bits a p) (too_deep an_expression)) C

-- the levels that nested parts have, and that of atoms
pub record Levels (n : ℕ) : Type 0 where
  pub two : Clear n (level 2) (Closed 2)
  pub four : Clear n (level 4) (Closed 4)
  pub ten : Clear n (level 10) (Closed 10)
  pub thirteen : Clear n (level 13) (Closed 13)
  pub fifteen : Clear n (level 15) (Closed 15)

-- bits
bits_closed : (n : ℕ) (f : Expression → Place → Rule an_expression) (us : List Token) → Begins n an_expression (λ a. again an_expression (key.mark marks.OpenSquare) f a) (Closed 1) us → Closed 0 us
unfolding Starts tail_level
bits_closed n f us h = elim (begins_starts n an_expression (λ a. again an_expression (key.mark marks.OpenSquare) f a) (Closed 1) us h) [
  | inl s ↦ seen_closed marks.OpenSquare 0 us (omega arith) s
  | inr c ↦ closed_less 1 0 us (omega arith) c
]

selected_clear : (n : ℕ) → Nested n → (tighter : Rule an_expression) → Clear n tighter (Closed 0) → Clear n (tighter >>= selected) (Closed 1)
unfolding Clear tail_level
selected_clear n nest tighter h = (
  clear_less n tighter (Closed 0) (Begins n an_expression selected (Closed 1)) (bits_closed n _) h,
  (λ a. ((λ b p. nest.chosen_bits b p _), (λ us c. closed_mark marks.OpenSquare 1 us (omega arith) c))),
)

-- operators before an operand
prefixed_clear : (n l : ℕ) (p : Place) (o : _) → Clear n (opened l) (Closed l) → Clear n (prefixed p o l) (Closed l)
unfolding Clear
prefixed_clear n l p o h = (clear_less n (opened l) (Closed l) _ (λ us c. deeper_begins n _ _ _ us c) h, (λ a. deeper_clear n _ _ _))

level_one_starts : (n : ℕ) (C : List Token → Type 0) (us : List Token) → Starts n (level 1) C us → Seen key.primary us
unfolding Starts level
level_one_starts n C us h = h

bang_clear : (n : ℕ) → Nested n → Clear n (level 1) (Closed 1) → Clear n (level 2) (Closed 2)
unfolding Clear level primary_by
bang_clear n nest h = (
  (λ p. prefixed_clear n 2 p _ nest.two),
  clear_less n (level 1) (Closed 1) (Closed 2) (λ us c. closed_less 2 1 us (omega arith) c) h,
  apart (λ us i b. primary_no_mark marks.Bang us refl (level_one_starts n (Closed 2) us b)),
)

minus_clear : (n : ℕ) → Nested n → Clear n (level 3) (Closed 3) → Clear n (level 4) (Closed 4)
unfolding Clear level
minus_clear n nest h = (
  (λ p. prefixed_clear n 4 p _ nest.four),
  clear_less n (level 3) (Closed 3) (Closed 4) (λ us c. closed_less 4 3 us (omega arith) c) h,
  record { ends = λ us rest x i j c. tight_no_minus n us rest x j; leads = λ t us rest p i j l e. minus_led n h t us rest p j e },
)

-- a condition and its branches
chosen_closed : (n : ℕ) (us : List Token) → Begins n an_expression chosen (Closed 13) us → Closed 12 us
unfolding Starts tail_level
chosen_closed n us h = elim (begins_starts n an_expression chosen (Closed 13) us h) [
  | inl s ↦ seen_closed marks.Question 12 us (omega arith) s
  | inr c ↦ closed_less 13 12 us (omega arith) c
]

chosen_clear : (n : ℕ) → Nested n → (tighter : Rule an_expression) → Clear n tighter (Closed 12) → Clear n (tighter >>= chosen) (Closed 13)
unfolding Clear Starts tail_level
chosen_clear n nest tighter h = (
  clear_less n tighter (Closed 12) (Begins n an_expression chosen (Closed 13)) (chosen_closed n) h,
  (λ c. ((λ p. (clear_less n (side 15) (Closed 15) _ (λ us b. mark_begins n an_expression marks.Colon _ 15 _ us (omega arith) b) nest.fifteen, (λ a. ((λ q. tt), (λ q. (clear_less n (side 13) (Closed 13) _ (λ us b. deeper_begins n _ _ _ us b) nest.thirteen, (λ b. deeper_clear n _ _ _))))))), tt, apart (λ us i b. closed_mark marks.Question 13 us (omega arith) b))),
)

-- the right side of an arrow
implied_closed : (n : ℕ) (us : List Token) → Begins n an_expression implied (Closed 15) us → Closed 14 us
unfolding Starts tail_level
implied_closed n us h = elim (begins_starts n an_expression implied (Closed 15) us h) [
  | inl s ↦ seen_closed marks.Arrow 14 us (omega arith) s
  | inr c ↦ closed_less 15 14 us (omega arith) c
]

implied_clear : (n : ℕ) → Nested n → (tighter : Rule an_expression) → Clear n tighter (Closed 14) → Clear n (tighter >>= implied) (Closed 15)
unfolding Clear Starts tail_level
implied_clear n nest tighter h = (
  clear_less n tighter (Closed 14) (Begins n an_expression implied (Closed 15)) (implied_closed n) h,
  (λ a. ((λ p. (clear_less n (side 15) (Closed 15) _ (λ us b. deeper_begins n _ _ _ us b) nest.fifteen, (λ b. deeper_clear n _ _ _))), tt, apart (λ us i b. closed_mark marks.Arrow 15 us (omega arith) b))),
)

-- all levels within a nesting
levels_from : (n : ℕ) → Nested n → Levels n
unfolding level
levels_from n nest =
    let zero_ : Clear n (level 0) (Closed 0) = primary_clear n nest.inner in
    let one_ : Clear n (level 1) (Closed 1) = selected_clear n nest (level 0) zero_ in
    let two_ : Clear n (level 2) (Closed 2) = bang_clear n nest one_ in
    let three_ : Clear n (level 3) (Closed 3) = infix_clear n 2 (level 2) two_ in
    let four_ : Clear n (level 4) (Closed 4) = minus_clear n nest three_ in
    let five_ : Clear n (level 5) (Closed 5) = infix_clear n 4 (level 4) four_ in
    let six_ : Clear n (level 6) (Closed 6) = infix_clear n 5 (level 5) five_ in
    let seven_ : Clear n (level 7) (Closed 7) = infix_clear n 6 (level 6) six_ in
    let eight_ : Clear n (level 8) (Closed 8) = infix_clear n 7 (level 7) seven_ in
    let nine_ : Clear n (level 9) (Closed 9) = infix_clear n 8 (level 8) eight_ in
    let ten_ : Clear n (level 10) (Closed 10) = infix_clear n 9 (level 9) nine_ in
    let eleven_ : Clear n (level 11) (Closed 11) = infix_clear n 10 (level 10) ten_ in
    let twelve_ : Clear n (level 12) (Closed 12) = infix_clear n 11 (level 11) eleven_ in
    let thirteen_ : Clear n (level 13) (Closed 13) = chosen_clear n nest (level 12) twelve_ in
    let fourteen_ : Clear n (level 14) (Closed 14) = infix_clear n 13 (level 13) thirteen_ in
    let fifteen_ : Clear n (level 15) (Closed 15) = implied_clear n nest (level 14) fourteen_ in
    record { two = two_; four = four_; ten = ten_; thirteen = thirteen_; fifteen = fifteen_ }

-- brackets, sets, functions
pub expr_until : (n : ℕ) (s : Sort) (k : Mark) (f : Expression → Place → Rule s) (C : List Token → Type 0) → 15 < tail_level k → Clear n expr (Closed 15) → Clear n expr (Begins n s (λ a. mark k >>= f a) C)
expr_until n s k f C lt h = clear_less n expr (Closed 15) (Begins n s (λ a. mark k >>= f a) C) (λ us b. mark_begins n s k f 15 C us lt b) h

bracketed_clear : (n : ℕ) (a : Expression) (C : List Token → Type 0) → Clear n (bracketed a) C
unfolding Clear
bracketed_clear n a C = by a.bare where
  by : (b : Bool) → Clear n (cond b (gives an_expression (record { tree = a.tree; depth = a.depth; bare = false })) (deeper a.tree a.depth)) C
  by true = tt
  by false = deeper_clear n a.tree a.depth C

further_operand : (n : ℕ) {X : Type 0} (g : X → Operands) (f : Operands → Place → Rule some_operands) (C : List Token → Type 0) → ((us : List Token) → C us → Closed 15 us) → (us : List Token) → Begins n some_operands (λ x. again some_operands (key.mark marks.Comma) f (g x)) C us → Closed 15 us
unfolding Starts tail_level
further_operand n g f C c us h = elim (begins_starts n some_operands (λ x. again some_operands (key.mark marks.Comma) f (g x)) C us h) [
  | inl s ↦ seen_closed marks.Comma 15 us (omega arith) s
  | inr i ↦ c us i
]

-- what follows operands ends an expression and is no comma
pub operands_clear : (n : ℕ) (C : List Token → Type 0) → ((us : List Token) → C us → Closed 15 us) → ((us : List Token) → C us → Unseen (key.mark marks.Comma) us) → Clear n expr (Closed 15) → Clear n operands C
unfolding Clear Starts
operands_clear n C c u h = (
  clear_less n expr (Closed 15) _ (λ us b. further_operand n _ _ C c us b) h,
  (λ a. ((λ xs p. (clear_less n expr (Closed 15) _ (λ us b. further_operand n _ _ C c us (begins_starts n some_operands _ _ us b)) h, (λ b. tt))), u)),
)

-- operands up to a mark
pub operands_until : (n : ℕ) (s : Sort) (k : Mark) (f : Operands → Place → Rule s) (C : List Token → Type 0) → 15 < tail_level k → (lexeme.Mark k ≡ lexeme.Mark marks.Comma → ⊥) → Clear n expr (Closed 15) → Clear n operands (Begins n s (λ a. mark k >>= f a) C)
unfolding Starts
operands_until n s k f C lt d h = operands_clear n (Begins n s (λ a. mark k >>= f a) C) (λ us b. mark_begins n s k f 15 C us lt b) (λ us b. seen_other k marks.Comma us d (begins_starts n s (λ a. mark k >>= f a) C us b)) h

-- branches
branch_clear : (n : ℕ) (bs : Branches) (C : List Token → Type 0) → ((us : List Token) → C us → Closed 15 us) → Clear n expr (Closed 15) → Clear n (branch bs) C
unfolding Clear Starts tail_level
branch_clear n bs C c h = (expr_until n some_branches marks.Colon _ C (omega arith) h, (λ a. ((λ p. tt), (λ p. (clear_less n expr (Closed 15) _ (λ us b. c us (begins_starts n some_branches _ C us b)) h, (λ v. tt))))))

further_seen : (us : List Token) → Seen key.further us → Seen (key.mark marks.Semicolon) us
unfolding sees
further_seen [] h = absurd h
further_seen (t ∷ ts) h = by (begins_with marks.Esac ts) h where
  by : (b : Bool) → present (cond b None (if_there (is_mark marks.Semicolon t.lexeme) t.place)) ≡ true → present (if_there (is_mark marks.Semicolon t.lexeme) t.place) ≡ true
  by true e = absurd (cc)
  by false e = e

closing_seen : (us : List Token) → Seen key.closing us → Seen (key.mark marks.Semicolon) us × Unseen key.further us
unfolding sees
closing_seen [] h = absurd h
closing_seen (t ∷ ts) h = by (begins_with marks.Esac ts) (if_there (is_mark marks.Semicolon t.lexeme) t.place) h where
  by : (b : Bool) (o : Option Place) → present (cond b o None) ≡ true → (present o ≡ true) × (cond b None o ≡ None)
  by true o e = (e, refl)
  by false o e = absurd (cc)

-- the end of a case, and further branches before it
abbrev case_end : Place → Branches → Rule an_expression
case_end p bs = last_semicolon >>= (λ q. mark marks.Esac >>= (λ r. deeper (tree.cases p (arms bs.arms)) bs.depth))

abbrev case_loop : Branches → Rule some_branches
case_loop bs = again some_branches key.further (λ bs q. branch bs) bs

case_closed : (n : ℕ) (p : Place) (C : List Token → Type 0) (us : List Token) → Seen key.further us ⊎ Begins n an_expression (case_end p) C us → Closed 15 us
unfolding Starts tail_level
case_closed n p C us (inl s) = seen_closed marks.Semicolon 15 us (omega arith) (further_seen us s)
case_closed n p C us (inr b) = seen_closed marks.Semicolon 15 us (omega arith) (closing_seen us (begins_starts n an_expression (case_end p) C us b)).0

case_clear : (n : ℕ) (p : Place) (C : List Token → Type 0) → Clear n expr (Closed 15) → Clear n (nested branches p) C
unfolding Clear Starts
case_clear n p C h = (
  branch_clear n no_branches (Begins n an_expression (λ b. case_loop b >>= case_end p) C) (λ us b. case_closed n p C us (begins_starts n an_expression (λ b. case_loop b >>= case_end p) C us b)) h,
  (λ b. (
    ((λ bs q. branch_clear n bs (Begins n some_branches case_loop (Begins n an_expression (case_end p) C)) (λ us d. case_closed n p C us (begins_starts n some_branches case_loop (Begins n an_expression (case_end p) C) us d)) h), (λ us d. (closing_seen us (begins_starts n an_expression (case_end p) C us d)).1)),
    (λ bs. ((λ q. tt), (λ q. ((λ r. tt), (λ r. deeper_clear n (tree.cases p (arms bs.arms)) bs.depth C))))),
  )),
)

-- what stands behind a token that opens a nesting ends with a mark of its own
nested_clear : (n : ℕ) → Clear n expr (Closed 15) → (o : Opener) (p : Place) (C : List Token → Type 0) → Clear n (nested o p) C
unfolding Clear Starts tail_level
nested_clear n h round p C = (expr_until n an_expression marks.CloseRound _ C (omega arith) h, (λ a. ((λ q. tt), (λ q. bracketed_clear n a C))))
nested_clear n h set p C = (operands_until n an_expression marks.CloseCurly _ C (omega arith) (λ e. absurd (cc)) h, (λ xs. ((λ q. tt), (λ q. deeper_clear n _ _ C))))
nested_clear n h branches p C = case_clear n p C h
nested_clear n h count p C = ((λ q. tt), (λ q. (operands_until n an_expression marks.CloseRound _ C (omega arith) (λ e. absurd (cc)) h, (λ xs. ((λ r. tt), (λ r. deeper_clear n _ _ C))))))
nested_clear n h next p C = ((λ q. tt), (λ q. (expr_until n an_expression marks.CloseRound _ C (omega arith) h, (λ a. ((λ r. tt), (λ r. deeper_clear n _ _ C))))))
nested_clear n h (function o) p C = ((λ q. tt), (λ q. (expr_until n an_expression marks.CloseRound _ C (omega arith) h, (λ a. ((λ r. tt), (λ r. deeper_clear n _ _ C))))))
nested_clear n h (widen resize) p C = ((λ q. tt), (λ q. (expr_until n an_expression marks.Comma _ C (omega arith) h, (λ a. ((λ r. tt), (λ r. ((λ m. tt), (λ m. ((λ t. tt), (λ t. deeper_clear n _ _ C))))))))))
nested_clear n h (const signed) p C = ((λ q. tt), (λ q. (int_clear n _, (λ v. ((λ r. tt), (λ r. ((λ m. tt), (λ m. ((λ t. tt), (λ t. deeper_clear n (tree.const p signed v (capped m)) 1 C))))))))))

selecting_clear : (n : ℕ) (a : Expression) (p : Place) (C : List Token → Type 0) → Clear n (selecting a p) C
unfolding Clear
selecting_clear n a p C = ((λ q. tt), (λ i. ((λ q. tt), (λ q. ((λ r. tt), (λ l. ((λ t. tt), (λ t. deeper_clear n _ _ C))))))))

nested_from : (n : ℕ) → Levels n → Nested (suc n)
unfolding Clear table
nested_from n h = record {
  two = h.two;
  four = h.four;
  thirteen = h.thirteen;
  fifteen = h.fifteen;
  inner = λ o p. nested_clear n h.fifteen o p (Closed 0);
  chosen_bits = λ a p C. selecting_clear n a p C;
}

nested_none : Nested 0
unfolding Clear
nested_none = record { two = tt; four = tt; thirteen = λ p. tt; fifteen = λ p. tt; inner = λ o p. tt; chosen_bits = λ a p C. tt }

pub levels_clear : (n : ℕ) → Levels n
levels_clear zero = levels_from 0 nested_none
levels_clear (suc n) = levels_from (suc n) (nested_from n (levels_clear n))
