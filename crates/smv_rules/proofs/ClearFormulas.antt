-- What follows a formula of a level tells where its parts end.
use Rattle.std.proofs.Common.{◌≡◌, ◌<◌, ◌≤◌, ◌==◌, ℕ, zero, suc, Bool, true, false, cond, List, [], ◌∷◌, Option, Some, None, refl, inl, inr, ap, arith}
use Rattle.std.specs.Prelude.{nat_lt}
use Rattle.std.proofs.lemmas.Bool.{eqb-true}
use Rattle.smv_tree.specs.declared.formula.FormOp.{FormOp}
use Rattle.smv_tree.specs.declared.place.Place.{Place}
use Rattle.smv_tree.specs.Models.{Claim}
use Rattle.smv_token.specs.declared.mark.Mark.{Mark}
use Rattle.smv_token.specs.declared.mark.Mark.TheVariants as marks
use Rattle.smv_token.specs.declared.token.Token.{Token}
use Rattle.smv_token.specs.declared.token.Lexeme.{Lexeme}
use Rattle.smv_token.specs.declared.token.Lexeme.TheVariants as lexeme
use Rattle.smv_grammar.specs.Forms.{deepest}
use Rattle.smv_grammar.specs.Formulas.{joining_by, joining_of}
use Rattle.smv_rules.specs.Keys.{Key, Unseen, of_level, present, sees}
use Rattle.smv_rules.specs.Keys as key
use Rattle.smv_rules.specs.Sorts.{Formula, a_formula}
use Rattle.smv_rules.specs.Rules.{Rule, gives, too_deep, again, ◌>>=◌}
use Rattle.smv_rules.specs.Expressions.{level, mark}
use Rattle.smv_rules.specs.Formulas.{deeper, formula_level, implied, joined, opened, operand, side}
use Rattle.smv_rules.specs.Table.{table}
use Rattle.smv_rules.proofs.Plain.{Begins, Clear, Seen, Starts, apart, clear_less}
use Rattle.smv_rules.proofs.Firsts.{Closed, lexeme_level, seen_is, tail_level}
use Rattle.smv_rules.proofs.ClearExpressions.{begins_starts}
use Rattle.smv_rules.proofs.ClearLevels.{levels_clear}

-- the level at which a token goes on with a formula; what goes on with none has 7
abbrev pub join_level : Option (ℕ × FormOp) → ℕ
join_level None = 7
join_level (Some o) = o.0

-- the first token goes on with no atom, nor with a formula of the level
unfoldable pub FormulaClosed : ℕ → List Token → Type 0
FormulaClosed l [] = Unit {0}
FormulaClosed l (t ∷ ts) = (10 < lexeme_level t.lexeme) × (l < join_level (joining_of t.lexeme))

pub formula_less : (l k : ℕ) (us : List Token) → k ≤ l → FormulaClosed l us → FormulaClosed k us
unfolding FormulaClosed
formula_less l k [] le h = tt
formula_less l k (t ∷ ts) le h = (h.0, (let i = h.1 in omega (arith, le, i)))

formula_atom : (l : ℕ) (us : List Token) → FormulaClosed l us → Closed 10 us
unfolding FormulaClosed Closed
formula_atom l [] h = tt
formula_atom l (t ∷ ts) h = h.0

closed_join : (l : ℕ) (o : Option (ℕ × FormOp)) → l < join_level o → of_level l o ≡ None
closed_join l None h = refl
closed_join l (Some x) h = by_test (x.0 == l) refl where
  by_test : (b : Bool) → (x.0 == l) ≡ b → cond {A = Option FormOp} b (Some x.1) None ≡ None
  by_test true e = let s = eqb-true x.0 l e in absurd (omega (arith, h, s))
  by_test false e = refl

closed_connective : (l : ℕ) (us : List Token) → FormulaClosed l us → Unseen (key.connective l) us
unfolding FormulaClosed sees
closed_connective l [] h = tt
closed_connective l (t ∷ ts) h = closed_join l (joining_of t.lexeme) h.1

join_closed : (l : ℕ) (o : Option (ℕ × FormOp)) → present (of_level l o) ≡ true → (present o ≡ true) × (join_level o ≡ l)
join_closed l None h = absurd (cc)
join_closed l (Some x) h = (refl, by_test (x.0 == l) refl h) where
  by_test : (b : Bool) → (x.0 == l) ≡ b → present (cond {A = Option FormOp} b (Some x.1) None) ≡ true → x.0 ≡ l
  by_test true e g = eqb-true x.0 l e
  by_test false e g = absurd (cc)

-- no operator between formulas goes on with an atom
loose_mark : (m : Mark) → present (joining_by m) ≡ true → 10 < tail_level m
unfolding tail_level
loose_mark marks.WordU h = omega arith
loose_mark marks.WordV h = omega arith
loose_mark marks.Ampersand h = omega arith
loose_mark marks.Bar h = omega arith
loose_mark marks.Xor h = omega arith
loose_mark marks.Xnor h = omega arith
loose_mark marks.Iff h = omega arith
loose_mark marks.Arrow h = omega arith
loose_mark m h = absurd (cc)

loose : (x : Lexeme) → present (joining_of x) ≡ true → 10 < lexeme_level x
loose (lexeme.Mark m) h = loose_mark m h
loose (lexeme.Name n) h = absurd (cc)
loose (lexeme.Number n) h = absurd (cc)
loose (lexeme.Word w) h = absurd (cc)

connective_closed : (l k : ℕ) (us : List Token) → k < l → Seen (key.connective l) us → FormulaClosed k us
unfolding FormulaClosed sees
connective_closed l k [] lt h = tt
connective_closed l k (t ∷ ts) lt h = let j = join_closed l (joining_of t.lexeme) h in (loose t.lexeme j.0, (let i = j.1 in omega (arith, lt, i)))

-- a mark that closes a formula
pub mark_closes : (k : Mark) (us : List Token) → 10 < tail_level k → 6 < join_level (joining_by k) → Seen (key.mark k) us → FormulaClosed 6 us
unfolding FormulaClosed
mark_closes k [] a b h = tt
mark_closes k (t ∷ ts) a b h =
    let e = seen_is k t ts h in
    let i : lexeme_level t.lexeme ≡ tail_level k = ap lexeme_level e in
    let j : join_level (joining_of t.lexeme) ≡ join_level (joining_by k) = ap (λ x. join_level (joining_of x)) e in
    (omega (arith, a, i), omega (arith, b, j))

deeper_clear : (n : ℕ) (x : Claim) (d : ℕ) (C : List Token → Type 0) → Clear n (deeper x d) C
unfolding Clear
deeper_clear n x d C = by (nat_lt d deepest) where
  by : (b : Bool) → Clear n (cond b (gives a_formula (record { claim = x; depth = suc d })) (too_deep a_formula)) C
  by true = tt
  by false = tt

deeper_starts : (n : ℕ) (x : Claim) (d : ℕ) (C : List Token → Type 0) (us : List Token) → Starts n (deeper x d) C us → C us
unfolding Starts
deeper_starts n x d C us h = by (nat_lt d deepest) h where
  by : (b : Bool) → Starts n (cond b (gives a_formula (record { claim = x; depth = suc d })) (too_deep a_formula)) C us → C us
  by true h = h
  by false h = absurd h

deeper_begins : (n : ℕ) {X : Type 0} (F : X → Claim) (D : X → ℕ) (C : List Token → Type 0) (us : List Token) → Begins n a_formula (λ b. deeper (F b) (D b)) C us → C us
deeper_begins n F D C us h = deeper_starts n (F h.from) (D h.from) C us (begins_starts n a_formula (λ b. deeper (F b) (D b)) C us h)

-- the formulas that are nested once more
record Nested (n : ℕ) : Type 0 where
  one : Clear n (opened 1) (FormulaClosed 1)
  all : Clear n (opened 6) (FormulaClosed 6)
  right : Clear n side (FormulaClosed 6)

record Levels (n : ℕ) : Type 0 where
  one : Clear n (formula_level 1) (FormulaClosed 1)
  all : Clear n (formula_level 6) (FormulaClosed 6)

round_begins : (n : ℕ) (f : Formula → Place → Rule a_formula) (C : List Token → Type 0) (us : List Token) → Begins n a_formula (λ a. mark marks.CloseRound >>= f a) C us → FormulaClosed 6 us
unfolding Starts tail_level
round_begins n f C us h = mark_closes marks.CloseRound us (omega arith) (omega arith) (begins_starts n a_formula (λ a. mark marks.CloseRound >>= f a) C us h)

operand_clear : (n : ℕ) → Nested n → Clear n operand (FormulaClosed 1)
unfolding Clear Starts
operand_clear n nest = (
  (λ f. (clear_less n (opened 1) (FormulaClosed 1) _ (λ us b. deeper_begins n _ _ _ us b) nest.one, (λ a. deeper_clear n _ _ _))),
  (
    (λ p. (clear_less n (opened 6) (FormulaClosed 6) _ (λ us b. round_begins n _ _ us b) nest.all, (λ a. ((λ q. tt), (λ q. deeper_clear n _ _ _))))),
    (clear_less n (level 10) (Closed 10) _ (λ us b. formula_atom 1 us (begins_starts n a_formula _ (FormulaClosed 1) us b)) (levels_clear n).ten, (λ a. tt)),
    apart (λ us i b. i),
  ),
  apart (λ us i b. i),
)

loop_closed : (n l : ℕ) (f : Formula → FormOp → Rule a_formula) (us : List Token) → Begins n a_formula (λ a. again a_formula (key.connective (suc l)) f a) (FormulaClosed (suc l)) us → FormulaClosed l us
unfolding Starts
loop_closed n l f us h = elim (begins_starts n a_formula (λ a. again a_formula (key.connective (suc l)) f a) (FormulaClosed (suc l)) us h) [
  | inl s ↦ connective_closed (suc l) l us (omega arith) s
  | inr c ↦ formula_less (suc l) l us (omega arith) c
]

infix_clear : (n l : ℕ) (tighter : Rule a_formula) → Clear n tighter (FormulaClosed l) → Clear n (tighter >>= joined (suc l) tighter) (FormulaClosed (suc l))
unfolding Clear
infix_clear n l tighter h = (
  clear_less n tighter (FormulaClosed l) (Begins n a_formula (joined (suc l) tighter) (FormulaClosed (suc l))) (loop_closed n l _) h,
  (λ a. ((λ b o. (clear_less n tighter (FormulaClosed l) _ (λ us c. loop_closed n l _ us (deeper_begins n _ _ _ us c)) h, (λ c. deeper_clear n _ _ _))), (λ us c. closed_connective (suc l) us c))),
)

implied_closed : (n : ℕ) (us : List Token) → Begins n a_formula implied (FormulaClosed 6) us → FormulaClosed 5 us
unfolding Starts
implied_closed n us h = elim (begins_starts n a_formula implied (FormulaClosed 6) us h) [
  | inl s ↦ connective_closed 6 5 us (omega arith) s
  | inr c ↦ formula_less 6 5 us (omega arith) c
]

implied_clear : (n : ℕ) → Nested n → (tighter : Rule a_formula) → Clear n tighter (FormulaClosed 5) → Clear n (tighter >>= implied) (FormulaClosed 6)
unfolding Clear Starts
implied_clear n nest tighter h = (
  clear_less n tighter (FormulaClosed 5) (Begins n a_formula implied (FormulaClosed 6)) (implied_closed n) h,
  (λ a. ((λ p. (clear_less n side (FormulaClosed 6) _ (λ us b. deeper_begins n _ _ _ us b) nest.right, (λ b. deeper_clear n _ _ _))), tt, apart (λ us i b. closed_connective 6 us b))),
)

levels_from : (n : ℕ) → Nested n → Levels n
unfolding formula_level
levels_from n nest =
    let one_ : Clear n (formula_level 1) (FormulaClosed 1) = operand_clear n nest in
    let two_ : Clear n (formula_level 2) (FormulaClosed 2) = infix_clear n 1 (formula_level 1) one_ in
    let three_ : Clear n (formula_level 3) (FormulaClosed 3) = infix_clear n 2 (formula_level 2) two_ in
    let four_ : Clear n (formula_level 4) (FormulaClosed 4) = infix_clear n 3 (formula_level 3) three_ in
    let five_ : Clear n (formula_level 5) (FormulaClosed 5) = infix_clear n 4 (formula_level 4) four_ in
    let six_ : Clear n (formula_level 6) (FormulaClosed 6) = implied_clear n nest (formula_level 5) five_ in
    record { one = one_; all = six_ }

nested_from : (n : ℕ) → Levels n → Nested (suc n)
unfolding Clear table
nested_from n h = record { one = h.one; all = h.all; right = h.all }

nested_none : Nested 0
unfolding Clear
nested_none = record { one = tt; all = tt; right = λ p. tt }

formula_levels : (n : ℕ) → Levels n
formula_levels zero = levels_from 0 nested_none
formula_levels (suc n) = levels_from (suc n) (nested_from n (formula_levels n))

-- what follows a formula
pub formula_clear : (n : ℕ) → Clear n (formula_level 6) (FormulaClosed 6)
formula_clear n = (formula_levels n).all
