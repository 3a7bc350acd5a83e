-- What follows an expression tells where its parts end.
use Rattle.std.proofs.Common.{◌<◌, ℕ, suc, Bool, true, false, cond, List, inl, inr, arith}
use Rattle.std.specs.Prelude.{nat_lt}
use Rattle.smv_tree.specs.declared.place.Place.{Place}
use Rattle.smv_tree.specs.Trees.{Tree}
use Rattle.smv_token.specs.declared.mark.Mark.{Mark}
use Rattle.smv_token.specs.declared.mark.Mark.TheVariants as marks
use Rattle.smv_token.specs.declared.token.Token.{Token}
use Rattle.smv_grammar.specs.Forms.{deepest}
use Rattle.smv_rules.specs.Keys.{Key, Opener, Primary, Unseen, truth, path, digits, below, word, opens, round, set, branches, count, next, function, widen, const, primary_by, sees}
use Rattle.smv_rules.specs.Keys as key
use Rattle.smv_rules.specs.Sorts.{Expression, Sort, an_expression, an_integer}
use Rattle.smv_rules.specs.Rules.{Rule, gives, too_deep, part, again, inside, ◌>>=◌}
use Rattle.smv_rules.specs.Expressions.{an_int, deeper, joined, mark, primary, primary_from, range_from}
use Rattle.smv_rules.proofs.Plain.{Begins, Clear, Starts, apart, clear_less, goes_starts}
use Rattle.smv_rules.proofs.Firsts.{Closed, closed_less, closed_mark, closed_operator, number_no_mark, operator_closed, seen_closed, tail_level}

abbrev Set : Type 1
Set = List Token → Type 0

pub begins_starts : (n : ℕ) (s : Sort) {X : Type 0} (f : X → Rule s) (C : List Token → Type 0) (us : List Token) (h : Begins n s f C us) → Starts n (f h.from) C us
begins_starts n s f C us h = goes_starts n s (f h.from) C us h.goes

pub deeper_clear : (n : ℕ) (x : Tree) (d : ℕ) (C : List Token → Type 0) → Clear n (deeper x d) C
unfolding Clear
deeper_clear n x d C = by (nat_lt d deepest) where
  by : (b : Bool) → Clear n (cond b (gives an_expression (record { tree = x; depth = suc d; bare = false })) (too_deep an_expression)) C
  by true = tt
  by false = tt

pub deeper_starts : (n : ℕ) (x : Tree) (d : ℕ) (C : List Token → Type 0) (us : List Token) → Starts n (deeper x d) C us → C us
unfolding Starts
deeper_starts n x d C us h = by (nat_lt d deepest) h where
  by : (b : Bool) → Starts n (cond b (gives an_expression (record { tree = x; depth = suc d; bare = false })) (too_deep an_expression)) C us → C us
  by true h = h
  by false h = absurd h

pub deeper_begins : (n : ℕ) {X : Type 0} (F : X → Tree) (D : X → ℕ) (C : List Token → Type 0) (us : List Token) → Begins n an_expression (λ b. deeper (F b) (D b)) C us → C us
deeper_begins n F D C us h = deeper_starts n (F h.from) (D h.from) C us (begins_starts n an_expression (λ b. deeper (F b) (D b)) C us h)

-- a mark with which what follows begins closes an expression
pub mark_begins : (n : ℕ) (s : Sort) {X : Type 0} (k : Mark) (f : X → Place → Rule s) (l : ℕ) (C : List Token → Type 0) (us : List Token) → l < tail_level k → Begins n s (λ a. mark k >>= f a) C us → Closed l us
unfolding Starts
mark_begins n s k f l C us lt h = seen_closed k l us lt (begins_starts n s (λ a. mark k >>= f a) C us h)

-- integers and ranges
pub int_clear : (n : ℕ) (C : List Token → Type 0) → Clear n an_int C
unfolding Clear Starts
int_clear n C = (((λ p. tt), tt, apart (λ us i b. number_no_mark marks.Minus us (begins_starts n an_integer _ C us b))), (λ a. ((λ p. tt), (λ b. tt))))

range_clear : (n : ℕ) (p : Place) (b : Bool) (v : ℕ) (C : List Token → Type 0) → Clear n (range_from p b v) C
unfolding Clear
range_clear n p b v C = (int_clear n (Begins n an_expression _ C), (λ a. tt))

path_clear : (n : ℕ) (o : List ℕ) (p : Place) → Clear n (primary_from (path o) p) (Closed 0)
unfolding Clear Starts tail_level
path_clear n o p = (((λ b q. ((λ r. tt), (λ a. tt))), (λ us c. closed_mark marks.Dot 0 us (omega arith) (begins_starts n an_expression _ (Closed 0) us c))), (λ a. tt))

pub primary_clear : (n : ℕ) → ((o : Opener) (p : Place) → Clear n (part an_expression (inside o p) (too_deep an_expression)) (Closed 0)) → Clear n primary (Closed 0)
unfolding Clear Starts tail_level
primary_clear n inner = λ o. by o.0 o.1 where
  by : (o : Primary) (p : Place) → Clear n (primary_from o p) (Closed 0)
  by (truth b) p = tt
  by (path o) p = path_clear n o p
  by (digits v) p = ((λ q. range_clear n p false v (Closed 0)), tt, apart (λ us i b. closed_mark marks.Dots 0 us (omega arith) b))
  by below p = ((λ q. tt), (λ v. ((λ q. tt), (λ q. range_clear n p true v (Closed 0)))))
  by (word w) p = tt
  by (opens o) p = inner o p

-- the operators of one level
loop_closed : (n l : ℕ) (f : Expression → key.Payload (key.operator (suc l)) → Rule an_expression) (us : List Token) → Begins n an_expression (λ a. again an_expression (key.operator (suc l)) f a) (Closed (suc l)) us → Closed l us
unfolding Starts
loop_closed n l f us h = elim (begins_starts n an_expression (λ a. again an_expression (key.operator (suc l)) f a) (Closed (suc l)) us h) [
  | inl s ↦ operator_closed (suc l) l us (omega arith) s
  | inr c ↦ closed_less (suc l) l us (omega arith) c
]

pub infix_clear : (n l : ℕ) (tighter : Rule an_expression) → Clear n tighter (Closed l) → Clear n (tighter >>= joined (suc l) tighter) (Closed (suc l))
unfolding Clear
infix_clear n l tighter h = (
  clear_less n tighter (Closed l) (Begins n an_expression (joined (suc l) tighter) (Closed (suc l))) (loop_closed n l _) h,
  (λ a. ((λ b o. (clear_less n tighter (Closed l) _ (λ us c. loop_closed n l _ us (deeper_begins n _ _ _ us c)) h, (λ c. deeper_clear n _ _ _))), (λ us c. closed_operator (suc l) us c))),
)
