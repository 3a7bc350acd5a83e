-- Each turn of the loop over the operators behind an expression.
use Rattle.std.proofs.Common.{◌≡◌, ◌<◌, ◌≤◌, ◌+◌, ◌-◌, ◌==◌, ℕ, zero, suc, max, Bool, true, false, if◌then◌else◌, List, [], ◌∷◌, length, get_or, take, drop, Option, Some, None, Result, Ok, Err, refl, sym, ◌∙◌, ap, subst, ◌⊎◌, inl, inr, arith, ltb-false, ltb-true, nat_lt}
use Rattle.std.proofs.lemmas.Bool.Decides.{eqb_tells}
use Rattle.std.proofs.lemmas.List.{take_all}
use denote.Enum.Bare.{true_same}
use Rattle.smv_token.specs.contracts.mark.Mark.{the_type}
use Rattle.smv_tree.specs.declared.place.Place.{Place}
use Rattle.smv_tree.specs.declared.expr.Op1.{Op1}
use Rattle.smv_tree.specs.declared.expr.Op1.TheVariants as op1
use Rattle.smv_tree.specs.declared.expr.Op2.{Op2}
use Rattle.smv_tree.specs.Trees.{two}
use Rattle.smv_token.specs.declared.mark.Mark.{Mark}
use Rattle.smv_token.specs.declared.mark.Mark.TheVariants as marks
use Rattle.smv_token.specs.declared.token.Token.{Token}
use Rattle.smv_token.specs.declared.token.Lexeme.{Lexeme}
use Rattle.smv_token.specs.declared.token.Lexeme.TheVariants as lexeme
use Rattle.smv_grammar.specs.Forms.{begins_range, infix_of}
use Rattle.smv_grammar.specs.Levels.{level_of}
use Rattle.smv_grammar.specs.IsMark.{is_mark, same_mark}
use Rattle.smv_reader.specs.declared.halt.Halt.{Halt}
use Rattle.smv_reader.specs.declared.halt.Halt.TheVariants as halts
use Rattle.smv_reader.specs.Halts.{Halts}
use Rattle.smv_rules.specs.Reading.{Stop, wrong, deep, ◌>>=◌, Got}
use Rattle.smv_rules.proofs.Outcomes.{ReachedTo}
use Rattle.smv_rules.specs.Keys.{Key, Payload, Primary, Unseen, by_mark, if_there, mark_of, of_level, primary_of, sees, with_place}
use Rattle.smv_rules.specs.Keys as key
use Rattle.smv_rules.specs.Rules.{Part, Rule, gives, too_deep, may, part, again, bits, ◌>>=◌ as ◌>>>◌}
use Rattle.smv_rules.specs.Running.{if_seen, run}
use Rattle.smv_rules.specs.Sorts.{Expression, Gift, Sort, an_expression}
use Rattle.smv_rules.specs.Table.{table}
use Rattle.smv_rules.specs.Expressions.{choosing, chosen, deeper, implied, implying, joined, level, prefixed, primary, primary_from, selected}
use Rattle.smv_rules.proofs.Meeting.{must_read, next_read, run_within, take_read}
use Rattle.smv_expression_reader.specs.Climbing.{Infix, Prefix, as_infix, climb, closed_at, closed_by, infix_at, level_by, marked_infix, marked_level, next_level, prefix_at, prefix_by, reached, tail, up}
use Rattle.smv_expression_reader.proofs.Climbing.{Place_of, bang_climbs, climb_none, climb_to, minus_climbs, primary_climbs}
use Rattle.smv_reader.specs.Steps.{steps}
use Rattle.smv_reader.proofs.Steps.{bind_bind, bind_same, halts_same, halts_then}

-- the first operand
not_minus : (l : Lexeme) (q x : Place) → if_there (is_mark marks.Bang l) q ≡ Some x → if_there (is_mark marks.Minus l) q ≡ None
unfolding same_mark
not_minus (lexeme.Mark marks.Minus) q x e = absurd (cc)
not_minus (lexeme.Mark m) q x e = refl
not_minus (lexeme.Name n) q x e = refl
not_minus (lexeme.Number n) q x e = refl
not_minus (lexeme.Word n) q x e = refl

no_minus : (b : Bool) (l : Lexeme) (q x : Place) → if_there (is_mark marks.Bang l) q ≡ Some x → (if b then None else if_there (is_mark marks.Minus l) q) ≡ None
no_minus true l q x e = refl
no_minus false l q x e = not_minus l q x e

bang_seen : (t : Token) (ts : List Token) (q : Place) → sees (key.mark marks.Bang) t ts ≡ Some q → Unseen key.minus (t ∷ ts)
unfolding sees
bang_seen t ts q e = no_minus (begins_range ts) t.lexeme t.place q e

abbrev prefix_is : ℕ → Op1 → Place → List Token → Option Prefix
prefix_is i o p ts = Some (i, o, p, ts)

abbrev infix_is : ℕ → Op2 → Place → List Token → Option Infix
infix_is i o p ts = Some (i, o, p, ts)

same_prefix : (j k : ℕ) (o q : Op1) (p r : Place) (us vs : List Token) → prefix_is j o p us ≡ prefix_is k q r vs → (j ≡ k) × (o ≡ q) × (p ≡ r) × (us ≡ vs)
same_prefix j k o q p r us vs e = let h : ◌≡◌ {A = Prefix} (j, o, p, us) (k, q, r, vs) = cc in (ap (λ x. x.0) h, ap (λ x. x.1) h, ap (λ x. x.2) h, ap (λ x. x.3) h)

-- a mark at the front
at_mark : (t : Token) (us : List Token) (m : Mark) → t.lexeme ≡ lexeme.Mark m → sees (key.mark m) t us ≡ Some t.place
unfolding sees same_mark
at_mark t us m e = ap (λ l. if_there (is_mark m l) t.place) e ∙ ap (λ b. if_there b t.place) (true_same the_type m m refl)

at_minus : (t : Token) (us : List Token) → t.lexeme ≡ lexeme.Mark marks.Minus → begins_range us ≡ false → sees key.minus t us ≡ Some t.place
unfolding sees same_mark
at_minus t us e f = ap (λ (b : Bool). if b then None else if_there (is_mark marks.Minus t.lexeme) t.place) f ∙ ap (λ l. if_there (is_mark marks.Minus l) t.place) e ∙ ap (λ b. if_there b t.place) (true_same the_type marks.Minus marks.Minus refl)

no_range : (b : Bool) (x : Option Place) → b ≡ true → (if b then None else x) ≡ None
no_range true x e = refl
no_range false x e = absurd (cc)

pub prefix_less : (l k : ℕ) (o : Op1) (p : Place) (ts us : List Token) → prefix_at l ts ≡ Some (k, o, p, us) → length us < length ts
unfolding prefix_at
prefix_less l k o p [] us e = absurd (cc)
prefix_less l k o p (t ∷ ts) us e = omega (arith, ap length (by_lexeme t.lexeme e)) where
  by_minus : (b c : Bool) → (if b then None else (if c then None else prefix_is 4 op1.Neg t.place ts)) ≡ prefix_is k o p us → ts ≡ us
  by_minus true c f = absurd (cc)
  by_minus false true f = absurd (cc)
  by_minus false false f = (same_prefix 4 k op1.Neg o t.place p ts us f).3

  by_lexeme : (x : Lexeme) → prefix_by l (mark_of x) t.place ts ≡ Some (k, o, p, us) → ts ≡ us
  by_lexeme (lexeme.Mark marks.Bang) f = (same_prefix 2 k op1.Not o t.place p ts us f).3
  by_lexeme (lexeme.Mark marks.Minus) f = by_minus (nat_lt l 4) (begins_range ts) f
  by_lexeme (lexeme.Mark m) f = absurd (cc)
  by_lexeme (lexeme.Name x) f = absurd (cc)
  by_lexeme (lexeme.Number x) f = absurd (cc)
  by_lexeme (lexeme.Word x) f = absurd (cc)

pub operand_prefixed : (n l k : ℕ) (o : Op1) (p : Place) (ts us : List Token) → 2 ≤ l → prefix_at l ts ≡ Some (k, o, p, us) → run n (level l) ts ≡ (run n (prefixed p o k) us >>= up n k l)
unfolding prefix_at
operand_prefixed n l k o p [] us h e = absurd (cc)
operand_prefixed n l k o p (t ∷ ts) us h e = by_lexeme t.lexeme refl e where
  Wanted : Type 0
  Wanted = run n (level l) (t ∷ ts) ≡ (run n (prefixed p o k) us >>= up n k l)

  as_read : (j i : ℕ) (q : Op1) → i + j ≡ l → run n (level l) (t ∷ ts) ≡ (run n (prefixed t.place q i) ts >>= climb n i j) → prefix_is i q t.place ts ≡ prefix_is k o p us → Wanted
  as_read j i q s f g =
      let h = same_prefix i k q o t.place p ts us g in
      let m : j ≡ l - i = omega (arith, s) in
      f ∙ ap (λ x. run n (prefixed t.place q i) ts >>= climb n i x) m
      ∙ ap (λ x. run n (prefixed t.place q x) ts >>= up n x l) h.0
      ∙ ap (λ x. run n (prefixed t.place x k) ts >>= up n k l) h.1
      ∙ ap (λ x. run n (prefixed x o k) ts >>= up n k l) h.2
      ∙ ap (λ x. run n (prefixed p o k) x >>= up n k l) h.3

  by_minus : (b c : Bool) → b ≡ nat_lt l 4 → c ≡ begins_range ts → t.lexeme ≡ lexeme.Mark marks.Minus → (if b then None else (if c then None else prefix_is 4 op1.Neg t.place ts)) ≡ prefix_is k o p us → Wanted
  by_minus true c w v g f = absurd (cc)
  by_minus false true w v g f = absurd (cc)
  by_minus false false w v g f =
      let le : 4 ≤ l = ltb-false l 4 (sym w) in
      let s : 4 + (l - 4) ≡ l = omega (arith, le) in
      let c = minus_climbs n (l - 4) l t t.place ts s (at_minus t ts g (sym v)) in
      as_read (l - 4) 4 op1.Neg s c f

  by_lexeme : (x : Lexeme) → t.lexeme ≡ x → prefix_by l (mark_of x) t.place ts ≡ Some (k, o, p, us) → Wanted
  by_lexeme (lexeme.Mark marks.Bang) g f =
      let s : 2 + (l - 2) ≡ l = omega (arith, h) in
      let b = at_mark t ts marks.Bang g in
      let c = bang_climbs n (l - 2) l t t.place ts s b (bang_seen t ts t.place b) in
      as_read (l - 2) 2 op1.Not s c f
  by_lexeme (lexeme.Mark marks.Minus) g f = by_minus (nat_lt l 4) (begins_range ts) refl refl g f
  by_lexeme (lexeme.Mark m) g f = absurd (cc)
  by_lexeme (lexeme.Name x) g f = absurd (cc)
  by_lexeme (lexeme.Number x) g f = absurd (cc)
  by_lexeme (lexeme.Word x) g f = absurd (cc)

both_none : (b : Bool) (x : Option Place) → x ≡ None → (if b then None else x) ≡ None
both_none true x e = refl
both_none false x e = e

no_prefix_by : (l : ℕ) (x : Lexeme) (p q : Place) (ts : List Token) → prefix_by l (mark_of x) p ts ≡ None → (if_there (is_mark marks.Bang x) q ≡ None) × (4 ≤ l → (if begins_range ts then None else if_there (is_mark marks.Minus x) q) ≡ None)
unfolding same_mark
no_prefix_by l (lexeme.Mark marks.Bang) p q ts e = absurd (cc)
no_prefix_by l (lexeme.Mark marks.Minus) p q ts e = (refl, λ h. by_minus (nat_lt l 4) (begins_range ts) refl refl h e) where
  by_minus : (b c : Bool) → b ≡ nat_lt l 4 → c ≡ begins_range ts → 4 ≤ l → (if b then None else (if c then None else prefix_is 4 op1.Neg p ts)) ≡ None → (if begins_range ts then None else Some q) ≡ None
  by_minus true c w v h f = absurd (omega (arith, h, ltb-true l 4 (sym w)))
  by_minus false true w v h f = no_range (begins_range ts) (Some q) (sym v)
  by_minus false false w v h f = absurd (cc)
no_prefix_by l (lexeme.Mark m) p q ts e = (refl, λ h. both_none (begins_range ts) None refl)
no_prefix_by l (lexeme.Name x) p q ts e = (refl, λ h. both_none (begins_range ts) None refl)
no_prefix_by l (lexeme.Number x) p q ts e = (refl, λ h. both_none (begins_range ts) None refl)
no_prefix_by l (lexeme.Word x) p q ts e = (refl, λ h. both_none (begins_range ts) None refl)

no_prefix : (l : ℕ) (ts : List Token) → prefix_at l ts ≡ None → (2 ≤ l → Unseen (key.mark marks.Bang) ts) × (4 ≤ l → Unseen key.minus ts)
unfolding prefix_at sees
no_prefix l [] e = ((λ h. tt), (λ h. tt))
no_prefix l (t ∷ ts) e = let h = no_prefix_by l t.lexeme t.place t.place ts e in ((λ g. h.0), h.1)

pub operand_plain : (n l : ℕ) (ts : List Token) → prefix_at l ts ≡ None → run n (level l) ts ≡ (run n primary ts >>= up n 0 l)
operand_plain n l ts e =
    let u = no_prefix l ts e in
    let s : l ≡ l - 0 = omega arith in
    primary_climbs n l ts u.0 u.1 ∙ ap (λ k. run n primary ts >>= climb n 0 k) s

-- the first operand as the code reads it
pub prefixed_read : (n l k : ℕ) (o : Op1) (p : Place) (ts us vs : List Token) (a : Expression) → 2 ≤ l → prefix_at l ts ≡ Some (k, o, p, us) → run n (prefixed p o k) us ≡ Ok (a, vs) → run n (level l) ts ≡ up n k l (a, vs)
prefixed_read n l k o p ts us vs a h e g = operand_prefixed n l k o p ts us h e ∙ ap (λ (r : Got Expression). r >>= up n k l) g

pub prefixed_halts : (h : Halt) (n l k : ℕ) (o : Op1) (p : Place) (ts us : List Token) → 2 ≤ l → prefix_at l ts ≡ Some (k, o, p, us) → Halts h (run n (prefixed p o k) us) → Halts h (run n (level l) ts)
prefixed_halts h n l k o p ts us le e g = halts_same h (run n (prefixed p o k) us >>= up n k l) (run n (level l) ts) (sym (operand_prefixed n l k o p ts us le e)) (halts_then h (run n (prefixed p o k) us) (up n k l) g)

pub primary_read : (n l : ℕ) (ts vs : List Token) (a : Expression) → prefix_at l ts ≡ None → run n primary ts ≡ Ok (a, vs) → run n (level l) ts ≡ up n 0 l (a, vs)
primary_read n l ts vs a e g = operand_plain n l ts e ∙ ap (λ (r : Got Expression). r >>= up n 0 l) g

pub primary_halts : (h : Halt) (n l : ℕ) (ts : List Token) → prefix_at l ts ≡ None → Halts h (run n primary ts) → Halts h (run n (level l) ts)
primary_halts h n l ts e g = halts_same h (run n primary ts >>= up n 0 l) (run n (level l) ts) (sym (operand_plain n l ts e)) (halts_then h (run n primary ts) (up n 0 l) g)

-- the first token, and those behind it
pub front_first : (ts : List Token) (t : Token) → 1 ≤ length ts → t ≡ get_or ts 0 t → ts ≡ t ∷ take (length ts - 1) (drop 1 ts)
front_first [] t h e = absurd (omega arith)
front_first (u ∷ us) t h e =
    let s : take (length (u ∷ us) - 1) us ≡ us = take_all (length (u ∷ us) - 1) us (omega arith) in
    ap (λ v. v ∷ us) (sym e) ∙ ap (λ vs. t ∷ vs) (sym s)

-- a primary expression from its first token
pub primary_at : (n : ℕ) (ts us : List Token) (t : Token) (o : Primary) → ts ≡ t ∷ us → primary_of t.lexeme ≡ Some o → run n primary ts ≡ run n (primary_from o t.place) us
unfolding sees
primary_at n ts us t o e f = ap (run n primary) e ∙ must_read n an_expression key.primary (λ x. primary_from x.0 x.1) t (o, t.place) us (ap (λ x. with_place x t.place) f)

-- the levels of the operators between operands
abbrev is_joined : ℕ → Bool
is_joined l = if l == 1 then false else (if l == 2 then false else (if l == 4 then false else (if l == 13 then false else (if l == 15 then false else true))))

abbrev joins : Option (ℕ × Op2) → Bool
joins None = true
joins (Some o) = is_joined o.0

all_join : (m : Mark) → joins (infix_of m) ≡ true
all_join marks.Concat = refl
all_join m = refl

last_of : (b c d e f : Bool) (x y z u v w : Rule an_expression) → (if b then false else (if c then false else (if d then false else (if e then false else (if f then false else true))))) ≡ true → (if b then x else (if c then y else (if d then z else (if e then u else (if f then v else w))))) ≡ w
last_of true c d e f x y z u v w h = absurd (cc)
last_of false true d e f x y z u v w h = absurd (cc)
last_of false false true e f x y z u v w h = absurd (cc)
last_of false false false true f x y z u v w h = absurd (cc)
last_of false false false false true x y z u v w h = absurd (cc)
last_of false false false false false x y z u v w h = refl

tail_joined : (l : ℕ) (tighter : Rule an_expression) (a : Expression) → is_joined l ≡ true → tail l tighter a ≡ joined l tighter a
tail_joined l tighter a h = last_of (l == 1) (l == 2) (l == 4) (l == 13) (l == 15) (selected a) (gives an_expression a) (gives an_expression a) (chosen a) (implied a) (joined l tighter a) h

abbrev high : Option (ℕ × Op2) → Bool
high None = true
high (Some o) = nat_lt 2 o.0

all_high : (m : Mark) → high (infix_of m) ≡ true
all_high marks.Concat = refl
all_high m = refl

pub infix_least : (m : Mark) (l : ℕ) (o : Op2) → infix_of m ≡ Some (l, o) → 3 ≤ l
infix_least m l o e = ltb-true 2 l (ap high (sym e) ∙ all_high m)

abbrev low : Option (ℕ × Op2) → Bool
low None = true
low (Some o) = nat_lt o.0 16

all_low : (m : Mark) → low (infix_of m) ≡ true
all_low marks.Concat = refl
all_low m = refl

pub infix_most : (m : Mark) (l : ℕ) (o : Op2) → infix_of m ≡ Some (l, o) → l ≤ 15
infix_most m l o e = let h : l < 16 = ltb-true l 16 (ap low (sym e) ∙ all_low m) in omega (arith, h)

-- what is known of an operator between operands
record Joins (j : ℕ) (o : Op2) (p : Place) (us : List Token) (l : Lexeme) (q : Place) (vs : List Token) : Type 0 where
  pub seen : with_place (of_level j (by_mark infix_of (mark_of l))) q ≡ Some (o, p)
  pub rest : vs ≡ us
  pub own : marked_level (mark_of l) ≡ j
  pub between : is_joined j ≡ true

of_own : (k : ℕ) (o : Op2) (q : Place) → with_place (of_level k (Some (k, o))) q ≡ Some (o, q)
of_own k o q = elim (eqb_tells k k) [
  | inl h ↦ ap (λ b. with_place (if b then Some o else None) q) h.0
  | inr h ↦ absurd (h.1 refl)
]

same_infix : (j k : ℕ) (o q : Op2) (p r : Place) (us vs : List Token) → infix_is j o p us ≡ infix_is k q r vs → (j ≡ k) × (o ≡ q) × (p ≡ r) × (us ≡ vs)
same_infix j k o q p r us vs e = let h : ◌≡◌ {A = Infix} (j, o, p, us) (k, q, r, vs) = cc in (ap (λ x. x.0) h, ap (λ x. x.1) h, ap (λ x. x.2) h, ap (λ x. x.3) h)

option_joins : (j : ℕ) (o : Op2) (p : Place) (us : List Token) (m : Option (ℕ × Op2)) (q : Place) (vs : List Token) → joins m ≡ true → as_infix m q vs ≡ Some (j, o, p, us) → (with_place (of_level j m) q ≡ Some (o, p)) × (vs ≡ us) × (level_of m ≡ j) × (is_joined j ≡ true)
option_joins j o p us None q vs b e = absurd (cc)
option_joins j o p us (Some (k, r)) q vs b e =
    let h = same_infix k j r o q p vs us e in
    (ap (λ x. with_place (of_level x (Some (k, r))) q) (sym h.0) ∙ of_own k r q ∙ ap (λ x. Some (x, q)) h.1 ∙ ap (λ x. Some (o, x)) h.2, h.3, h.0, ap is_joined (sym h.0) ∙ b)

infix_joins : (j : ℕ) (o : Op2) (p : Place) (us : List Token) (l : Lexeme) (q : Place) (vs : List Token) → marked_infix (mark_of l) q vs ≡ Some (j, o, p, us) → Joins j o p us l q vs
infix_joins j o p us (lexeme.Mark marks.OpenSquare) q vs e = absurd (cc)
infix_joins j o p us (lexeme.Mark marks.Question) q vs e = absurd (cc)
infix_joins j o p us (lexeme.Mark marks.Arrow) q vs e = absurd (cc)
infix_joins j o p us (lexeme.Mark m) q vs e = let h = option_joins j o p us (infix_of m) q vs (all_join m) e in record { seen = h.0; rest = h.1; own = h.2; between = h.3 }
infix_joins j o p us (lexeme.Name n) q vs e = absurd (cc)
infix_joins j o p us (lexeme.Number n) q vs e = absurd (cc)
infix_joins j o p us (lexeme.Word n) q vs e = absurd (cc)

-- the right operand, and the expression with it
abbrev pub with_right : ℕ → ℕ → Expression → Op2 → Place → List Token → Got Expression
with_right n m a o p us = run n (level m) us >>= (λ b. run n (deeper (two p o a.tree b.0.tree) (max a.depth b.0.depth)) b.1)

joins_front : (n i l m : ℕ) (a : Expression) (o : Op2) (p : Place) (t : Token) (us : List Token) → sees (key.operator (suc m)) t us ≡ Some (o, p) → next_level (t ∷ us) ≡ suc m → is_joined (suc m) ≡ true → i ≤ m → suc m ≤ l → up n i l (a, t ∷ us) ≡ (with_right n m a o p us >>= up n m l)
unfolding steps run
joins_front n i l m a o p t us e own b hi hl =
    let s : i + (l - i) - m ≡ l - m = omega arith in
    let w : l - m ≡ suc (l - suc m) = omega arith in
    let go : Place_of → Got Expression = climb n (suc m) (l - suc m) in
    let step : Expression → Payload (key.operator (suc m)) → Rule an_expression = λ a o. level m >>> (λ b. deeper (two o.1 o.0 a.tree b.tree) (max a.depth b.depth)) in
    let tails : (x : Place_of) → run n (tail (suc m) (level m) x.0) x.1 ≡ run n (joined (suc m) (level m) x.0) x.1 = λ x. ap (λ (r : Rule an_expression). run n r x.1) (tail_joined (suc m) (level m) x.0 b) in
    climb_to n i (l - i) m (a, t ∷ us) own hi (omega arith)
    ∙ ap (λ k. climb n m k (a, t ∷ us)) (s ∙ w)
    ∙ ap (λ (r : Got Expression). r >>= go) (tails (a, t ∷ us) ∙ next_read n an_expression (key.operator (suc m)) step a t (o, p) us e)
    ∙ bind_bind (with_right n m a o p us) (λ x. run n (joined (suc m) (level m) x.0) x.1) go
    ∙ bind_same (with_right n m a o p us) (λ x. run n (joined (suc m) (level m) x.0) x.1 >>= go) (up n m l) (λ x. ap (λ (r : Got Expression). r >>= go) (sym (tails x)) ∙ ap (λ k. climb n m k x) (sym w))

pub turn_joins : (n i l j : ℕ) (a : Expression) (o : Op2) (p : Place) (ts us : List Token) → infix_at ts ≡ Some (j, o, p, us) → i < j → j ≤ l → up n i l (a, ts) ≡ (with_right n (j - 1) a o p us >>= up n (j - 1) l)
unfolding infix_at next_level sees
turn_joins n i l j a o p [] us e hi hl = absurd (cc)
turn_joins n i l j a o p (t ∷ ts) us e hi hl =
    let h = infix_joins j o p us t.lexeme t.place ts e in
    let s : j ≡ suc (j - 1) = omega arith in
    let seen : sees (key.operator (suc (j - 1))) t ts ≡ Some (o, p) = ap (λ k. with_place (of_level k (by_mark infix_of (mark_of t.lexeme))) t.place) (sym s) ∙ h.seen in
    joins_front n i l (j - 1) a o p t ts seen (h.own ∙ s) (ap is_joined (sym s) ∙ h.between) (omega arith) (omega arith)
    ∙ ap (λ us. with_right n (j - 1) a o p us >>= up n (j - 1) l) h.rest

pub infix_less : (j : ℕ) (o : Op2) (p : Place) (ts us : List Token) → infix_at ts ≡ Some (j, o, p, us) → length us < length ts
unfolding infix_at
infix_less j o p [] us e = absurd (cc)
infix_less j o p (t ∷ ts) us e = let h = infix_joins j o p us t.lexeme t.place ts e in omega (arith, ap length h.rest)

pub infix_level : (j : ℕ) (o : Op2) (p : Place) (ts us : List Token) → infix_at ts ≡ Some (j, o, p, us) → next_level ts ≡ j
unfolding infix_at next_level
infix_level j o p [] us e = absurd (cc)
infix_level j o p (t ∷ ts) us e = let h = infix_joins j o p us t.lexeme t.place ts e in h.own

-- the other operators
abbrev pub closed_up : ℕ → ℕ → Result (ℕ × Place_of) Stop → Got Expression
closed_up n l r = r >>= (λ x. up n x.0 l x.1)

reached_up : (n k l : ℕ) (r : Got Expression) → closed_up n l (reached k r) ≡ (r >>= up n k l)
reached_up n k l (Ok x) = refl
reached_up n k l (Err s) = refl

square_up : (n l : ℕ) (a : Expression) (t : Token) (us : List Token) → sees (key.mark marks.OpenSquare) t us ≡ Some t.place → 1 ≤ l → up n 0 l (a, t ∷ us) ≡ (run n (part an_expression (bits a t.place) (too_deep an_expression)) us >>= up n 0 l)
unfolding steps
square_up n l a t us e hl =
    let w : l - 0 ≡ suc (l - 1) = omega arith in
    let go : Place_of → Got Expression = climb n 1 (l - 1) in
    let step : Expression → Payload (key.mark marks.OpenSquare) → Rule an_expression = λ a p. part an_expression (bits a p) (too_deep an_expression) in
    let r : Got Expression = run n (part an_expression (bits a t.place) (too_deep an_expression)) us in
    ap (λ k. climb n 0 k (a, t ∷ us)) w
    ∙ ap (λ (r : Got Expression). r >>= go) (next_read n an_expression (key.mark marks.OpenSquare) step a t t.place us e)
    ∙ bind_bind r (λ x. run n (selected x.0) x.1) go
    ∙ bind_same r (λ x. run n (selected x.0) x.1 >>= go) (up n 0 l) (λ x. ap (λ k. climb n 0 k x) (sym w))

question_up : (n i l : ℕ) (a : Expression) (t : Token) (us : List Token) → sees (key.mark marks.Question) t us ≡ Some t.place → next_level (t ∷ us) ≡ 13 → i < 13 → 13 ≤ l → up n i l (a, t ∷ us) ≡ (run n (choosing a t.place) us >>= up n 13 l)
unfolding steps
question_up n i l a t us e own hi hl =
    let s : i + (l - i) - 12 ≡ suc (l - 13) = omega arith in
    climb_to n i (l - i) 12 (a, t ∷ us) own (omega arith) (omega arith)
    ∙ ap (λ k. climb n 12 k (a, t ∷ us)) s
    ∙ ap (λ (r : Got Expression). r >>= climb n 13 (l - 13)) (take_read n an_expression (key.mark marks.Question) (λ p. choosing a p) (gives an_expression a) t t.place us e)

arrow_up : (n i l : ℕ) (a : Expression) (t : Token) (us : List Token) → sees (key.mark marks.Arrow) t us ≡ Some t.place → next_level (t ∷ us) ≡ 15 → i < 15 → 15 ≤ l → up n i l (a, t ∷ us) ≡ (run n (implying a t.place) us >>= up n 15 l)
unfolding steps
arrow_up n i l a t us e own hi hl =
    let s : i + (l - i) - 14 ≡ suc (l - 15) = omega arith in
    climb_to n i (l - i) 14 (a, t ∷ us) own (omega arith) (omega arith)
    ∙ ap (λ k. climb n 14 k (a, t ∷ us)) s
    ∙ ap (λ (r : Got Expression). r >>= climb n 15 (l - 15)) (take_read n an_expression (key.mark marks.Arrow) (λ p. implying a p) (gives an_expression a) t t.place us e)

level_at : (t : Token) (us : List Token) (m : Mark) → t.lexeme ≡ lexeme.Mark m → next_level (t ∷ us) ≡ level_by m
unfolding next_level
level_at t us m e = ap (λ l. marked_level (mark_of l)) e

none_level : (o : Option (ℕ × Op2)) (p : Place) (ts : List Token) → as_infix o p ts ≡ None → level_of o ≡ 0
none_level None p ts e = refl
none_level (Some o) p ts e = absurd (cc)

closed_front : (n i l : ℕ) (a : Expression) (t : Token) (us : List Token) (x : Lexeme) → t.lexeme ≡ x → marked_infix (mark_of x) t.place us ≡ None → i < marked_level (mark_of x) → marked_level (mark_of x) ≤ l → up n i l (a, t ∷ us) ≡ closed_up n l (closed_by n a (mark_of x) t.place us)
closed_front n i l a t us (lexeme.Mark marks.OpenSquare) e f hi hl =
    let z : i ≡ 0 = omega (arith, hi) in
    ap (λ k. up n k l (a, t ∷ us)) z ∙ square_up n l a t us (at_mark t us marks.OpenSquare e) hl ∙ sym (reached_up n 0 l (run n (part an_expression (bits a t.place) (too_deep an_expression)) us))
closed_front n i l a t us (lexeme.Mark marks.Question) e f hi hl = question_up n i l a t us (at_mark t us marks.Question e) (level_at t us marks.Question e) hi hl ∙ sym (reached_up n 13 l (run n (choosing a t.place) us))
closed_front n i l a t us (lexeme.Mark marks.Arrow) e f hi hl = arrow_up n i l a t us (at_mark t us marks.Arrow e) (level_at t us marks.Arrow e) hi hl ∙ sym (reached_up n 15 l (run n (implying a t.place) us))
closed_front n i l a t us (lexeme.Mark m) e f hi hl = absurd (omega (arith, hi, none_level (infix_of m) t.place us f))
closed_front n i l a t us (lexeme.Name x) e f hi hl = absurd (omega (arith, hi))
closed_front n i l a t us (lexeme.Number x) e f hi hl = absurd (omega (arith, hi))
closed_front n i l a t us (lexeme.Word x) e f hi hl = absurd (omega (arith, hi))

pub turn_closes : (n i l : ℕ) (a : Expression) (ts : List Token) → infix_at ts ≡ None → i < next_level ts → next_level ts ≤ l → up n i l (a, ts) ≡ closed_up n l (closed_at n a ts)
unfolding infix_at next_level closed_at
turn_closes n i l a [] e hi hl = absurd (omega (arith, hi))
turn_closes n i l a (t ∷ ts) e hi hl = closed_front n i l a t ts t.lexeme refl e hi hl
