-- A `-` that begins a range, and one that is an operator: with a tighter operand than its own the plain rules
-- lead no further than behind a number, and so far the operator's operand is read.
use Rattle.std.proofs.Common.{◌≡◌, ◌≤◌, ℕ, zero, suc, Bool, true, false, cond, List, [], ◌∷◌, length, Option, Some, None, Err, refl, sym, ◌∙◌, ap, subst, inl, inr}
use Rattle.smv_tree.specs.declared.expr.Op1.TheVariants as op1
use Rattle.smv_tree.specs.declared.place.Place.{Place}
use Rattle.smv_tree.specs.Trees.{one}
use Rattle.smv_token.specs.declared.mark.Mark.TheVariants as marks
use Rattle.smv_token.specs.declared.token.Token.{Token}
use Rattle.smv_token.specs.declared.token.Lexeme.{Lexeme}
use Rattle.smv_token.specs.declared.token.Lexeme.TheVariants as lexeme
use Rattle.smv_grammar.specs.Forms.{begins_dots, begins_range, is_number, is_dots}
use Rattle.smv_grammar.specs.IsMark.{is_mark, same_mark}
use Rattle.smv_rules.specs.Keys.{Primary, Unseen, below, digits, if_there, number_of, primary_by, primary_of, sees, with_place}
use Rattle.smv_rules.specs.Keys as key
use Rattle.smv_rules.specs.Reading.{Got, Stop, wrong}
use Rattle.smv_rules.specs.Sorts.{Expression, a_count, a_place, an_expression}
use Rattle.smv_rules.specs.Rules.{Rule, gives, ◌>>=◌}
use Rattle.smv_rules.specs.Running.{run}
use Rattle.smv_rules.specs.Table.{table}
use Rattle.smv_rules.specs.Expressions.{deeper, level, mark, number, opened, prefixed, primary, primary_from, range_from}
use Rattle.smv_rules.specs.Follows.{Follows, Leads, anywhere, plain}
use Rattle.smv_rules.proofs.Outcomes.{ReachedTo}
use Rattle.smv_rules.proofs.Plain.{Clear}
use Rattle.smv_rules.proofs.PlainFronts.{leads_front, met_here, met_more}
use Rattle.smv_rules.proofs.Meeting.{Met, first_met, met_as, must_fails, must_read, skip_read, then_fails, then_read}
use Rattle.smv_rules.proofs.Inverting.{Inverted, inverted}
use Rattle.smv_rules.proofs.Firsts.{Closed, is_mark_true, unseen_by}

-- A `-` at the front of an expression of a level tighter than 4 begins a range.
counted_there : (x : Lexeme) (n : ℕ) → number_of x ≡ Some n → is_number x ≡ true
counted_there (lexeme.Number m) n e = refl
counted_there (lexeme.Mark m) n e = absurd (cc)
counted_there (lexeme.Name m) n e = absurd (cc)
counted_there (lexeme.Word m) n e = absurd (cc)

range_there : (n : ℕ) (f : ℕ → Place → Rule an_expression) (ts rest : List Token) (x : Expression) → Follows plain n an_expression (number >>= (λ v. mark marks.Dots >>= f v)) ts rest x → begins_range ts ≡ true
unfolding Inverted sees
range_there n f ts rest x h =
    let c = inverted h in
    let b = inverted c.before in
    let s = inverted b.follows in
    let d = inverted c.behind in
    let e = inverted d.before in
    let P : List Token → Type 0 = λ us. begins_range us ≡ true in
    subst P (sym (b.is ∙ ap (λ us. b.first ∷ us) (s ∙ e.is))) (both b.first.lexeme e.first.lexeme e.others (counted_there b.first.lexeme b.load b.seen) (is_mark_true marks.Dots e.first.lexeme (seen_there (is_mark marks.Dots e.first.lexeme) e.first.place e.load e.seen))) where
      seen_there : (t : Bool) (p q : Place) → if_there t p ≡ Some q → t ≡ true
      seen_there true p q e = refl
      seen_there false p q e = absurd (cc)

      both : (a b : Lexeme) (us : List Token) → is_number a ≡ true → b ≡ lexeme.Mark marks.Dots → cond (is_number a) (is_dots b) false ≡ true
      both a b us i e = ap (λ t. cond t (is_dots b) false) i ∙ ap is_dots e

-- a primary expression that begins with a `-`
primary_minus : (n : ℕ) (o : Primary) (p : Place) (ts rest : List Token) (x : Expression) → primary_by marks.Minus ≡ Some o → Follows plain n an_expression (primary_from o p) ts rest x → begins_range ts ≡ true
unfolding primary_by
primary_minus n below p ts rest x e h = range_there n (λ v q. range_from p true v) ts rest x h
primary_minus n o p ts rest x e h = absurd (cc)

some_same : {X : Type 0} (a b : X) → Some a ≡ Some b → a ≡ b
some_same a b e = cc

first_minus : (x : Lexeme) (p : Place) (o : Primary × Place) → x ≡ lexeme.Mark marks.Minus → with_place (primary_of x) p ≡ Some o → primary_by marks.Minus ≡ Some o.0
first_minus x p o e h = by (primary_of x) (ap primary_of e) h where
  by : (q : Option Primary) → q ≡ primary_by marks.Minus → with_place q p ≡ Some o → primary_by marks.Minus ≡ Some o.0
  by None i g = absurd (cc)
  by (Some y) i g = sym i ∙ ap Some (ap (λ (z : Primary × Place). z.0) (some_same (y, p) o g))

unseen_minus : (t : Token) (ts : List Token) → (t.lexeme ≡ lexeme.Mark marks.Minus → begins_range ts ≡ true) → Unseen key.minus (t ∷ ts)
unfolding sees
unseen_minus t ts h = by (begins_range ts) (is_mark marks.Minus t.lexeme) refl refl where
  by : (b c : Bool) → begins_range ts ≡ b → is_mark marks.Minus t.lexeme ≡ c → cond b None (if_there c t.place) ≡ None
  by true c i j = refl
  by false false i j = refl
  by false true i j = absurd (let r = h (is_mark_true marks.Minus t.lexeme j) in cc)

primary_no_minus : (n : ℕ) (us rest : List Token) (x : Expression) → Follows plain n an_expression primary us rest x → Unseen key.minus us
unfolding Inverted sees
primary_no_minus n us rest x h =
    let b = inverted h in
    let P : List Token → Type 0 = λ vs. Unseen key.minus vs in
    subst P (sym b.is) (unseen_minus b.first b.others (λ e. primary_minus n b.load.0 b.load.1 b.others rest x (first_minus b.first.lexeme b.first.place b.load e b.seen) b.follows))

bang_not : (x : Lexeme) (p q : Place) → x ≡ lexeme.Mark marks.Minus → if_there (is_mark marks.Bang x) p ≡ Some q → ⊥
unfolding same_mark
bang_not x p q e h = absurd (let s = ap (λ y. if_there (is_mark marks.Bang y) p) e in cc)

pub tight_no_minus : (n : ℕ) (us rest : List Token) (x : Expression) → Follows plain n an_expression (level 3) us rest x → Unseen key.minus us
unfolding Inverted level sees
tight_no_minus n us rest x h =
    let c = inverted h in
    two us c.between c.given (inverted c.before) where
      one : (us vs : List Token) (a : Expression) → Follows plain n an_expression (level 1) us vs a → Unseen key.minus us
      one us vs a g = let d = inverted g in primary_no_minus n us d.between d.given d.before

      two : (us vs : List Token) (a : Expression) → Inverted plain n (level 2) us vs a → Unseen key.minus us
      two us vs a (inl b) = let P : List Token → Type 0 = λ ws. Unseen key.minus ws in subst P (sym b.is) (unseen_minus b.first b.others (λ e. absurd (bang_not b.first.lexeme b.first.place b.load e b.seen)))
      two us vs a (inr g) = one us vs a g

no_bang : (t : Token) (us : List Token) (x : Lexeme) → t.lexeme ≡ x → (x ≡ lexeme.Mark marks.Bang → ⊥) → Unseen (key.mark marks.Bang) (t ∷ us)
no_bang t us x e d = unseen_by marks.Bang t us (λ i. d (sym e ∙ i))

-- a range behind its `-`, in front of a level
minus_fails : (n : ℕ) (t : Token) (us : List Token) (i : Stop) → t.lexeme ≡ lexeme.Mark marks.Minus → run n (primary_from below t.place) us ≡ Err i → run n (level 3) (t ∷ us) ≡ Err i
unfolding level sees primary_by
minus_fails n t us i e h =
    let p = must_read n an_expression key.primary (λ o. primary_from o.0 o.1) t (below, t.place) us (ap (λ x. with_place (primary_of x) t.place) e) ∙ h in
    let one_ = then_fails n an_expression an_expression (level 0) _ (t ∷ us) i p in
    let two_ = skip_read n an_expression (key.mark marks.Bang) _ (level 1) (t ∷ us) (no_bang t us (lexeme.Mark marks.Minus) e (λ j. absurd (cc))) ∙ one_ in
    then_fails n an_expression an_expression (level 2) _ (t ∷ us) i two_

no_dots : (ws : List Token) → begins_dots ws ≡ false → Unseen (key.mark marks.Dots) ws
no_dots [] h = tt
no_dots (w ∷ ws) h = unseen_by marks.Dots w ws (λ e. absurd (let d = ap is_dots e in cc))

below_fails : (n v : ℕ) (p : Place) (u : Token) (ws : List Token) → number_of u.lexeme ≡ Some v → begins_dots ws ≡ false → run n (primary_from below p) (u ∷ ws) ≡ Err (wrong (length ws))
unfolding run sees
below_fails n v p u ws e d =
    then_read n a_count an_expression number (λ v. mark marks.Dots >>= (λ q. range_from p true v)) (u ∷ ws) ws v (must_read n a_count key.number (λ v. gives a_count v) u v ws e)
    ∙ then_fails n a_place an_expression (mark marks.Dots) (λ q. range_from p true v) ws (wrong (length ws)) (must_fails n a_place (key.mark marks.Dots) (λ q. gives a_place q) ws (no_dots ws d))

-- a number as an operand
number_met : (n v : ℕ) (u : Token) (ws : List Token) → u.lexeme ≡ lexeme.Number v → Met anywhere (length ws) (run n (level 4) (u ∷ ws))
unfolding level sees
number_met n v u ws e =
    let zero_ = met_as anywhere (length ws) (run n (level 0) (u ∷ ws)) (run n (primary_from (digits v) u.place) ws) (must_read n an_expression key.primary (λ o. primary_from o.0 o.1) u (digits v, u.place) ws (ap (λ x. with_place (primary_of x) u.place) e)) (met_here n (primary_from (digits v) u.place) ws) in
    let one_ = first_met anywhere (length ws) n an_expression an_expression (level 0) _ (u ∷ ws) zero_ in
    let two_ = met_as anywhere (length ws) (run n (level 2) (u ∷ ws)) (run n (level 1) (u ∷ ws)) (skip_read n an_expression (key.mark marks.Bang) _ (level 1) (u ∷ ws) (no_bang u ws (lexeme.Number v) e (λ j. absurd (cc)))) one_ in
    let three_ = first_met anywhere (length ws) n an_expression an_expression (level 2) _ (u ∷ ws) two_ in
    met_as anywhere (length ws) (run n (level 4) (u ∷ ws)) (run n (level 3) (u ∷ ws)) (skip_read n an_expression key.minus _ (level 3) (u ∷ ws) (unseen_minus u ws (λ j. absurd (let i = sym e ∙ j in cc)))) three_

operand_met : (n v : ℕ) (p : Place) (u : Token) (ws : List Token) → u.lexeme ≡ lexeme.Number v → Met anywhere (length ws) (run n (prefixed p op1.Neg 4) (u ∷ ws))
unfolding run Met ReachedTo table
operand_met zero v p u ws e = tt
operand_met (suc n) v p u ws e = first_met anywhere (length ws) (suc n) an_expression an_expression (opened 4) (λ a. deeper (one p op1.Neg a.tree) a.depth) (u ∷ ws) (number_met n v u ws e)

-- a `-` that is an operator
minus_there : (t : Token) (us : List Token) (p : Place) → sees key.minus t us ≡ Some p → (t.lexeme ≡ lexeme.Mark marks.Minus) × (begins_range us ≡ false)
unfolding sees
minus_there t us p h = by (begins_range us) (is_mark marks.Minus t.lexeme) refl refl h where
  by : (b c : Bool) → begins_range us ≡ b → is_mark marks.Minus t.lexeme ≡ c → cond b None (if_there c t.place) ≡ Some p → (t.lexeme ≡ lexeme.Mark marks.Minus) × (begins_range us ≡ false)
  by false true i j e = (is_mark_true marks.Minus t.lexeme j, i)
  by true c i j e = absurd (cc)
  by false false i j e = absurd (cc)

-- no further than reading that stops
stopped_met : {X : Type 0} (m k : ℕ) (out : Got X) → out ≡ Err (wrong k) → Met anywhere m out → k ≤ m
unfolding Met ReachedTo
stopped_met m k out e h = subst (λ q. ReachedTo m q) e h

pub minus_led : (n : ℕ) → Clear n (level 3) (Closed 3) → (t : Token) (us rest : List Token) (p : Place) → Leads plain anywhere n an_expression (level 3) (t ∷ us) rest → sees key.minus t us ≡ Some p → Met anywhere (length rest) (run n (prefixed p op1.Neg 4) us)
unfolding sees
minus_led n h t us rest p j e = by us (minus_there t us p e).1 (λ i f. stopped_met (length rest) i (run n (level 3) (t ∷ us)) (minus_fails n t us (wrong i) (minus_there t us p e).0 f) (leads_front j (Closed 3) h)) where
  Least : List Token → Type 0
  Least vs = (k : ℕ) → run n (primary_from below t.place) vs ≡ Err (wrong k) → k ≤ length rest

  short : (vs : List Token) → Unseen key.number vs → Least vs → Met anywhere (length rest) (run n (prefixed p op1.Neg 4) vs)
  short vs u l = met_more (length vs) (length rest) (run n (prefixed p op1.Neg 4) vs) (l (length vs) (then_fails n a_count an_expression number _ vs (wrong (length vs)) (must_fails n a_count key.number _ vs u))) (met_here n (prefixed p op1.Neg 4) vs)

  by_first : (u : Token) (ws : List Token) (x : Lexeme) → u.lexeme ≡ x → cond (is_number x) (begins_dots ws) false ≡ false → Least (u ∷ ws) → Met anywhere (length rest) (run n (prefixed p op1.Neg 4) (u ∷ ws))
  by_first u ws (lexeme.Number v) i d l = met_more (length ws) (length rest) (run n (prefixed p op1.Neg 4) (u ∷ ws)) (l (length ws) (below_fails n v t.place u ws (ap number_of i) d)) (operand_met n v p u ws i)
  by_first u ws (lexeme.Mark m) i d l = short (u ∷ ws) (ap number_of i) l
  by_first u ws (lexeme.Name m) i d l = short (u ∷ ws) (ap number_of i) l
  by_first u ws (lexeme.Word w) i d l = short (u ∷ ws) (ap number_of i) l

  by : (vs : List Token) → begins_range vs ≡ false → Least vs → Met anywhere (length rest) (run n (prefixed p op1.Neg 4) vs)
  by [] d l = short [] tt l
  by (u ∷ ws) d l = by_first u ws u.lexeme refl d l
