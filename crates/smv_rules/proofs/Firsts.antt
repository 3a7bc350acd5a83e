-- What tokens begin with, and what that is not.
use Rattle.std.proofs.Common.{◌≡◌, ◌<◌, ◌≤◌, ◌==◌, ℕ, Bool, true, false, cond, List, [], ◌∷◌, Option, Some, None, refl, sym, ◌∙◌, ap, arith}
use Rattle.std.proofs.lemmas.Bool.{eqb-true}
use denote.Enum.Bare.{same_true}
use Rattle.smv_tree.specs.declared.expr.Op2.{Op2}
use Rattle.smv_tree.specs.declared.place.Place.{Place}
use Rattle.smv_token.specs.contracts.mark.Mark.{the_type}
use Rattle.smv_token.specs.declared.mark.Mark.{Mark}
use Rattle.smv_token.specs.declared.mark.Mark.TheVariants as marks
use Rattle.smv_token.specs.declared.token.Token.{Token}
use Rattle.smv_token.specs.declared.token.Lexeme.{Lexeme}
use Rattle.smv_token.specs.declared.token.Lexeme.TheVariants as lexeme
use Rattle.smv_grammar.specs.Forms.{infix_of}
use Rattle.smv_grammar.specs.IsMark.{is_mark, same_mark}
use Rattle.smv_rules.specs.Keys.{Primary, Unseen, by_mark, if_there, mark, mark_of, number, number_of, of_level, operator, present, primary, primary_by, primary_of, sees, with_place}
use Rattle.smv_rules.proofs.Plain.{Seen}

-- The level at which a mark goes on with an expression, where paths and ranges have 0; what goes on with
-- none has 16.
abbrev pub other_level : Mark → ℕ
other_level marks.Dot = 0
other_level marks.Dots = 0
other_level marks.OpenSquare = 1
other_level marks.Question = 13
other_level marks.Arrow = 15
other_level m = 16

abbrev pub level_or : ℕ → Option (ℕ × Op2) → ℕ
level_or l None = l
level_or l (Some o) = o.0

unfoldable pub tail_level : Mark → ℕ
tail_level m = level_or (other_level m) (infix_of m)

abbrev pub lexeme_level : Lexeme → ℕ
lexeme_level (lexeme.Mark m) = tail_level m
lexeme_level (lexeme.Name n) = 16
lexeme_level (lexeme.Number n) = 16
lexeme_level (lexeme.Word w) = 16

-- the first token does not go on with an expression of the level
unfoldable pub Closed : ℕ → List Token → Type 0
Closed l [] = Unit {0}
Closed l (t ∷ ts) = l < lexeme_level t.lexeme

pub closed_less : (l k : ℕ) (us : List Token) → k ≤ l → Closed l us → Closed k us
unfolding Closed
closed_less l k [] le h = tt
closed_less l k (t ∷ ts) le h = omega (arith, le, h)

pub is_mark_true : (m : Mark) (x : Lexeme) → is_mark m x ≡ true → x ≡ lexeme.Mark m
unfolding same_mark
is_mark_true m (lexeme.Mark n) e = ap lexeme.Mark (sym (same_true the_type tt m n e))
is_mark_true m (lexeme.Name n) e = absurd (cc)
is_mark_true m (lexeme.Number n) e = absurd (cc)
is_mark_true m (lexeme.Word w) e = absurd (cc)

no_true : (b : Bool) → b ≡ false → b ≡ true → ⊥
no_true b e f = absurd (cc)

there : {X : Type 0} (b : Bool) (x : X) → present (if_there b x) ≡ true → b ≡ true
there true x e = refl
there false x e = absurd (cc)

-- a token is a mark, or it is not seen as it
pub seen_is : (k : Mark) (t : Token) (ts : List Token) → Seen (mark k) (t ∷ ts) → t.lexeme ≡ lexeme.Mark k
unfolding sees
seen_is k t ts h = is_mark_true k t.lexeme (there (is_mark k t.lexeme) t.place h)

pub unseen_by : (k : Mark) (t : Token) (ts : List Token) → (t.lexeme ≡ lexeme.Mark k → ⊥) → Unseen (mark k) (t ∷ ts)
unfolding sees
unseen_by k t ts h = by_test (is_mark k t.lexeme) refl where
  by_test : (b : Bool) → is_mark k t.lexeme ≡ b → if_there b t.place ≡ None
  by_test true e = absurd (h (is_mark_true k t.lexeme e))
  by_test false e = refl

pub seen_other : (k j : Mark) (us : List Token) → (lexeme.Mark k ≡ lexeme.Mark j → ⊥) → Seen (mark k) us → Unseen (mark j) us
seen_other k j [] d h = tt
seen_other k j (t ∷ ts) d h = unseen_by j t ts (λ e. d (sym (seen_is k t ts h) ∙ e))

pub closed_mark : (k : Mark) (l : ℕ) (us : List Token) → tail_level k ≤ l → Closed l us → Unseen (mark k) us
unfolding Closed
closed_mark k l [] le h = tt
closed_mark k l (t ∷ ts) le h = unseen_by k t ts (λ e. let s : lexeme_level t.lexeme ≡ tail_level k = ap lexeme_level e in omega (arith, le, h, s))

pub seen_closed : (k : Mark) (l : ℕ) (us : List Token) → l < tail_level k → Seen (mark k) us → Closed l us
unfolding Closed
seen_closed k l [] lt h = tt
seen_closed k l (t ∷ ts) lt h = let s : lexeme_level t.lexeme ≡ tail_level k = ap lexeme_level (seen_is k t ts h) in omega (arith, lt, s)

-- operators
closed_infix : (l : ℕ) (p : Place) (i : ℕ) (o : Option (ℕ × Op2)) → l < level_or i o → with_place (of_level l o) p ≡ None
closed_infix l p i None h = refl
closed_infix l p i (Some x) h = by_test (x.0 == l) refl where
  by_test : (b : Bool) → (x.0 == l) ≡ b → with_place (cond {A = Option Op2} b (Some x.1) None) p ≡ None
  by_test true e = let s = eqb-true x.0 l e in absurd (omega (arith, h, s))
  by_test false e = refl

pub closed_operator : (l : ℕ) (us : List Token) → Closed l us → Unseen (operator l) us
unfolding Closed sees tail_level
closed_operator l [] h = tt
closed_operator l (t ∷ ts) h = by_lexeme t.lexeme h where
  by_lexeme : (x : Lexeme) → l < lexeme_level x → with_place (of_level l (by_mark infix_of (mark_of x))) t.place ≡ None
  by_lexeme (lexeme.Mark m) g = closed_infix l t.place (other_level m) (infix_of m) g
  by_lexeme (lexeme.Name n) g = refl
  by_lexeme (lexeme.Number n) g = refl
  by_lexeme (lexeme.Word w) g = refl

infix_closed : (l : ℕ) (p : Place) (i : ℕ) (o : Option (ℕ × Op2)) → present (with_place (of_level l o) p) ≡ true → level_or i o ≡ l
infix_closed l p i None h = absurd (cc)
infix_closed l p i (Some x) h = by_test (x.0 == l) refl h where
  by_test : (b : Bool) → (x.0 == l) ≡ b → present (with_place (cond {A = Option Op2} b (Some x.1) None) p) ≡ true → x.0 ≡ l
  by_test true e g = eqb-true x.0 l e
  by_test false e g = absurd (cc)

pub operator_closed : (l k : ℕ) (us : List Token) → k < l → Seen (operator l) us → Closed k us
unfolding Closed sees tail_level
operator_closed l k [] lt h = tt
operator_closed l k (t ∷ ts) lt h = by_lexeme t.lexeme h where
  by_lexeme : (x : Lexeme) → present (with_place (of_level l (by_mark infix_of (mark_of x))) t.place) ≡ true → k < lexeme_level x
  by_lexeme (lexeme.Mark m) g = let s = infix_closed l t.place (other_level m) (infix_of m) g in omega (arith, lt, s)
  by_lexeme (lexeme.Name n) g = absurd (cc)
  by_lexeme (lexeme.Number n) g = absurd (cc)
  by_lexeme (lexeme.Word w) g = absurd (cc)

-- numbers and primary expressions
number_not : (k : Mark) (t : Token) (ts : List Token) → Seen number (t ∷ ts) → t.lexeme ≡ lexeme.Mark k → ⊥
unfolding sees
number_not k t ts h e = no_true (present (number_of t.lexeme)) (ap (λ x. present (number_of x)) e) h

pub number_no_mark : (k : Mark) (us : List Token) → Seen number us → Unseen (mark k) us
number_no_mark k [] h = tt
number_no_mark k (t ∷ ts) h = unseen_by k t ts (number_not k t ts h)

pub present_with : {X : Type 0} (o : Option X) (p : Place) → present (with_place o p) ≡ true → present o ≡ true
present_with None p e = absurd (cc)
present_with (Some x) p e = refl

primary_not : (k : Mark) (t : Token) (ts : List Token) → primary_by k ≡ None → Seen primary (t ∷ ts) → t.lexeme ≡ lexeme.Mark k → ⊥
unfolding sees
primary_not k t ts n h e = no_true (present (primary_of t.lexeme)) (ap (λ x. present (primary_of x)) e ∙ ap (λ (o : Option Primary). present o) n) (present_with (primary_of t.lexeme) t.place h)

pub primary_no_mark : (k : Mark) (us : List Token) → primary_by k ≡ None → Seen primary us → Unseen (mark k) us
primary_no_mark k [] n h = tt
primary_no_mark k (t ∷ ts) n h = unseen_by k t ts (primary_not k t ts n h)
