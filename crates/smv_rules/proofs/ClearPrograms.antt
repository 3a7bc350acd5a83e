-- What follows the parts of a program tells where they end.
use Rattle.std.proofs.Common.{◌≡◌, ◌<◌, ℕ, Bool, true, false, cond, List, [], ◌∷◌, Option, Some, None, ◌⊎◌, refl, inl, inr, ap, sym, subst, arith}
use Rattle.smv_tree.specs.declared.place.Place.{Place}
use Rattle.smv_tree.specs.Models.{Body, Part}
use Rattle.smv_tree.specs.declared.program.Kind.{Kind}
use Rattle.smv_tree.specs.declared.program.Moment.{Moment}
use Rattle.smv_tree.specs.declared.program.Section.{Section}
use Rattle.smv_token.specs.declared.mark.Mark.{Mark}
use Rattle.smv_token.specs.declared.mark.Mark.TheVariants as marks
use Rattle.smv_token.specs.declared.token.Token.{Token}
use Rattle.smv_token.specs.declared.token.Lexeme.{Lexeme}
use Rattle.smv_token.specs.declared.token.Lexeme.TheVariants as lexeme
use Rattle.smv_grammar.specs.Forms.{begins_range}
use Rattle.smv_grammar.specs.IsMark.{is_mark}
use Rattle.smv_grammar.specs.Formulas.{of_atom, start_at, start_of, joining_by, joining_of, holds_temporal}
use Rattle.smv_rules.specs.Keys.{Heading, Key, Target, Unseen, by_mark, heading_by, if_there, is_bracket, mark_of, name_of, number_of, prefix_of, present, primary_by, sees, target_by, target_of, with_place, variables, definitions, assignments, constraints, properties, itself, of_moment}
use Rattle.smv_rules.specs.Keys as key
use Rattle.smv_rules.specs.Follows.{Follows, plain}
use Rattle.smv_rules.specs.Sorts.{Branches, a_shape, a_value, an_integer, some_bodies, some_branches, some_formals, some_parts}
use Rattle.smv_rules.specs.Rules.{Rule, gives, again}
use Rattle.smv_rules.specs.Expressions.{an_int, branch, expr, level, optional}
use Rattle.smv_rules.specs.Formulas.{formula_level}
use Rattle.smv_rules.specs.Programs.{a_declared, a_property, a_type, actuals, all_assigned, an_elem, assigned, assigned_from, constrained, declared, defined, enumeration, formals, instantiated, interval, program, section_from, sections, sized, some_names, specified}
use Rattle.smv_rules.proofs.Plain.{Begins, Clear, Seen, Starts, apart, clear_less, starts_law}
use Rattle.smv_rules.proofs.Firsts.{Closed, lexeme_level, number_no_mark, present_with, primary_no_mark, seen_closed, seen_is, seen_other, tail_level, unseen_by}
use Rattle.smv_rules.proofs.ClearExpressions.{begins_starts, int_clear}
use Rattle.smv_rules.proofs.ClearLevels.{expr_until, levels_clear, operands_until}
use Rattle.smv_rules.proofs.ClearFormulas.{FormulaClosed, formula_clear, join_level, mark_closes}

-- what stands behind a section: the word of another, a module, or the end
abbrev bounds_by : Mark → Bool
bounds_by marks.Module = true
bounds_by m = present (heading_by m)

abbrev bounds : Lexeme → Bool
bounds (lexeme.Mark m) = bounds_by m
bounds (lexeme.Name n) = false
bounds (lexeme.Number n) = false
bounds (lexeme.Word w) = false

unfoldable Bound : List Token → Type 0
Bound [] = Unit {0}
Bound (t ∷ ts) = bounds t.lexeme ≡ true

bound_level : (m : Mark) → bounds_by m ≡ true → (15 < tail_level m) × ((6 < join_level (joining_by m)) × (target_by m ≡ None))
unfolding heading_by tail_level target_by
bound_level marks.Module h = (omega arith, (omega arith, refl))
bound_level marks.Var h = (omega arith, (omega arith, refl))
bound_level marks.InputVar h = (omega arith, (omega arith, refl))
bound_level marks.FrozenVar h = (omega arith, (omega arith, refl))
bound_level marks.Define h = (omega arith, (omega arith, refl))
bound_level marks.Assign h = (omega arith, (omega arith, refl))
bound_level marks.Init h = (omega arith, (omega arith, refl))
bound_level marks.Trans h = (omega arith, (omega arith, refl))
bound_level marks.Invar h = (omega arith, (omega arith, refl))
bound_level marks.LtlSpec h = (omega arith, (omega arith, refl))
bound_level m h = absurd (cc)

bound_closed : (us : List Token) → Bound us → Closed 15 us
unfolding Bound Closed
bound_closed [] h = tt
bound_closed (t ∷ ts) h = by t.lexeme h where
  by : (x : Lexeme) → bounds x ≡ true → 15 < lexeme_level x
  by (lexeme.Mark m) g = (bound_level m g).0
  by (lexeme.Name n) g = absurd (cc)
  by (lexeme.Number n) g = absurd (cc)
  by (lexeme.Word w) g = absurd (cc)

bound_formula : (us : List Token) → Bound us → FormulaClosed 6 us
unfolding Bound FormulaClosed
bound_formula [] h = tt
bound_formula (t ∷ ts) h = by t.lexeme h where
  by : (x : Lexeme) → bounds x ≡ true → (10 < lexeme_level x) × (6 < join_level (joining_of x))
  by (lexeme.Mark m) g = let l = (bound_level m g).0 in (omega (arith, l), (bound_level m g).1.0)
  by (lexeme.Name n) g = absurd (cc)
  by (lexeme.Number n) g = absurd (cc)
  by (lexeme.Word w) g = absurd (cc)

bound_mark : (k : Mark) (us : List Token) → bounds_by k ≡ false → Bound us → Unseen (key.mark k) us
unfolding Bound
bound_mark k [] n h = tt
bound_mark k (t ∷ ts) n h = unseen_by k t ts (λ e. absurd (let i = ap bounds e in cc))

bound_name : (us : List Token) → Bound us → Unseen key.name us
unfolding Bound sees
bound_name [] h = tt
bound_name (t ∷ ts) h = by t.lexeme h where
  by : (x : Lexeme) → bounds x ≡ true → with_place (name_of x) t.place ≡ None
  by (lexeme.Mark m) g = refl
  by (lexeme.Name n) g = absurd (cc)
  by (lexeme.Number n) g = absurd (cc)
  by (lexeme.Word w) g = absurd (cc)

bound_target : (us : List Token) → Bound us → Unseen key.target us
unfolding Bound sees
bound_target [] h = tt
bound_target (t ∷ ts) h = by t.lexeme h where
  by : (x : Lexeme) → bounds x ≡ true → with_place (target_of x) t.place ≡ None
  by (lexeme.Mark m) g = ap (λ (o : Option Target). with_place o t.place) (bound_level m g).1.1
  by (lexeme.Name n) g = absurd (cc)
  by (lexeme.Number n) g = absurd (cc)
  by (lexeme.Word w) g = absurd (cc)

heading_bound : (us : List Token) → Seen key.heading us → Bound us
unfolding Bound sees
heading_bound [] h = tt
heading_bound (t ∷ ts) h = by t.lexeme (present_with (by_mark heading_by (mark_of t.lexeme)) t.place h) where
  heads : (m : Mark) → present (heading_by m) ≡ true → bounds_by m ≡ true
  heads marks.Module g = refl
  heads m g = g

  by : (x : Lexeme) → present (by_mark heading_by (mark_of x)) ≡ true → bounds x ≡ true
  by (lexeme.Mark m) g = heads m g
  by (lexeme.Name n) g = absurd (cc)
  by (lexeme.Number n) g = absurd (cc)
  by (lexeme.Word w) g = absurd (cc)

-- a module or the end
Last : List Token → Type 0
Last us = Seen (key.mark marks.Module) us ⊎ (us ≡ [])

last_bound : (us : List Token) → Last us → Bound us
unfolding Bound Last
last_bound us (inl s) = by us s where
  by : (vs : List Token) → Seen (key.mark marks.Module) vs → Bound vs
  by [] g = tt
  by (t ∷ ts) g = ap bounds (seen_is marks.Module t ts g)
last_bound us (inr e) = let P : List Token → Type 0 = λ vs. Bound vs in subst P (sym e) tt

last_heading : (us : List Token) → Last us → Unseen key.heading us
unfolding Last sees heading_by
last_heading us (inl s) = by us s where
  by : (vs : List Token) → Seen (key.mark marks.Module) vs → Unseen key.heading vs
  by [] g = tt
  by (t ∷ ts) g = ap (λ x. with_place (by_mark heading_by (mark_of x)) t.place) (seen_is marks.Module t ts g)
last_heading us (inr e) = let P : List Token → Type 0 = λ vs. Unseen key.heading vs in subst P (sym e) tt

-- types
int_starts : (n : ℕ) (C : List Token → Type 0) (us : List Token) → Starts n an_int C us → Seen (key.mark marks.Minus) us ⊎ Seen key.number us
unfolding Starts
int_starts n C us (inl s) = inl s
int_starts n C us (inr b) = inr (begins_starts n an_integer _ C us b)

mark_no_name : (k : Mark) (us : List Token) → Seen (key.mark k) us → Unseen key.name us
unfolding sees
mark_no_name k [] h = tt
mark_no_name k (t ∷ ts) h = by t.lexeme (seen_is k t ts h) where
  by : (x : Lexeme) → x ≡ lexeme.Mark k → with_place (name_of x) t.place ≡ None
  by x e = ap (λ y. with_place (name_of y) t.place) e

number_no_name : (us : List Token) → Seen key.number us → Unseen key.name us
unfolding sees
number_no_name [] h = tt
number_no_name (t ∷ ts) h = by t.lexeme h where
  by : (x : Lexeme) → present (number_of x) ≡ true → with_place (name_of x) t.place ≡ None
  by (lexeme.Number n) g = refl
  by (lexeme.Mark m) g = refl
  by (lexeme.Name n) g = absurd (cc)
  by (lexeme.Word w) g = refl

counted_number : (us : List Token) → Seen key.counted us → Seen key.number us
unfolding sees
counted_number [] h = absurd h
counted_number (t ∷ ts) h = present_with (number_of t.lexeme) t.place h

elem_clear : (n : ℕ) (C : List Token → Type 0) → Clear n an_elem C
unfolding Clear Starts
elem_clear n C = (
  (λ p. tt),
  (int_clear n _, (λ i. tt)),
  apart (λ us i b. elim (int_starts n (Begins n a_value _ C) us b) [
    | inl s ↦ mark_no_name marks.Minus us s
    | inr s ↦ number_no_name us s
  ]),
)

enumeration_clear : (n : ℕ) (p : Place) (C : List Token → Type 0) → Clear n (enumeration p) C
unfolding Clear Starts
enumeration_clear n p C = (
  elem_clear n _,
  (λ v. (
    ((λ vs q. (elem_clear n _, (λ w. tt))), (λ us c. seen_other marks.CloseCurly marks.Comma us (λ e. absurd (cc)) (begins_starts n a_shape _ C us c))),
    (λ vs. ((λ q. tt), (λ q. tt))),
  )),
)

interval_clear : (n : ℕ) (p : Place) (b : Bool) (v : ℕ) (C : List Token → Type 0) → Clear n (interval p b v) C
unfolding Clear
interval_clear n p b v C = ((λ q. tt), (λ q. (int_clear n _, (λ i. tt))))

sized_clear : (n : ℕ) (p : Place) (b : Bool) (C : List Token → Type 0) → Clear n (sized p b) C
unfolding Clear
sized_clear n p b C = ((λ q. tt), (λ q. ((λ r. tt), (λ v. ((λ r. tt), (λ r. tt))))))

-- what a type begins with, from some of its marks on
abbrev Ranged : List Token → Type 0
Ranged us = Seen key.counted us

ranged_no_mark : (k : Mark) (us : List Token) → Ranged us → Unseen (key.mark k) us
ranged_no_mark k us h = number_no_mark k us (counted_number us h)

first_mark : (k j : Mark) (us : List Token) (Q : Type 0) → (lexeme.Mark k ≡ lexeme.Mark j → ⊥) → (Q → Unseen (key.mark j) us) → Seen (key.mark k) us ⊎ Q → Unseen (key.mark j) us
first_mark k j us Q d f (inl s) = seen_other k j us d s
first_mark k j us Q d f (inr q) = f q

type_clear : (n : ℕ) (C : List Token → Type 0) → Clear n a_type C
unfolding Clear Starts
type_clear n C = (
  (λ p. tt),
  (
    (λ p. enumeration_clear n p C),
    (
      (λ p. ((λ q. tt), (λ v. interval_clear n p true v C))),
      (
        (λ p. sized_clear n p false C),
        (
          (λ p. ((λ q. tt), (λ q. sized_clear n p false C))),
          (
            (λ p. ((λ q. tt), (λ q. sized_clear n p true C))),
            (λ v. interval_clear n v.1 false v.0 C),
            apart (λ us i b. ranged_no_mark marks.Signed us b),
          ),
          apart (λ us i b. first_mark marks.Signed marks.Unsigned us _ (λ e. absurd (cc)) (ranged_no_mark marks.Unsigned us) b),
        ),
        apart (λ us i b. first_mark marks.Unsigned marks.WordType us _ (λ e. absurd (cc)) (first_mark marks.Signed marks.WordType us _ (λ e. absurd (cc)) (ranged_no_mark marks.WordType us)) b),
      ),
      apart (λ us i b. first_mark marks.WordType marks.Minus us _ (λ e. absurd (cc)) (first_mark marks.Unsigned marks.Minus us _ (λ e. absurd (cc)) (first_mark marks.Signed marks.Minus us _ (λ e. absurd (cc)) (ranged_no_mark marks.Minus us))) b),
    ),
    apart (λ us i b. first_mark marks.Minus marks.OpenCurly us _ (λ e. absurd (cc)) (first_mark marks.WordType marks.OpenCurly us _ (λ e. absurd (cc)) (first_mark marks.Unsigned marks.OpenCurly us _ (λ e. absurd (cc)) (first_mark marks.Signed marks.OpenCurly us _ (λ e. absurd (cc)) (ranged_no_mark marks.OpenCurly us)))) b),
  ),
  apart (λ us i b. first_mark marks.OpenCurly marks.Boolean us _ (λ e. absurd (cc)) (first_mark marks.Minus marks.Boolean us _ (λ e. absurd (cc)) (first_mark marks.WordType marks.Boolean us _ (λ e. absurd (cc)) (first_mark marks.Unsigned marks.Boolean us _ (λ e. absurd (cc)) (first_mark marks.Signed marks.Boolean us _ (λ e. absurd (cc)) (ranged_no_mark marks.Boolean us))))) b),
)

-- what expressions and formulas begin with
prefix_mark : (us : List Token) → Seen key.minus us → Seen (key.mark marks.Minus) us
unfolding sees
prefix_mark [] h = absurd h
prefix_mark (t ∷ ts) h = by (begins_range ts) h where
  by : (b : Bool) → present (cond b None (if_there (is_mark marks.Minus t.lexeme) t.place)) ≡ true → present (if_there (is_mark marks.Minus t.lexeme) t.place) ≡ true
  by true e = absurd (cc)
  by false e = e

expr_no_mark : (k : Mark) (us : List Token) → (lexeme.Mark marks.Minus ≡ lexeme.Mark k → ⊥) → (lexeme.Mark marks.Bang ≡ lexeme.Mark k → ⊥) → primary_by k ≡ None → Seen key.minus us ⊎ (Seen (key.mark marks.Bang) us ⊎ Seen key.primary us) → Unseen (key.mark k) us
expr_no_mark k us d e p (inl s) = seen_other marks.Minus k us d (prefix_mark us s)
expr_no_mark k us d e p (inr (inl s)) = seen_other marks.Bang k us e s
expr_no_mark k us d e p (inr (inr s)) = primary_no_mark k us p s

-- no branch of a case begins with its end
pub branch_no_end : (n : ℕ) (bs : Branches) (ts rest : List Token) (x : Branches) → Follows plain n some_branches (branch bs) ts rest x → Unseen (key.mark marks.Esac) ts
unfolding Starts level primary_by
branch_no_end n bs ts rest x h = expr_no_mark marks.Esac ts (λ e. absurd (cc)) (λ e. absurd (cc)) refl (starts_law h (λ us. Unit {0}) (inl tt))

-- instances
actuals_clear : (n : ℕ) (m : List ℕ) (p : Place) (C : List Token → Type 0) → Clear n (actuals m p) C
unfolding Clear Starts tail_level level primary_by
actuals_clear n m p C = (
  (λ q. tt),
  (operands_until n a_shape marks.CloseRound _ C (omega arith) (λ e. absurd (cc)) (levels_clear n).fifteen, (λ xs. ((λ q. tt), (λ q. tt)))),
  apart (λ us i b. expr_no_mark marks.CloseRound us (λ e. absurd (cc)) (λ e. absurd (cc)) refl b),
)

instantiated_clear : (n : ℕ) (m : List ℕ) (p : Place) (C : List Token → Type 0) → ((us : List Token) → C us → Unseen (key.mark marks.OpenRound) us) → Clear n (instantiated m p) C
unfolding Clear Starts
instantiated_clear n m p C u = ((λ q. actuals_clear n m p C), tt, apart (λ us i b. u us b))

-- what a type begins with is no name
type_no_name : (us : List Token) → Seen (key.mark marks.Boolean) us ⊎ (Seen (key.mark marks.OpenCurly) us ⊎ (Seen (key.mark marks.Minus) us ⊎ (Seen (key.mark marks.WordType) us ⊎ (Seen (key.mark marks.Unsigned) us ⊎ (Seen (key.mark marks.Signed) us ⊎ Ranged us))))) → Unseen key.name us
type_no_name us (inl s) = mark_no_name marks.Boolean us s
type_no_name us (inr (inl s)) = mark_no_name marks.OpenCurly us s
type_no_name us (inr (inr (inl s))) = mark_no_name marks.Minus us s
type_no_name us (inr (inr (inr (inl s)))) = mark_no_name marks.WordType us s
type_no_name us (inr (inr (inr (inr (inl s))))) = mark_no_name marks.Unsigned us s
type_no_name us (inr (inr (inr (inr (inr (inl s)))))) = mark_no_name marks.Signed us s
type_no_name us (inr (inr (inr (inr (inr (inr s)))))) = number_no_name us (counted_number us s)

declared_clear : (n : ℕ) (b : Bool) (C : List Token → Type 0) → ((us : List Token) → C us → Unseen (key.mark marks.OpenRound) us) → Clear n (a_declared b) C
unfolding Clear Starts
declared_clear n true C u = ((λ m. instantiated_clear n m.0 m.1 C u), type_clear n C, apart (λ us i b. type_no_name us b))
declared_clear n false C u = type_clear n C

-- sections
variables_clear : (n : ℕ) (k : Kind) (b : Bool) (ps : List Part) → Clear n (declared k b ps) Bound
unfolding Clear Starts
variables_clear n k b ps = ((λ qs m. ((λ p. tt), (λ p. (declared_clear n b _ (λ us c. seen_other marks.Semicolon marks.OpenRound us (λ e. absurd (cc)) (begins_starts n some_parts _ _ us c)), (λ y. ((λ q. tt), (λ q. tt))))))), (λ us c. bound_name us c))

defined_clear : (n : ℕ) (ps : List Part) → Clear n (defined ps) Bound
unfolding Clear Starts tail_level
defined_clear n ps = ((λ qs m. ((λ p. tt), (λ p. (expr_until n some_parts marks.Semicolon _ _ (omega arith) (levels_clear n).fifteen, (λ x. ((λ q. tt), (λ q. tt))))))), (λ us c. bound_name us c))

assigned_clear : (n : ℕ) (ps : List Part) (m : Moment) (v : List ℕ) (p : Place) (C : List Token → Type 0) → Clear n (assigned ps m v p) C
unfolding Clear Starts tail_level
assigned_clear n ps m v p C = ((λ q. tt), (λ q. (expr_until n some_parts marks.Semicolon _ C (omega arith) (levels_clear n).fifteen, (λ x. ((λ r. tt), (λ r. tt))))))

assigned_from_clear : (n : ℕ) (ps : List Part) (t : Target) (p : Place) (C : List Token → Type 0) → Clear n (assigned_from ps t p) C
unfolding Clear
assigned_from_clear n ps (itself v) p C = assigned_clear n ps _ v p C
assigned_from_clear n ps (of_moment m) p C = ((λ q. tt), (λ q. ((λ r. tt), (λ v. ((λ r. tt), (λ r. assigned_clear n ps m v.0 v.1 C))))))

assignments_clear : (n : ℕ) (ps : List Part) → Clear n (all_assigned ps) Bound
unfolding Clear
assignments_clear n ps = ((λ qs t. assigned_from_clear n qs t.0 t.1 _), (λ us c. bound_target us c))

-- a semicolon that may be left out
semicolon_clear : (n : ℕ) (f : Bool → List Part) → Clear n (optional marks.Semicolon) (Begins n some_parts (λ b. gives some_parts (f b)) Bound)
unfolding Clear Starts heading_by
semicolon_clear n f = ((λ p. tt), tt, apart (λ us i b. bound_mark marks.Semicolon us refl (begins_starts n some_parts (λ b. gives some_parts (f b)) Bound us b)))

ended : (n : ℕ) (f : Bool → List Part) (us : List Token) → Seen (key.mark marks.Semicolon) us ⊎ Begins n some_parts (λ b. gives some_parts (f b)) Bound us → (Closed 15 us) × FormulaClosed 6 us
unfolding Starts tail_level
ended n f us (inl s) = (seen_closed marks.Semicolon 15 us (omega arith) s, mark_closes marks.Semicolon us (omega arith) (omega arith) s)
ended n f us (inr b) = let c = begins_starts n some_parts (λ b. gives some_parts (f b)) Bound us b in (bound_closed us c, bound_formula us c)

constrained_clear : (n : ℕ) (ps : List Part) (s : Section) (p : Place) → Clear n (constrained ps s p) Bound
unfolding Clear Starts
constrained_clear n ps s p = (clear_less n expr (Closed 15) _ (λ us b. (ended n _ us (begins_starts n some_parts _ Bound us b)).0) (levels_clear n).fifteen, (λ x. (semicolon_clear n _, (λ b. tt))))

specified_clear : (n : ℕ) (ps : List Part) (v : Option (List ℕ)) (p : Place) → Clear n (specified ps v p) Bound
unfolding Clear Starts
specified_clear n ps v p = (clear_less n (formula_level 6) (FormulaClosed 6) _ (λ us b. (ended n _ us (begins_starts n some_parts _ Bound us b)).1) (formula_clear n), (λ x. (semicolon_clear n _, (λ b. tt))))

-- no formula begins with the word before a property's name
name_word : (t : Token) (ts : List Token) → t.lexeme ≡ lexeme.Mark marks.NameWord → start_of (t ∷ ts) ≡ of_atom
name_word t ts e = ap (λ x. start_at x (holds_temporal 0 ts)) e

before_no_name : (us : List Token) → Seen key.before_formula us → Unseen (key.mark marks.NameWord) us
unfolding sees
before_no_name [] h = tt
before_no_name (t ∷ ts) h = unseen_by marks.NameWord t ts (λ e. absurd (let i = ap (λ s. present (prefix_of s)) (name_word t ts e) in cc))

group_no_name : (us : List Token) → Seen key.group us → Unseen (key.mark marks.NameWord) us
unfolding sees
group_no_name [] h = tt
group_no_name (t ∷ ts) h = unseen_by marks.NameWord t ts (λ e. absurd (let i = ap (λ s. present (if_there (is_bracket s) t.place)) (name_word t ts e) in cc))

formula_no_name : (us : List Token) → Seen key.before_formula us ⊎ (Seen key.group us ⊎ (Seen key.minus us ⊎ (Seen (key.mark marks.Bang) us ⊎ Seen key.primary us))) → Unseen (key.mark marks.NameWord) us
unfolding primary_by
formula_no_name us (inl s) = before_no_name us s
formula_no_name us (inr (inl s)) = group_no_name us s
formula_no_name us (inr (inr s)) = expr_no_mark marks.NameWord us (λ e. absurd (cc)) (λ e. absurd (cc)) refl s

property_clear : (n : ℕ) (ps : List Part) (p : Place) → Clear n (a_property ps p) Bound
unfolding Clear Starts level formula_level
property_clear n ps p = (
  (λ q. ((λ v. tt), (λ v. ((λ r. tt), (λ r. specified_clear n ps (Some v.0) p))))),
  specified_clear n ps None p,
  apart (λ us i b. formula_no_name us b),
)

section_clear : (n : ℕ) (ps : List Part) (h : Heading) (p : Place) → Clear n (section_from ps h p) Bound
section_clear n ps (variables k b) p = variables_clear n k b ps
section_clear n ps definitions p = defined_clear n ps
section_clear n ps assignments p = assignments_clear n ps
section_clear n ps (constraints s) p = constrained_clear n ps s p
section_clear n ps properties p = property_clear n ps p

section_bound : (n : ℕ) (f : List Part → Heading × Place → Rule some_parts) (C : List Token → Type 0) → ((us : List Token) → C us → Bound us) → (us : List Token) → Begins n some_parts (λ ps. again some_parts key.heading f ps) C us → Bound us
unfolding Starts
section_bound n f C c us h = elim (begins_starts n some_parts (λ ps. again some_parts key.heading f ps) C us h) [
  | inl s ↦ heading_bound us s
  | inr b ↦ c us b
]

sections_clear : (n : ℕ) (C : List Token → Type 0) → ((us : List Token) → C us → Last us) → Clear n sections C
unfolding Clear
sections_clear n C c = ((λ ps h. clear_less n (section_from ps h.0 h.1) Bound _ (λ us b. section_bound n _ C (λ vs d. last_bound vs (c vs d)) us b) (section_clear n ps h.0 h.1)), (λ us d. last_heading us (c us d)))

-- formal parameters
names_clear : (n : ℕ) (C : List Token → Type 0) → Clear n some_names C
unfolding Clear Starts
names_clear n C = (
  (λ v. tt),
  (λ v. (
    ((λ fs p. ((λ m. tt), (λ m. tt))), (λ us c. seen_other marks.CloseRound marks.Comma us (λ e. absurd (cc)) (begins_starts n some_formals _ C us c))),
    (λ fs. ((λ q. tt), (λ q. tt))),
  )),
)

name_no_mark : (k : Mark) (us : List Token) → Seen key.name us → Unseen (key.mark k) us
unfolding sees
name_no_mark k [] h = tt
name_no_mark k (t ∷ ts) h = unseen_by k t ts (λ e. absurd (let i = ap (λ x. present (with_place (name_of x) t.place)) e in cc))

formals_clear : (n : ℕ) (C : List Token → Type 0) → ((us : List Token) → C us → Bound us) → Clear n formals C
unfolding Clear Starts heading_by
formals_clear n C c = (
  (λ p. ((λ q. tt), names_clear n C, apart (λ us i b. name_no_mark marks.CloseRound us b))),
  tt,
  apart (λ us i b. bound_mark marks.OpenRound us refl (c us b)),
)

-- modules
pub AtEnd : List Token → Type 0
AtEnd us = (us ≡ [])

modules_last : (n : ℕ) {X : Type 0} (g : X → List Body) (f : List Body → Place → Rule some_bodies) (us : List Token) → Begins n some_bodies (λ x. again some_bodies (key.mark marks.Module) f (g x)) AtEnd us → Last us
unfolding Starts Last AtEnd
modules_last n g f us h = begins_starts n some_bodies (λ x. again some_bodies (key.mark marks.Module) f (g x)) AtEnd us h

behind_formals : (n : ℕ) (f : List Part → List Body) (C : List Token → Type 0) → ((us : List Token) → C us → Last us) → (us : List Token) → Seen key.heading us ⊎ Begins n some_bodies (λ ps. gives some_bodies (f ps)) C us → Bound us
unfolding Starts
behind_formals n f C c us (inl s) = heading_bound us s
behind_formals n f C c us (inr b) = last_bound us (c us (begins_starts n some_bodies (λ ps. gives some_bodies (f ps)) C us b))

pub program_clear : (n : ℕ) → Clear n program AtEnd
unfolding Clear Starts AtEnd
program_clear n = (
  (λ ms p. ((λ m. tt), (λ m. (formals_clear n _ (λ us b. behind_formals n _ _ (λ vs d. modules_last n _ _ vs d) us (begins_starts n some_bodies _ _ us b)), (λ fs. (sections_clear n _ (λ us b. modules_last n _ _ us (begins_starts n some_bodies _ _ us b)), (λ ps. tt))))))),
  (λ us c. let P : List Token → Type 0 = λ vs. Unseen (key.mark marks.Module) vs in subst P (sym c) tt),
)

pub program_end : AtEnd []
unfolding AtEnd
program_end = refl
