-- Rules: what may stand at a place of a text, and what it gives.
use Rattle.std.specs.Prelude.{ℕ}
use Rattle.smv_tree.specs.declared.place.Place.{Place}
use Rattle.smv_rules.specs.Keys.{Key, Opener, Payload}
use Rattle.smv_rules.specs.Sorts.{Expression, Gift, Sort, a_formula, an_expression}

-- What is nested, by name: an expression or a formula of a level; what follows a token that
-- opens a nesting; bits of an expression, behind their `[`.
pub data Part : Sort → Type 0 where
  expression : ℕ → Part an_expression
  formula : ℕ → Part a_formula
  inside : Opener → Place → Part an_expression
  bits : Expression → Place → Part an_expression

-- What stands at a place of the text, and what it gives: nothing more; nothing, since it is too deep; a
-- token that must stand there, and what follows it; a token that may stand there, or the other rule; a
-- part that is nested once more, or the other rule where no nesting is left; a rule and then another;
-- or, behind what was given, as many more as there are, each from the token with which it begins.
pub data Rule : Sort → Type 0 where
  gives : (s : Sort) → Gift s → Rule s
  too_deep : (s : Sort) → Rule s
  must : (s : Sort) (k : Key) → (Payload k → Rule s) → Rule s
  may : (s : Sort) (k : Key) → (Payload k → Rule s) → Rule s → Rule s
  part : (s : Sort) → Part s → Rule s → Rule s
  then : (z s : Sort) → Rule z → (Gift z → Rule s) → Rule s
  again : (s : Sort) (k : Key) → (Gift s → Payload k → Rule s) → Gift s → Rule s

infixl 10 ◌>>=◌
abbrev pub ◌>>=◌ : {z s : Sort} → Rule z → (Gift z → Rule s) → Rule s
◌>>=◌ {z} {s} r f = then z s r f
