-- The values of plain expressions.
use Rattle.std.proofs.Common.{◌≡◌, ℕ, Bool, true, false, List, [], ◌∷◌, map, length, refl, ap, sym, ◌∙◌}
use Rattle.std.proofs.lemmas.Bool.{false≢true, and_parts}
use Rattle.smv_tree.specs.Trees.{Tree, truth, number, word, name, span, set, cases, choice, one, two, select, next, widen, const, count}
use Rattle.smv_tree.specs.Models.{Body}
use Rattle.smv_tree.specs.declared.expr.Op1.TheVariants as op1
use Rattle.smv_tree.specs.declared.expr.Op2.TheVariants as op2
use Rattle.smv_tree.specs.declared.value.Value.TheVariants.{Truth}
use Rattle.smv_meaning.specs.Operators.{one_value, same_value}
use Rattle.smv_meaning.specs.Values.{Naming, values, on_one, on_both}
use Rattle.smv_meaning.specs.Runs.{Holds, at_state}
use Rattle.bool_replay.specs.Plain.{is_plain, is_variable, names_of}
use Rattle.std.proofs.Math.Bool.{beq}
use Rattle.bool_replay.specs.Evaluation.{truth_of}
use Rattle.bool_replay.proofs.MainLemmas.{PlainFacts}
use Rattle.bool_replay.proofs.NamingLemmas.{naming_of, naming_is_right, naming_is_only, name_value}

-- a constraint that looks at the next state is given one
abbrev pub HasNext : Bool → List (List ℕ) → List Bool → Type 0
HasNext may names later = may ≡ true → length later ≡ length names

variable_value : (b : Body) → PlainFacts b → (bools : List Bool) (e : Tree) (later : Naming) → length bools ≡ length (names_of b.parts) → is_variable (names_of b.parts) e ≡ true → values (naming_of b (map Truth bools)) later [] e ≡ Truth (truth_of (names_of b.parts) bools bools e) ∷ []
variable_value b f bools (name p (n ∷ [])) later h e = name_value b f bools n h e
variable_value b f bools (name p []) later h e = absurd (false≢true e)
variable_value b f bools (name p (n ∷ m ∷ rest)) later h e = absurd (false≢true e)
variable_value b f bools (truth p v) later h e = absurd (false≢true e)
variable_value b f bools (number p v) later h e = absurd (false≢true e)
variable_value b f bools (word p v) later h e = absurd (false≢true e)
variable_value b f bools (span p x y) later h e = absurd (false≢true e)
variable_value b f bools (set p es) later h e = absurd (false≢true e)
variable_value b f bools (cases p bs) later h e = absurd (false≢true e)
variable_value b f bools (choice p c x y) later h e = absurd (false≢true e)
variable_value b f bools (one p o x) later h e = absurd (false≢true e)
variable_value b f bools (two p o x y) later h e = absurd (false≢true e)
variable_value b f bools (select p x i j) later h e = absurd (false≢true e)
variable_value b f bools (next p x) later h e = absurd (false≢true e)
variable_value b f bools (widen p r x n) later h e = absurd (false≢true e)
variable_value b f bools (const p s v n) later h e = absurd (false≢true e)
variable_value b f bools (count p es) later h e = absurd (false≢true e)

same_value-truth : (x y : Bool) → same_value (Truth x) (Truth y) ≡ beq x y
same_value-truth true true = refl
same_value-truth true false = refl
same_value-truth false true = refl
same_value-truth false false = refl

-- a plain expression has its truth as its one value
pub plain_value : (b : Body) → PlainFacts b → (now later : List Bool) (may : Bool) (e : Tree) → length now ≡ length (names_of b.parts) → HasNext may (names_of b.parts) later → is_plain (names_of b.parts) may e ≡ true
    → values (naming_of b (map Truth now)) (naming_of b (map Truth later)) [] e ≡ Truth (truth_of (names_of b.parts) now later e) ∷ []
plain_value b f now later may (truth p v) h k e = refl
plain_value b f now later may (name p (n ∷ [])) h k e = name_value b f now n h e
plain_value b f now later may (name p []) h k e = absurd (false≢true e)
plain_value b f now later may (name p (n ∷ m ∷ rest)) h k e = absurd (false≢true e)
plain_value b f now later may (next p x) h k e =
    let q = and_parts may (is_variable (names_of b.parts) x) e in
    variable_value b f later x (naming_of b (map Truth later)) (k q.0) q.1
plain_value b f now later may (one p op1.Not x) h k e = ap (on_one (one_value op1.Not)) (plain_value b f now later may x h k e)
plain_value b f now later may (two p op2.Eq x y) h k e =
    let q = and_parts (is_plain (names_of b.parts) may x) (is_plain (names_of b.parts) may y) e in
    ap (λ vs. on_both op2.Eq vs (values (naming_of b (map Truth now)) (naming_of b (map Truth later)) [] y)) (plain_value b f now later may x h k q.0)
    ∙ (ap (on_both op2.Eq (Truth (truth_of (names_of b.parts) now later x) ∷ [])) (plain_value b f now later may y h k q.1)
    ∙ ap (λ t. Truth t ∷ []) (same_value-truth (truth_of (names_of b.parts) now later x) (truth_of (names_of b.parts) now later y)))
plain_value b f now later may (number p v) h k e = absurd (false≢true e)
plain_value b f now later may (word p v) h k e = absurd (false≢true e)
plain_value b f now later may (span p x y) h k e = absurd (false≢true e)
plain_value b f now later may (set p es) h k e = absurd (false≢true e)
plain_value b f now later may (cases p bs) h k e = absurd (false≢true e)
plain_value b f now later may (choice p c x y) h k e = absurd (false≢true e)
plain_value b f now later may (one p op1.Neg x) h k e = absurd (false≢true e)
plain_value b f now later may (one p op1.Word1 x) h k e = absurd (false≢true e)
plain_value b f now later may (one p op1.Bool x) h k e = absurd (false≢true e)
plain_value b f now later may (one p op1.Signed x) h k e = absurd (false≢true e)
plain_value b f now later may (one p op1.Unsigned x) h k e = absurd (false≢true e)
plain_value b f now later may (one p op1.ToInt x) h k e = absurd (false≢true e)
plain_value b f now later may (two p _ x y) h k e = absurd (false≢true e)
plain_value b f now later may (select p x i j) h k e = absurd (false≢true e)
plain_value b f now later may (widen p r x n) h k e = absurd (false≢true e)
plain_value b f now later may (const p s v n) h k e = absurd (false≢true e)
plain_value b f now later may (count p es) h k e = absurd (false≢true e)

-- a plain constraint that is true holds, and one that is false does not
pub holds_if_true : (b : Body) → PlainFacts b → (now later : List Bool) (may : Bool) (e : Tree) → length now ≡ length (names_of b.parts) → HasNext may (names_of b.parts) later → is_plain (names_of b.parts) may e ≡ true → truth_of (names_of b.parts) now later e ≡ true → Holds (b ∷ []) (at_state (map Truth now)) (at_state (map Truth later)) [] e
holds_if_true b f now later may e h k p t = (
  naming_of b (map Truth now),
  naming_of b (map Truth later),
  naming_is_right b f (map Truth now),
  naming_is_right b f (map Truth later),
  plain_value b f now later may e h k p ∙ ap (λ v. Truth v ∷ []) t,
)

pub fails_if_false : (b : Body) → PlainFacts b → (now later : List Bool) (may : Bool) (e : Tree) → length now ≡ length (names_of b.parts) → HasNext may (names_of b.parts) later → is_plain (names_of b.parts) may e ≡ true → truth_of (names_of b.parts) now later e ≡ false → Holds (b ∷ []) (at_state (map Truth now)) (at_state (map Truth later)) [] e → ⊥
fails_if_false b f now later may e h k p t (n, l, right, right_later, v) =
    let one_now = naming_is_only b f (map Truth now) n right in
    let one_later = naming_is_only b f (map Truth later) l right_later in
    let is = sym (plain_value b f now later may e h k p ∙ ap (λ x. Truth x ∷ []) t) ∙ (ap (λ x. values x (naming_of b (map Truth later)) [] e) (sym one_now) ∙ (ap (λ x. values n x [] e) (sym one_later) ∙ v)) in
    not_both is
  where
    not_both : Truth false ∷ [] ≡ Truth true ∷ [] → ⊥
    not_both q = cc
