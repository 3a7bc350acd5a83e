-- Expressions of a flat model, whose names are numbers, and their values.
use Rattle.std.specs.Prelude.{ℕ, ℤ, Bool, List, [], ◌∷◌, ◌++◌, pos, slice_get, unwrap_or}
use Rattle.smv_tree.specs.declared.place.Place.{Place}
use Rattle.smv_tree.specs.declared.expr.Op1.{Op1}
use Rattle.smv_tree.specs.declared.expr.Op2.{Op2}
use Rattle.smv_tree.specs.declared.value.Value.{Value}
use Rattle.smv_tree.specs.declared.value.Value.TheVariants.{Truth, Int, Sym, Word}
use Rattle.smv_tree.specs.Word.{Word as WordBits}
use Rattle.smv_meaning.specs.Operators.{one_value, selected, widened, word_of, span_from, span_length, counted}
use Rattle.smv_meaning.specs.Values.{on_one, on_both, chosen, first_true}

-- a name of a flat model: the number of a variable, the number of a definition, or a symbol
pub data FlatName : Type 0 where
  slot : ℕ → FlatName
  def : ℕ → FlatName
  symbol : List ℕ → FlatName

mutual
  -- an expression
  pub data Flat : Type 0 where
    truth : Place → Bool → Flat
    number : Place → ℕ → Flat
    word : Place → WordBits → Flat
    name : Place → FlatName → Flat
    span : Place → ℤ → ℤ → Flat
    set : Place → Flats → Flat
    cases : Place → FlatArms → Flat
    choice : Place → Flat → Flat → Flat → Flat
    one : Place → Op1 → Flat → Flat
    two : Place → Op2 → Flat → Flat → Flat
    select : Place → Flat → ℕ → ℕ → Flat
    next : Place → Flat → Flat
    widen : Place → Bool → Flat → ℕ → Flat
    const : Place → Bool → ℤ → ℕ → Flat
    count : Place → Flats → Flat

  -- expressions in order
  pub data Flats : Type 0 where
    no_flats : Flats
    flat : Flat → Flats → Flats

  -- the branches of a case
  pub data FlatArms : Type 0 where
    no_arms : FlatArms
    arm : Flat → Flat → FlatArms → FlatArms

-- the values of variables and of definitions by number at a moment
pub record Numbers : Type 0 where
  pub slots : List (List Value)
  pub defs : List (List Value)

abbrev pub name_values : Numbers → FlatName → List Value
name_values at_moment (slot k) = unwrap_or (slice_get at_moment.slots k) []
name_values at_moment (def k) = unwrap_or (slice_get at_moment.defs k) []
name_values at_moment (symbol n) = Sym n ∷ []

-- the values of an expression; now has the values of names at this moment, later those at the next
abbrev mutual
  pub eval : Numbers → Numbers → Flat → List Value
  eval now later (truth p b) = Truth b ∷ []
  eval now later (number p n) = Int (pos n) ∷ []
  eval now later (word p w) = Word w ∷ []
  eval now later (name p x) = name_values now x
  eval now later (span p low high) = span_from low (span_length low high)
  eval now later (set p es) = all_eval now later es
  eval now later (cases p bs) = first_eval now later bs
  eval now later (choice p c a b) = chosen (eval now later c) (eval now later a) (eval now later b)
  eval now later (one p o a) = on_one (one_value o) (eval now later a)
  eval now later (two p o a b) = on_both o (eval now later a) (eval now later b)
  eval now later (select p a high low) = on_one (selected high low) (eval now later a)
  eval now later (next p a) = eval later later a
  eval now later (widen p resize a n) = on_one (widened resize n) (eval now later a)
  eval now later (const p signed v n) = Word (word_of signed n v) ∷ []
  eval now later (count p es) = counted 0 (each_eval now later es)

  pub all_eval : Numbers → Numbers → Flats → List Value
  all_eval now later no_flats = []
  all_eval now later (flat e es) = eval now later e ++ all_eval now later es

  pub each_eval : Numbers → Numbers → Flats → List (List Value)
  each_eval now later no_flats = []
  each_eval now later (flat e es) = eval now later e ∷ each_eval now later es

  pub first_eval : Numbers → Numbers → FlatArms → List Value
  first_eval now later no_arms = []
  first_eval now later (arm c a bs) =
      first_true (eval now later c) (eval now later a) (first_eval now later bs)
