-- The values of a flat expression, if the program can hold each value that is looked at.
use Rattle.std.specs.Prelude.{pos, Bool, true, false, List, [], ◌∷◌, ◌++◌, Option, Some, None}
use Rattle.smv_tree.specs.declared.expr.Op2.{Op2}
use Rattle.smv_tree.specs.declared.expr.Op2.TheVariants as op
use Rattle.smv_tree.specs.declared.value.Value.{Value}
use Rattle.smv_tree.specs.declared.value.Value.TheVariants.{Truth, Int, Word}
use Rattle.smv_meaning.specs.FlatTrees.{Flat, truth, number, word, name, span, set, cases, choice, one, two, select, next, widen, const, count, Flats, no_flats, flat, FlatArms, no_arms, arm, Numbers, name_values}
use Rattle.smv_meaning.specs.Operators.{one_value, selected, widened, word_of, span_from, span_length, counted}
use Rattle.smv_meaning.specs.Values.{on_one, on_both}
use Rattle.smv_values.specs.Answers.{kept}

-- what is made of the values, if there are any to tell
abbrev pub with_values : Option (List Value) → (List Value → Option (List Value))
    → Option (List Value)
with_values (Some vs) f = f vs
with_values None f = None

-- the one truth value
abbrev pub truth_of : List Value → Option Bool
truth_of (Truth b ∷ []) = Some b
truth_of vs = None

-- the first where the condition is true, the second where it is false
abbrev pub fitting_choice : Option Bool → Option (List Value) → Option (List Value)
    → Option (List Value)
fitting_choice (Some true) first second = first
fitting_choice (Some false) first second = second
fitting_choice None first second = Some []

-- the first where the condition is true, else the others
abbrev pub fitting_first : Option Bool → Option (List Value) → Option (List Value)
    → Option (List Value)
fitting_first (Some true) first others = first
fitting_first (Some false) first others = others
fitting_first None first others = others

-- a union has the values of both as they are
abbrev pub fitting_both : Op2 → List Value → List Value → Option (List Value)
fitting_both op.Union left right = Some (left ++ right)
fitting_both o left right = kept (on_both o left right)

-- the number of those that are true, from n on
abbrev pub fitting_count : Option (List (List Value)) → Option (List Value)
fitting_count (Some lists) = kept (counted 0 lists)
fitting_count None = None

-- a list before others
abbrev pub before : List Value → Option (List (List Value)) → Option (List (List Value))
before vs (Some lists) = Some (vs ∷ lists)
before vs None = None

abbrev pub ahead : Option (List Value) → Option (List (List Value)) → Option (List (List Value))
ahead (Some vs) lists = before vs lists
ahead None lists = None

-- as the values of the expression, where each operator's value can be held
abbrev mutual
  pub fitting_eval : Numbers → Numbers → Flat → Option (List Value)
  fitting_eval now later (truth p b) = Some (Truth b ∷ [])
  fitting_eval now later (number p n) = kept (Int (pos n) ∷ [])
  fitting_eval now later (word p w) = Some (Word w ∷ [])
  fitting_eval now later (name p x) = Some (name_values now x)
  fitting_eval now later (span p low high) = Some (span_from low (span_length low high))
  fitting_eval now later (set p es) = all_fitting now later es
  fitting_eval now later (cases p bs) = first_fitting now later bs
  fitting_eval now later (choice p c a b) =
      with_values (fitting_eval now later c)
      (λ vs. fitting_choice (truth_of vs) (fitting_eval now later a) (fitting_eval now later b))
  fitting_eval now later (one p o a) =
      with_values (fitting_eval now later a) (λ vs. kept (on_one (one_value o) vs))
  fitting_eval now later (two p o a b) =
      with_values (fitting_eval now later a)
      (λ vs. with_values (fitting_eval now later b) (λ ws. fitting_both o vs ws))
  fitting_eval now later (select p a high low) =
      with_values (fitting_eval now later a) (λ vs. kept (on_one (selected high low) vs))
  fitting_eval now later (next p a) = fitting_eval later later a
  fitting_eval now later (widen p resize a n) =
      with_values (fitting_eval now later a) (λ vs. kept (on_one (widened resize n) vs))
  fitting_eval now later (const p signed v n) = kept (Word (word_of signed n v) ∷ [])
  fitting_eval now later (count p es) = fitting_count (each_fitting now later es)

  pub all_fitting : Numbers → Numbers → Flats → Option (List Value)
  all_fitting now later no_flats = Some []
  all_fitting now later (flat e es) =
      with_values (fitting_eval now later e)
      (λ vs. with_values (all_fitting now later es) (λ ws. Some (vs ++ ws)))

  pub each_fitting : Numbers → Numbers → Flats → Option (List (List Value))
  each_fitting now later no_flats = Some []
  each_fitting now later (flat e es) = ahead (fitting_eval now later e) (each_fitting now later es)

  pub first_fitting : Numbers → Numbers → FlatArms → Option (List Value)
  first_fitting now later no_arms = Some []
  first_fitting now later (arm c a bs) =
      with_values (fitting_eval now later c)
      (λ vs. fitting_first (truth_of vs) (fitting_eval now later a) (first_fitting now later bs))
