-- The values of an expression.
use Rattle.std.specs.Prelude.{◌≡◌, ℕ, Bool, true, false, List, [], ◌∷◌, ◌++◌, pos, if◌then◌else◌, filter, not}
use Rattle.smv_tree.specs.Trees.{Tree, Trees, Arms, truth, number, word, name, span, set, cases, choice, one, two, select, next, widen, const, count, no_trees, tree, no_arms, arm}
use Rattle.smv_tree.specs.declared.program.Kind.{Kind}
use Rattle.smv_tree.specs.declared.program.Kind.TheVariants as kind
use Rattle.smv_tree.specs.declared.expr.Op2.{Op2}
use Rattle.smv_tree.specs.declared.expr.Op2.TheVariants as op
use Rattle.smv_tree.specs.declared.value.Value.{Value}
use Rattle.smv_tree.specs.declared.value.Value.TheVariants.{Truth, Int, Sym, Word}
use Rattle.smv_tree.specs.Models.{Body}
use Rattle.smv_meaning.specs.Operators.{one_value, two_values, member, selected, widened, word_of, span_from, span_length, counted}
use Rattle.smv_meaning.specs.Instances.{Variable, variables}
use Rattle.smv_meaning.specs.Names.{Target, to_variable, to_body, to_instance, to_symbol, to_nothing, same_names, resolve}

-- the values of each path of names in each instance, which is given by its names from the innermost outwards
abbrev pub Naming : Type 0
Naming = List (List ℕ) → List (List ℕ) → List Value

-- an operator over the values of its operands: each has to have one
abbrev pub on_one : (Value → List Value) → List Value → List Value
on_one f (v ∷ []) = f v
on_one f _ = []

abbrev pub on_two : (Value → Value → List Value) → List Value → List Value → List Value
on_two f (v ∷ []) (w ∷ []) = f v w
on_two f _ _ = []

abbrev pub on_both : Op2 → List Value → List Value → List Value
on_both op.Union left right = left ++ right
on_both op.In left right = member left right
on_both o left right = on_two (two_values o) left right

-- the first list where the condition is true, the second where it is false
abbrev pub chosen : List Value → List Value → List Value → List Value
chosen (Truth true ∷ []) first second = first
chosen (Truth false ∷ []) first second = second
chosen _ first second = []

-- the first list where the condition is true, else the second
abbrev pub first_true : List Value → List Value → List Value → List Value
first_true (Truth true ∷ []) first others = first
first_true _ first others = others

-- the values of an expression in an instance; now has the values of names at this moment, later
-- those at the next
abbrev mutual
  pub values : Naming → Naming → List (List ℕ) → Tree → List Value
  values now later up (truth p b) = Truth b ∷ []
  values now later up (number p n) = Int (pos n) ∷ []
  values now later up (word p w) = Word w ∷ []
  values now later up (name p names) = now up names
  values now later up (span p low high) = span_from low (span_length low high)
  values now later up (set p es) = all_values now later up es
  values now later up (cases p bs) = first_values now later up bs
  values now later up (choice p c a b) =
      chosen (values now later up c) (values now later up a) (values now later up b)
  values now later up (one p o a) = on_one (one_value o) (values now later up a)
  values now later up (two p o a b) = on_both o (values now later up a) (values now later up b)
  values now later up (select p a high low) = on_one (selected high low) (values now later up a)
  values now later up (next p a) = values later later up a
  values now later up (widen p resize a n) = on_one (widened resize n) (values now later up a)
  values now later up (const p signed v n) = Word (word_of signed n v) ∷ []
  values now later up (count p es) = counted 0 (each_values now later up es)

  -- those of several expressions, joined in order
  pub all_values : Naming → Naming → List (List ℕ) → Trees → List Value
  all_values now later up no_trees = []
  all_values now later up (tree e es) = values now later up e ++ all_values now later up es

  -- those of several expressions, each list by itself
  pub each_values : Naming → Naming → List (List ℕ) → Trees → List (List Value)
  each_values now later up no_trees = []
  each_values now later up (tree e es) = values now later up e ∷ each_values now later up es

  -- those of the first branch whose condition is true
  pub first_values : Naming → Naming → List (List ℕ) → Arms → List Value
  first_values now later up no_arms = []
  first_values now later up (arm c a bs) =
      first_true (values now later up c) (values now later up a) (first_values now later up bs)

-- one moment of a run: the values of the state and frozen variables, and those of the inputs, in their order
pub record Snapshot : Type 0 where
  pub state : List Value
  pub input : List Value

-- the variables whose values a state has
abbrev pub is_of_state : Kind → Bool
is_of_state kind.State = true
is_of_state kind.Input = false
is_of_state kind.Frozen = true

abbrev pub state_variables : List Variable → List Variable
state_variables vars = filter (λ v. is_of_state v.kind) vars

-- the variables whose values an input has
abbrev pub input_variables : List Variable → List Variable
input_variables vars = filter (λ v. not (is_of_state v.kind)) vars

-- the value at the place of the variable of this path
abbrev pub value_at : List Variable → List (List ℕ) → List Value → List Value
value_at (v ∷ vars) path (x ∷ xs) = if same_names v.path path then x ∷ [] else value_at vars path xs
value_at _ path _ = []

-- the value of a variable at a moment
abbrev pub variable_values : List Variable → Snapshot → List (List ℕ) → List Value
variable_values vars m path =
    value_at (state_variables vars) path m.state ++ value_at (input_variables vars) path m.input

-- the values of what a path of names stands for
abbrev pub target_values : List Variable → Snapshot → Naming → Target → List Value
target_values vars m now (to_variable path) = variable_values vars m path
target_values vars m now (to_body up e) = values now now up e
target_values vars m now (to_instance up) = []
target_values vars m now (to_symbol n) = Sym n ∷ []
target_values vars m now to_nothing = []

-- names have their values at a moment: a variable its value, a define the values of its body in its
-- own instance, a parameter those of the actual in the instance around
abbrev pub IsNaming : List Body → Snapshot → Naming → Type 0
IsNaming program m now =
    (up names : List (List ℕ))
    → now up names ≡ target_values (variables program) m now (resolve program up names)
