-- Partial traces, which state some values of a run, and the runs that extend them.
use Rattle.std.specs.Prelude.{◌≡◌, ℕ, suc, Bool, not, if◌then◌else◌, List, [], ◌∷◌, Option, Some, map, take, length, filter, slice_get, IfSome, IsSomeAnd, Contains, IsTrue, ⊤}
use Rattle.std.specs.List.{AllByRecursion}
use Rattle.smv_tree.specs.Models.{Body}
use Rattle.smv_tree.specs.declared.value.Value.{Value}
use Rattle.smv_meaning.specs.Instances.{Variable, variables}
use Rattle.smv_meaning.specs.Values.{is_of_state}
use Rattle.smv_meaning.specs.Runs.{IsRun}
use Rattle.smv_meaning.specs.Marks.{MarkedRun, Stated, Partial}
use Rattle.smv_meaning.specs.Repeats.{Repeats}

-- the variables whose values a state has, and those whose values an input has
abbrev pub of_state : Variable → Bool
of_state v = is_of_state v.kind

abbrev pub of_input : Variable → Bool
of_input v = not (is_of_state v.kind)

-- the values of the chosen variables, in their order, have a stated one: its variable is chosen,
-- and its value stands at the place of that variable among the chosen
pub record HasStated (chosen : Variable → Bool) (vars : List Variable) (xs : List Value) (s : Stated)
    : Type 0 where
  pub is_chosen : IsSomeAnd (slice_get vars s.variable) (λ v. IsTrue (chosen v))
  pub has_value : slice_get xs (length (filter chosen (take s.variable vars))) ≡ Some s.value

-- several states, or inputs, have all that is stated of each
abbrev pub HaveStated : (Variable → Bool) → List Variable → List (List Value) → List (List Stated) → Type 0
HaveStated chosen vars [] [] = ⊤
HaveStated chosen vars (xs ∷ xss) (ss ∷ sss) =
    AllByRecursion (HasStated chosen vars xs) ss × HaveStated chosen vars xss sss
HaveStated chosen vars _ _ = ⊥

-- a run extends a partial trace: it has as many states, all stated values and the same mark, and
-- the marked state and the last one are equal
pub record Extends (program : List Body) (run : MarkedRun) (partial : Partial) : Type 0 where
  pub is_run : IsRun program run.states run.inputs
  pub states_agree : HaveStated of_state (variables program) run.states partial.states
  pub inputs_agree : HaveStated of_input (variables program) run.inputs partial.inputs
  pub same_mark : run.mark ≡ partial.mark
  pub repeats : IfSome run.mark (Repeats run.states)

-- all values of the chosen variables, stated; n is the number of the first of these variables
abbrev pub all_stated : (Variable → Bool) → ℕ → List Variable → List Value → List Stated
all_stated chosen n (v ∷ vars) (x ∷ xs) =
    if chosen v then record { variable = n; value = x } ∷ all_stated chosen (suc n) vars xs
    else all_stated chosen (suc n) vars (x ∷ xs)
all_stated chosen n _ _ = []

-- the partial trace that states all of a run
abbrev pub partial_of : List Body → MarkedRun → Partial
partial_of program run = record {
  states = map (all_stated of_state 0 (variables program)) run.states;
  inputs = map (all_stated of_input 0 (variables program)) run.inputs;
  mark = run.mark;
}

-- all that is stated in the first list is stated in the second
abbrev pub IsIn : List Stated → List Stated → Type 0
IsIn few many = AllByRecursion (Contains many) few

abbrev pub AreIn : List (List Stated) → List (List Stated) → Type 0
AreIn [] [] = ⊤
AreIn (few ∷ fews) (many ∷ manys) = IsIn few many × AreIn fews manys
AreIn _ _ = ⊥

-- a partial trace states no more than another one
pub record StatesNoMore (few many : Partial) : Type 0 where
  pub states_in : AreIn few.states many.states
  pub inputs_in : AreIn few.inputs many.inputs
  pub same_mark : few.mark ≡ many.mark
