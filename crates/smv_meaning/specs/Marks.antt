-- Runs with a mark, partial traces, and which marks are looked for.
use Rattle.std.specs.Prelude.{ℕ, List, Option}
use Rattle.smv_tree.specs.declared.value.Value.{Value}

-- the states of a run, the inputs between them, and the number of a state that the last one
-- repeats, if one is marked
pub record MarkedRun : Type 0 where
  pub states : List (List Value)
  pub inputs : List (List Value)
  pub mark : Option ℕ

-- a stated value of the variable of this number, among all variables of a program
pub record Stated : Type 0 where
  pub variable : ℕ
  pub value : Value

-- what is stated of each state and of each input, and the number of the state that the last one
-- repeats, if one is marked
pub record Partial : Type 0 where
  pub states : List (List Stated)
  pub inputs : List (List Stated)
  pub mark : Option ℕ

-- what may be looked for at a bound: a path without a loop; that or any loop; the loop to a state
-- of this number; the loop that goes back so many steps from the last state
pub data LoopChoice : Type 0 where
  no_loop : LoopChoice
  any_loop : LoopChoice
  loop_to : ℕ → LoopChoice
  loop_back : ℕ → LoopChoice
