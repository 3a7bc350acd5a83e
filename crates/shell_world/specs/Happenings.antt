-- What happens in a session: an event is told, or a question is asked of a solver. A question has no
-- text, and stands here alone: code builds nothing for it. So a law on the questions of a session is
-- one on the list of what happened.
use Rattle.std.specs.Prelude.{ℕ, List, [], Option, flat_map}
use Rattle.smv_tree.specs.declared.value.Value.{Value}
use Rattle.smv_tree.specs.Models.{Claim}
use Rattle.smv_tree.specs.Trees.{Tree}
use Rattle.smv_meaning.specs.Marks.{LoopChoice, MarkedRun, Partial}
use Rattle.sat_log.specs.declared.line.LogLine.{LogLine}
use Rattle.shell_world.specs.declared.event.Event.{Event}
use Rattle.shell_world.specs.declared.event.Side.{Side}
use Rattle.shell_world.specs.Texts.{side_of, text_if, text_of}

-- whether there is a counterexample of this length to the formula of an instance, on a path or a loop
-- that the choice admits; a first state that meets a constraint, if one is given; so many steps from a
-- state, whose new states meet the first constraint and whose steps the second; a run that extends a
-- partial trace
pub data Question : Type 0 where
  checks : List (List ℕ) → Claim → ℕ → LoopChoice → Question
  picks : Option Tree → Question
  extends : List Value → ℕ → Option Tree → Option Tree → Question
  completes : Partial → Question

-- there is, as this run; never, as the line of the log with this id says; or so many conflicts were
-- spent, and nothing is known
pub data Answer : Type 0 where
  found : MarkedRun → Answer
  never : ℕ → Answer
  spent : ℕ → Answer

-- a question that was asked, with its answer and the log before and after it
pub record Asked : Type 0 where
  pub question : Question
  pub answer : Answer
  pub before : List LogLine
  pub after : List LogLine

pub data Happening : Type 0 where
  tells : Event → Happening
  asks : Asked → Happening

-- what of its text stands on a side: a question has none
abbrev pub text_at : Side → Happening → List ℕ
text_at side (tells event) = text_if side (side_of event) (text_of event)
text_at side (asks asked) = []

-- what a side gains by all that happened
abbrev pub text_on : Side → List Happening → List ℕ
text_on side happened = flat_map (text_at side) happened
