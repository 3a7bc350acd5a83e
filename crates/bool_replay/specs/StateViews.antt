-- What the states that were read stand for.
use Rattle.std.specs.Prelude.{◌≡◌, ◌<◌, ℕ, Bool, List, length, map, None, slice_get, Result, Ok, Err, Vec}
use Rattle.std.specs.Option.{option_map}
use Rattle.std.specs.declared.alloc.Global.{Global}
use Rattle.bool_replay.specs.declared.states.States.{States}
use Rattle.bool_replay.specs.declared.states.States.TheVariants as states
use Rattle.bool_replay.specs.TraceTexts.{Section, lacking, truths_of, first_gap}

-- the truth values of a section, or the number of the first name that it lacks
abbrev pub GivesState : List (List ℕ) → Section → Result (Vec Bool Global) ℕ → Type 0
GivesState names s (Ok truths) = (lacking names s ≡ None) × (truths.items ≡ truths_of names s)
GivesState names s (Err i) = (i < length names) × (lacking names s ≡ slice_get names i)

-- the states of sections, or where the first value lacks
abbrev pub GivesStates : List (List ℕ) → List Section → States → Type 0
GivesStates names sections (states.All found) = (first_gap names sections ≡ None) × (map (λ s. s.items) found.items ≡ map (truths_of names) sections)
GivesStates names sections (states.Lacks line i) = (i < length names) × (first_gap names sections ≡ option_map (λ n. (line, n)) (slice_get names i))
