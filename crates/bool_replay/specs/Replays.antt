-- Where the replay of a trace stops.
use Rattle.std.specs.Prelude.{◌≡◌, ◌+◌, ℕ, List, [], ◌∷◌, ◌++◌, length, map}
use Rattle.std.specs.List.{AllByRecursion}
use Rattle.smv_tree.specs.Trees.{Tree}
use Rattle.smv_tree.specs.Models.{Body, Part, constraint}
use Rattle.smv_tree.specs.declared.program.Section.TheVariants as section
use Rattle.smv_tree.specs.declared.value.Value.{Value}
use Rattle.smv_meaning.specs.Instances.{Instance, instances}
use Rattle.smv_meaning.specs.Runs.{AsksFirst, AsksStep, IsRun, at_state}
use Rattle.bool_replay.specs.declared.verdict.Cause.{Cause}
use Rattle.bool_replay.specs.declared.verdict.Cause.TheVariants.{Init, Trans}

-- the first part of which what is asked does not hold
abbrev pub FailsFirst : (Part → Type 0) → List Part → Part → Type 0
FailsFirst asks parts part = (before : List Part) × (after : List Part) × (parts ≡ before ++ part ∷ after) × AllByRecursion asks before × (asks part → ⊥)

-- states are a run, with an input of no values between each two
abbrev pub IsTrace : List Body → List (List Value) → Type 0
IsTrace program [] = ⊥
IsTrace program (s ∷ states) = IsRun program (s ∷ states) (map (λ _. []) states)

-- the states of a trace stop being a run at a state, counted from 1, by the first constraint that fails there
abbrev pub StopsAt : List Body → List (List Value) → ℕ → Cause → Type 0
StopsAt program states n (Init p) =
    (i : Instance) × (s : List Value) × (rest : List (List Value)) × (e : Tree)
    × (instances program ≡ i ∷ []) × (states ≡ s ∷ rest) × (n ≡ 1)
    × FailsFirst (AsksFirst program (at_state s) i) i.body.parts (constraint section.Init p e)
StopsAt program states n (Trans p) =
    (i : Instance) × (front : List (List Value)) × (s : List Value) × (t : List Value) × (rest : List (List Value)) × (e : Tree)
    × (instances program ≡ i ∷ []) × (states ≡ (front ++ s ∷ []) ++ t ∷ rest) × (n ≡ length front + 2)
    × IsTrace program (front ++ s ∷ [])
    × FailsFirst (AsksStep program (at_state s) (at_state t) i) i.body.parts (constraint section.Trans p e)
