-- What a session over objects that never fail ends with.
use Rattle.std.specs.Prelude.{◌≡◌, ◌<◌, ◌⊎◌, ℕ, Bool, true, List, Some, None, length, nat_lt}
use Rattle.std.specs.List.{list_any}
use Rattle.outside.specs.Memory.{sound}
use Rattle.outside.specs.Told.{Output}
use Rattle.shell_world.specs.Keeping.{last_count}
use Rattle.shell_world.specs.Scenes.{Told}
use Rattle.text_lines.specs.Lines.{lines_of}
use Rattle.shell.specs.Closing.{told_of}
use Rattle.shell.specs.Sessions.{line_limit, most_lines}

-- a sink that never fails, and keeps nothing
abbrev pub kept_nowhere : Output
kept_nowhere = record { written = None; faults = 0 }

-- an input of which this is left, files that never fail, and two such sinks
abbrev pub sound_objects : List ℕ → List (List ℕ × List ℕ) → Told
sound_objects left files =
    told_of (record { left = Some left; faults = 0 }) (sound files) kept_nowhere kept_nowhere

-- a count of faults that could have risen did not
pub record IsSilent (old new : ℕ) : Type 0 where
  pub same : new ≡ old
  pub could : old < last_count

-- no sink failed
pub record SinksAreSilent (old new : Told) : Type 0 where
  pub out : IsSilent old.out.faults new.out.faults
  pub err : IsSilent old.err.faults new.err.faults

-- a line of a text has more bytes than one may have
abbrev pub has_long_line : List ℕ → Bool
has_long_line text = list_any (λ line. nat_lt line_limit (length line)) (lines_of text)

-- a text passes a limit of the input: of a line, or of the number of lines
abbrev pub PassesLimit : List ℕ → Type 0
PassesLimit text = (has_long_line text ≡ true) ⊎ (most_lines < length (lines_of text))

-- a status over objects that never fail: 3 comes only of an input that passes a limit, and 4 never
abbrev pub IsSoundStatus : List ℕ → ℕ → Type 0
IsSoundStatus text status =
    (status ≡ 0) ⊎ ((status ≡ 1) ⊎ ((status ≡ 2) ⊎ ((status ≡ 5)
    ⊎ ((status ≡ 3) × PassesLimit text))))
