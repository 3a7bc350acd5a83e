-- Lines that stand for remembered ones.
use Rattle.std.specs.Prelude.{ℕ, ◌==◌, List, [], ◌∷◌, ◌++◌, take, drop, Option, None, option_map, option_and_then, ok_or, Result, Ok, if◌then◌else◌}
use Rattle.std.specs.List.{prefix_len}
use Rattle.outside.specs.Number.{is_digit, number_of}
use Rattle.text_lines.specs.Lines.{is_blank}
use Rattle.shell_lang.specs.Past.{Past, line_of}
use Rattle.shell_lang.specs.declared.fault.LangFault.{LangFault}
use Rattle.shell_lang.specs.declared.fault.LangFault.TheVariants.{NoEvent}

-- how many bytes after a `!` name the event: a second `!`, or the digits of a number
abbrev pub event_len : List ℕ → ℕ
event_len [] = 0
event_len (first ∷ rest) = if first == 33 then 1 else prefix_len is_digit (first ∷ rest)

-- the line that they name: `!` the last one that was remembered, and a number that line, if it is kept
abbrev pub event_line : Past → List ℕ → Option (List ℕ)
event_line past [] = None
event_line past (first ∷ rest) =
    if first == 33 then line_of past past.count
    else option_and_then (line_of past) (number_of (take (prefix_len is_digit (first ∷ rest)) (first ∷ rest)))

-- what a line stands for that reads like this after its blanks: where a `!` begins it, the line of that
-- event with what follows appended, and else itself
abbrev pub recalled_from : Past → List ℕ → List ℕ → Result (List ℕ) LangFault
recalled_from past line [] = Ok line
recalled_from past line (first ∷ rest) =
    if first == 33 then
    ok_or (option_map (λ old. old ++ drop (event_len rest) rest) (event_line past rest)) (NoEvent (first ∷ rest))
    else Ok line

-- what a line stands for
abbrev pub recalled : Past → List ℕ → Result (List ℕ) LangFault
recalled past line = recalled_from past line (drop (prefix_len is_blank line) line)
