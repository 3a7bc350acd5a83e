-- The words of a line, and of the lines of a text.
use Rattle.std.specs.Prelude.{◌==◌, ℕ, if◌then◌else◌, List, [], ◌∷◌, map}
use Rattle.text_lines.specs.Lines.{lines_of, onto_first}

-- the words of a line, which single blanks part: an empty line is one empty word
abbrev pub words : List ℕ → List (List ℕ)
words [] = [] ∷ []
words (b ∷ bytes) = if b == 32 then [] ∷ words bytes else onto_first b (words bytes)

-- the words of the lines of a text
abbrev pub page : List ℕ → List (List (List ℕ))
page text = map words (lines_of text)
