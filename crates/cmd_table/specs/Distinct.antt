-- What the options of a table have to be.
use Rattle.std.specs.Prelude.{ℕ, Bool, true, ◌&&◌, not, nat_le, List, [], ◌∷◌, length}
use Rattle.std.specs.List.{list_any}
use Rattle.std.specs.Str.{bytes_eq}
use Rattle.cmd_table.specs.Words.{text_of_word}
use Rattle.cmd_table.specs.declared.table.Opt.{Opt}
use Rattle.cmd_table.specs.declared.table.Table.{Table}

-- no two options have one word
abbrev pub are_distinct : List Opt → Bool
are_distinct [] = true
are_distinct (opt ∷ opts) =
    not (list_any (λ other. bytes_eq (text_of_word other.word) (text_of_word opt.word)) opts) && are_distinct opts

-- the words of a table differ, and there are at most 32
abbrev pub is_sound : {N : ℕ} → Table N → Bool
is_sound table = are_distinct table.opts && nat_le (length table.opts) 32
