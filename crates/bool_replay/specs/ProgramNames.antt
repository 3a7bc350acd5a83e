-- The names that a program declares.
use Rattle.std.specs.Prelude.{ℕ, List, [], ◌∷◌}
use Rattle.smv_tree.specs.Models.{Body}
use Rattle.bool_replay.specs.Plain.{names_of}

-- the names that the first module of a program declares
abbrev pub program_names : List Body → List (List ℕ)
program_names [] = []
program_names (b ∷ others) = names_of b.parts
