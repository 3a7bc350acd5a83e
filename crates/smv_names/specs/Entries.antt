-- Names that are entered one after the other.
use Rattle.std.specs.Prelude.{ℕ, List, [], ◌∷◌, ◌++◌, is_some, if◌then◌else◌}
use Rattle.std.specs.Map.{lookup}
use Rattle.std.specs.Str.{bytes_eq}
use Rattle.smv_names.specs.declared.declared.Declared.{Declared}

-- one more name, unless there is one already
abbrev pub put : List (List ℕ × Declared) → List ℕ × Declared → List (List ℕ × Declared)
put es e = if is_some (lookup (bytes_eq e.0) es) then es else es ++ e ∷ []
