-- The lines that are remembered.
use Rattle.std.specs.Prelude.{ℕ, ◌+◌, ◌-◌, nat_lt, List, [], ◌∷◌, ◌++◌, length, drop, Option, None, slice_get, if◌then◌else◌}

-- how many lines were remembered, and the last of them that are kept, the oldest first
pub record Past : Type 0 where
  pub count : ℕ
  pub kept : List (List ℕ)

-- nothing is remembered yet
abbrev pub no_past : Past
no_past = record { count = 0; kept = [] }

-- the last lines, at most ten thousand
abbrev pub last_lines : List (List ℕ) → List (List ℕ)
last_lines lines = drop (length lines - 10000) lines

-- one more line is remembered
abbrev pub remembering : Past → List ℕ → Past
remembering past line = record { count = past.count + 1; kept = last_lines (past.kept ++ line ∷ []) }

-- how many lines were remembered and are kept no more
abbrev pub lost : Past → ℕ
lost past = past.count - length past.kept

-- line n, counted from 1, if it is kept
abbrev pub line_of : Past → ℕ → Option (List ℕ)
line_of past n = if nat_lt (lost past) n then slice_get past.kept (n - lost past - 1) else None
