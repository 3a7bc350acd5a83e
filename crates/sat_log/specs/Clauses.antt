-- The clauses of a log, and the assignments under which clauses are true.
use Rattle.std.specs.Prelude.{ℕ, Bool, not, if◌then◌else◌, List, [], ◌∷◌, ◌++◌, option_to_list, IsTrue}
use Rattle.std.specs.List.{AllByRecursion, list_any}
use Rattle.sat_log.specs.Literal.{Literal}
use Rattle.sat_log.specs.Accepted.{hinted}
use Rattle.sat_log.specs.declared.line.LogLine.{LogLine}

-- the clauses of a log: its originals and its conflict lines
abbrev pub clauses : List LogLine → List (List Literal)
clauses [] = []
clauses (line ∷ lines) = option_to_list (hinted line.kind line.lits) ++ clauses lines

-- the value of a literal where each variable has a value
abbrev pub literal_value : (ℕ → Bool) → Literal → Bool
literal_value v l = if l.negative then not (v l.var) else v l.var

-- a clause is true where one of its literals is
abbrev pub clause_value : (ℕ → Bool) → List Literal → Bool
clause_value v c = list_any (literal_value v) c

-- every clause of a list is true
abbrev pub Satisfies : (ℕ → Bool) → List (List Literal) → Type 0
Satisfies v cs = AllByRecursion (λ c. IsTrue (clause_value v c)) cs
