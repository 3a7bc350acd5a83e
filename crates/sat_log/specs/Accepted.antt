-- When a line follows from the clauses before it, by unit propagation over its hints.
use Rattle.std.specs.Prelude.{◌≡◌, ◌≢◌, ◌==◌, ◌-◌, ℕ, Option, Some, None, if◌then◌else◌, List, [], ◌∷◌, ◌++◌, map, slice_get, option_to_list}
use Rattle.std.specs.Option.{option_and_then}
use Rattle.sat_log.specs.Literal.{Literal, negated}
use Rattle.sat_log.specs.Clause.{HasDistinctVariables, AreLiterals, IsFalsified, IsUnit}
use Rattle.sat_log.specs.declared.line.LineKind.{LineKind}
use Rattle.sat_log.specs.declared.line.LineKind.TheVariants.{Original, Conflict, Final}
use Rattle.sat_log.specs.declared.line.LogLine.{LogLine}

-- the line of this id; ids count from 1
abbrev pub line_at : List LogLine → ℕ → Option LogLine
line_at log id = if id == 0 then None else slice_get log (id - 1)

-- the clause that a hint at the line means: final lines have none
abbrev pub hinted : LineKind → List Literal → Option (List Literal)
hinted Original c = Some c
hinted Conflict c = Some c
hinted Final c = None

-- the clause that a hint names: an original or a conflict line
abbrev pub clause_at : List LogLine → ℕ → Option (List Literal)
clause_at log id = option_and_then (λ line. hinted line.kind line.lits) (line_at log id)

-- From what is set, each hint but the last is unit and sets its one literal, and the last is false.
abbrev pub Refutes : List LogLine → List Literal → List ℕ → Type 0
Refutes log set [] = ⊥
Refutes log set (id ∷ []) = (c : List Literal) × (clause_at log id ≡ Some c) × IsFalsified set c
Refutes log set (id ∷ next ∷ ids) =
    (c : List Literal) × (u : Literal) × (clause_at log id ≡ Some c) × IsUnit set c u ×
    Refutes log (set ++ u ∷ []) (next ∷ ids)

-- A line is accepted over the lines before it: its variables are distinct, and its hints refute
-- that all of its literals are false.
pub record Accepts (log : List LogLine) (line : LogLine) : Type 0 where
  pub distinct : HasDistinctVariables line.lits
  pub refuted : Refutes log (map negated line.lits) line.hints

-- an original clause: it has a literal and no variable twice, and no hints
pub record IsOriginal (line : LogLine) : Type 0 where
  pub nonempty : line.lits ≢ []
  pub distinct : HasDistinctVariables line.lits
  pub unhinted : line.hints ≡ []

-- what a line of this kind must be
abbrev pub IsOfKind : LineKind → List LogLine → LogLine → Type 0
IsOfKind Original log line = IsOriginal line
IsOfKind Conflict log line = Accepts log line
IsOfKind Final log line = Accepts log line

-- a line that may come next: an original clause, or one that is accepted
abbrev pub Follows : List LogLine → LogLine → Type 0
Follows log line = AreLiterals line.lits × IsOfKind line.kind log line

-- each line may come after those before it
abbrev pub AreLines : List LogLine → List LogLine → Type 0
AreLines before [] = Unit {0}
AreLines before (line ∷ lines) = Follows before line × AreLines (before ++ line ∷ []) lines

-- a log: each line may come after those before it
pub record IsLog (log : List LogLine) : Type 0 where
  pub lines : AreLines [] log

-- the clause that an original line gives
abbrev pub given : LineKind → List Literal → Option (List Literal)
given Original c = Some c
given Conflict c = None
given Final c = None

-- the original clauses of a log
abbrev pub originals : List LogLine → List (List Literal)
originals [] = []
originals (line ∷ lines) = option_to_list (given line.kind line.lits) ++ originals lines
