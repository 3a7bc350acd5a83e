-- What a solver's conflict lines are beyond accepted: fresh, needed and drawn.
use Rattle.std.specs.Prelude.{◌≡◌, ◌≢◌, ◌⊎◌, ℕ, Option, Some, None, List, [], ◌∷◌, ◌++◌, map, option_to_list}
use Rattle.std.specs.List.{AllByRecursion}
use Rattle.sat_log.specs.Literal.{Literal, negated}
use Rattle.sat_log.specs.Clause.{Among, IsUnset, IsUnit}
use Rattle.sat_log.specs.Accepted.{clause_at}
use Rattle.sat_log.specs.Clauses.{clauses}
use Rattle.sat_log.specs.declared.line.LineKind.{LineKind}
use Rattle.sat_log.specs.declared.line.LineKind.TheVariants.{Original, Conflict, Final}
use Rattle.sat_log.specs.declared.line.LogLine.{LogLine}

-- each literal of the first is one of the second, so that where the first is true the second is
abbrev pub Subsumes : List Literal → List Literal → Type 0
Subsumes c d = AllByRecursion (Among d) c

-- no clause before it has all its literals in the line
abbrev pub IsFresh : List (List Literal) → List Literal → Type 0
IsFresh before c = AllByRecursion (λ earlier. ¬ Subsumes earlier c) before

-- no literal is set together with its negation
abbrev pub IsConsistent : List Literal → Type 0
IsConsistent set = (l : Literal) → Among set l → ¬ Among set (negated l)

-- a literal of the clause is set
pub record IsTrueUnder (set c : List Literal) : Type 0 where
  pub literal : Literal
  pub stands : Among c literal
  pub is_set : Among set literal

-- two literals of the clause are unset
pub record HasTwoUnset (set c : List Literal) : Type 0 where
  pub first : Literal
  pub second : Literal
  pub apart : first ≢ second
  pub first_stands : Among c first
  pub second_stands : Among c second
  pub first_unset : IsUnset set first
  pub second_unset : IsUnset set second

-- Some literal u of the line is missed by no unit: where all its other literals are false, and u is
-- unset, each clause before is true or has two unset literals.
pub record IsNeededAt (before : List (List Literal)) (c : List Literal) : Type 0 where
  pub asserted : Literal
  pub set : List Literal
  pub stands : Among c asserted
  pub consistent : IsConsistent set
  pub others_false : (l : Literal) → Among c l → l ≢ asserted → Among set (negated l)
  pub unset : IsUnset set asserted
  pub no_unit : AllByRecursion (λ earlier. IsTrueUnder set earlier ⊎ HasTwoUnset set earlier) before

-- the empty line is needed where no clause before is empty, any other where it is at some literal
abbrev pub IsNeeded : List (List Literal) → List Literal → Type 0
IsNeeded before [] = AllByRecursion (λ earlier. earlier ≢ []) before
IsNeeded before (l ∷ c) = IsNeededAt before (l ∷ c)

-- one of the hints names a clause with this literal
abbrev pub StandsInSome : List LogLine → List ℕ → Literal → Type 0
StandsInSome log [] l = ⊥
StandsInSome log (id ∷ ids) l =
    ((c : List Literal) × (clause_at log id ≡ Some c) × Among c l) ⊎ StandsInSome log ids l

-- what each hint but the last sets has its negation in a later hint
abbrev pub EachIsUsed : List LogLine → List Literal → List ℕ → Type 0
EachIsUsed log set [] = Unit {0}
EachIsUsed log set (id ∷ []) = Unit {0}
EachIsUsed log set (id ∷ next ∷ ids) =
    (c : List Literal) × (u : Literal) × (clause_at log id ≡ Some c) × IsUnit set c u ×
    StandsInSome log (next ∷ ids) (negated u) × EachIsUsed log (set ++ u ∷ []) (next ∷ ids)

-- A line is drawn from its hints: each of its literals stands in one of them, and each literal that
-- they set on the way to the conflict is used by a later one.
pub record IsDrawn (log : List LogLine) (line : LogLine) : Type 0 where
  pub literals : AllByRecursion (StandsInSome log line.hints) line.lits
  pub used : EachIsUsed log (map negated line.lits) line.hints

-- What a log has learned since some place: the conflict lines among the lines that it gained.

-- the clause that a conflict line gives
abbrev pub learned : LineKind → List Literal → Option (List Literal)
learned Original c = None
learned Conflict c = Some c
learned Final c = None

-- the clauses of the conflict lines
abbrev pub conflict_clauses : List LogLine → List (List Literal)
conflict_clauses [] = []
conflict_clauses (line ∷ lines) =
    option_to_list (learned line.kind line.lits) ++ conflict_clauses lines

-- a conflict line is fresh; nothing is asked of lines of other kinds
abbrev pub IsFreshOfKind : LineKind → List LogLine → List Literal → Type 0
IsFreshOfKind Original log c = Unit {0}
IsFreshOfKind Conflict log c = IsFresh (clauses log) c
IsFreshOfKind Final log c = Unit {0}

-- each conflict line that was gained is fresh over the clauses before it
abbrev pub AllFresh : List LogLine → List LogLine → Type 0
AllFresh before [] = Unit {0}
AllFresh before (line ∷ gained) = IsFreshOfKind line.kind before line.lits ×
    AllFresh (before ++ line ∷ []) gained
