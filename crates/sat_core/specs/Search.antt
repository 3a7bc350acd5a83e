-- What a search keeps between its steps.
use Rattle.std.specs.Prelude.{◌≡◌, ◌⊎◌, ◌<◌, ◌≤◌, ℕ, None, Some, List, [], ◌∷◌, ◌++◌, length, take}
use Rattle.std.specs.List.{AllByRecursion}
use Rattle.sat_log.specs.Literal.{Literal, negated}
use Rattle.sat_log.specs.Clause.{Among}
use Rattle.sat_log.specs.Accepted.{Accepts}
use Rattle.sat_log.specs.Clauses.{clauses}
use Rattle.sat_log.specs.Learned.{IsNeeded, IsDrawn}
use Rattle.sat_log.specs.Checking.{AreUpTo}
use Rattle.sat_log.specs.declared.line.LineKind.TheVariants.{Conflict, Final}
use Rattle.sat_log.specs.declared.line.LogLine.{LogLine}
use Rattle.sat_core.specs.Assignment.{IsSolution}
use Rattle.sat_core.specs.Gained.{AreLearned}
use Rattle.sat_trail.specs.Trail.{Trailed, literals, top}
use Rattle.sat_trail.specs.Units.{IsTrail, MissesNoUnit}
use Rattle.sat_analysis.specs.Analysis.{Analyzed, IsUnmarked, IsAsserted, AreNegationsOf}
use Rattle.sat_trail.specs.declared.trail.Entry.{Entry}
use Rattle.sat_core.specs.declared.decide.Decision.{Decision}
use Rattle.sat_core.specs.declared.search.Step.{Step}
use Rattle.sat_core.specs.declared.search.Step.TheVariants.{Learned, Decided, Yes, No}
use Rattle.sat_core.specs.declared.decide.Decision.TheVariants.{Made, False, Complete}

-- how many variables there are, the log, the entries of the trail, the clauses of how many lines
-- are attached, and how many entries propagation has looked at
pub record Searched : Type 0 where
  pub variables : ℕ
  pub log : List LogLine
  pub entries : List Entry
  pub attached : ℕ
  pub looked : ℕ

-- The log has only variables that exist, each entry of the trail has its cause, no unit was missed
-- where a level opened, and nothing is marked.
pub record KeepsSearch (log : List LogLine) (trail : Trailed) (analysis : Analyzed) : Type 0 where
  pub exist : AreUpTo trail.variables log
  pub trail_is : IsTrail log trail.entries
  pub quiet : MissesNoUnit log trail.entries
  pub clear : IsUnmarked analysis.seen
  pub size : trail.variables < length analysis.seen

-- Between two questions no level is open, and each conflict line of the log was learned.
pub record IsAtRest (search : Searched) : Type 0 where
  pub level : top search.entries ≡ 0
  pub learned : AreLearned [] search.log

-- all of these literals are true
abbrev pub AreAmong : List Literal → List Literal → Type 0
AreAmong set c = AllByRecursion (Among set) c

-- Each decision is wanted, or was made when all that is wanted was true.
abbrev pub AskedFirst : List Literal → List Entry → Type 0
AskedFirst want [] = Unit {0}
AskedFirst want (e ∷ entries) =
    (e.reason ≡ None → Among want e.literal ⊎ AreAmong (literals entries) want) ×
    AskedFirst want entries

-- what comes of looking for a decision
abbrev pub IsDecided : List Literal → List Entry → Decision → Type 0
IsDecided want entries Made = Unit {0}
IsDecided want entries (False l) = Among want l × Among (literals entries) (negated l)
IsDecided want entries Complete = AreAmong (literals entries) want

-- The log gained one conflict line, which is needed and drawn.
pub record AddsLearned (old new : List LogLine) : Type 0 where
  pub line : LogLine
  pub same : new ≡ old ++ line ∷ []
  pub kind : line.kind ≡ Conflict
  pub needed : IsNeeded (clauses old) line.lits
  pub drawn : IsDrawn old line

-- The log gained one final line, over negations of what is wanted.
pub record AddsFinal (want : List Literal) (old new : List LogLine) : Type 0 where
  pub line : LogLine
  pub same : new ≡ old ++ line ∷ []
  pub kind : line.kind ≡ Final
  pub accepted : Accepts old line
  pub literals_are : AreNegationsOf want line.lits

-- what comes of a step of a search
abbrev pub StepsTo : List Literal → Searched → Searched → Step → Type 0
StepsTo want old new Learned = AddsLearned old.log new.log
StepsTo want old new Decided = (new.log ≡ old.log) × (length old.entries < length new.entries) ×
    (length new.entries ≤ new.variables)
StepsTo want old new (Yes bits) = (new.log ≡ old.log) × IsSolution new.variables new.log want bits
StepsTo want old new (No id) = (id ≡ length new.log) × AddsFinal want old.log new.log

-- all clauses are attached, and the first of these literals, up to this number, are true
abbrev pub MayStep : List Literal → ℕ → Searched → Type 0
MayStep want asked new =
    (new.attached ≡ length new.log) × AreAmong (literals new.entries) (take asked want)

-- where a search goes on after a step, it may
abbrev pub GoesOn : List Literal → ℕ → Searched → Step → Type 0
GoesOn want asked new Learned = MayStep want asked new
GoesOn want asked new Decided = MayStep want asked new
GoesOn want asked new (Yes bits) = Unit {0}
GoesOn want asked new (No id) = Unit {0}

-- The latest literal is the first one of the clause of this id, which implies it: before it all
-- other literals of the clause are false, and it is unset.
abbrev pub HasAsserted : List Entry → List Literal → ℕ → Type 0
HasAsserted [] lits id = ⊥
HasAsserted (e ∷ entries) [] id = ⊥
HasAsserted (e ∷ entries) (u ∷ others) id =
    (e.literal ≡ u) × (e.reason ≡ Some id) × IsAsserted (literals entries) (u ∷ others)
