-- How a line is checked, as functions on lists: the code equals them, and they decide what is
-- accepted.
use Rattle.std.specs.Prelude.{◌≡◌, ◌≤◌, max, ◌&&◌, ◌||◌, ℕ, Bool, true, false, if◌then◌else◌, Option, Some, None, List, [], ◌∷◌, ◌++◌, map}
use Rattle.std.specs.List.{AllByRecursion}
use Rattle.sat_log.specs.Literal.{Literal, negated}
use Rattle.sat_log.specs.Packing.{packed}
use Rattle.sat_log.specs.Marked.{Marked, HasPlace, is_numbered}
use Rattle.sat_log.specs.Accepted.{clause_at}
use Rattle.sat_log.specs.declared.line.LogLine.{LogLine}
use Rattle.sat_log.specs.declared.marks.Look.{Look}
use Rattle.sat_log.specs.declared.marks.Look.TheVariants.{Falsified, Propagates, Unresolved}

-- whether the literal is set
abbrev pub is_set : List Literal → Literal → Bool
is_set set l = is_numbered set (packed l)

-- whether the literals can be set false one after another, none of their variables being set
abbrev pub can_assume : List Literal → List Literal → Bool
can_assume set [] = true
can_assume set (l ∷ c) = if is_set set l || is_set set (negated l) then false
    else can_assume (set ++ negated l ∷ []) c

-- a look at what is left of a clause, after one literal that is unset
abbrev pub look_on : List Literal → Literal → List Literal → Look
look_on set u [] = Propagates u
look_on set u (l ∷ c) = if is_set set (negated l) then look_on set u c else Unresolved

-- a look at a clause: false, unit, or neither
abbrev pub look : List Literal → List Literal → Look
look set [] = Falsified
look set (l ∷ c) = if is_set set (negated l) then look set c
    else (if is_set set l then Unresolved else look_on set l c)

-- a look at a clause, if there is one
abbrev pub look_if : List Literal → Option (List Literal) → Look
look_if set None = Unresolved
look_if set (Some c) = look set c

-- what follows a look: the hints' end, the next hint, or no refutation
abbrev pub after_look : Look → Bool → (Literal → Bool) → Bool
after_look Falsified ends next = ends
after_look (Propagates u) ends next = next u
after_look Unresolved ends next = false

-- whether no hint is left
abbrev pub is_end : List ℕ → Bool
is_end [] = true
is_end (id ∷ ids) = false

-- whether the hints refute what is set
abbrev pub refutes : List LogLine → List Literal → List ℕ → Bool
refutes log set [] = false
refutes log set (id ∷ ids) =
    after_look (look_if set (clause_at log id)) (is_end ids) (λ u. refutes log (set ++ u ∷ []) ids)

-- whether the log accepts the line
abbrev pub accepts : List LogLine → LogLine → Bool
accepts log line = can_assume [] line.lits && refutes log (map negated line.lits) line.hints

-- no literal is of a variable past this one
abbrev pub IsUpTo : ℕ → List Literal → Type 0
IsUpTo most c = AllByRecursion (λ l. l.var ≤ most) c

-- no line has one
abbrev pub AreUpTo : ℕ → List LogLine → Type 0
AreUpTo most log = AllByRecursion (λ line. IsUpTo most line.lits) log

-- the greatest variable of the literals, or 0
abbrev pub last_of : List Literal → ℕ
last_of [] = 0
last_of (l ∷ c) = max l.var (last_of c)

-- the greatest variable of the lines, or 0
abbrev pub last_variable : List LogLine → ℕ
last_variable [] = 0
last_variable (line ∷ log) = max (last_of line.lits) (last_variable log)

-- what a look says of the marks: a literal that a clause propagates is unset, and there is room for
-- it
abbrev pub LooksWithin : Marked → Look → Type 0
LooksWithin marks Falsified = Unit {0}
LooksWithin marks (Propagates u) =
    HasPlace marks.room marks.far u.var × (is_set marks.set u ≡ false)
LooksWithin marks Unresolved = Unit {0}
