-- How the clauses of a log are watched, and what that keeps while literals become true.
use Rattle.std.specs.Prelude.{◌≡◌, ◌≢◌, ◌<◌, ◌≤◌, ℕ, true, false, Some, List, [], ◌∷◌, ◌++◌, length, slice_index_or}
use Rattle.sat_log.specs.Literal.{Literal, negated}
use Rattle.sat_log.specs.Clause.{Among}
use Rattle.sat_log.specs.Accepted.{clause_at}
use Rattle.sat_log.specs.declared.line.LogLine.{LogLine}
use Rattle.sat_watch.specs.Watched.{Pair, Watched, pair_at, HasWatch, set_pair, Moves}
use Rattle.sat_trail.specs.Trail.{Trailed, literals, top, before, bottom, places}
use Rattle.sat_trail.specs.Units.{IsConflict}
use Rattle.sat_trail.specs.declared.trail.Entry.{Entry}
use Rattle.sat_propagation.specs.declared.propagation.Line.{Line}
use Rattle.sat_propagation.specs.declared.propagation.Visit.{Visit}
use Rattle.sat_propagation.specs.declared.propagation.Visit.TheVariants.{Kept, Moved, Conflict}

-- the watches, the line for which each watches, and how many entries of the trail were looked at
pub record Propagated : Type 0 where
  pub watched : Watched
  pub lines : List Line
  pub looked : ℕ

-- what stands for the line of a pair that there is not: none has the id 0
abbrev pub no_line : Line
no_line = record { id = 0; binary = false }

-- the line for which this one watches
abbrev pub line_of : Propagated → ℕ → Line
line_of p w = slice_index_or p.lines w no_line

-- its id: 0 where it watches for none
abbrev pub id_of : Propagated → ℕ → ℕ
id_of p w = (line_of p w).id

abbrev pub IsUsed : Propagated → ℕ → Type 0
IsUsed p w = (w < length p.watched.pairs) × (id_of p w ≢ 0)

-- where these literals are set, a clause that watches two may watch this one in place of one of
-- them: it is not false
pub record MayWatch (set : List Literal) (one other l : Literal) : Type 0 where
  pub not_one : l ≢ one
  pub not_other : l ≢ other
  pub not_false : ¬ Among set (negated l)

-- both literals stand in the clause of this line, and they are two; no other does where it is
-- binary
pub record StandsFor (log : List LogLine) (line : Line) (pair : Pair) : Type 0 where
  pub clause : List Literal
  pub named : clause_at log line.id ≡ Some clause
  pub stands : (l : Literal) → HasWatch pair l → Among clause l
  pub apart : pair.first ≢ pair.second
  pub whole : line.binary ≡ true → (l : Literal) → Among clause l → HasWatch pair l

abbrev pub AreStanding : List LogLine → Propagated → Type 0
AreStanding log p = (w : ℕ) → IsUsed p w → StandsFor log (line_of p w) (pair_at p.watched w)

-- In the trail as it stood when any level up to this one opened, the second literal is true where
-- the first is false: it became true no later.
abbrev pub IsBacked : ℕ → List Entry → Literal → Literal → Type 0
IsBacked most entries a b =
    (level : ℕ) → level ≤ most → Among (literals (before level entries)) (negated a) →
    Among (literals (before level entries)) b

-- Where the first is false in the part of the trail that was looked at, or in the trail as it stood
-- when a level opened, the second is true.
pub record Backs (part entries : List Entry) (a b : Literal) : Type 0 where
  pub earlier : IsBacked (top entries) entries a b
  pub now : Among (literals part) (negated a) → Among (literals entries) b

-- each of the two is so by the other
abbrev pub KeepsPair : List Entry → List Entry → Pair → Type 0
KeepsPair part entries pair =
    (a b : Literal) → HasWatch pair a → HasWatch pair b → a ≢ b → Backs part entries a b

-- the watch rule (Moskewicz and others 2001)
abbrev pub KeepsRule : List Entry → List Entry → Propagated → Type 0
KeepsRule part entries p = (w : ℕ) → IsUsed p w → KeepsPair part entries (pair_at p.watched w)

-- What holds between calls: there are lists for all variables, each pair stands in its clause, no
-- more of the trail was looked at than there is, and the watch rule holds.
pub record IsReady (log : List LogLine) (trail : Trailed) (p : Propagated) : Type 0 where
  pub lists : places trail.variables ≤ length p.watched.lists
  pub standing : AreStanding log p
  pub within : p.looked ≤ length trail.entries
  pub rule : KeepsRule (bottom p.looked trail.entries) trail.entries p

-- one of the pairs watches for the line of this id
pub record IsWatchedFor (p : Propagated) (id : ℕ) : Type 0 where
  pub watcher : ℕ
  pub used : IsUsed p watcher
  pub line : id_of p watcher ≡ id

-- as many pairs, for the same lines, and as many lists
pub record KeepsLines (old new : Propagated) : Type 0 where
  pub pairs : length new.watched.pairs ≡ length old.watched.pairs
  pub lines : new.lines ≡ old.lines
  pub lists : length new.watched.lists ≡ length old.watched.lists

-- one pair more, of this number, which watches for no line
pub record Adds (old new : Propagated) (first second : Literal) (w : ℕ) : Type 0 where
  pub number : w ≡ length old.watched.pairs
  pub pairs : new.watched.pairs ≡
      old.watched.pairs ++ record { first = first; second = second } ∷ []
  pub unused : id_of new w ≡ 0
  pub lines : (r : ℕ) → line_of new r ≡ line_of old r
  pub lists : length new.watched.lists ≡ length old.watched.lists
  pub looked : new.looked ≡ old.looked

-- the pair of this number watches for this line, and all else is as it was
pub record Serves (old new : Propagated) (w : ℕ) (line : Line) : Type 0 where
  pub line_is : line_of new w ≡ line
  pub others : (r : ℕ) → r ≢ w → line_of new r ≡ line_of old r
  pub watched : new.watched ≡ old.watched
  pub looked : new.looked ≡ old.looked

-- these entries are some of those
abbrev pub IsPart : List Entry → List Entry → Type 0
IsPart part entries = (l : Literal) → Among (literals part) l → Among (literals entries) l

-- the other literal that it watches is true
abbrev pub IsSettled : Propagated → List Entry → Literal → ℕ → Type 0
IsSettled p entries l w =
    id_of p w ≢ 0 → (k : Literal) → HasWatch (pair_at p.watched w) k → k ≢ l →
    Among (literals entries) k

-- so it is with each that watches the literal
abbrev pub AreSettled : Propagated → List Entry → Literal → Type 0
AreSettled p entries l =
    (w : ℕ) → w < length p.watched.pairs → HasWatch (pair_at p.watched w) l →
    IsSettled p entries l w

-- it watches another literal in place of this one
pub record MovesAway (old new : Propagated) (l : Literal) (w : ℕ) : Type 0 where
  pub to : Literal
  pub lists : Moves old.watched new.watched l to w
  pub pairs : new.watched.pairs ≡ set_pair old.watched.pairs w l to
  pub lines : new.lines ≡ old.lines
  pub looked : new.looked ≡ old.looked
  pub apart : to ≢ l

-- what comes of a visit of one that watches a literal which became false
abbrev pub VisitsTo : List LogLine → List Entry → Propagated → Propagated → Literal → ℕ → Visit →
    Type 0
VisitsTo log entries old new l w Kept = (new ≡ old) × IsSettled new entries l w
VisitsTo log entries old new l w Moved = MovesAway old new l w
VisitsTo log entries old new l w (Conflict id) = (new ≡ old) × IsConflict log (literals entries) id
