-- A log, and its marks, through one more line.
use Rattle.std.proofs.Common.{◌≡◌, ◌≢◌, ℕ, ◌<◌, ◌≤◌, max, length, take, drop, ap, List, [], ◌∷◌, ◌++◌, refl, sym, subst, append_assoc, arith}
use Rattle.std.proofs.lemmas.List.{append-nil, take-append-drop}
use Rattle.sat_log.specs.Literal.{Literal}
use Rattle.sat_log.specs.Clause.{AreLiterals, HasDistinctVariables}
use Rattle.sat_log.specs.Accepted.{Accepts, IsOriginal, IsOfKind, Follows, AreLines, IsLog}
use Rattle.sat_log.specs.Marked.{Marked, HasRoomFor, HasRoomForAll, KeepsRoom}
use Rattle.sat_log.specs.Checking.{IsUpTo, AreUpTo, last_of, last_variable}
use Rattle.sat_log.specs.Lines.{KeepsLog}
use Rattle.sat_log.proofs.ListLemmas.{All-front}
use Rattle.sat_log.proofs.MarkLemmas.{clause_keeps}
use Rattle.sat_log.specs.declared.line.LineKind.{LineKind}
use Rattle.sat_log.specs.declared.line.LineKind.TheVariants.{Original, Conflict, Final}
use Rattle.sat_log.specs.declared.line.LogLine.{LogLine}

lines_push : (before lines : List LogLine) (line : LogLine) → AreLines before lines → Follows (before ++ lines) line → AreLines before (lines ++ line ∷ [])
lines_push before [] line h f =
    let follows : Follows before line = subst (λ log. Follows log line) (append-nil before) f in
    (follows, tt)
lines_push before (x ∷ lines) line h f =
    (h.0, lines_push (before ++ x ∷ []) lines line h.1 (subst (λ log. Follows log line) (sym (append_assoc before (x ∷ []) lines)) f))

pub log_push : (log : List LogLine) (line : LogLine) → IsLog log → Follows log line → IsLog (log ++ line ∷ [])
log_push log line h f = record { lines = lines_push [] log line h.lines f }

-- Lines are taken away.

pub lines_front : (before lines more : List LogLine) → AreLines before (lines ++ more) → AreLines before lines
lines_front before [] more h = tt
lines_front before (line ∷ lines) more h = (h.0, lines_front (before ++ line ∷ []) lines more h.1)

pub keeps_front : (log : List LogLine) (marks : Marked) (last last' n : ℕ) → KeepsLog log marks last → last' ≡ last_variable (take n log) → KeepsLog (take n log) marks last'
keeps_front log marks last last' n k greatest =
    let whole = sym (take-append-drop n log) in
    record {
      log = record { lines = lines_front [] (take n log) (drop n log) (subst (AreLines []) whole k.log.lines) };
      clear = k.clear;
      room = All-front (λ line. HasRoomFor marks line.lits) (take n log) (drop n log) (subst (HasRoomForAll marks) whole k.room);
      greatest = greatest;
    }

-- The greatest variable.

pub up_to_more : (m n : ℕ) (c : List Literal) → m ≤ n → IsUpTo m c → IsUpTo n c
up_to_more m n [] h u = tt
up_to_more m n (l ∷ c) h u =
    let first : l.var ≤ m = u.0 in
    (omega arith, up_to_more m n c h u.1)

pub all_up_to_more : (m n : ℕ) (log : List LogLine) → m ≤ n → AreUpTo m log → AreUpTo n log
all_up_to_more m n [] h u = tt
all_up_to_more m n (line ∷ log) h u = (up_to_more m n line.lits h u.0, all_up_to_more m n log h u.1)

up_to_last_of : (c : List Literal) → IsUpTo (last_of c) c
up_to_last_of [] = tt
up_to_last_of (l ∷ c) = (omega arith, up_to_more (last_of c) (max l.var (last_of c)) c (omega arith) (up_to_last_of c))

pub up_to_last : (log : List LogLine) → AreUpTo (last_variable log) log
up_to_last [] = tt
up_to_last (line ∷ log) =
    let most = max (last_of line.lits) (last_variable log) in
    (up_to_more (last_of line.lits) most line.lits (omega arith) (up_to_last_of line.lits), all_up_to_more (last_variable log) most log (omega arith) (up_to_last log))

last_push : (log : List LogLine) (line : LogLine) → last_variable (log ++ line ∷ []) ≡ max (last_of line.lits) (last_variable log)
last_push [] line = refl
last_push (x ∷ log) line = omega (arith, last_push log line)

-- what is accepted and no original may come next
pub accepted_follows : (log : List LogLine) (line : LogLine) → AreLiterals line.lits → line.kind ≢ Original → Accepts log line → Follows log line
accepted_follows log line literals other a = (literals, of_kind line.kind other)
  where
    of_kind : (kind : LineKind) → kind ≢ Original → IsOfKind kind log line
    of_kind Original other = absurd (other refl)
    of_kind Conflict other = a
    of_kind Final other = a

all_keep : (old new : Marked) (log : List LogLine) → KeepsRoom old new → HasRoomForAll old log → HasRoomForAll new log
all_keep old new [] keeps h = tt
all_keep old new (line ∷ log) keeps h =
    (clause_keeps old new line.lits keeps h.0, all_keep old new log keeps h.1)

all_room_push : (marks : Marked) (log : List LogLine) (line : LogLine) → HasRoomForAll marks log → HasRoomFor marks line.lits → HasRoomForAll marks (log ++ line ∷ [])
all_room_push marks [] line h r = (r, tt)
all_room_push marks (x ∷ log) line h r = (h.0, all_room_push marks log line h.1 r)

-- the marks were given more room
pub keeps_room : (log : List LogLine) (old new : Marked) (last : ℕ) → KeepsLog log old last → new.set ≡ [] → KeepsRoom old new → KeepsLog log new last
keeps_room log old new last k clear keeps =
    record { log = k.log; clear = clear; room = all_keep old new log keeps k.room; greatest = k.greatest }

-- a line was appended that may come next
pub keeps_push : (log : List LogLine) (line : LogLine) (old new : Marked) (last most last' : ℕ) → KeepsLog log old last → new.set ≡ [] → KeepsRoom old new → Follows log line → HasRoomFor new line.lits → most ≡ last_of line.lits → last' ≡ max most last → KeepsLog (log ++ line ∷ []) new last'
keeps_push log line old new last most last' k clear keeps follows room same greatest =
    record {
      log = log_push log line k.log follows;
      clear = clear;
      room = all_room_push new log line (all_keep old new log keeps k.room) room;
      greatest = omega (arith, last_push log line, same, greatest, k.greatest);
    }

-- a line with a literal, no variable twice and no hint is an original
pub is_original : (line : LogLine) → 0 < length line.lits → length line.hints ≤ 0 → HasDistinctVariables line.lits → IsOriginal line
is_original line some none distinct =
    record { nonempty = (λ e. has_some (ap length e)); distinct = distinct; unhinted = no_hints line.hints none }
  where
    has_some : length line.lits ≡ 0 → ⊥
    has_some e = omega arith

    no_hints : (hints : List ℕ) → length hints ≤ 0 → hints ≡ []
    no_hints [] h = refl
    no_hints (x ∷ hints) h = absurd (omega arith)

-- and may come next
pub original_follows : (log : List LogLine) (line : LogLine) → AreLiterals line.lits → line.kind ≡ Original → IsOriginal line → Follows log line
original_follows log line literals kind proper = (literals, subst (λ k. IsOfKind k log line) (sym kind) proper)
