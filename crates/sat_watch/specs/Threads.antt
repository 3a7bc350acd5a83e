-- How the lists are kept: the first clause of each, and in the record of each clause two links.
use Rattle.std.specs.Prelude.{◌≡◌, ◌≢◌, ◌⊎◌, ◌==◌, ◌<◌, ◌+◌, ℕ, zero, suc, Option, None, Some, if◌then◌else◌, List, [], ◌∷◌, length, map, slice_index_or}
use Rattle.std.specs.List.{AllByRecursion}
use Rattle.sat_log.specs.Packing.{packed}
use Rattle.sat_watch.specs.Watched.{Pair, Watched, no_pair, IsAmong, AreDistinct}
use Rattle.sat_watch.specs.declared.record.Watch.{Watch}
use Rattle.sat_watch.specs.declared.record.Record.{Record}

-- what stands for the record of a clause that there is not
abbrev pub no_record : Record
no_record = record {
  first = record { literal = no_pair.first; next = None };
  second = record { literal = no_pair.second; next = None };
}

abbrev pub record_at : List Record → ℕ → Record
record_at records c = slice_index_or records c no_record

-- The link of a record in the list of the literal at this place, where it watches it.
abbrev pub link : ℕ → Record → Option ℕ
link p r = if packed r.first.literal == p then r.first.next else r.second.next

-- the record with another link there
abbrev pub relinked : ℕ → Option ℕ → Record → Record
relinked p next r =
    if packed r.first.literal == p
    then record { first = record { literal = r.first.literal; next = next }; second = r.second }
    else record { first = r.first; second = record { literal = r.second.literal; next = next } }

-- the record with another watch in place of that of the literal at this place
abbrev pub exchanged : ℕ → Watch → Record → Record
exchanged p watch r =
    if packed r.first.literal == p then record { first = watch; second = r.second }
    else record { first = r.first; second = watch }

-- the links in the list of the literal at this place
abbrev pub links : List Record → ℕ → ℕ → Option ℕ
links records p c = link p (record_at records c)

-- the clauses from a link on, up to so many
abbrev pub chain : (ℕ → Option ℕ) → ℕ → Option ℕ → List ℕ
chain next zero start = []
chain next (suc n) None = []
chain next (suc n) (Some c) = c ∷ chain next n (next c)

-- the lists of the literals from this place on
abbrev pub lists_from : ℕ → List Record → List (Option ℕ) → List (List ℕ)
lists_from p records [] = []
lists_from p records (head ∷ heads) =
    chain (links records p) (length records) head ∷ lists_from (p + 1) records heads

abbrev pub pair_of : Record → Pair
pair_of r = record { first = r.first.literal; second = r.second.literal }

-- what contracts see
abbrev pub watched_in : List (Option ℕ) → List Record → Watched
watched_in heads records =
    record { pairs = map pair_of records; lists = lists_from 0 records heads }

-- the links lead from the start through these clauses to the end
abbrev pub IsChain : (ℕ → Option ℕ) → Option ℕ → List ℕ → Type 0
IsChain next start [] = start ≡ None
IsChain next start (c ∷ clauses) = (start ≡ Some c) × IsChain next (next c) clauses

-- a clause watches the literal at this place
abbrev pub WatchesAt : ℕ → Record → Type 0
WatchesAt p r = (packed r.first.literal ≡ p) ⊎ (packed r.second.literal ≡ p)

-- The links of the literal at this place lead through exactly the clauses that watch it, each once.
pub record IsThread (records : List Record) (p : ℕ) (start : Option ℕ)
    (clauses : List ℕ) : Type 0 where
  pub leads : IsChain (links records p) start clauses
  pub each : (c : ℕ) → c < length records → WatchesAt p (record_at records c) → IsAmong clauses c
  pub only : AllByRecursion (λ c. (c < length records) × WatchesAt p (record_at records c)) clauses
  pub once : AreDistinct clauses

-- the clause watches two literals, both at places below this
pub record IsRecord (places : ℕ) (r : Record) : Type 0 where
  pub first : packed r.first.literal < places
  pub second : packed r.second.literal < places
  pub apart : packed r.first.literal ≢ packed r.second.literal

-- so does each record, and there is a thread for each literal
pub record KeepsWatches (heads : List (Option ℕ)) (records : List Record) : Type 0 where
  pub threads : (p : ℕ) → p < length heads →
      (clauses : List ℕ) × IsThread records p (slice_index_or heads p None) clauses
  pub records_are : (c : ℕ) → c < length records → IsRecord (length heads) (record_at records c)
