-- What a session keeps of traces.
use Rattle.std.specs.Prelude.{ℕ, List, [], Option, None}
use Rattle.trace_store.specs.declared.entry.Entry.{Entry}

-- the traces by their numbers from 1, and the number of the one whose last state is the current one
pub record Stored : Type 0 where
  pub entries : List Entry
  pub current : Option ℕ

abbrev pub nothing_stored : Stored
nothing_stored = record { entries = []; current = None }
