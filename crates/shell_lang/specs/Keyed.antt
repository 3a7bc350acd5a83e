-- Entries under names, in the byte order of the names: variables with their values, aliases with
-- their words.
use Rattle.std.specs.Prelude.{ℕ, List, Option}
use Rattle.std.specs.Ordering.{nat_cmp}
use Rattle.std.specs.Cmp.Lexicographic.{slice_cmp}
use Rattle.std.specs.Map.{lookup, remove_entry}
use Rattle.std.specs.BTreeMap.{insert_entry, is_at}

-- what stands under the name
abbrev pub at_name : {X : Type 0} → List (List ℕ × X) → List ℕ → Option X
at_name entries name = lookup (is_at (slice_cmp nat_cmp name)) entries

-- the entries, with x under the name
abbrev pub with_name : {X : Type 0} → List (List ℕ × X) → List ℕ → X → List (List ℕ × X)
with_name entries name x = insert_entry (slice_cmp nat_cmp) entries name x

-- the entries without the name
abbrev pub without_name : {X : Type 0} → List (List ℕ × X) → List ℕ → List (List ℕ × X)
without_name entries name = remove_entry (is_at (slice_cmp nat_cmp name)) entries
