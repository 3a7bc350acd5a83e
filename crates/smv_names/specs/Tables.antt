-- What the items of a module declare: a list of names, of which the first of a name counts.
use Rattle.std.specs.Prelude.{◌≡◌, ℕ, ◌+◌, List, [], ◌∷◌, ◌++◌}
use Rattle.std.specs.Map.{lookup}
use Rattle.std.specs.Str.{bytes_eq}
use Rattle.smv_tree.specs.Models.{Part, variable, define, plain, instance}
use Rattle.smv_names.specs.declared.declared.Declared.{Declared}
use Rattle.smv_names.specs.declared.declared.Declared.TheVariants.{Variable, Instance, Define}

-- how many defines an item is
abbrev pub defines_of : Part → ℕ
defines_of (define n p e) = 1
defines_of _ = 0

-- the name of an item of this number, before which so many defines stand
abbrev pub part_entry : ℕ → ℕ → Part → List (List ℕ × Declared)
part_entry k r (variable kind n p (plain type q)) = (n, Variable k) ∷ []
part_entry k r (variable kind n p (instance m q es)) = (n, Instance k) ∷ []
part_entry k r (define n p e) = (n, Define k r) ∷ []
part_entry k r _ = []

-- items from this number on, before which so many defines stand
abbrev pub part_entries : ℕ → ℕ → List Part → List (List ℕ × Declared)
part_entries k r [] = []
part_entries k r (part ∷ parts) = part_entry k r part ++ part_entries (k + 1) (r + defines_of part) parts

-- two lists make the same of each name
abbrev pub AreSame : List (List ℕ × Declared) → List (List ℕ × Declared) → Type 0
AreSame xs ys = (m : List ℕ) → lookup (bytes_eq m) xs ≡ lookup (bytes_eq m) ys
