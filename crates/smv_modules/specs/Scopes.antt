-- Declarations one after the other.
use Rattle.std.specs.Prelude.{ℕ, List, [], ◌∷◌, ◌++◌, Option, Some, None, if◌then◌else◌}
use Rattle.std.specs.List.{list_any}
use Rattle.std.specs.Str.{bytes_eq}
use Rattle.type_fault.specs.declared.fault.TypeFault.{TypeFault}
use Rattle.type_fault.specs.declared.fault.TypeFault.TheVariants.{Twice}
use Rattle.type_fault.specs.First.{earlier}
use Rattle.smv_modules.specs.Declarations.{Declaration}

-- the names that were declared, each once, and the first fault so far
pub record Seen : Type 0 where
  pub names : List (List ℕ)
  pub first : Option TypeFault

abbrev pub nothing_seen : Seen
nothing_seen = record { names = []; first = None }

-- one more declaration
abbrev pub see : Seen → Declaration → Seen
see s d =
    if list_any (bytes_eq d.name) s.names
    then record { names = s.names; first = earlier s.first (Some (Twice d.place d.name)) }
    else record { names = s.names ++ d.name ∷ []; first = s.first }
