-- Which fault of a list is the first.
use Rattle.std.specs.Prelude.{◌≡◌, ℕ, zero, ◌==◌, nat_lt, Bool, IsTrue, not, ◌&&◌, ◌||◌, if◌then◌else◌, List, [], ◌∷◌, ◌++◌, All, Option, Some, None}
use Rattle.smv_tree.specs.declared.place.Place.{Place}
use Rattle.type_fault.specs.declared.fault.TypeFault.{TypeFault}
use Rattle.type_fault.specs.Faults.{number_of, place_of}

-- a place is before another: on an earlier line, or on the same line in an earlier column
abbrev pub is_before : Place → Place → Bool
is_before p q = nat_lt p.line q.line || ((p.line == q.line) && nat_lt p.column q.column)

-- what has no place counts as before all places
abbrev pub site : Option Place → Place
site None = record { line = 0; column = 0 }
site (Some p) = p

-- a fault goes before another: at an earlier place, or at the same place with a smaller number
unfoldable pub goes_before : TypeFault → TypeFault → Bool
goes_before f g =
    let p = site (place_of f) in
    let q = site (place_of g) in
    is_before p q || (not (is_before q p) && nat_lt (number_of f) (number_of g))

-- The first fault of a list: it goes before each that is listed before it, and none that is listed behind it
-- goes before it. So of those with one place and one number the first that is listed is taken.
pub record IsFirst (faults : List TypeFault) (f : TypeFault) : Type 0 where
  pub front : List TypeFault
  pub rest : List TypeFault
  pub listed : faults ≡ front ++ f ∷ rest
  pub before_front : All (λ g. IsTrue (goes_before f g)) front
  pub before_rest : All (λ g. IsTrue (not (goes_before g f))) rest

-- the first of two, of which the former is listed before the latter
abbrev pub earlier_of : TypeFault → TypeFault → TypeFault
earlier_of f g = if goes_before g f then g else f

abbrev pub earlier : Option TypeFault → Option TypeFault → Option TypeFault
earlier None g = g
earlier (Some f) None = Some f
earlier (Some f) (Some g) = Some (earlier_of f g)

-- the first fault of a list, if it has one
unfoldable pub earliest : List TypeFault → Option TypeFault
earliest [] = None
earliest (f ∷ fs) = earlier (Some f) (earliest fs)
