-- The number of a fault, and the place that it names.
use Rattle.std.specs.Prelude.{ℕ, Option, Some, None}
use Rattle.smv_tree.specs.declared.place.Place.{Place}
use Rattle.type_fault.specs.declared.fault.TypeFault.{TypeFault}
use Rattle.type_fault.specs.declared.fault.TypeFault.TheVariants as faults

abbrev pub number_of : TypeFault → ℕ
number_of faults.NoMain = 201
number_of (faults.Twice p n) = 202
number_of (faults.Unknown p n) = 203
number_of (faults.Arity p) = 204
number_of (faults.Operands p a b) = 205
number_of (faults.SetHere p) = 206
number_of (faults.NextHere p) = 207
number_of (faults.InputHere p n) = 208
number_of (faults.Assigned p n) = 209
number_of (faults.FrozenAssigned p n) = 210
number_of (faults.Reversed p) = 211
number_of (faults.Width p) = 212
number_of (faults.Interval p z) = 213
number_of (faults.Contains p ns) = 214
number_of (faults.DefineCycle p ns) = 215
number_of faults.Instances = 216
number_of (faults.Deep n) = 217
number_of (faults.NoMemory e) = 900

-- a text without a module `main` lacks it at its start; instances that are too many or too deep have no place
abbrev pub place_of : TypeFault → Option Place
place_of faults.NoMain = Some (record { line = 1; column = 1 })
place_of (faults.Twice p n) = Some p
place_of (faults.Unknown p n) = Some p
place_of (faults.Arity p) = Some p
place_of (faults.Operands p a b) = Some p
place_of (faults.SetHere p) = Some p
place_of (faults.NextHere p) = Some p
place_of (faults.InputHere p n) = Some p
place_of (faults.Assigned p n) = Some p
place_of (faults.FrozenAssigned p n) = Some p
place_of (faults.Reversed p) = Some p
place_of (faults.Width p) = Some p
place_of (faults.Interval p z) = Some p
place_of (faults.Contains p ns) = Some p
place_of (faults.DefineCycle p ns) = Some p
place_of faults.Instances = None
place_of (faults.Deep n) = None
place_of (faults.NoMemory e) = None
