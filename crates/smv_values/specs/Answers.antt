-- Values that the program can hold, and what its answers say.
use Rattle.std.specs.Prelude.{◌^◌, ◌-◌, ℤ, pos, negsuc, Bool, true, ◌&&◌, nat_le, nat_lt, int_le, int_lt, if◌then◌else◌, List, [], ◌∷◌, Option, Some, None, Result, Ok, Err}
use Rattle.std.specs.List.{list_all}
use Rattle.smv_tree.specs.Word.{Word}
use Rattle.smv_tree.specs.declared.value.Value.{Value}
use Rattle.smv_tree.specs.declared.value.Value.TheVariants.{Truth, Int, Sym, Word as Bits}
use Rattle.smv_values.specs.declared.outcome.TooLarge.{TooLarge}

-- the integer has 64 bits
abbrev pub is_narrow : ℤ → Bool
is_narrow z = int_le (negsuc (2 ^ 63 - 1)) z && int_lt z (pos (2 ^ 63))

-- the word has at most 128 bits, and none beyond its width
abbrev pub is_sound : Word → Bool
is_sound w = nat_le w.width 128 && nat_lt w.bits (2 ^ w.width)

-- the program can hold the value
abbrev pub is_held : Value → Bool
is_held (Truth b) = true
is_held (Int z) = is_narrow z
is_held (Sym n) = true
is_held (Bits w) = is_sound w

-- the values, if the program can hold each
abbrev pub kept : List Value → Option (List Value)
kept vs = if list_all is_held vs then Some vs else None

-- what an answer says: the values that there are, or that the program cannot hold them
abbrev pub told : Result (Option Value) TooLarge → Option (List Value)
told (Ok (Some v)) = Some (v ∷ [])
told (Ok None) = Some []
told (Err e) = None
