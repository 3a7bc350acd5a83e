-- The way from a stated value to that of the definitions.
use Rattle.smv_meaning.specs.Marks.{Stated}
use Rattle.smv_flat.specs.declared.stated.StatedValue.{StatedValue}

abbrev pub stated_of : StatedValue → Stated
stated_of s = record { variable = s.variable; value = s.value }
