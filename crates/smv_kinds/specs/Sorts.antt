-- Kinds of expressions: which of them agree, and what two that agree make together.
use Rattle.std.specs.Prelude.{Bool, true, false, ◌&&◌, ◌==◌}
use Rattle.smv_kinds.specs.declared.sort.Sort.{Sort}
use Rattle.smv_kinds.specs.declared.sort.Sort.TheVariants.{Boolean, Integer, Symbolic, Mixed, Word, Instance}
use Rattle.smv_kinds.specs.declared.sort.TyWord.{TyWord}
use Rattle.smv_kinds.specs.declared.sort.TyWord.TheVariants as named
use Rattle.smv_kinds.specs.Intervals.{hull}

-- a kind as refusals name it
abbrev pub tyword : Sort → TyWord
tyword Boolean = named.Boolean
tyword (Integer i) = named.Integer
tyword Symbolic = named.Symbolic
tyword Mixed = named.Mixed
tyword (Word false width) = named.Word width
tyword (Word true width) = named.Signed width
tyword Instance = named.Instance

-- integers, symbols, or both
abbrev pub is_plain : Sort → Bool
is_plain (Integer i) = true
is_plain Symbolic = true
is_plain Mixed = true
is_plain _ = false

-- two kinds agree where they are equal, or both are among integer, symbolic and mixed; an instance agrees with none
abbrev pub agree : Sort → Sort → Bool
agree Boolean Boolean = true
agree (Word false m) (Word false n) = m == n
agree (Word true m) (Word true n) = m == n
agree a b = is_plain a && is_plain b

-- the kind of what has the values of both, where they agree: integers have the least interval that has both, and other than equal kinds are mixed
abbrev pub joined : Sort → Sort → Sort
joined (Integer a) (Integer b) = Integer (hull a b)
joined (Integer a) Symbolic = Mixed
joined (Integer a) Mixed = Mixed
joined Symbolic (Integer b) = Mixed
joined Symbolic Mixed = Mixed
joined a b = a
