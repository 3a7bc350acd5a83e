use Rattle.std.proofs.Common.{◌≡◌, ◌++◌, take, drop, map}
use Rattle.sat_log.specs.Literal.{negated}
use Rattle.sat_log.specs.Checking.{can_assume}
use Rattle.sat_log.proofs.check.assume_false.Given as goal

abbrev pub invariant-loop-literal : goal.invariant-loop-literal
invariant-loop-literal l = record {
  rest : can_assume l.marks.set (drop l.literal-index l.literals) ≡ can_assume l.initial.marks.set l.literals;
  so_far : l.marks.set ≡ l.initial.marks.set ++ map negated (take l.literal-index l.literals);
  room : l.marks.room ≡ l.initial.marks.room;
  far : l.marks.far ≡ l.initial.marks.far;
}
