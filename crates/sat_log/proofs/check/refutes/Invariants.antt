use Rattle.std.proofs.Common.{◌≡◌, drop}
use Rattle.sat_log.specs.Checking.{refutes}
use Rattle.sat_log.proofs.check.refutes.Given as goal

abbrev pub invariant-loop-i : goal.invariant-loop-i
invariant-loop-i l = record {
  rest : refutes l.lines l.marks.set (drop l.i l.hints) ≡ refutes l.lines l.initial.marks.set l.hints;
  room : l.marks.room ≡ l.initial.marks.room;
  far : l.marks.far ≡ l.initial.marks.far;
}
