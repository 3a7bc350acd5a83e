use Rattle.std.proofs.Common.{take}
use Rattle.outside.proofs.WriteLemmas.{HasWritten}
use Rattle.type_fault.specs.Texts.{paths_behind}
use Rattle.type_fault.proofs.print.put_paths_behind.Given as goal

-- the paths so far are written
abbrev pub invariant-loop-path : goal.invariant-loop-path
invariant-loop-path g l = HasWritten (paths_behind (take l.path-index l.paths)) (g.S.Sink.told l.initial.out) (g.S.Sink.told l.out)
