use Rattle.std.proofs.Common.{◌≡◌, replicate, None}
use Rattle.cmd_table.proofs.given.OptTexts.none.Given as goal

abbrev pub invariant-loop-place : goal.invariant-loop-place
invariant-loop-place l = l.texts.items ≡ replicate l._place None
