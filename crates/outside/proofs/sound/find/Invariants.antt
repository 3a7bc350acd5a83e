use Rattle.std.proofs.Common.{◌≡◌, drop}
use Rattle.outside.specs.Memory.{stored}
use Rattle.outside.proofs.sound.find.Given as goal

abbrev pub invariant-loop-held : goal.invariant-loop-held
invariant-loop-held l = stored (drop l.held-index l.files) l.name ≡ stored l.files l.name
