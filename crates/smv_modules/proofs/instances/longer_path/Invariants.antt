use Rattle.std.proofs.Common.{◌≡◌, take}
use Rattle.smv_modules.proofs.instances.longer_path.Given as goal

abbrev pub invariant-loop-one : goal.invariant-loop-one
invariant-loop-one l = l.names.items ≡ take l.one-index l.path
