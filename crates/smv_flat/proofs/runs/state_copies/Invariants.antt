use Rattle.std.proofs.Common.{◌≡◌, take}
use Rattle.smv_flat.proofs.runs.state_copies.Given as goal

abbrev pub invariant-loop-state : goal.invariant-loop-state
invariant-loop-state l = l.all.items ≡ take l.state-index l.states
