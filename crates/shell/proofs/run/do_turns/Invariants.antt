use Rattle.std.proofs.Common.{◌≤◌, ◌-◌}
use Rattle.shell_world.proofs.Performing.{Completes}
use Rattle.shell_world.specs.Scenes.{at}
use Rattle.shell.specs.Sessions.{Turns}
use Rattle.shell.proofs.run.do_turns.Given as goal

-- what does the turns that are left does all of them
abbrev pub invariant-loop-alloc : goal.invariant-loop-alloc
invariant-loop-alloc g l = record {
  completes : Completes (Turns l.fn.prompts l.count) (at l.state (g.W.Outside.told l.world)) (Turns l.fn.prompts 0) (at l.fn.state (g.W.Outside.told l.fn.world));
  past : l.state.past.count ≤ l.count;
  most : l.count ≤ 1000000;
}

abbrev pub decreases-loop-alloc : goal.decreases-loop-alloc
decreases-loop-alloc g l = 1000001 - l.count
