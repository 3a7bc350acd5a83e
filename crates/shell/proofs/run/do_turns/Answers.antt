use Rattle.std.proofs.Common.{arith}
use Rattle.shell_world.specs.Scenes.{goes_on}
use Rattle.shell_world.proofs.Performing.{begun}
use Rattle.shell.proofs.Opening.{below, turn_more, turns_stop}
use Rattle.shell.proofs.run.do_turns.Goals as goal

pub loop-alloc-init : goal.loop-alloc-init
loop-alloc-init g c = record { completes = begun _ _; past = omega (arith, c.requires); most = omega arith }

pub loop-alloc-preserved : goal.loop-alloc-preserved
loop-alloc-preserved g c = record {
  completes = turn_more c.args.prompts c.loop-alloc.count c.loop-alloc.invariant.completes c.turn-end.ensures.does (grind arith);
  past = c.turn-end.ensures.count;
  most = below c.loop-alloc.count (goes_on c.turn-end.new.state c.turn-end.result) c.loop-alloc.invariant.most c.turn-end.ensures.last (grind arith);
}

pub returns-then-not-goes_on-clause-does : goal.returns-then-not-goes_on-clause-does
returns-then-not-goes_on-clause-does g c =
    c.loop-alloc.invariant.completes.onwards _ _ (turns_stop c.args.prompts c.loop-alloc.count c.turn-end.ensures.does (grind arith))
