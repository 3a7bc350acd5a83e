use Rattle.std.proofs.Common.{arith}
use Rattle.shell.proofs.Opening.{not_turned, prompt_over, turned}
use Rattle.shell.proofs.run.turn.Goals as goal

pub returns-then-not-goes_along-clause-does : goal.returns-then-not-goes_along-clause-does
returns-then-not-goes_along-clause-does g c = not_turned c.args.prompts c.args.count c.say_if-end.ensures (grind arith)

pub returns-clause-does : goal.returns-clause-does
returns-clause-does g c = turned c.args.prompts c.args.count c.read_line-read.result c.say_if-end.ensures (grind arith) (c.read_line-read.ensures c.args.state.now) c.treat.ensures.does

pub returns-then-not-goes_along-clause-last : goal.returns-then-not-goes_along-clause-last
returns-then-not-goes_along-clause-last g c = λ k. prompt_over c.args.state.now c.args.prompts c.say_if-end.ensures (grind arith)
