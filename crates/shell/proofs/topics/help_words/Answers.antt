use Rattle.std.proofs.Common.{arith, refl, subst, ◌∙◌}
use Rattle.shell.specs.Topics.{HelpsLine}
use Rattle.shell_world.specs.Scenes.{at, goes_along}
use Rattle.shell_world.specs.Written.{Performs}
use Rattle.shell_world.proofs.Performing.{each_more, each_over, each_stops}
use Rattle.shell.proofs.topics.help_words.Goals as goal

pub returns-then-not-goes_along : goal.returns-then-not-goes_along
returns-then-not-goes_along g c =
    let p = subst (λ t. Performs (HelpsLine t) (at c.args.state.now (g.W.Outside.told c.loop-word.world)) c.help_line-end.result (at c.args.state.now (g.W.Outside.told c.help_line-end.new.world))) (c.as_slice.ensures ∙ c.word-item.is) c.help_line-end.ensures in
    each_stops goes_along HelpsLine c.args.words.now c.loop-word.word-index c.word-item.result c.loop-word-test.true c.loop-word.invariant p (grind arith)

pub loop-word-preserved : goal.loop-word-preserved
loop-word-preserved g c =
    let p = subst (λ t. Performs (HelpsLine t) (at c.args.state.now (g.W.Outside.told c.loop-word.world)) c.help_line-end.result (at c.args.state.now (g.W.Outside.told c.help_line-end.new.world))) (c.as_slice.ensures ∙ c.word-item.is) c.help_line-end.ensures in
    each_more goes_along HelpsLine c.args.words.now c.loop-word.word-index c.word-item.result (λ t. refl) c.loop-word-test.true c.loop-word.invariant p (grind arith)

pub returns : goal.returns
returns g c = each_over goes_along HelpsLine c.args.words.now c.loop-word.word-index c.loop-word-test.false c.loop-word.invariant
