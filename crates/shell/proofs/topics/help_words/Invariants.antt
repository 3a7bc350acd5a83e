use Rattle.std.proofs.Common.{drop}
use Rattle.shell.specs.Topics.{HelpsLine}
use Rattle.shell_world.proofs.Performing.{Completes}
use Rattle.shell_world.specs.Processes.{Each}
use Rattle.shell_world.specs.Scenes.{at, goes_along}
use Rattle.shell.proofs.topics.help_words.Given as goal

-- what writes the words that are left writes all of them
abbrev pub invariant-loop-word : goal.invariant-loop-word
invariant-loop-word g l =
    Completes (Each goes_along HelpsLine (drop l.word-index l.words)) (at l.fn.state (g.W.Outside.told l.world)) (Each goes_along HelpsLine l.words) (at l.fn.state (g.W.Outside.told l.fn.world))
