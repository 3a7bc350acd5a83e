use Rattle.std.proofs.Common.{◌≡◌, drop}
use Rattle.shell_lang.specs.Filled.{filled}
use Rattle.shell_lang.proofs.Filling.{joined}
use Rattle.shell_lang.proofs.words.fill.Given as goal

-- the words so far and those which are left
abbrev pub invariant-loop-word : goal.invariant-loop-word
invariant-loop-word l = filled l.vars l.command ≡ joined l.words (filled l.vars (drop l.word-index l.word-items))
