use Rattle.std.proofs.Common.{◌≡◌, drop}
use Rattle.shell_lang.specs.Filled.{filled_word}
use Rattle.shell_lang.proofs.Filling.{joined}
use Rattle.shell_lang.proofs.words.fill_word.Given as goal

-- the text so far and that of the pieces which are left
abbrev pub invariant-loop-piece : goal.invariant-loop-piece
invariant-loop-piece l = filled_word l.vars l.word ≡ joined l.text (filled_word l.vars (drop l.piece-index l.piece-items))
