use Rattle.std.proofs.Common.{◌≡◌, ◌++◌, map, take}
use Rattle.shell_world.proofs.row.put_words.Given as goal

-- the words so far were added
abbrev pub invariant-loop-command : goal.invariant-loop-command
invariant-loop-command g l =
    l.words.items ≡ l.initial.words.items ++ map g.C.Listed.word (take l.command-index l.commands)
