use Rattle.std.proofs.Common.{◌≡◌, ◌≤◌, ◌++◌, length, drop}
use Rattle.std.specs.Prelude.{reverse}
use Rattle.shell_lang.proofs.words.push_reversed.Given as goal

-- what is pushed so far is the end of the body
abbrev pub invariant-loop-left : goal.invariant-loop-left
invariant-loop-left l =
    (l.left ≤ length l.body) × (reverse l.words.items ≡ drop l.left l.body ++ reverse l.initial.words.items)

abbrev pub decreases-loop-left : goal.decreases-loop-left
decreases-loop-left l = l.left
