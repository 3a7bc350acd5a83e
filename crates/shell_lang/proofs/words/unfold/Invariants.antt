use Rattle.std.proofs.Common.{ℕ, List}
use Rattle.shell_lang.proofs.Unfolding.{Agrees, Leads, is_in, unused}
use Rattle.shell_lang.proofs.words.unfold.Given as goal

-- the words so far lead where the words of the command lead
abbrev pub invariant-loop-name : goal.invariant-loop-name
invariant-loop-name l =
    (used : List (List ℕ)) × Agrees l.used used × Leads l.aliases l.initial.words.items used l.words.items

abbrev pub decreases-loop-name : goal.decreases-loop-name
decreases-loop-name l = unused l.aliases (is_in l.used)
