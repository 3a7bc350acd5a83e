use Rattle.std.proofs.Common.{◌≡◌, ◌-◌, ◌≤◌, length, drop}
use Rattle.cmd_table.proofs.Reading.{Leads}
use Rattle.cmd_table.proofs.read.read_words.Given as goal

-- reading the words that are left ends as reading all words does
abbrev pub invariant-loop-at : goal.invariant-loop-at
invariant-loop-at l =
    (l.at ≤ length l.words) × (length l.given.values ≡ length l.opts) × Leads l.opts l.most l.raw l.words l.given (drop l.at l.words)

abbrev pub decreases-loop-at : goal.decreases-loop-at
decreases-loop-at l = length l.words - l.at
