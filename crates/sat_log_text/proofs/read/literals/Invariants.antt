use Rattle.std.proofs.Common.{◌≡◌, ◌-◌, ◌≤◌, length, drop}
use Rattle.sat_log_text.specs.Answers.{words_after}
use Rattle.sat_log_text.specs.Reading.{items, literal_of}
use Rattle.sat_log_text.proofs.PieceLemmas.{with_front}
use Rattle.sat_log_text.proofs.read.literals.Given as goal

abbrev pub invariant-loop-at : goal.invariant-loop-at
invariant-loop-at l = record {
  within : l.at ≤ length l.rest;
  read : items literal_of l.line (words_after l.rest) ≡ with_front l.literals (items literal_of l.line (words_after (drop l.at l.rest)));
}

abbrev pub decreases-loop-at : goal.decreases-loop-at
decreases-loop-at l = length l.rest - l.at
