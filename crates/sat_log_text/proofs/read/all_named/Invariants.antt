use Rattle.std.proofs.Common.{◌≡◌, drop}
use Rattle.sat_log_text.specs.Reading.{all_named}
use Rattle.sat_log_text.proofs.read.all_named.Given as goal

abbrev pub invariant-loop-id : goal.invariant-loop-id
invariant-loop-id l = all_named l.log (drop l.id-index l.hints) ≡ all_named l.log l.hints
