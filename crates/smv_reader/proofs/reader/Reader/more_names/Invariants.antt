use Rattle.std.proofs.Common.{◌≡◌, length}
use Rattle.smv_rules.specs.Expressions.{more_names}
use Rattle.smv_rules.specs.Running.{run}
use Rattle.smv_reader.proofs.reader.Reader.more_names.Given as goal

abbrev pub invariant-names : goal.invariant-names
invariant-names l = run l.self.room (more_names l.names.items) l.rest ≡ run l.self.room (more_names l.fn.before.items) l.tokens

abbrev pub decreases-names : goal.decreases-names
decreases-names l = length l.rest
