use Rattle.std.proofs.Common.{◌≡◌, ◌∷◌, [], length}
use Rattle.smv_rules.specs.Programs.{more_elems}
use Rattle.smv_rules.specs.Running.{run}
use Rattle.smv_program_reader.proofs.types.more_elements.Given as goal

abbrev pub invariant-elements : goal.invariant-elements
invariant-elements l = run l.reader.room (more_elems l.elements.items) l.rest ≡ run l.reader.room (more_elems (l.fn.first ∷ [])) l.tokens

abbrev pub decreases-elements : goal.decreases-elements
decreases-elements l = length l.rest
