use Rattle.std.proofs.Common.{◌≡◌, ◌∷◌, [], map, length}
use Rattle.smv_tree.specs.Models.{formal_of}
use Rattle.smv_rules.specs.Programs.{more_formals}
use Rattle.smv_rules.specs.Running.{run}
use Rattle.smv_program_reader.proofs.parameters.more_formals.Given as goal

abbrev pub invariant-formals : goal.invariant-formals
invariant-formals l = run l.reader.room (more_formals (map formal_of l.params.items)) l.rest ≡ run l.reader.room (more_formals (formal_of l.fn.first ∷ [])) l.tokens

abbrev pub decreases-formals : goal.decreases-formals
decreases-formals l = length l.rest
