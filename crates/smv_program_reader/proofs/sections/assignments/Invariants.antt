use Rattle.std.proofs.Common.{◌≡◌, map, length}
use Rattle.smv_tree.specs.Models.{part_of}
use Rattle.smv_rules.specs.Programs.{all_assigned}
use Rattle.smv_rules.specs.Running.{run}
use Rattle.smv_program_reader.proofs.sections.assignments.Given as goal

abbrev pub invariant-assignments : goal.invariant-assignments
invariant-assignments l = run l.reader.room (all_assigned (map part_of l.items.items)) l.rest ≡ run l.reader.room (all_assigned (map part_of l.fn.items.items)) l.tokens

abbrev pub decreases-assignments : goal.decreases-assignments
decreases-assignments l = length l.rest
