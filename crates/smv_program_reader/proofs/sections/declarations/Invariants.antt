use Rattle.std.proofs.Common.{◌≡◌, map, length}
use Rattle.smv_tree.specs.Models.{part_of}
use Rattle.smv_rules.specs.Programs.{declared}
use Rattle.smv_rules.specs.Running.{run}
use Rattle.smv_program_reader.proofs.sections.declarations.Given as goal

abbrev pub invariant-declarations : goal.invariant-declarations
invariant-declarations l = run l.reader.room (declared l.kind l.instances (map part_of l.items.items)) l.rest ≡ run l.reader.room (declared l.kind l.instances (map part_of l.fn.items.items)) l.tokens

abbrev pub decreases-declarations : goal.decreases-declarations
decreases-declarations l = length l.rest
