use Rattle.std.proofs.Common.{◌≡◌, map, length}
use Rattle.smv_tree.specs.Models.{part_of}
use Rattle.smv_rules.specs.Programs.{defined}
use Rattle.smv_rules.specs.Running.{run}
use Rattle.smv_program_reader.proofs.sections.definitions.Given as goal

abbrev pub invariant-definitions : goal.invariant-definitions
invariant-definitions l = run l.reader.room (defined (map part_of l.items.items)) l.rest ≡ run l.reader.room (defined (map part_of l.fn.items.items)) l.tokens

abbrev pub decreases-definitions : goal.decreases-definitions
decreases-definitions l = length l.rest
