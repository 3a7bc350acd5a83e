use Rattle.std.proofs.Common.{◌≡◌, map, length}
use Rattle.smv_tree.specs.Models.{part_of}
use Rattle.smv_formula_reader.specs.Flags.{Flagged}
use Rattle.smv_rules.specs.Programs.{more_sections, sections}
use Rattle.smv_rules.specs.Running.{run}
use Rattle.smv_program_reader.proofs.modules.sections.Given as goal

abbrev pub invariant-sections : goal.invariant-sections
invariant-sections l = record {
  value : run l.reader.room (more_sections (map part_of l.items.items)) l.rest ≡ run l.reader.room sections l.tokens;
  flagged : Flagged l.flags l.rest;
}

abbrev pub decreases-sections : goal.decreases-sections
decreases-sections l = length l.rest
