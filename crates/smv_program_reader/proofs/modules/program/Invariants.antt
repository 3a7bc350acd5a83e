use Rattle.std.proofs.Common.{◌≡◌, map, length}
use Rattle.smv_tree.specs.Models.{body_of}
use Rattle.smv_formula_reader.specs.Flags.{Flagged}
use Rattle.smv_rules.specs.Programs.{more_modules, program}
use Rattle.smv_rules.specs.Running.{run}
use Rattle.smv_program_reader.proofs.modules.program.Given as goal

abbrev pub invariant-modules : goal.invariant-modules
invariant-modules l = record {
  value : run l.reader.room (more_modules (map body_of l.modules.items)) l.rest ≡ run l.reader.room program l.tokens;
  flagged : Flagged l.flags l.rest;
}

abbrev pub decreases-modules : goal.decreases-modules
decreases-modules l = length l.rest
