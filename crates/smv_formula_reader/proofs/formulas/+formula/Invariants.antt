use Rattle.std.proofs.Common.{◌≡◌, ◌+◌, ◌*◌, length}
use Rattle.smv_formula_reader.specs.Flags.{Flagged}
use Rattle.smv_rules.specs.Formulas.{formula_level}
use Rattle.smv_rules.specs.Running.{run}
use Rattle.smv_formula_reader.specs.FormulaClimbing.{Given, up}
use Rattle.smv_formula_reader.specs.FormulaViews.{formula_of}
use Rattle.smv_formula_reader.proofs.formulas.+formula.Given as goal

abbrev pub decreases-formula : goal.decreases-formula
decreases-formula l = 100 * l.reader.room + 50

abbrev pub decreases-implying_formula : goal.decreases-implying_formula
decreases-implying_formula l = 100 * l.reader.room + 40

abbrev pub decreases-side_formula : goal.decreases-side_formula
decreases-side_formula l = 100 * l.reader.room

abbrev pub decreases-formula_operand : goal.decreases-formula_operand
decreases-formula_operand l = 100 * l.reader.room + 4

abbrev pub decreases-prefixed_formula : goal.decreases-prefixed_formula
decreases-prefixed_formula l = 100 * l.reader.room + 3

abbrev pub decreases-enclosed_formula : goal.decreases-enclosed_formula
decreases-enclosed_formula l = 100 * l.reader.room + 3

abbrev pub decreases-opened_formula : goal.decreases-opened_formula
decreases-opened_formula l = 100 * l.reader.room

abbrev pub invariant-formula-turns : goal.invariant-formula-turns
invariant-formula-turns l = record {
  value : Given l.reader.room l.waiting.items (up l.reader.room l.reached l.wanted (formula_of l.left, l.rest)) (run l.reader.room (formula_level l.loosest) l.tokens);
  flagged : Flagged l.flags l.rest;
}

abbrev pub decreases-formula-turns : goal.decreases-formula-turns
decreases-formula-turns l = 2 * length l.rest + length l.waiting.items
