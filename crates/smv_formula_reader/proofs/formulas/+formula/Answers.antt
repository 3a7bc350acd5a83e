use Rattle.std.proofs.Common.{◌≡◌, ◌+◌, ◌-◌, ◌*◌, ◌<◌, [], ap, arith, length, refl, sym, ◌∙◌}
use Rattle.std.proofs.lemmas.Result.{err_from_is_err_and}
use Rattle.smv_grammar.specs.Formulas.{of_atom, start_of}
use Rattle.smv_rules.specs.Formulas.{connected, operand, side}
use Rattle.smv_rules.specs.Sorts.{a_formula}
use Rattle.smv_formula_reader.specs.FormulaViews.{formula_of, found_formula}
use Rattle.smv_formula_reader.specs.FormulaClimbing.{both_of}
use Rattle.smv_formula_reader.proofs.Flags.{flagged_left}
use Rattle.smv_formula_reader.proofs.FormulaLevels.{connective_behind, first_halts, first_read, flagged_connective, implies_goes, implies_halts, implies_less, no_start, none_waits, none_yet, operand_atom, resumed_less, resumes_goes, resumes_halts, waits_goes, waits_halts}
use Rattle.smv_expression_reader.proofs.Levels.{none_left, waits_less}
use Rattle.smv_reader.proofs.Parts.{left_within}
use Rattle.smv_formula_reader.proofs.formulas.+formula.Goals as goal

pub formula_operand-returns-in_default : goal.formula_operand-returns-in_default
formula_operand-returns-in_default t c = rw (operand_atom c.args.reader.room c.args.tokens.now (no_start c.args.tokens.now c.in_default.len_below)) c.atom.ensures

pub formula_operand-returns-in-Atom : goal.formula_operand-returns-in-Atom
formula_operand-returns-in-Atom t c = rw (operand_atom c.args.reader.room c.args.tokens.now (sym c.in-Atom.ensures)) c.atom-in-Atom.ensures

-- the first operand of the loop
pub formula-returns-in_err-left : goal.formula-returns-in_err-left
formula-returns-in_err-left t c =
    let p = err_from_is_err_and c.from_residual.result c.from_residual.ensures.1 in
    rw (p.1, p.2) (first_halts _ _ _ _ c.in_err-left.ensures)

pub formula-turns-init : goal.formula-turns-init
formula-turns-init t c = record {
  value = none_yet _ _ _ _ c.new-waiting.ensures.items (first_read _ _ _ _ _ c.in_ok-left.ensures);
  flagged = flagged_left _ _ a_formula operand _ _ _ c.in_ok-left.ensures c.requires.flagged;
}

-- no operator of a level within reach is next
pub formula-returns-in_default-pop : goal.formula-returns-in_default-pop
formula-returns-in_default-pop t c =
    let none = none_left _ _ _ c.in_default-pop.ensures.items c.in_default-pop.ensures.rest c.in_default-pop.ensures.cases.0 in
    none_waits _ _ _ _ (found_formula (c.turns.left, c.turns.rest)) _ none c.in_default.ensures.value c.turns.invariant.value

pub formula-returns-in_err-left-2 : goal.formula-returns-in_err-left-2
formula-returns-in_err-left-2 t c =
    let p = err_from_is_err_and c.from_residual-in_err-left-2.result c.from_residual-in_err-left-2.ensures.1 in
    rw (p.1, p.2) (resumes_halts _ _ _ _ _ _ c.in-Some-pop.outer (found_formula (c.turns.left, c.turns.rest)) _ c.in-Some-pop.ensures.items c.in_default.ensures.value c.in_err-left-2.ensures c.turns.invariant.value)

pub formula-turns-smaller-in_default : goal.formula-turns-smaller-in_default
formula-turns-smaller-in_default t c = resumed_less _ _ _ c.in-Some-pop.outer (found_formula (c.turns.left, c.turns.rest)) (found_formula (c.in_ok-left-2.field-0-0, c.in_ok-left-2.field-0-1)) c.in-Some-pop.ensures.items c.in_ok-left-2.ensures

pub formula-turns-preserved-in_default : goal.formula-turns-preserved-in_default
formula-turns-preserved-in_default t c = record {
  value = resumes_goes _ _ _ _ _ c.in-Some-pop.outer (found_formula (c.turns.left, c.turns.rest)) (found_formula (c.in_ok-left-2.field-0-0, c.in_ok-left-2.field-0-1)) _ c.in-Some-pop.ensures.items c.in_default.ensures.value c.in_ok-left-2.ensures c.turns.invariant.value;
  flagged = flagged_left _ _ a_formula (both_of c.in-Some-pop.outer (formula_of c.turns.left)) _ _ _ c.in_ok-left-2.ensures c.turns.invariant.flagged;
}

-- an arrow
pub formula-implying_formula-requires : goal.formula-implying_formula-requires
formula-implying_formula-requires t c = (omega arith, flagged_connective _ _ _ _ _ _ _ c.in-Some.ensures.value c.turns.invariant.flagged)

pub formula-returns-in_err-left-3 : goal.formula-returns-in_err-left-3
formula-returns-in_err-left-3 t c =
    let p = err_from_is_err_and c.from_residual-in_err-left-3.result c.from_residual-in_err-left-3.ensures.1 in
    rw (p.1, p.2) (implies_halts _ _ _ _ _ _ _ _ _ _ _ c.in-Some.ensures.value c.if-own-eq-OUTERMOST.true c.in_err-left-3.ensures c.turns.invariant.value)

pub formula-turns-smaller-then-own-eq-OUTERMOST : goal.formula-turns-smaller-then-own-eq-OUTERMOST
formula-turns-smaller-then-own-eq-OUTERMOST t c = omega (arith, implies_less _ _ _ _ _ (formula_of c.turns.left) _ _ (found_formula (c.in_ok-left-3.field-0-0, c.in_ok-left-3.field-0-1)) c.in-Some.ensures.value c.in_ok-left-3.ensures)

pub formula-turns-preserved-then-own-eq-OUTERMOST : goal.formula-turns-preserved-then-own-eq-OUTERMOST
formula-turns-preserved-then-own-eq-OUTERMOST t c = record {
  value = implies_goes _ _ _ _ _ _ _ _ _ (found_formula (c.in_ok-left-3.field-0-0, c.in_ok-left-3.field-0-1)) _ c.in-Some.ensures.value c.if-own-eq-OUTERMOST.true c.in_ok-left-3.ensures c.turns.invariant.value;
  flagged = flagged_left _ _ a_formula (connected side (formula_of c.turns.left) c.in-Some.op) _ _ _ c.in_ok-left-3.ensures (flagged_connective _ _ _ _ _ _ _ c.in-Some.ensures.value c.turns.invariant.flagged);
}

-- an operator whose right operand comes first
pub formula-formula_operand-requires-in-turns : goal.formula-formula_operand-requires-in-turns
formula-formula_operand-requires-in-turns t c = (omega arith, flagged_connective _ _ _ _ _ _ _ c.in-Some.ensures.value c.turns.invariant.flagged)

pub formula-returns-in_err-left-4 : goal.formula-returns-in_err-left-4
formula-returns-in_err-left-4 t c =
    let p = err_from_is_err_and c.from_residual-in_err-left-4.result c.from_residual-in_err-left-4.ensures.1 in
    rw (p.1, p.2) (waits_halts _ _ _ _ _ _ _ _ _ _ _ c.in-Some.ensures.value c.if-own-eq-OUTERMOST.false c.in_err-left-4.ensures c.turns.invariant.value)

pub formula-turns-smaller : goal.formula-turns-smaller
formula-turns-smaller t c =
    let fewer = (connective_behind _ _ _ _ _ _ c.in-Some.ensures.value).1 in
    waits_less _ _ _ _ _ _ c.in_ok-push.ensures.items fewer (left_within _ a_formula operand _ _ _ c.in_ok-left-4.ensures)

pub formula-turns-preserved : goal.formula-turns-preserved
formula-turns-preserved t c = record {
  value = waits_goes _ _ _ _ _ _ _ (found_formula (c.in_ok-left-4.field-0-0, c.in_ok-left-4.field-0-1)) _ _ _ c.in_ok-push.ensures.items refl refl c.in-Some.ensures.value c.if-own-eq-OUTERMOST.false c.in_ok-left-4.ensures c.turns.invariant.value;
  flagged = flagged_left _ _ a_formula operand _ _ _ c.in_ok-left-4.ensures (flagged_connective _ _ _ _ _ _ _ c.in-Some.ensures.value c.turns.invariant.flagged);
}
