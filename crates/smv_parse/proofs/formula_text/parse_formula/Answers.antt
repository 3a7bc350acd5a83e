use Rattle.smv_tree.specs.Models.{Claim, formula_claim}
use Rattle.smv_rules.specs.PartTexts.{claim_of, formula}
use Rattle.smv_rules.proofs.Verdicts.{formula_right}
use Rattle.smv_parse.specs.TextReading.{formula_of}
use Rattle.smv_parse.proofs.TextLaws.{answers_cause, answers_found, answers_only, answers_refused}
use Rattle.smv_parse.proofs.formula_text.parse_formula.Goals as goal

pub returns-clause-found : goal.returns-clause-found
unfolding formula_of
returns-clause-found c = answers_found formula claim_of formula_claim formula_right c.args.bytes.now c.read_text.result c.read_text.ensures

pub returns-clause-only : goal.returns-clause-only
unfolding formula_of
returns-clause-only c = answers_only formula claim_of formula_claim formula_right c.args.bytes.now c.read_text.result c.read_text.ensures

pub returns-clause-refused : goal.returns-clause-refused
unfolding formula_of
returns-clause-refused c = answers_refused formula claim_of formula_claim formula_right c.args.bytes.now c.read_text.result c.read_text.ensures

pub returns-clause-cause : goal.returns-clause-cause
unfolding formula_of
returns-clause-cause c = answers_cause formula claim_of formula_claim formula_right c.args.bytes.now c.read_text.result c.read_text.ensures
