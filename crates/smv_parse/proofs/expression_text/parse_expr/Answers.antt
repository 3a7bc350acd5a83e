use Rattle.smv_tree.specs.Trees.{Tree, expr_tree}
use Rattle.smv_rules.specs.Expressions.{expr}
use Rattle.smv_rules.specs.PartTexts.{tree_of}
use Rattle.smv_rules.proofs.Verdicts.{expression_right}
use Rattle.smv_parse.specs.TextReading.{expression_of}
use Rattle.smv_parse.proofs.TextLaws.{answers_cause, answers_found, answers_only, answers_refused}
use Rattle.smv_parse.proofs.expression_text.parse_expr.Goals as goal

pub returns-clause-found : goal.returns-clause-found
unfolding expression_of
returns-clause-found c = answers_found expr tree_of expr_tree expression_right c.args.bytes.now c.read_text.result c.read_text.ensures

pub returns-clause-only : goal.returns-clause-only
unfolding expression_of
returns-clause-only c = answers_only expr tree_of expr_tree expression_right c.args.bytes.now c.read_text.result c.read_text.ensures

pub returns-clause-refused : goal.returns-clause-refused
unfolding expression_of
returns-clause-refused c = answers_refused expr tree_of expr_tree expression_right c.args.bytes.now c.read_text.result c.read_text.ensures

pub returns-clause-cause : goal.returns-clause-cause
unfolding expression_of
returns-clause-cause c = answers_cause expr tree_of expr_tree expression_right c.args.bytes.now c.read_text.result c.read_text.ensures
