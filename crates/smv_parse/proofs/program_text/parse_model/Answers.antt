use Rattle.smv_tree.specs.Models.{bodies}
use Rattle.smv_rules.proofs.Judging.{answers_cause, answers_found, answers_only, answers_refused}
use Rattle.smv_parse.proofs.TextVerdicts.{program_decides}
use Rattle.smv_parse.proofs.program_text.parse_model.Goals as goal

pub returns-clause-found : goal.returns-clause-found
returns-clause-found c = answers_found bodies c.read_text.result program_decides c.args.bytes.now c.read_text.ensures

pub returns-clause-only : goal.returns-clause-only
returns-clause-only c = answers_only bodies c.read_text.result program_decides c.args.bytes.now c.read_text.ensures

pub returns-clause-refused : goal.returns-clause-refused
returns-clause-refused c = answers_refused bodies c.read_text.result program_decides c.args.bytes.now c.read_text.ensures

pub returns-clause-cause : goal.returns-clause-cause
returns-clause-cause c = answers_cause bodies c.read_text.result program_decides c.args.bytes.now c.read_text.ensures
