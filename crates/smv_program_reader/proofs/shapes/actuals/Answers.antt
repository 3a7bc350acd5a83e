use Rattle.std.proofs.Common.{[]}
use Rattle.smv_tree.specs.Models.{instance}
use Rattle.smv_token.specs.declared.mark.Mark.TheVariants as marks
use Rattle.smv_rules.specs.Programs.{some_actuals}
use Rattle.smv_rules.specs.Rules.{gives}
use Rattle.smv_rules.specs.Sorts.{a_shape}
use Rattle.smv_program_reader.proofs.Options.{option_left}
use Rattle.smv_program_reader.proofs.shapes.actuals.Goals as goal

pub returns : goal.returns
returns c = rw (option_left c.args.reader.room a_shape marks.CloseRound (λ q. gives a_shape (instance c.args.name c.args.place [])) (some_actuals c.args.name c.args.place) c.args.tokens.now c.in_ok-empty.rest.now (rw c.if-empty.false at c.in_ok-empty.ensures)) c.some_actuals.ensures
