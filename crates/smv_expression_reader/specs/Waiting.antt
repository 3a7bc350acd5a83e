-- Operands that wait for what their operator's right operand is.
use Rattle.std.specs.Prelude.{ℕ, max, List}
use Rattle.smv_tree.specs.Trees.{two}
use Rattle.smv_token.specs.declared.token.Token.{Token}
use Rattle.smv_rules.specs.Reading.{◌>>=◌, Got}
use Rattle.smv_rules.specs.Rules.{Rule}
use Rattle.smv_rules.specs.Running.{run}
use Rattle.smv_rules.specs.Sorts.{Expression, an_expression}
use Rattle.smv_rules.specs.Expressions.{deeper}
use Rattle.smv_expression_reader.specs.Climbing.{up}
use Rattle.smv_reader.specs.Steps.{resumed}
use Rattle.smv_reader.specs.Views.{expression_of}
use Rattle.smv_expression_reader.specs.declared.operators.Waiting.{Waiting}

-- the operand that waits, with one to the right, and what stands behind both up to the level that was
-- wanted there
abbrev pub both_of : Waiting → Expression → Rule an_expression
both_of w b = deeper (two w.place w.op (expression_of w.left).tree b.tree) (max (expression_of w.left).depth b.depth)

abbrev pub with_left : ℕ → Waiting → Expression × List Token → Got Expression
with_left n w x = run n (both_of w x.0) x.1 >>= up n w.tighter w.loosest

-- what all that wait make of an expression, the last first
abbrev pub all_resumed : ℕ → List Waiting → Got Expression → Got Expression
all_resumed n ws r = resumed (with_left n) ws r
