use Rattle.std.proofs.Common.{◌≡◌, ◌+◌, ◌*◌, length}
use Rattle.smv_rules.specs.Expressions.{level, more_branches, more_operands}
use Rattle.smv_rules.specs.Running.{run}
use Rattle.smv_expression_reader.specs.Climbing.{up}
use Rattle.smv_reader.specs.Views.{branches_of, expression_of, operands_of}
use Rattle.smv_expression_reader.specs.Waiting.{all_resumed}
use Rattle.smv_expression_reader.proofs.expression.+expression.Given as goal

abbrev pub decreases-level : goal.decreases-level
decreases-level l = 100 * l.reader.room + 40

abbrev pub decreases-operand : goal.decreases-operand
decreases-operand l = 100 * l.reader.room + 39

abbrev pub decreases-closed : goal.decreases-closed
decreases-closed l = 100 * l.reader.room + 39

abbrev pub decreases-choosing : goal.decreases-choosing
decreases-choosing l = 100 * l.reader.room + 30

abbrev pub decreases-implying : goal.decreases-implying
decreases-implying l = 100 * l.reader.room + 30

abbrev pub decreases-prefixed : goal.decreases-prefixed
decreases-prefixed l = 100 * l.reader.room + 30

abbrev pub decreases-opened : goal.decreases-opened
decreases-opened l = 100 * l.reader.room + 10

abbrev pub decreases-side : goal.decreases-side
decreases-side l = 100 * l.reader.room + 10

abbrev pub decreases-primary : goal.decreases-primary
decreases-primary l = 100 * l.reader.room + 38

abbrev pub decreases-begun : goal.decreases-begun
decreases-begun l = 100 * l.reader.room + 37

abbrev pub decreases-inside : goal.decreases-inside
decreases-inside l = 100 * l.reader.room + 36

abbrev pub decreases-nested : goal.decreases-nested
decreases-nested l = 100 * l.reader.room + 99

abbrev pub decreases-enclosed : goal.decreases-enclosed
decreases-enclosed l = 100 * l.reader.room + 90

abbrev pub decreases-function : goal.decreases-function
decreases-function l = 100 * l.reader.room + 90

abbrev pub decreases-next_value : goal.decreases-next_value
decreases-next_value l = 100 * l.reader.room + 90

abbrev pub decreases-widened : goal.decreases-widened
decreases-widened l = 100 * l.reader.room + 90

abbrev pub decreases-counted : goal.decreases-counted
decreases-counted l = 100 * l.reader.room + 98

abbrev pub decreases-listed : goal.decreases-listed
decreases-listed l = 100 * l.reader.room + 98

abbrev pub decreases-cases : goal.decreases-cases
decreases-cases l = 100 * l.reader.room + 98

abbrev pub decreases-operands : goal.decreases-operands
decreases-operands l = 100 * l.reader.room + 97

abbrev pub decreases-more_operands : goal.decreases-more_operands
decreases-more_operands l = 100 * l.reader.room + 96

abbrev pub decreases-next_operand : goal.decreases-next_operand
decreases-next_operand l = 100 * l.reader.room + 95

abbrev pub decreases-more_branches : goal.decreases-more_branches
decreases-more_branches l = 100 * l.reader.room + 96

abbrev pub decreases-next_branch : goal.decreases-next_branch
decreases-next_branch l = 100 * l.reader.room + 95

abbrev pub decreases-branch : goal.decreases-branch
decreases-branch l = 100 * l.reader.room + 94

abbrev pub decreases-first_branch : goal.decreases-first_branch
decreases-first_branch l = 100 * l.reader.room + 95

abbrev pub invariant-more_operands-operands : goal.invariant-more_operands-operands
invariant-more_operands-operands l = run l.reader.room (more_operands (operands_of l.operands)) l.rest ≡ run l.reader.room (more_operands (operands_of l.fn.before)) l.tokens

abbrev pub decreases-more_operands-operands : goal.decreases-more_operands-operands
decreases-more_operands-operands l = length l.rest

abbrev pub invariant-more_branches-branches : goal.invariant-more_branches-branches
invariant-more_branches-branches l = run l.reader.room (more_branches (branches_of l.branches)) l.rest ≡ run l.reader.room (more_branches (branches_of l.fn.before)) l.tokens

abbrev pub decreases-more_branches-branches : goal.decreases-more_branches-branches
decreases-more_branches-branches l = length l.rest

abbrev pub invariant-level-turns : goal.invariant-level-turns
invariant-level-turns l = all_resumed l.reader.room l.waiting.items (up l.reader.room l.reached l.wanted (expression_of l.left, l.rest)) ≡ run l.reader.room (level l.loosest) l.tokens

abbrev pub decreases-level-turns : goal.decreases-level-turns
decreases-level-turns l = 2 * length l.rest + length l.waiting.items
