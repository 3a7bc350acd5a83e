use Rattle.std.proofs.Common.{◌∙◌}
use Rattle.smv_tree.specs.Models.{bodies}
use Rattle.smv_graph.proofs.Graphs.{same_rows}
use Rattle.smv_graph.proofs.graph.rows.Goals as goal

pub returns : goal.returns
returns c =
    c.in_ok-rows.ensures ∙ same_rows (bodies c.args.p.now) c.in_ok-numbers.numbers c.in_ok-numbers.ensures (bodies c.args.p.now)
