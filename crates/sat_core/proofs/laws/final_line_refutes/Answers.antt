use Rattle.std.proofs.Common.{sym, ◌∙◌}
use Rattle.std.proofs.lemmas.Bool.{false≢true}
use Rattle.sat_core.proofs.Meanings.{negations_false}
use Rattle.sat_core.proofs.laws.final_line_refutes.Goals as goal

pub returns : goal.returns
returns c want log line is_log accepted negations v true_ wanted =
    false≢true (sym (negations_false v want line.lits negations wanted) ∙ c.accepted_line_is_implied.ensures v log line is_log accepted true_)
