use Rattle.std.proofs.Common.{sym, subst}
use Rattle.smv_graph.specs.Choices.{IsChosen}
use Rattle.smv_graph.proofs.Leasts.{least_chosen}
use Rattle.smv_graph.proofs.choice.choose.Goals as goal

pub returns-in-ByNumber : goal.returns-in-ByNumber
returns-in-ByNumber c =
    let entries = c.args.distances.now.entries in
    subst (λ o. IsChosen o entries c.args.row.now c.args.distance c.least_at.result) (sym c.in-ByNumber.is)
    (least_chosen entries c.args.row.now c.args.distance c.least_at.result c.least_at.ensures)
