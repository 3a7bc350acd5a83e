use Rattle.std.proofs.Common.{◌∙◌, ap}
use Rattle.smv_tree.specs.Models.{bodies}
use Rattle.type_fault.specs.First.{earlier}
use Rattle.smv_modules.proofs.Passed.{reached_faults}
use Rattle.smv_modules.proofs.check.first_reached_fault.Goals as goal

pub returns : goal.returns
returns c =
    let references = c.in_ok-reference.ensures in
    let all = reached_faults (bodies c.args.p.now) references.0 c.in_ok-cycle.cycle references.1 c.in_ok-cycle.ensures in
    (all.0, all.1, c.earlier.ensures ∙ (ap (λ o. earlier o c.in_ok-cycle.cycle) references.2 ∙ all.2))
