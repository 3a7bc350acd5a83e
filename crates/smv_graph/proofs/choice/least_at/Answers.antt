use Rattle.std.proofs.Common.{◌+◌, sym, subst, take, arith, get_or}
use Rattle.std.specs.Prelude.{None}
use Rattle.std.proofs.lemmas.List.{take_more, take_all}
use Rattle.smv_graph.specs.Choices.{LeadsAt, IsLeast, lesser}
use Rattle.smv_graph.proofs.Leasts.{least_at_none, least_at_more}
use Rattle.smv_graph.proofs.choice.least_at.Goals as goal

pub loop-target-init : goal.loop-target-init
loop-target-init c = least_at_none c.args.distances.now.entries c.args.distance

pub loop-target-preserved : goal.loop-target-preserved
loop-target-preserved c =
    let entries = c.args.distances.now.entries in
    let row = c.args.row.now in
    let far = c.args.distance in
    let i = c.loop-target.target-index in
    let best = c.loop-target.least in
    let new = c.module_at.result in
    subst (IsLeast (LeadsAt entries (take (i + 1) row) far)) (sym c.lesser-least.ensures)
    (subst (λ r. IsLeast (LeadsAt entries r far) (lesser best new)) (sym (take_more row i None c.loop-target-test.true))
    (least_at_more entries (take i row) far (get_or row i None) best new c.loop-target.invariant c.module_at.ensures))

pub returns : goal.returns
returns c =
    let row = c.args.row.now in
    let i = c.loop-target.target-index in
    subst (λ r. IsLeast (LeadsAt c.args.distances.now.entries r c.args.distance) c.loop-target.least)
    (take_all i row (omega (arith, c.loop-target-test.false))) c.loop-target.invariant
