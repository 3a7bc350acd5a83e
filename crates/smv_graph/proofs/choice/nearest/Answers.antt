use Rattle.std.proofs.Common.{◌+◌, ℕ, sym, subst, take, arith, get_or}
use Rattle.std.specs.Prelude.{None}
use Rattle.std.proofs.lemmas.List.{take_more, take_all}
use Rattle.smv_graph.specs.Choices.{LeadsAt, IsLeast, lesser}
use Rattle.smv_graph.proofs.Leasts.{nearest_none, nearest_more}
use Rattle.smv_graph.proofs.choice.nearest.Goals as goal

pub loop-target-init : goal.loop-target-init
loop-target-init c = nearest_none c.args.distances.now.entries

pub loop-target-preserved : goal.loop-target-preserved
loop-target-preserved c =
    let entries = c.args.distances.now.entries in
    let row = c.args.row.now in
    let i = c.loop-target.target-index in
    let best = c.loop-target.least in
    let new = c.distance_of.result in
    subst (IsLeast (λ d. (b : ℕ) × LeadsAt entries (take (i + 1) row) d b)) (sym c.lesser-least.ensures)
    (subst (λ r. IsLeast (λ d. (b : ℕ) × LeadsAt entries r d b) (lesser best new)) (sym (take_more row i None c.loop-target-test.true))
    (nearest_more entries (take i row) (get_or row i None) best new c.loop-target.invariant c.distance_of.ensures))

pub returns : goal.returns
returns c =
    let row = c.args.row.now in
    let i = c.loop-target.target-index in
    subst (λ r. IsLeast (λ d. (b : ℕ) × LeadsAt c.args.distances.now.entries r d b) c.loop-target.least)
    (take_all i row (omega (arith, c.loop-target-test.false))) c.loop-target.invariant
