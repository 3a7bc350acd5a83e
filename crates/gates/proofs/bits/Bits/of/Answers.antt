use Rattle.std.proofs.Common.{◌≤◌, length, sym, ◌∙◌, subst, arith}
use Rattle.gates.specs.Valuation.{IsValuation, FollowsInputs}
use Rattle.gates.proofs.Evaluation.{values_after-all, IsValuation-valuation_of, FollowsInputs-valuation_of}
use Rattle.gates.proofs.bits.Bits.of.Goals as goal

pub returns-clause-valuation : goal.returns-clause-valuation
returns-clause-valuation c =
    let g = c.args.g.now in
    let all : length g ≤ c.loop-n.n = omega (arith, c.nodes-nodes.ensures.count) in
    subst (IsValuation g) (sym c.loop-n.invariant.rest ∙ values_after-all c.loop-n.bits g c.args.inputs.now c.loop-n.n all)
    (IsValuation-valuation_of g c.args.inputs.now c.nodes-nodes.ensures.well_formed)

pub returns-clause-inputs : goal.returns-clause-inputs
returns-clause-inputs c =
    let g = c.args.g.now in
    let all : length g ≤ c.loop-n.n = omega (arith, c.nodes-nodes.ensures.count) in
    subst (FollowsInputs g c.args.inputs.now) (sym c.loop-n.invariant.rest ∙ values_after-all c.loop-n.bits g c.args.inputs.now c.loop-n.n all)
    (FollowsInputs-valuation_of g c.args.inputs.now c.nodes-nodes.ensures.well_formed)
