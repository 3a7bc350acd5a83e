use Rattle.std.proofs.Common.{◌≡◌, ◌-◌, ℕ, suc, sym, subst, arith}
use Rattle.std.specs.Prelude.{Some}
use Rattle.smv_graph.specs.Graph.{Leads, row_of}
use Rattle.smv_graph.specs.Choices.{GoesBefore, LeadsAt, IsChosen}
use Rattle.smv_graph.proofs.FirstWalks.{IsAway, IsOnTheWay, way_begun, step_there, way_on, way_done}
use Rattle.smv_graph.proofs.graph.Graph.walk_back.Goals as goal

pub loop-left-init : goal.loop-left-init
loop-left-init c =
    let graph = c.args.self.now in
    subst (λ between. IsOnTheWay (Leads graph) (GoesBefore c.args.order graph) c.args.start c.args.count between c.args.start c.args.count) (sym c.new-between.ensures.items)
    (way_begun graph c.args.order c.args.start c.args.distances.now.entries c.requires.distances c.args.count c.requires.there c.requires.least)

pub next_step-here-requires : goal.next_step-here-requires
next_step-here-requires c =
    let graph = c.args.self.now in
    let n = c.loop-left.left - 1 in
    let one : c.loop-left.left ≡ suc n = omega (arith, c.loop-left-test.true) in
    let away = subst (IsAway (Leads graph) c.args.start c.loop-left.here) one c.loop-left.invariant.away in
    let there = step_there graph c.args.order c.args.start c.args.distances.now.entries c.requires.distances c.loop-left.here n away in
    subst (λ k. (b : ℕ) × LeadsAt c.args.distances.now.entries (row_of graph c.loop-left.here) k b) (sym one) there

pub loop-left-preserved : goal.loop-left-preserved
loop-left-preserved c =
    let graph = c.args.self.now in
    let entries = c.args.distances.now.entries in
    let here = c.loop-left.here in
    let next = c.next_step-here.result in
    let n = c.loop-left.left - 1 in
    let one : c.loop-left.left ≡ suc n = omega (arith, c.loop-left-test.true) in
    let before = GoesBefore c.args.order graph in
    let way = subst (IsOnTheWay (Leads graph) before c.args.start c.args.count c.loop-left.between.items here) one c.loop-left.invariant in
    let chosen = subst (λ k. IsChosen c.args.order entries (row_of graph here) k (Some next)) one c.next_step-here.ensures in
    subst (λ between. IsOnTheWay (Leads graph) before c.args.start c.args.count between next n) (sym c.in_ok-push.ensures.items)
    (way_on graph c.args.order c.args.start entries c.requires.distances here n way.away next chosen c.args.count c.loop-left.between.items way)

pub returns : goal.returns
returns c =
    let graph = c.args.self.now in
    let none : c.loop-left.left ≡ 0 = omega (arith, c.loop-left-test.false) in
    let way = subst (IsOnTheWay (Leads graph) (GoesBefore c.args.order graph) c.args.start c.args.count c.loop-left.between.items c.loop-left.here) none c.loop-left.invariant in
    way_done graph c.args.order c.args.start c.args.distances.now.entries c.requires.distances c.args.count c.loop-left.between.items c.loop-left.here c.requires.least way
