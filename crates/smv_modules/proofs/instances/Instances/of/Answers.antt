use Rattle.std.proofs.Common.{◌≡◌, ◌≤◌, [], length, ap, arith}
use Rattle.smv_tree.specs.Models.{bodies}
use Rattle.smv_meaning.specs.Instances.{instances}
use Rattle.smv_modules.specs.Nodes.{AreFewNodes}
use Rattle.smv_modules.proofs.Listing.{nodes_length}
use Rattle.smv_modules.proofs.Rows.{taken, node_stands, listed_on, deep_here, all_listed}
use Rattle.smv_modules.proofs.instances.Instances.of.Goals as goal

pub list_node-requires : goal.list_node-requires
list_node-requires c =
    let program = bodies c.args.p.now in
    let few : AreFewNodes program c.in-Some.nodes.items = rw c.in-Some.is at c.in_ok-nodes.ensures in
    let k = c.loop-node.node-index in
    let node = c.node-item.result in
    let at_it = taken program c.deref-node-items.result.now c.in-Some.nodes.items k node c.deref-node-items.ensures.value few.0 c.loop-node-test.true c.node-item.is in
    node_stands program k node at_it.0 c.loop-node.list.items at_it.1 c.loop-node.invariant

pub returns-in-Some-2-clause-refused : goal.returns-in-Some-2-clause-refused
returns-in-Some-2-clause-refused c =
    let program = bodies c.args.p.now in
    let few : AreFewNodes program c.in-Some.nodes.items = rw c.in-Some.is at c.in_ok-nodes.ensures in
    let k = c.loop-node.node-index in
    let node = c.node-item.result in
    let at_it = taken program c.deref-node-items.result.now c.in-Some.nodes.items k node c.deref-node-items.ensures.value few.0 c.loop-node-test.true c.node-item.is in
    let deep = rw c.in-Some-2.is at c.in_ok-path.ensures in
    let same : length (instances program) ≡ length c.in-Some.nodes.items = nodes_length program [] (instances program) c.in-Some.nodes.items few.0 in
    let most : length c.in-Some.nodes.items ≤ 100000 = few.1 in
    (omega (arith, same, most), deep_here program k node at_it.0 c.loop-node.list.items at_it.1 c.loop-node.invariant c.in-Some-2.path deep.0 deep.1)

pub loop-node-preserved : goal.loop-node-preserved
loop-node-preserved c =
    let program = bodies c.args.p.now in
    let few : AreFewNodes program c.in-Some.nodes.items = rw c.in-Some.is at c.in_ok-nodes.ensures in
    let k = c.loop-node.node-index in
    let node = c.node-item.result in
    let at_it = taken program c.deref-node-items.result.now c.in-Some.nodes.items k node c.deref-node-items.ensures.value few.0 c.loop-node-test.true c.node-item.is in
    let one = rw c.in_default-2.is at c.in_ok-path.ensures in
    listed_on program k node at_it.0 c.loop-node.list.items at_it.1 c.loop-node.invariant one.0 c.list_node.new.list.items one.1 one.2

pub returns-clause-listed : goal.returns-clause-listed
returns-clause-listed c =
    let program = bodies c.args.p.now in
    let few : AreFewNodes program c.in-Some.nodes.items = rw c.in-Some.is at c.in_ok-nodes.ensures in
    let same = ap length c.deref-node-items.ensures.value in
    let end : length c.in-Some.nodes.items ≤ c.loop-node.node-index = omega (arith, same, c.loop-node-test.false) in
    (all_listed program c.in-Some.nodes.items c.loop-node.node-index c.loop-node.list.items few end c.loop-node.invariant).0

pub returns-clause-within : goal.returns-clause-within
returns-clause-within c =
    let program = bodies c.args.p.now in
    let few : AreFewNodes program c.in-Some.nodes.items = rw c.in-Some.is at c.in_ok-nodes.ensures in
    let same = ap length c.deref-node-items.ensures.value in
    let end : length c.in-Some.nodes.items ≤ c.loop-node.node-index = omega (arith, same, c.loop-node-test.false) in
    (all_listed program c.in-Some.nodes.items c.loop-node.node-index c.loop-node.list.items few end c.loop-node.invariant).1
