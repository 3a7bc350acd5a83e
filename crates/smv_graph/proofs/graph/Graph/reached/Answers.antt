use Rattle.std.proofs.Common.{◌<◌, ◌≤◌, length, subst, arith}
use Rattle.smv_graph.specs.Graph.{row_of, IsClosed}
use Rattle.smv_graph.specs.Queues.{IsAdded}
use Rattle.smv_graph.proofs.Queues.{queue_begun, queue_on, queue_done, queue_short}
use Rattle.smv_graph.proofs.graph.Graph.reached.Goals as goal

pub loop-next-init : goal.loop-next-init
loop-next-init c =
    queue_begun c.args.self.now c.args.start c.add_row.new.queue.keys
    (subst (λ o. IsAdded o (row_of c.args.self.now c.args.start) c.add_row.new.queue.keys) c.new-queue.ensures.empty
    (subst (λ r. IsAdded c.new-queue.result.keys r c.add_row.new.queue.keys) c.row.ensures c.in_ok-add_row.ensures))

pub loop-next-preserved : goal.loop-next-preserved
loop-next-preserved c =
    queue_on c.args.self.now c.args.start c.loop-next.next c.loop-next.queue.keys c.add_row-in-loop-next.new.queue.keys c.number_at-number.result c.loop-next.invariant c.number_at-number.ensures
    (subst (λ r. IsAdded c.loop-next.queue.keys r c.add_row-in-loop-next.new.queue.keys) c.row-in-loop-next.ensures c.in_ok-add_row-2.ensures)

pub loop-next-smaller : goal.loop-next-smaller
loop-next-smaller c =
    let graph = c.args.self.now in
    let short : length c.loop-next.queue.keys ≤ length graph =
    queue_short graph c.args.start c.loop-next.next c.loop-next.queue.keys (subst IsClosed c.self.view_is c.self.invariant) c.loop-next.invariant c.len.ensures.unique in
    let test : c.loop-next.next < length c.loop-next.queue.keys = omega (arith, c.len.ensures.len, c.loop-next-test.true) in
    omega (arith, short, test)

pub returns : goal.returns
returns c b =
    let keys = c.loop-next.queue.keys in
    let all : length keys ≤ c.loop-next.next = omega (arith, c.len.ensures.len, c.loop-next-test.false) in
    (c.loop-next.invariant.sound b, queue_done c.args.self.now c.args.start c.loop-next.next keys c.loop-next.invariant all b)
