use Rattle.std.proofs.Common.{◌+◌, sym, subst, take}
use Rattle.std.specs.Prelude.{Some, None}
use Rattle.smv_graph.specs.Queues.{IsAdded}
use Rattle.smv_graph.proofs.Queues.{added_none, added_nowhere, added_one, row_more}
use Rattle.smv_graph.proofs.graph.add_row.Goals as goal
use Rattle.smv_graph.proofs.graph.add_row.Goals.{in-Some+in_ok-insert-in-Some, in-None}

pub loop-target-init : goal.loop-target-init
loop-target-init c = added_none c.args.queue.now.keys

pub loop-target-preserved : goal.loop-target-preserved
loop-target-preserved c =
    let old = c.args.queue.now.keys in
    let row = c.args.row.now in
    let i = c.loop-target.target-index in
    let here = c.loop-target.invariant in
    let test = c.loop-target-test.true in
    elim c.match-target.branch [
      | in-Some+in_ok-insert-in-Some w ↦
          subst (λ q. IsAdded old (take (i + 1) row) q.keys) (sym w.queue-is)
          (subst (λ r. IsAdded old r w.insert.new.self.keys) (sym (row_more row i _ (Some w.in-Some.number) test w.in-Some.is))
          (added_one old (take i row) c.loop-target.queue.keys w.insert.new.self.keys w.in-Some.number here w.in_ok-insert-in-Some.ensures.keys))
      | in-None w ↦
          subst (λ q. IsAdded old (take (i + 1) row) q.keys) (sym w.queue-is)
          (subst (λ r. IsAdded old r c.loop-target.queue.keys) (sym (row_more row i None None test w.in-None.is))
          (added_nowhere old (take i row) c.loop-target.queue.keys here))
    ]
