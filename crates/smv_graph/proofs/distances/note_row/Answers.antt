use Rattle.std.proofs.Common.{◌+◌, sym, subst, take}
use Rattle.std.specs.Prelude.{Some, None}
use Rattle.smv_graph.specs.Distances.{AreNoted}
use Rattle.smv_graph.proofs.Queues.{row_more}
use Rattle.smv_graph.proofs.Sweeps.{none_noted, nowhere_noted, one_noted}
use Rattle.smv_graph.proofs.distances.note_row.Goals as goal
use Rattle.smv_graph.proofs.distances.note_row.Goals.{in-Some+in_ok-note-in-Some, in-None}

pub loop-target-init : goal.loop-target-init
loop-target-init c = none_noted c.args.distances.now.entries c.args.distance

pub loop-target-preserved : goal.loop-target-preserved
loop-target-preserved c =
    let old = c.args.distances.now.entries in
    let row = c.args.row.now in
    let far = c.args.distance in
    let i = c.loop-target.target-index in
    let mid = c.loop-target.distances.entries in
    let test = c.loop-target-test.true in
    elim c.match-target.branch [
      | in-Some+in_ok-note-in-Some w ↦
          subst (λ q. AreNoted old (take (i + 1) row) far q.entries) (sym w.distances-is)
          (subst (λ r. AreNoted old r far w.note.new.distances.entries) (sym (row_more row i _ (Some w.in-Some.number) test w.in-Some.is))
          (one_noted old mid (take i row) far c.loop-target.invariant w.note.new.distances.entries w.in-Some.number w.in_ok-note-in-Some.ensures))
      | in-None w ↦
          subst (λ q. AreNoted old (take (i + 1) row) far q.entries) (sym w.distances-is)
          (subst (λ r. AreNoted old r far mid) (sym (row_more row i None None test w.in-None.is))
          (nowhere_noted old mid (take i row) far c.loop-target.invariant))
    ]
