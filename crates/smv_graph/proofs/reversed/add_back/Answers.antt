use Rattle.std.proofs.Common.{◌+◌, ◌∙◌, map, take, sym, subst, arith}
use Rattle.std.specs.Prelude.{Contains, Some, None}
use Rattle.std.proofs.lemmas.List.{length-map, take_all, get_or_default}
use Rattle.smv_graph.specs.Arrows.{AreAdded, IsBack}
use Rattle.smv_graph.proofs.Queues.{row_more}
use Rattle.smv_graph.proofs.Arrows.{nowhere_back, one_back}
use Rattle.smv_graph.proofs.reversed.add_back.Goals as goal
use Rattle.smv_graph.proofs.reversed.add_back.Goals.{in-Some+in_ok-add_arrow-in-Some, in-None}

pub add_arrow-requires : goal.add_arrow-requires
add_arrow-requires c =
    let row = c.args.row.now in
    let i = c.loop-target.target-index in
    let here : Contains row (Some c.in-Some.a) = (i, c.loop-target-test.true, get_or_default row i (Some c.in-Some.a) None c.loop-target-test.true ∙ c.in-Some.is) in
    let within = c.requires c.in-Some.a here in
    let old = length-map c.args.rows.now.items (λ r. r.items) in
    let new = length-map c.loop-target.rows.items (λ r. r.items) in
    let same = c.loop-target.invariant.0 in
    omega (arith, within, old, new, same)

pub loop-target-preserved : goal.loop-target-preserved
loop-target-preserved c =
    let row = c.args.row.now in
    let n = c.args.number in
    let i = c.loop-target.target-index in
    let old = map (λ r. r.items) c.args.rows.now.items in
    let mid = map (λ r. r.items) c.loop-target.rows.items in
    let test = c.loop-target-test.true in
    elim c.match-target.branch [
      | in-Some+in_ok-add_arrow-in-Some w ↦
          subst (λ q. AreAdded old (IsBack (take (i + 1) row) n) (map (λ r. r.items) q.items)) (sym w.rows-is)
          (subst (λ r. AreAdded old (IsBack r n) (map (λ q. q.items) w.add_arrow.new.rows.items)) (sym (row_more row i _ (Some w.in-Some.a) test w.in-Some.is))
          (one_back old mid (take i row) n c.loop-target.invariant (map (λ r. r.items) w.add_arrow.new.rows.items) w.in-Some.a w.in_ok-add_arrow-in-Some.ensures))
      | in-None w ↦
          subst (λ q. AreAdded old (IsBack (take (i + 1) row) n) (map (λ r. r.items) q.items)) (sym w.rows-is)
          (subst (λ r. AreAdded old (IsBack r n) mid) (sym (row_more row i None None test w.in-None.is))
          (nowhere_back old mid (take i row) n c.loop-target.invariant))
    ]

pub returns : goal.returns
returns c =
    let row = c.args.row.now in
    let i = c.loop-target.target-index in
    subst (λ r. AreAdded (map (λ q. q.items) c.args.rows.now.items) (IsBack r c.args.number) (map (λ q. q.items) c.loop-target.rows.items))
    (take_all i row (omega (arith, c.loop-target-test.false))) c.loop-target.invariant
