use Rattle.std.proofs.Common.{◌≡◌, ◌+◌, ◌<◌, ◌≤◌, ◌∷◌, ◌++◌, [], ◌∙◌, length, eqb, ap, subst, arith}
use Rattle.std.specs.Prelude.{is_some, if◌then◌else◌}
use Rattle.std.specs.Map.{lookup}
use Rattle.smv_graph.specs.Distances.{AreNoted}
use Rattle.smv_graph.proofs.Sweeps.{sweep_begun, sweep_on, sweep_done, sweep_short}
use Rattle.smv_graph.proofs.graph.Graph.distances.Goals as goal

pub loop-next-init : goal.loop-next-init
loop-next-init c =
    let target = c.args.target in
    let empty : c.new-distances.result.entries ≡ [] = c.new-distances.ensures.empty in
    sweep_begun c.args.self.now target c.note.new.distances.entries
    (c.in_ok-note.ensures ∙ ap (λ es. if is_some (lookup (eqb target) es) then es else es ++ (target, 0) ∷ []) empty)

pub loop-next-preserved : goal.loop-next-preserved
loop-next-preserved c =
    let entry = c.entry_at-number.result in
    let entries = c.loop-next.distances.entries in
    let later = c.note_row.new.distances.entries in
    sweep_on c.args.self.now c.args.target c.in_ok-back.back c.in_ok-back.ensures c.loop-next.next entries later entry.0 entry.1
    c.loop-next.invariant c.entry_at-number.ensures
    (subst (λ r. AreNoted entries r (entry.1 + 1) later) c.row.ensures c.in_ok-note_row.ensures)

pub loop-next-smaller : goal.loop-next-smaller
loop-next-smaller c =
    let graph = c.args.self.now in
    let entries = c.loop-next.distances.entries in
    let short : length entries ≤ length graph + c.args.target + 1 =
    sweep_short graph c.args.target c.loop-next.next entries c.loop-next.invariant c.len.ensures.unique in
    let test : c.loop-next.next < length entries = omega (arith, c.len.ensures.len, c.loop-next-test.true) in
    omega (arith, short, test)

pub overflow_add-distance : goal.overflow_add-distance
overflow_add-distance c =
    let entry = c.entry_at-number.result in
    let near = c.loop-next.invariant.small c.loop-next.next entry.0 entry.1 c.entry_at-number.ensures in
    omega (arith, near, c.len.ensures.small, c.loop-next-test.true)

pub returns : goal.returns
returns c =
    sweep_done c.args.self.now c.args.target c.loop-next.next c.loop-next.distances.entries c.loop-next.invariant
    (omega (arith, c.len.ensures.len, c.loop-next-test.false))
