use Rattle.std.proofs.Common.{ℕ, sym, subst}
use Rattle.std.specs.Prelude.{Contains, Some}
use Rattle.smv_meaning.specs.Walks.{IsOnCycle}
use Rattle.smv_graph.specs.Graph.{Leads}
use Rattle.smv_graph.proofs.OffCycles.{settled_more}
use Rattle.smv_graph.proofs.graph.Graph.settle.Goals as goal
use Rattle.smv_graph.proofs.graph.Graph.settle.Goals.{then-stays_within+in_ok-insert, else-stays_within}

pub loop-number-preserved : goal.loop-number-preserved
loop-number-preserved c =
    let graph = c.args.self.now in
    elim c.if-stays_within.branch [
      | then-stays_within+in_ok-insert w ↦
          subst (λ q. (a : ℕ) → Contains q.keys a → IsOnCycle (Leads graph) a → ⊥) (sym w.settled-is)
          (settled_more graph c.loop-number.settled.keys w.insert.new.self.keys c.loop-number.number c.loop-number.invariant
          (λ b h. c.stays_within.ensures w.if-stays_within.true b (subst (λ r. Contains r (Some b)) (sym c.row.ensures) h)) w.in_ok-insert.ensures.keys)
      | else-stays_within w ↦ subst (λ q. (a : ℕ) → Contains q.keys a → IsOnCycle (Leads graph) a → ⊥) (sym w.settled-is) c.loop-number.invariant
    ]
