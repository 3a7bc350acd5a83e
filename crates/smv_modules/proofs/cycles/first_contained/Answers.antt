use Rattle.std.proofs.Common.{◌≡◌, ◌≤◌, ◌∙◌, ℕ, List, length, map, sym, ap, subst, arith}
use Rattle.std.specs.Prelude.{Option}
use Rattle.std.proofs.lemmas.Bool.{false≢true}
use Rattle.std.proofs.lemmas.List.{length-map}
use Rattle.smv_tree.specs.Models.{bodies}
use Rattle.smv_meaning.specs.Walks.{IsOnCycle}
use Rattle.smv_graph.specs.Graph.{Leads, module_number}
use Rattle.smv_modules.proofs.Contained.{IsContained, first_is_contained, contained_more, none_contained}
use Rattle.smv_modules.proofs.cycles.first_contained.Goals as goal

pub returns-then-branch : goal.returns-then-branch
returns-then-branch c =
    let program = bodies c.args.p.now in
    let k = c.loop-number.number in
    let so = c.in_ok-is_contained.ensures.0 c.if-branch.true in
    let here : IsContained program k = ((c.in_ok-reached.ensures k).0 so.0, subst (λ g. IsOnCycle (Leads g) k) c.in_ok-graph.ensures so.1) in
    first_is_contained program k c.loop-number.invariant here

pub loop-number-preserved : goal.loop-number-preserved
loop-number-preserved c =
    let program = bodies c.args.p.now in
    let k = c.loop-number.number in
    contained_more program k c.loop-number.invariant (λ (h : IsContained program k).
    false≢true (sym c.if-branch.false ∙ c.in_ok-is_contained.ensures.1 ((c.in_ok-reached.ensures k).1 h.0, subst (λ g. IsOnCycle (Leads g) k) (sym c.in_ok-graph.ensures) h.1)))

pub returns : goal.returns
returns c =
    let program = bodies c.args.p.now in
    let k = c.loop-number.number in
    let size : length c.in_ok-graph.graph ≡ length program =
    ap (λ (g : List (List (Option ℕ))). length g) c.in_ok-graph.ensures ∙ length-map program (λ b. map (module_number program) b.parts) in
    let all : length program ≤ k = omega (arith, size, c.len-number-end.ensures, c.loop-number-test.false) in
    none_contained program k all c.loop-number.invariant
