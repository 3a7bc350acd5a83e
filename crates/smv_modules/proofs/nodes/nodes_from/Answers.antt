use Rattle.std.proofs.Common.{◌≡◌, ◌<◌, ◌≤◌, ◌++◌, ◌∷◌, [], List, length, sym, ap, ◌∙◌, subst, arith}
use Rattle.std.specs.Prelude.{None}
use Rattle.smv_tree.specs.Models.{bodies}
use Rattle.smv_meaning.specs.Instances.{instances}
use Rattle.smv_modules.specs.declared.nodes.Node.{Node}
use Rattle.smv_modules.specs.Nodes.{IsSearch}
use Rattle.smv_modules.proofs.Listing.{search_begun, search_next, search_done, more_there, no_elements}
use Rattle.smv_modules.proofs.nodes.nodes_from.Goals as goal

pub loop-next-init : goal.loop-next-init
loop-next-init c =
    let program = bodies c.args.p.now in
    let node : Node = record { name = None; number = c.args.main; parent = 0 } in
    let waiting = c.in_ok-push.ensures.items ∙ ap (λ (xs : List Node). xs ++ node ∷ []) c.new-waiting.ensures.items in
    let begun = subst (IsSearch program []) (sym waiting) (search_begun program c.args.main c.requires.main) in
    record {
      few = subst (λ (xs : List Node). length xs ≤ 100000) (sym c.new-nodes.ensures.items) (omega arith);
      search = subst (λ (xs : List Node). IsSearch program xs c.push.new.self.items) (sym c.new-nodes.ensures.items) begun;
    }

pub returns-then-len-eq-MOST : goal.returns-then-len-eq-MOST
returns-then-len-eq-MOST c =
    let program = bodies c.args.p.now in
    let nodes = c.loop-next.nodes.items in
    let rest = c.pop.new.self.items in
    let search = subst (IsSearch program nodes) c.in-Some.ensures.items c.loop-next.invariant.search in
    let n = search_next program nodes rest c.in-Some.next search in
    let more : length nodes < length (instances program) = more_there program c.requires.acyclic nodes rest c.in-Some.next n in
    let full : length nodes ≡ 100000 = omega (arith, c.if-len-eq-MOST.true, c.len.ensures, c.loop-next.nodes.ok.0) in
    subst (λ k. k < length (instances program)) full more

pub returns : goal.returns
returns c =
    let program = bodies c.args.p.now in
    let nodes = c.loop-next.nodes.items in
    let short : length c.loop-next.waiting.items ≡ 0 = omega (arith, c.in_default.ensures.cases, c.loop-next.waiting.ok.0) in
    (search_done program nodes (subst (IsSearch program nodes) (no_elements c.loop-next.waiting.items short) c.loop-next.invariant.search), c.loop-next.invariant.few)
