use Rattle.std.proofs.Common.{◌≡◌, ◌<◌, ◌++◌, length, sym, subst, arith}
use Rattle.std.specs.Prelude.{reverse, filter_map}
use Rattle.std.proofs.lemmas.List.{length-map}
use Rattle.smv_tree.specs.Models.{bodies, body_of}
use Rattle.smv_meaning.proofs.Lists.{slice_get-map}
use Rattle.smv_modules.specs.Nodes.{node_in, IsSearch}
use Rattle.smv_modules.proofs.Listing.{search_next, next_numbered, search_on}
use Rattle.smv_modules.proofs.nodes.list_next.Goals as goal

pub module_at-one-requires : goal.module_at-one-requires
module_at-one-requires c =
    let program = bodies c.args.p.now in
    let nodes = c.args.nodes.now.items in
    let waiting = c.args.waiting.now.items in
    let n = search_next program nodes waiting c.args.next c.requires.search in
    subst (λ k. c.args.next.number < k) (length-map c.args.p.now.modules.items body_of) (next_numbered program nodes waiting c.args.next n)

pub returns-clause-search : goal.returns-clause-search
returns-clause-search c =
    let program = bodies c.args.p.now in
    let nodes = c.args.nodes.now.items in
    let waiting = c.args.waiting.now.items in
    let later = c.push_nodes.new.waiting.items in
    let one = body_of c.module_at-one.result.now in
    let n = search_next program nodes waiting c.args.next c.requires.search in
    let there = slice_get-map body_of c.args.p.now.modules.items c.args.next.number c.module_at-one.result.now c.module_at-one.ensures in
    let count : c.len-parent.result ≡ length nodes = omega (arith, c.len-parent.ensures, c.args.nodes.now.ok.0) in
    let pushed = subst (λ k. reverse later ≡ filter_map (node_in c.args.numbers.now k) one.parts ++ reverse waiting) count c.in_ok-push_nodes.ensures in
    let search = search_on program c.requires.acyclic c.args.numbers.now c.requires.numbers nodes waiting later c.args.next one n there pushed in
    subst (λ all. IsSearch program all later) (sym c.in_ok-push.ensures.items) search
