use Rattle.std.proofs.Common.{refl, ◌∙◌, sym, ap, subst, map, flat_map, take, ◌++◌, ◌∷◌, [], arith}
use Rattle.std.proofs.lemmas.List.{take_more, take_all, map-append}
use Rattle.smv_tree.specs.Models.{bodies, body_of}
use Rattle.smv_modules.specs.References.{references_in}
use Rattle.smv_modules.proofs.Reached.{AreLookedAt, none_looked_at, looked_at_more}
use Rattle.smv_modules.proofs.references.first_reference_fault.Goals as goal

pub loop-one-init : goal.loop-one-init
loop-one-init c = none_looked_at (bodies c.args.p.now)

pub loop-one-preserved : goal.loop-one-preserved
loop-one-preserved c =
    let program = bodies c.args.p.now in
    let xs = c.deref-one-items.result.now in
    let i = c.loop-one.one-index in
    let x = c.one-item.result in
    let more = take_more xs i x c.loop-one-test.true ∙ ap (λ y. take i xs ++ y ∷ []) (sym c.one-item.is) in
    let all = ap (map body_of) more ∙ map-append body_of (take i xs) (x ∷ []) in
    subst (λ some. AreLookedAt program some c.earlier-first.result) (sym all)
    (looked_at_more program (map body_of (take i xs)) (body_of x) c.loop-one.first c.in_ok-reached_fault.field-0 c.earlier-first.result c.loop-one.invariant c.in_ok-reached_fault.ensures c.earlier-first.ensures)

pub returns : goal.returns
returns c =
    let program = bodies c.args.p.now in
    let xs = c.deref-one-items.result.now in
    let all = ap (map body_of) (take_all c.loop-one.one-index xs (omega arith) ∙ c.deref-one-items.ensures.value) in
    let looked = subst (λ some. AreLookedAt program some c.loop-one.first) all c.loop-one.invariant in
    (flat_map (references_in program) looked.reached, record { reached = looked.reached; are_reached = looked.are_reached; listed = refl }, looked.first_is)
