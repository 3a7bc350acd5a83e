use Rattle.std.proofs.Common.{ℕ, sym, subst, take, arith, get_or, refl}
use Rattle.std.specs.Prelude.{None}
use Rattle.std.proofs.lemmas.List.{take_more, take_all}
use Rattle.smv_graph.specs.Choices.{LeadsAt}
use Rattle.smv_graph.proofs.Leasts.{least_at_none, none_more, first_chosen}
use Rattle.smv_graph.proofs.choice.first_at.Goals as goal

pub loop-target-init : goal.loop-target-init
loop-target-init c = least_at_none c.args.distances.now.entries c.args.distance

pub loop-target-preserved : goal.loop-target-preserved
loop-target-preserved c =
    let entries = c.args.distances.now.entries in
    let row = c.args.row.now in
    let far = c.args.distance in
    let i = c.loop-target.target-index in
    subst (λ r. (b : ℕ) → LeadsAt entries r far b → ⊥) (sym (take_more row i None c.loop-target-test.true))
    (none_more entries (take i row) far (get_or row i None) c.loop-target.invariant (λ b h. c.in_default.not-Some b ((c.module_at.ensures b).1 h)))

pub returns : goal.returns
returns c =
    let row = c.args.row.now in
    let i = c.loop-target.target-index in
    subst (λ r. (b : ℕ) → LeadsAt c.args.distances.now.entries r c.args.distance b → ⊥)
    (take_all i row (omega (arith, c.loop-target-test.false))) c.loop-target.invariant

pub returns-in-Some : goal.returns-in-Some
returns-in-Some c =
    let entries = c.args.distances.now.entries in
    let row = c.args.row.now in
    let i = c.loop-target.target-index in
    let here = (c.in-Some.ensures c.in-Some.number).0 refl in
    first_chosen entries row c.args.distance i c.in-Some.number c.loop-target.invariant c.loop-target-test.true here.0 here.1
