use Rattle.std.proofs.Common.{◌≡◌, [], length, sym, subst, rules, arith}
use Rattle.std.proofs.lemmas.Grind.{common_steps}
use Rattle.ltl_form.specs.Nodes.{AtomsWithin}
use Rattle.ltl_form.specs.Numbered.{claim_of}
use Rattle.ltl_form.specs.Sizes.{nodes_of_one}
use Rattle.ltl_form.proofs.Drafting.{one_bound, plain_bound}
use Rattle.ltl_form.proofs.normalize.to_nnf.Goals as goal

pub returns-clause-linear : goal.returns-clause-linear
returns-clause-linear c = λ names.
    let count : length c.finish.result ≡ nodes_of_one (claim_of names c.args.f.now) = first_of (search rules, grind (arith, common_steps)) in
    omega (arith, count, one_bound (claim_of names c.args.f.now))

pub returns-clause-plain : goal.returns-clause-plain
returns-clause-plain c = λ names none.
    let count : length c.finish.result ≡ nodes_of_one (claim_of names c.args.f.now) = first_of (search rules, grind (arith, common_steps)) in
    omega (arith, count, plain_bound (claim_of names c.args.f.now) none)

pub returns-clause-atoms : goal.returns-clause-atoms
returns-clause-atoms c = λ m below.
    let none : AtomsWithin m [] = λ i w. absurd (omega (arith, w)) in
    subst (AtomsWithin m) (sym c.finish.ensures) (c.in_ok-put_one.ensures.atoms m below (subst (AtomsWithin m) (sym c.new-draft.ensures) none))
