use Rattle.std.proofs.Common.{◌≡◌, ◌+◌, ◌++◌, ◌∷◌, [], Bool, not, cond, length, refl, sym, ap, subst, ◌∙◌, arith}
use Rattle.std.specs.Prelude.{Some, IfOk, OnOk}
use Rattle.smv_tree.specs.Models.{Claim, atom, no, after, always, some_time, both}
use Rattle.ltl_form.specs.declared.node.NnfNode.TheVariants as node
use Rattle.ltl_form.specs.Nodes.{Says, AtomWithin}
use Rattle.ltl_form.specs.Normal.{normal}
use Rattle.ltl_form.specs.Numbered.{claim_of, AtomsBelow}
use Rattle.ltl_form.specs.declared.numbered.NumberedFormula.{NumberedFormula}
use Rattle.ltl_form.specs.Drafts.{left_negated}
use Rattle.ltl_form.specs.Sizes.{nodes_of_one, nodes_of_two}
use Rattle.ltl_form.proofs.Drafting.{says_more, says_atom, says_after, says_always, says_some_time, says_joined, normal_no, says_on, both_on, added_says, added_count, both_of, longer}
use Rattle.ltl_form.proofs.Atoms.{always_atom, joined_atom}
use Rattle.ltl_form.proofs.normalize.+put_one.Goals as goal

pub returns-in-Atom-clause-says : goal.returns-in-Atom-clause-says
returns-in-Atom-clause-says t c = λ names.
    added_says names c.args.negated c.add.result c.args.draft.now c.add.new.self (node.Literal c.in-Atom.a c.args.negated) (claim_of names c.args.f.now) (atom (names c.in-Atom.a)) (ap (claim_of names) c.in-Atom.is) c.add.ensures.added c.add.ensures.number
    (says_atom names _ _ c.args.negated c.in-Atom.a)

pub returns-in-Atom-clause-count : goal.returns-in-Atom-clause-count
returns-in-Atom-clause-count t c = λ names.
    added_count names c.args.negated c.add.result c.args.draft.now c.add.new.self (node.Literal c.in-Atom.a c.args.negated) (claim_of names c.args.f.now) (atom (names c.in-Atom.a)) (ap (claim_of names) c.in-Atom.is) c.add.ensures.added c.add.ensures.number
    (length c.args.draft.now) refl

pub returns-in-Not-clause-says : goal.returns-in-Not-clause-says
returns-in-Not-clause-says t c = λ names.
    let a = claim_of names c.deref.result.now in
    let shape : claim_of names c.args.f.now ≡ no a = ap (claim_of names) c.in-Not.is ∙ ap (λ (x : NumberedFormula). no (claim_of names x)) (sym c.deref.ensures) in
    subst (λ (f : Claim). IfOk c.put_one.result (λ n. Says names c.put_one.new.draft n f)) (sym (normal_no c.args.negated a) ∙ ap (normal c.args.negated) (sym shape)) (c.put_one.ensures.says names)

pub returns-in-Not-clause-count : goal.returns-in-Not-clause-count
returns-in-Not-clause-count t c = λ names.
    let shape : claim_of names c.args.f.now ≡ no (claim_of names c.deref.result.now) = ap (claim_of names) c.in-Not.is ∙ ap (λ (x : NumberedFormula). no (claim_of names x)) (sym c.deref.ensures) in
    subst (λ (f : Claim). OnOk c.put_one.result (length c.put_one.new.draft ≡ length c.args.draft.now + nodes_of_one f)) (sym shape) (c.put_one.ensures.count names)

pub returns-in_ok-part-in-Next-clause-says : goal.returns-in_ok-part-in-Next-clause-says
returns-in_ok-part-in-Next-clause-says t c = λ names.
    let part = c.in_ok-part-in-Next.part in
    let old = c.put_one-in-Next.new.draft in
    let a = claim_of names c.deref-in-Next.result.now in
    let y = node.Next part in
    added_says names c.args.negated c.add-in-Next.result old c.add-in-Next.new.self y (claim_of names c.args.f.now) (after a) (ap (claim_of names) c.in-Next.is ∙ ap (λ (x : NumberedFormula). after (claim_of names x)) (sym c.deref-in-Next.ensures)) c.add-in-Next.ensures.added c.add-in-Next.ensures.number
    (λ h. says_after names (old ++ y ∷ []) (length old) c.args.negated part a h (says_more names old (y ∷ []) part (normal c.args.negated a) (c.in_ok-part-in-Next.ensures.says names)))

pub returns-in_ok-part-in-Next-clause-count : goal.returns-in_ok-part-in-Next-clause-count
returns-in_ok-part-in-Next-clause-count t c = λ names.
    let a = claim_of names c.deref-in-Next.result.now in
    added_count names c.args.negated c.add-in-Next.result c.put_one-in-Next.new.draft c.add-in-Next.new.self (node.Next c.in_ok-part-in-Next.part) (claim_of names c.args.f.now) (after a) (ap (claim_of names) c.in-Next.is ∙ ap (λ (x : NumberedFormula). after (claim_of names x)) (sym c.deref-in-Next.ensures)) c.add-in-Next.ensures.added c.add-in-Next.ensures.number
    (length c.args.draft.now) (omega (arith, c.in_ok-part-in-Next.ensures.count names))

pub returns-in_ok-part-in-Always-clause-says : goal.returns-in_ok-part-in-Always-clause-says
returns-in_ok-part-in-Always-clause-says t c = λ names.
    let part = c.in_ok-part-in-Always.part in
    let old = c.put_one-in-Always.new.draft in
    let a = claim_of names c.deref-in-Always.result.now in
    let y = c.throughout.result in
    added_says names c.args.negated c.add-in-Always.result old c.add-in-Always.new.self y (claim_of names c.args.f.now) (always a) (ap (claim_of names) c.in-Always.is ∙ ap (λ (x : NumberedFormula). always (claim_of names x)) (sym c.deref-in-Always.ensures)) c.add-in-Always.ensures.added c.add-in-Always.ensures.number
    (λ h. says_always names (old ++ y ∷ []) (length old) c.args.negated part a (h ∙ ap Some c.throughout.ensures) (says_more names old (y ∷ []) part (normal c.args.negated a) (c.in_ok-part-in-Always.ensures.says names)))

pub returns-in_ok-part-in-Always-clause-count : goal.returns-in_ok-part-in-Always-clause-count
returns-in_ok-part-in-Always-clause-count t c = λ names.
    let a = claim_of names c.deref-in-Always.result.now in
    added_count names c.args.negated c.add-in-Always.result c.put_one-in-Always.new.draft c.add-in-Always.new.self c.throughout.result (claim_of names c.args.f.now) (always a) (ap (claim_of names) c.in-Always.is ∙ ap (λ (x : NumberedFormula). always (claim_of names x)) (sym c.deref-in-Always.ensures)) c.add-in-Always.ensures.added c.add-in-Always.ensures.number
    (length c.args.draft.now) (omega (arith, c.in_ok-part-in-Always.ensures.count names))

pub returns-in_ok-part-in-Eventually-clause-says : goal.returns-in_ok-part-in-Eventually-clause-says
returns-in_ok-part-in-Eventually-clause-says t c = λ names.
    let part = c.in_ok-part-in-Eventually.part in
    let old = c.put_one-in-Eventually.new.draft in
    let a = claim_of names c.deref-in-Eventually.result.now in
    let y = c.throughout-in-Eventually.result in
    added_says names c.args.negated c.add-in-Eventually.result old c.add-in-Eventually.new.self y (claim_of names c.args.f.now) (some_time a) (ap (claim_of names) c.in-Eventually.is ∙ ap (λ (x : NumberedFormula). some_time (claim_of names x)) (sym c.deref-in-Eventually.ensures)) c.add-in-Eventually.ensures.added c.add-in-Eventually.ensures.number
    (λ h. says_some_time names (old ++ y ∷ []) (length old) c.args.negated part a (h ∙ ap Some c.throughout-in-Eventually.ensures) (says_more names old (y ∷ []) part (normal c.args.negated a) (c.in_ok-part-in-Eventually.ensures.says names)))

pub returns-in_ok-part-in-Eventually-clause-count : goal.returns-in_ok-part-in-Eventually-clause-count
returns-in_ok-part-in-Eventually-clause-count t c = λ names.
    let a = claim_of names c.deref-in-Eventually.result.now in
    added_count names c.args.negated c.add-in-Eventually.result c.put_one-in-Eventually.new.draft c.add-in-Eventually.new.self c.throughout-in-Eventually.result (claim_of names c.args.f.now) (some_time a) (ap (claim_of names) c.in-Eventually.is ∙ ap (λ (x : NumberedFormula). some_time (claim_of names x)) (sym c.deref-in-Eventually.ensures)) c.add-in-Eventually.ensures.added c.add-in-Eventually.ensures.number
    (length c.args.draft.now) (omega (arith, c.in_ok-part-in-Eventually.ensures.count names))

pub returns-in_ok-second-in-Two-2-clause-says : goal.returns-in_ok-second-in-Two-2-clause-says
returns-in_ok-second-in-Two-2-clause-says t c = λ names.
    let o = c.in-Two.op in
    let first = c.in_ok-first-in-Two-2.first in
    let second = c.in_ok-second-in-Two-2.second in
    let mid = c.put_one-in-Two.new.draft in
    let old = c.put_one-in-Two-2.new.draft in
    let a = claim_of names c.deref-in-Two.result.now in
    let b = claim_of names c.deref-in-Two-2.result.now in
    let y = c.join.result in
    let left : Says names mid first (normal (left_negated o c.args.negated) a) = subst (λ n. Says names mid first (normal n a)) c.turns_left.ensures (c.in_ok-first-in-Two-2.ensures.says names) in
    added_says names c.args.negated c.add-in-Two.result old c.add-in-Two.new.self y (claim_of names c.args.f.now) (both o a b) (ap (claim_of names) c.in-Two.is ∙ both_of names o (sym c.deref-in-Two.ensures) (sym c.deref-in-Two-2.ensures)) c.add-in-Two.ensures.added c.add-in-Two.ensures.number
    (λ h. says_joined names (old ++ y ∷ []) (length old) first second a b o c.args.negated (sym c.is_comparison.ensures ∙ c.if-is_comparison.false) (h ∙ ap Some c.join.ensures)
    (says_more names old (y ∷ []) first (normal (left_negated o c.args.negated) a) (says_on c.in_ok-second-in-Two-2.ensures.extends left))
    (says_more names old (y ∷ []) second (normal c.args.negated b) (c.in_ok-second-in-Two-2.ensures.says names)))

pub returns-in_ok-second-in-Two-2-clause-count : goal.returns-in_ok-second-in-Two-2-clause-count
returns-in_ok-second-in-Two-2-clause-count t c = λ names.
    let o = c.in-Two.op in
    let a = claim_of names c.deref-in-Two.result.now in
    let b = claim_of names c.deref-in-Two-2.result.now in
    added_count names c.args.negated c.add-in-Two.result c.put_one-in-Two-2.new.draft c.add-in-Two.new.self c.join.result (claim_of names c.args.f.now) (both o a b) (ap (claim_of names) c.in-Two.is ∙ both_of names o (sym c.deref-in-Two.ensures) (sym c.deref-in-Two-2.ensures)) c.add-in-Two.ensures.added c.add-in-Two.ensures.number
    (length c.args.draft.now)
    (omega (arith, c.in_ok-first-in-Two-2.ensures.count names, c.in_ok-second-in-Two-2.ensures.count names) ∙ ap (λ (x : Bool). length c.args.draft.now + cond x (nodes_of_two a + nodes_of_two b + 3) (nodes_of_one a + nodes_of_one b + 1)) (sym c.if-is_comparison.false ∙ c.is_comparison.ensures))

pub returns-then-is_comparison-clause-says : goal.returns-then-is_comparison-clause-says
returns-then-is_comparison-clause-says t c = λ names.
    let a = claim_of names c.deref-then-is_comparison.result.now in
    let b = claim_of names c.deref-then-is_comparison-2.result.now in
    let shape : claim_of names c.args.f.now ≡ both c.in-Two.op a b = ap (claim_of names) c.in-Two.is ∙ both_of names c.in-Two.op (sym c.deref-then-is_comparison.ensures) (sym c.deref-then-is_comparison-2.ensures) in
    subst (λ (f : Claim). IfOk c.compare.result (λ n. Says names c.compare.new.draft n (normal c.args.negated f))) (sym shape)
    (c.compare.ensures.says names a b (both_on c.in_ok-second-in-Two.ensures.extends (c.in_ok-first-in-Two.ensures.says names)) (c.in_ok-second-in-Two.ensures.says names))

pub returns-then-is_comparison-clause-count : goal.returns-then-is_comparison-clause-count
returns-then-is_comparison-clause-count t c = λ names.
    let a = claim_of names c.deref-then-is_comparison.result.now in
    let b = claim_of names c.deref-then-is_comparison-2.result.now in
    let shape : claim_of names c.args.f.now ≡ both c.in-Two.op a b = ap (claim_of names) c.in-Two.is ∙ both_of names c.in-Two.op (sym c.deref-then-is_comparison.ensures) (sym c.deref-then-is_comparison-2.ensures) in
    let size : nodes_of_one (claim_of names c.args.f.now) ≡ nodes_of_two a + nodes_of_two b + 3 = ap nodes_of_one shape ∙ ap (λ (x : Bool). cond x (nodes_of_two a + nodes_of_two b + 3) (nodes_of_one a + nodes_of_one b + 1)) (sym c.is_comparison.ensures ∙ c.if-is_comparison.true) in
    longer c.compare.result (length c.compare.new.draft) (length c.put_two-then-is_comparison.new.draft) (length c.args.draft.now) 3 (nodes_of_one (claim_of names c.args.f.now)) c.compare.ensures.count (omega (arith, size, c.in_ok-first-in-Two.ensures.count names, c.in_ok-second-in-Two.ensures.count names))

pub returns-in_ok-part-in-Next-clause-atoms : goal.returns-in_ok-part-in-Next-clause-atoms
returns-in_ok-part-in-Next-clause-atoms t c = λ m below old.
    c.add-in-Next.ensures.atoms m tt
    (c.in_ok-part-in-Next.ensures.atoms m (subst (AtomsBelow m) (sym c.deref-in-Next.ensures) (subst (AtomsBelow m) c.in-Next.is below)) old)

pub returns-in_ok-part-in-Always-clause-atoms : goal.returns-in_ok-part-in-Always-clause-atoms
returns-in_ok-part-in-Always-clause-atoms t c = λ m below old.
    c.add-in-Always.ensures.atoms m (subst (AtomWithin m) (sym c.throughout.ensures) (always_atom m c.args.negated c.in_ok-part-in-Always.part))
    (c.in_ok-part-in-Always.ensures.atoms m (subst (AtomsBelow m) (sym c.deref-in-Always.ensures) (subst (AtomsBelow m) c.in-Always.is below)) old)

pub returns-in_ok-part-in-Eventually-clause-atoms : goal.returns-in_ok-part-in-Eventually-clause-atoms
returns-in_ok-part-in-Eventually-clause-atoms t c = λ m below old.
    c.add-in-Eventually.ensures.atoms m (subst (AtomWithin m) (sym c.throughout-in-Eventually.ensures) (always_atom m (not c.args.negated) c.in_ok-part-in-Eventually.part))
    (c.in_ok-part-in-Eventually.ensures.atoms m (subst (AtomsBelow m) (sym c.deref-in-Eventually.ensures) (subst (AtomsBelow m) c.in-Eventually.is below)) old)

pub returns-in_ok-second-in-Two-2-clause-atoms : goal.returns-in_ok-second-in-Two-2-clause-atoms
returns-in_ok-second-in-Two-2-clause-atoms t c = λ m below old.
    let parts = subst (AtomsBelow m) c.in-Two.is below in
    c.add-in-Two.ensures.atoms m (subst (AtomWithin m) (sym c.join.ensures) (joined_atom m c.in-Two.op c.args.negated c.in_ok-first-in-Two-2.first c.in_ok-second-in-Two-2.second))
    (c.in_ok-second-in-Two-2.ensures.atoms m (subst (AtomsBelow m) (sym c.deref-in-Two-2.ensures) parts.1)
    (c.in_ok-first-in-Two-2.ensures.atoms m (subst (AtomsBelow m) (sym c.deref-in-Two.ensures) parts.0) old))

pub returns-then-is_comparison-clause-atoms : goal.returns-then-is_comparison-clause-atoms
returns-then-is_comparison-clause-atoms t c = λ m below old.
    let parts = subst (AtomsBelow m) c.in-Two.is below in
    c.compare.ensures.atoms m
    (c.in_ok-second-in-Two.ensures.atoms m (subst (AtomsBelow m) (sym c.deref-then-is_comparison-2.ensures) parts.1)
    (c.in_ok-first-in-Two.ensures.atoms m (subst (AtomsBelow m) (sym c.deref-then-is_comparison.ensures) parts.0) old))
