use Rattle.std.proofs.Common.{◌≡◌, ◌+◌, true, false, cond, length, sym, ap, subst, ◌∙◌, arith}
use Rattle.smv_tree.specs.Models.{Claim, atom, no, after, always, some_time}
use Rattle.ltl_form.specs.declared.node.NnfNode.TheVariants as node
use Rattle.ltl_form.specs.declared.numbered.NumberedFormula.{NumberedFormula}
use Rattle.ltl_form.specs.Nodes as says
use Rattle.ltl_form.specs.Nodes.{Says}
use Rattle.ltl_form.specs.Normal.{normal}
use Rattle.ltl_form.specs.Numbered.{claim_of, AtomsBelow}
use Rattle.ltl_form.specs.Drafts.{Extends, SaysTwo}
use Rattle.ltl_form.specs.Sizes.{compares, nodes_of_two}
use Rattle.ltl_form.proofs.Drafting.{says_on, both_on, both_of, two_extend, two_longer, two_said, twice}
use Rattle.ltl_form.proofs.normalize.+put_two.Goals as goal

pub returns-in_ok-negated-in-Atom-clause-says : goal.returns-in_ok-negated-in-Atom-clause-says
returns-in_ok-negated-in-Atom-clause-says t c = λ names.
    let a = c.in-Atom.a in
    let i = c.in_ok-plain-in-Atom.plain in
    let j = c.in_ok-negated-in-Atom.negated in
    two_said c.args.draft.now c.add.new.self c.add-in-Atom.new.self (node.Literal a false) (node.Literal a true) c.in_ok-plain-in-Atom.ensures.added c.in_ok-negated-in-Atom.ensures.added
    names i j (claim_of names c.args.f.now) (atom (names a)) (ap (claim_of names) c.in-Atom.is) c.in_ok-plain-in-Atom.ensures.number c.in_ok-negated-in-Atom.ensures.number
    (λ e. says.plain i a e) (λ e. says.negated j a e)

pub returns-in_ok-negated-in-Atom-clause-count : goal.returns-in_ok-negated-in-Atom-clause-count
returns-in_ok-negated-in-Atom-clause-count t c = λ names.
    two_longer c.args.draft.now c.add.new.self c.add-in-Atom.new.self (node.Literal c.in-Atom.a false) (node.Literal c.in-Atom.a true) c.in_ok-plain-in-Atom.ensures.added c.in_ok-negated-in-Atom.ensures.added
    ∙ ap (λ (f : Claim). length c.args.draft.now + nodes_of_two f) (sym (ap (claim_of names) c.in-Atom.is))

pub returns-in_ok-part-in-Not-clause-says : goal.returns-in_ok-part-in-Not-clause-says
returns-in_ok-part-in-Not-clause-says t c = λ names.
    let s : SaysTwo names c.put_two.new.draft c.in_ok-part-in-Not.part.plain c.in_ok-part-in-Not.part.negated (claim_of names c.deref.result.now) = c.in_ok-part-in-Not.ensures.says names in
    subst (λ (f : Claim). SaysTwo names c.put_two.new.draft c.in_ok-part-in-Not.part.negated c.in_ok-part-in-Not.part.plain f)
    (sym (ap (claim_of names) c.in-Not.is ∙ ap (λ (x : NumberedFormula). no (claim_of names x)) (sym c.deref.ensures)))
    (record { plain = s.negated; negated = s.plain })

pub returns-in_ok-part-in-Not-clause-count : goal.returns-in_ok-part-in-Not-clause-count
returns-in_ok-part-in-Not-clause-count t c = λ names.
    c.in_ok-part-in-Not.ensures.count names
    ∙ ap (λ (f : Claim). length c.args.draft.now + nodes_of_two f) (sym (ap (claim_of names) c.in-Not.is ∙ ap (λ (x : NumberedFormula). no (claim_of names x)) (sym c.deref.ensures)))

pub returns-in_ok-negated-in-Next-clause-says : goal.returns-in_ok-negated-in-Next-clause-says
returns-in_ok-negated-in-Next-clause-says t c = λ names.
    let a = claim_of names c.deref-in-Next.result.now in
    let part = c.in_ok-part-in-Next.part in
    let i = c.in_ok-plain-in-Next.plain in
    let j = c.in_ok-negated-in-Next.negated in
    let old = c.put_two-in-Next.new.draft in
    let mid = c.add-in-Next.new.self in
    let new = c.add-in-Next-2.new.self in
    let grown : Extends old new = two_extend old mid new (node.Next part.plain) (node.Next part.negated) c.in_ok-plain-in-Next.ensures.added c.in_ok-negated-in-Next.ensures.added in
    let s : SaysTwo names new part.plain part.negated a = both_on grown (c.in_ok-part-in-Next.ensures.says names) in
    two_said old mid new (node.Next part.plain) (node.Next part.negated) c.in_ok-plain-in-Next.ensures.added c.in_ok-negated-in-Next.ensures.added
    names i j (claim_of names c.args.f.now) (after a) (ap (claim_of names) c.in-Next.is ∙ ap (λ (x : NumberedFormula). after (claim_of names x)) (sym c.deref-in-Next.ensures)) c.in_ok-plain-in-Next.ensures.number c.in_ok-negated-in-Next.ensures.number
    (λ e. says.next i part.plain (normal false a) e s.plain) (λ e. says.next j part.negated (normal true a) e s.negated)

pub returns-in_ok-negated-in-Next-clause-count : goal.returns-in_ok-negated-in-Next-clause-count
returns-in_ok-negated-in-Next-clause-count t c = λ names.
    let a = claim_of names c.deref-in-Next.result.now in
    let part = c.in_ok-part-in-Next.part in
    let size : nodes_of_two (claim_of names c.args.f.now) ≡ nodes_of_two a + 2 = ap nodes_of_two (ap (claim_of names) c.in-Next.is ∙ ap (λ (x : NumberedFormula). after (claim_of names x)) (sym c.deref-in-Next.ensures)) in
    omega (arith, size, c.in_ok-part-in-Next.ensures.count names, two_longer c.put_two-in-Next.new.draft c.add-in-Next.new.self c.add-in-Next-2.new.self (node.Next part.plain) (node.Next part.negated) c.in_ok-plain-in-Next.ensures.added c.in_ok-negated-in-Next.ensures.added)

pub returns-in_ok-negated-in-Always-clause-says : goal.returns-in_ok-negated-in-Always-clause-says
returns-in_ok-negated-in-Always-clause-says t c = λ names.
    let a = claim_of names c.deref-in-Always.result.now in
    let part = c.in_ok-part-in-Always.part in
    let i = c.in_ok-plain-in-Always.plain in
    let j = c.in_ok-negated-in-Always.negated in
    let old = c.put_two-in-Always.new.draft in
    let mid = c.add-in-Always.new.self in
    let new = c.add-in-Always-2.new.self in
    let grown : Extends old new = two_extend old mid new (node.Always part.plain) (node.Eventually part.negated) c.in_ok-plain-in-Always.ensures.added c.in_ok-negated-in-Always.ensures.added in
    let s : SaysTwo names new part.plain part.negated a = both_on grown (c.in_ok-part-in-Always.ensures.says names) in
    two_said old mid new (node.Always part.plain) (node.Eventually part.negated) c.in_ok-plain-in-Always.ensures.added c.in_ok-negated-in-Always.ensures.added
    names i j (claim_of names c.args.f.now) (always a) (ap (claim_of names) c.in-Always.is ∙ ap (λ (x : NumberedFormula). always (claim_of names x)) (sym c.deref-in-Always.ensures)) c.in_ok-plain-in-Always.ensures.number c.in_ok-negated-in-Always.ensures.number
    (λ e. says.throughout i part.plain (normal false a) e s.plain) (λ e. says.eventually j part.negated (normal true a) e s.negated)

pub returns-in_ok-negated-in-Always-clause-count : goal.returns-in_ok-negated-in-Always-clause-count
returns-in_ok-negated-in-Always-clause-count t c = λ names.
    let a = claim_of names c.deref-in-Always.result.now in
    let part = c.in_ok-part-in-Always.part in
    let size : nodes_of_two (claim_of names c.args.f.now) ≡ nodes_of_two a + 2 = ap nodes_of_two (ap (claim_of names) c.in-Always.is ∙ ap (λ (x : NumberedFormula). always (claim_of names x)) (sym c.deref-in-Always.ensures)) in
    omega (arith, size, c.in_ok-part-in-Always.ensures.count names, two_longer c.put_two-in-Always.new.draft c.add-in-Always.new.self c.add-in-Always-2.new.self (node.Always part.plain) (node.Eventually part.negated) c.in_ok-plain-in-Always.ensures.added c.in_ok-negated-in-Always.ensures.added)

pub returns-in_ok-negated-in-Eventually-clause-says : goal.returns-in_ok-negated-in-Eventually-clause-says
returns-in_ok-negated-in-Eventually-clause-says t c = λ names.
    let a = claim_of names c.deref-in-Eventually.result.now in
    let part = c.in_ok-part-in-Eventually.part in
    let i = c.in_ok-plain-in-Eventually.plain in
    let j = c.in_ok-negated-in-Eventually.negated in
    let old = c.put_two-in-Eventually.new.draft in
    let mid = c.add-in-Eventually.new.self in
    let new = c.add-in-Eventually-2.new.self in
    let grown : Extends old new = two_extend old mid new (node.Eventually part.plain) (node.Always part.negated) c.in_ok-plain-in-Eventually.ensures.added c.in_ok-negated-in-Eventually.ensures.added in
    let s : SaysTwo names new part.plain part.negated a = both_on grown (c.in_ok-part-in-Eventually.ensures.says names) in
    two_said old mid new (node.Eventually part.plain) (node.Always part.negated) c.in_ok-plain-in-Eventually.ensures.added c.in_ok-negated-in-Eventually.ensures.added
    names i j (claim_of names c.args.f.now) (some_time a) (ap (claim_of names) c.in-Eventually.is ∙ ap (λ (x : NumberedFormula). some_time (claim_of names x)) (sym c.deref-in-Eventually.ensures)) c.in_ok-plain-in-Eventually.ensures.number c.in_ok-negated-in-Eventually.ensures.number
    (λ e. says.eventually i part.plain (normal false a) e s.plain) (λ e. says.throughout j part.negated (normal true a) e s.negated)

pub returns-in_ok-negated-in-Eventually-clause-count : goal.returns-in_ok-negated-in-Eventually-clause-count
returns-in_ok-negated-in-Eventually-clause-count t c = λ names.
    let a = claim_of names c.deref-in-Eventually.result.now in
    let part = c.in_ok-part-in-Eventually.part in
    let size : nodes_of_two (claim_of names c.args.f.now) ≡ nodes_of_two a + 2 = ap nodes_of_two (ap (claim_of names) c.in-Eventually.is ∙ ap (λ (x : NumberedFormula). some_time (claim_of names x)) (sym c.deref-in-Eventually.ensures)) in
    omega (arith, size, c.in_ok-part-in-Eventually.ensures.count names, two_longer c.put_two-in-Eventually.new.draft c.add-in-Eventually.new.self c.add-in-Eventually-2.new.self (node.Eventually part.plain) (node.Always part.negated) c.in_ok-plain-in-Eventually.ensures.added c.in_ok-negated-in-Eventually.ensures.added)

pub returns-in_ok-negated-in-Two-clause-says : goal.returns-in_ok-negated-in-Two-clause-says
returns-in_ok-negated-in-Two-clause-says t c = λ names.
    let a = claim_of names c.deref-in-Two.result.now in
    let b = claim_of names c.deref-in-Two-2.result.now in
    let left = both_on c.in_ok-second-in-Two.ensures.extends (c.in_ok-first-in-Two.ensures.says names) in
    let right = c.in_ok-second-in-Two.ensures.says names in
    let on = c.in_ok-plain-in-Two.ensures.extends in
    subst (λ (f : Claim). SaysTwo names c.combine-in-Two.new.draft c.in_ok-plain-in-Two.plain c.in_ok-negated-in-Two.negated f)
    (sym (ap (claim_of names) c.in-Two.is ∙ both_of names c.in-Two.op (sym c.deref-in-Two.ensures) (sym c.deref-in-Two-2.ensures)))
    (record {
      plain = says_on c.in_ok-negated-in-Two.ensures.extends (c.in_ok-plain-in-Two.ensures.says names a b left right);
      negated = c.in_ok-negated-in-Two.ensures.says names a b (both_on on left) (both_on on right);
    })

pub returns-in_ok-negated-in-Two-clause-count : goal.returns-in_ok-negated-in-Two-clause-count
returns-in_ok-negated-in-Two-clause-count t c = λ names.
    let a = claim_of names c.deref-in-Two.result.now in
    let b = claim_of names c.deref-in-Two-2.result.now in
    let o = c.in-Two.op in
    let size : nodes_of_two (claim_of names c.args.f.now) ≡ nodes_of_two a + nodes_of_two b + cond (compares o) 6 2 = ap nodes_of_two (ap (claim_of names) c.in-Two.is ∙ both_of names o (sym c.deref-in-Two.ensures) (sym c.deref-in-Two-2.ensures)) in
    omega (arith, size, twice (compares o), c.in_ok-first-in-Two.ensures.count names, c.in_ok-second-in-Two.ensures.count names, c.in_ok-plain-in-Two.ensures.count, c.in_ok-negated-in-Two.ensures.count)

pub returns-in_ok-part-in-Not-clause-atoms : goal.returns-in_ok-part-in-Not-clause-atoms
returns-in_ok-part-in-Not-clause-atoms t c = λ m below old. c.in_ok-part-in-Not.ensures.atoms m (subst (AtomsBelow m) (sym c.deref.ensures) (subst (AtomsBelow m) c.in-Not.is below)) old

pub returns-in_ok-negated-in-Next-clause-atoms : goal.returns-in_ok-negated-in-Next-clause-atoms
returns-in_ok-negated-in-Next-clause-atoms t c = λ m below old.
    c.in_ok-negated-in-Next.ensures.atoms m tt (c.in_ok-plain-in-Next.ensures.atoms m tt
    (c.in_ok-part-in-Next.ensures.atoms m (subst (AtomsBelow m) (sym c.deref-in-Next.ensures) (subst (AtomsBelow m) c.in-Next.is below)) old))

pub returns-in_ok-negated-in-Always-clause-atoms : goal.returns-in_ok-negated-in-Always-clause-atoms
returns-in_ok-negated-in-Always-clause-atoms t c = λ m below old.
    c.in_ok-negated-in-Always.ensures.atoms m tt (c.in_ok-plain-in-Always.ensures.atoms m tt
    (c.in_ok-part-in-Always.ensures.atoms m (subst (AtomsBelow m) (sym c.deref-in-Always.ensures) (subst (AtomsBelow m) c.in-Always.is below)) old))

pub returns-in_ok-negated-in-Eventually-clause-atoms : goal.returns-in_ok-negated-in-Eventually-clause-atoms
returns-in_ok-negated-in-Eventually-clause-atoms t c = λ m below old.
    c.in_ok-negated-in-Eventually.ensures.atoms m tt (c.in_ok-plain-in-Eventually.ensures.atoms m tt
    (c.in_ok-part-in-Eventually.ensures.atoms m (subst (AtomsBelow m) (sym c.deref-in-Eventually.ensures) (subst (AtomsBelow m) c.in-Eventually.is below)) old))

pub returns-in_ok-negated-in-Two-clause-atoms : goal.returns-in_ok-negated-in-Two-clause-atoms
returns-in_ok-negated-in-Two-clause-atoms t c = λ m below old.
    let parts = subst (AtomsBelow m) c.in-Two.is below in
    c.in_ok-negated-in-Two.ensures.atoms m (c.in_ok-plain-in-Two.ensures.atoms m
    (c.in_ok-second-in-Two.ensures.atoms m (subst (AtomsBelow m) (sym c.deref-in-Two-2.ensures) parts.1)
    (c.in_ok-first-in-Two.ensures.atoms m (subst (AtomsBelow m) (sym c.deref-in-Two.ensures) parts.0) old)))
