use Rattle.std.proofs.Common.{◌<◌, ◌&&◌, length, arith, ◌∙◌, ap, eqb}
use Rattle.std.proofs.lemmas.List.{take_all}
use Rattle.gates.specs.Valuation.{value_of}
use Rattle.gates.proofs.Growth.{Grows-trans, AddsConjunctions-trans, Grows-refl, AddsConjunctions-refl}
use Rattle.gates.proofs.Meaning.{IsValuation-Grows, value_of-constant}
use Rattle.word_bits.specs.Words.{unsigned}
use Rattle.word_bits.proofs.Circuits.{span-pos, grown}
use Rattle.word_bits.proofs.Numbers.{same_more}
use Rattle.word_bits.proofs.compare.eq.Goals as goal

pub returns-in_err-apart-clause-conjunctions : goal.returns-in_err-apart-clause-conjunctions
returns-in_err-apart-clause-conjunctions c = AddsConjunctions-trans c.loop-i.invariant.conjunctions c.in_err-apart.ensures.conjunctions

pub returns-in_err-apart-clause-grows : goal.returns-in_err-apart-clause-grows
returns-in_err-apart-clause-grows c = grown (returns-in_err-apart-clause-conjunctions c)

pub returns-in_err-same-clause-conjunctions : goal.returns-in_err-same-clause-conjunctions
returns-in_err-same-clause-conjunctions c = AddsConjunctions-trans c.loop-i.invariant.conjunctions (AddsConjunctions-trans c.in_ok-apart.ensures.conjunctions c.in_err-same.ensures.conjunctions)

pub returns-in_err-same-clause-grows : goal.returns-in_err-same-clause-grows
returns-in_err-same-clause-grows c = grown (returns-in_err-same-clause-conjunctions c)

pub loop-i-init : goal.loop-i-init
loop-i-init c = record {
  meaning = λ values v. (value_of-constant v).0;
  belongs = omega (arith, span-pos c.args.a.now c.requires.bits);
  grows = Grows-refl _;
  conjunctions = AddsConjunctions-refl _;
}

pub loop-i-preserved : goal.loop-i-preserved
loop-i-preserved c =
    let in_a : c.loop-i.i < length c.args.a.now = omega arith in
    let in_b : c.loop-i.i < length c.args.b.now = omega arith in
    record {
      meaning = λ values v.
          let v1 = IsValuation-Grows c.in_ok-same.ensures.grows v in
          let v0 = IsValuation-Grows c.in_ok-apart.ensures.grows v1 in
          same_more values c.args.a.now c.args.b.now c.loop-i.i c.get.result c.get-in-loop-i.result _ _ (value_of values c.in_ok-apart.apart)
          in_a in_b c.get.ensures c.get-in-loop-i.ensures (c.in_ok-apart.ensures.meaning values v1)
          (c.in_ok-same.ensures.meaning values v ∙ ap (λ b. value_of values c.loop-i.same && b) (c.lit_not.ensures.value values))
          (c.loop-i.invariant.meaning values v0);
      belongs = c.in_ok-same.ensures.belongs;
      grows = Grows-trans c.loop-i.invariant.grows (Grows-trans c.in_ok-apart.ensures.grows c.in_ok-same.ensures.grows);
      conjunctions = AddsConjunctions-trans c.loop-i.invariant.conjunctions (AddsConjunctions-trans c.in_ok-apart.ensures.conjunctions c.in_ok-same.ensures.conjunctions);
    }

pub returns-clause-meaning : goal.returns-clause-meaning
returns-clause-meaning c values v =
    let a = take_all c.loop-i.i c.args.a.now (omega arith) in
    let b = take_all c.loop-i.i c.args.b.now (omega arith) in
    c.loop-i.invariant.meaning values v ∙ (λ j. eqb (unsigned values (a j)) (unsigned values (b j)))
