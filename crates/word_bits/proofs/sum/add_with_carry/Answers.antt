use Rattle.std.proofs.Common.{◌<◌, length, arith, ap, ◌∙◌, ◌≡◌, ◌+◌, ◌^◌, ◌*◌}
use Rattle.std.proofs.lemmas.List.{length_push, take_all}
use Rattle.gates.specs.Literal.{span}
use Rattle.gates.specs.Valuation.{value_of}
use Rattle.gates.proofs.Growth.{Grows-trans, AddsConjunctions-trans, Grows-refl, AddsConjunctions-refl}
use Rattle.gates.proofs.Meaning.{IsValuation-Grows}
use Rattle.word_bits.specs.Number.{digit}
use Rattle.word_bits.specs.Words.{unsigned}
use Rattle.word_bits.proofs.Circuits.{push_belongs, grown}
use Rattle.word_bits.proofs.Numbers.{add_more}
use Rattle.word_bits.proofs.sum.add_with_carry.Goals as goal

pub returns-in_err-bit-clause-conjunctions : goal.returns-in_err-bit-clause-conjunctions
returns-in_err-bit-clause-conjunctions c = AddsConjunctions-trans c.loop-i.invariant.conjunctions c.in_err-bit.ensures.conjunctions

pub returns-in_err-bit-clause-grows : goal.returns-in_err-bit-clause-grows
returns-in_err-bit-clause-grows c = grown (returns-in_err-bit-clause-conjunctions c)

pub returns-in_err-through-clause-conjunctions : goal.returns-in_err-through-clause-conjunctions
returns-in_err-through-clause-conjunctions c = AddsConjunctions-trans c.loop-i.invariant.conjunctions (AddsConjunctions-trans c.in_ok-bit.ensures.conjunctions c.in_err-through.ensures.conjunctions)

pub returns-in_err-through-clause-grows : goal.returns-in_err-through-clause-grows
returns-in_err-through-clause-grows c = grown (returns-in_err-through-clause-conjunctions c)

pub returns-in_err-push-clause-conjunctions : goal.returns-in_err-push-clause-conjunctions
returns-in_err-push-clause-conjunctions c = AddsConjunctions-trans c.loop-i.invariant.conjunctions (AddsConjunctions-trans c.in_ok-bit.ensures.conjunctions c.in_ok-through.ensures.conjunctions)

pub returns-in_err-push-clause-grows : goal.returns-in_err-push-clause-grows
returns-in_err-push-clause-grows c = grown (returns-in_err-push-clause-conjunctions c)

pub loop-i-preserved : goal.loop-i-preserved
loop-i-preserved c =
    let in_a : c.loop-i.i < length c.args.a.now = omega arith in
    let in_b : c.loop-i.i < length c.args.b.now = omega arith in
    record {
      width = omega (arith, ap length c.in_ok-push.ensures.ok, length_push c.loop-i.sum c.in_ok-bit.bit);
      spells = λ values v.
          let v1 = IsValuation-Grows c.in_ok-through.ensures.grows v in
          let v0 = IsValuation-Grows c.in_ok-bit.ensures.grows v1 in
          rw c.in_ok-push.ensures.ok
          (add_more values c.args.a.now c.args.b.now c.loop-i.sum c.loop-i.i _ c.get-x.result c.get-y.result c.in_ok-bit.bit c.loop-i.through c.in_ok-through.through
          in_a in_b c.loop-i.invariant.width c.get-x.ensures c.get-y.ensures (c.in_ok-bit.ensures.meaning values v1) (c.in_ok-through.ensures.meaning values v)
          (c.loop-i.invariant.spells values v0));
      belongs = push_belongs c.loop-i.sum _ c.in_ok-bit.bit c.in_ok-push.ensures.ok c.loop-i.invariant.belongs (Grows-trans c.in_ok-bit.ensures.grows c.in_ok-through.ensures.grows) (omega (arith, c.in_ok-bit.ensures.belongs, c.in_ok-through.ensures.grows.longer));
      carry_belongs = c.in_ok-through.ensures.belongs;
      grows = Grows-trans c.loop-i.invariant.grows (Grows-trans c.in_ok-bit.ensures.grows c.in_ok-through.ensures.grows);
      conjunctions = AddsConjunctions-trans c.loop-i.invariant.conjunctions (AddsConjunctions-trans c.in_ok-bit.ensures.conjunctions c.in_ok-through.ensures.conjunctions);
    }

pub loop-i-init : goal.loop-i-init
loop-i-init c = record {
  width = ap length c.new-sum.ensures;
  spells = λ values v. ap (λ l. unsigned values l + 2 ^ 0 * digit (value_of values c.args.carry)) c.new-sum.ensures ∙ (let e : 0 + 2 ^ 0 * digit (value_of values c.args.carry) ≡ 0 + 0 + digit (value_of values c.args.carry) = omega arith in e);
  belongs = omega (arith, ap span c.new-sum.ensures);
  carry_belongs = c.requires.third;
  grows = Grows-refl _;
  conjunctions = AddsConjunctions-refl _;
}

pub returns-clause-sum : goal.returns-clause-sum
returns-clause-sum c values v =
    let n : length c.args.a.now ≡ c.loop-i.i = omega arith in
    let a = take_all c.loop-i.i c.args.a.now (omega arith) in
    let b = take_all c.loop-i.i c.args.b.now (omega arith) in
    ap (λ m. unsigned values c.loop-i.sum + 2 ^ m * digit (value_of values c.loop-i.through)) n ∙ c.loop-i.invariant.spells values v
    ∙ (λ j. unsigned values (a j) + unsigned values (b j) + digit (value_of values c.args.carry))
