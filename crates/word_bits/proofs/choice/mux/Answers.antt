use Rattle.std.proofs.Common.{[], ◌<◌, length, arith, cond, ap, ◌∙◌}
use Rattle.std.proofs.lemmas.List.{length_push, take_all}
use Rattle.gates.specs.Literal.{span}
use Rattle.gates.specs.Valuation.{value_of, values_of}
use Rattle.gates.proofs.Growth.{AddsConjunctions-trans, Grows-refl, AddsConjunctions-refl, Grows-trans}
use Rattle.gates.proofs.Meaning.{IsValuation-Grows}
use Rattle.word_bits.specs.Number.{number}
use Rattle.word_bits.proofs.Circuits.{push_belongs, grown}
use Rattle.word_bits.proofs.Numbers.{chosen_more, number_chosen, chosen_same}
use Rattle.word_bits.proofs.choice.mux.Goals as goal

pub returns-in_err-bit-clause-conjunctions : goal.returns-in_err-bit-clause-conjunctions
returns-in_err-bit-clause-conjunctions c = AddsConjunctions-trans c.loop-i.invariant.conjunctions c.in_err-bit.ensures.conjunctions

pub returns-in_err-bit-clause-grows : goal.returns-in_err-bit-clause-grows
returns-in_err-bit-clause-grows c = grown (returns-in_err-bit-clause-conjunctions c)

pub returns-in_err-push-clause-conjunctions : goal.returns-in_err-push-clause-conjunctions
returns-in_err-push-clause-conjunctions c = AddsConjunctions-trans c.loop-i.invariant.conjunctions c.in_ok-bit.ensures.conjunctions

pub returns-in_err-push-clause-grows : goal.returns-in_err-push-clause-grows
returns-in_err-push-clause-grows c = grown (returns-in_err-push-clause-conjunctions c)

pub loop-i-preserved : goal.loop-i-preserved
loop-i-preserved c =
    let in_a : c.loop-i.i < length c.args.a.now = omega arith in
    let in_b : c.loop-i.i < length c.args.b.now = omega arith in
    record {
      width = omega (arith, ap length c.in_ok-push.ensures.ok, length_push c.loop-i.out c.in_ok-bit.bit);
      bits = λ values v.
          rw c.in_ok-push.ensures.ok
          (chosen_more values c.args.a.now c.args.b.now c.loop-i.out c.loop-i.i (value_of values c.args.c) c.get.result c.get-in-loop-i.result c.in_ok-bit.bit
          in_a in_b c.get.ensures c.get-in-loop-i.ensures (c.in_ok-bit.ensures.meaning values v)
          (c.loop-i.invariant.bits values (IsValuation-Grows c.in_ok-bit.ensures.grows v)));
      belongs = push_belongs c.loop-i.out _ c.in_ok-bit.bit c.in_ok-push.ensures.ok c.loop-i.invariant.belongs c.in_ok-bit.ensures.grows c.in_ok-bit.ensures.belongs;
      grows = Grows-trans c.loop-i.invariant.grows c.in_ok-bit.ensures.grows;
      conjunctions = AddsConjunctions-trans c.loop-i.invariant.conjunctions c.in_ok-bit.ensures.conjunctions;
    }

pub loop-i-init : goal.loop-i-init
loop-i-init c = record {
  width = ap length c.new-out.ensures;
  bits = λ values v. ap (values_of values) c.new-out.ensures ∙ chosen_same (value_of values c.args.c) [];
  belongs = omega (arith, ap span c.new-out.ensures);
  grows = Grows-refl _;
  conjunctions = AddsConjunctions-refl _;
}

pub returns-clause-bits : goal.returns-clause-bits
returns-clause-bits c values v =
    let a = take_all c.loop-i.i c.args.a.now (omega arith) in
    let b = take_all c.loop-i.i c.args.b.now (omega arith) in
    c.loop-i.invariant.bits values v ∙ (λ j. cond (value_of values c.args.c) (values_of values (a j)) (values_of values (b j)))

pub returns-clause-number : goal.returns-clause-number
returns-clause-number c values v =
    ap number (returns-clause-bits c values v) ∙ number_chosen (value_of values c.args.c) (values_of values c.args.a.now) (values_of values c.args.b.now)
