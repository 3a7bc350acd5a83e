use Rattle.std.proofs.Common.{◌<◌, length, arith, leb, ◌∙◌, ◌≡◌, ◌+◌, ◌^◌}
use Rattle.std.proofs.lemmas.List.{take_all}
use Rattle.gates.specs.Valuation.{value_of}
use Rattle.gates.proofs.Growth.{Grows-trans, AddsConjunctions-trans, Grows-refl, AddsConjunctions-refl}
use Rattle.gates.proofs.Meaning.{IsValuation-Grows}
use Rattle.word_bits.specs.Number.{digit}
use Rattle.word_bits.specs.Words.{unsigned}
use Rattle.word_bits.proofs.Circuits.{grown}
use Rattle.word_bits.proofs.Numbers.{carry_more, digit_small, carry_none}
use Rattle.word_bits.proofs.compare.carry_out.Goals as goal

pub returns-in_err-through-clause-conjunctions : goal.returns-in_err-through-clause-conjunctions
returns-in_err-through-clause-conjunctions c = AddsConjunctions-trans c.loop-i.invariant.conjunctions c.in_err-through.ensures.conjunctions

pub returns-in_err-through-clause-grows : goal.returns-in_err-through-clause-grows
returns-in_err-through-clause-grows c = grown (returns-in_err-through-clause-conjunctions c)

pub loop-i-preserved : goal.loop-i-preserved
loop-i-preserved c =
    let in_a : c.loop-i.i < length c.args.a.now = omega arith in
    let in_b : c.loop-i.i < length c.args.b.now = omega arith in
    record {
      meaning = λ values v.
          carry_more values c.args.a.now c.args.b.now c.loop-i.i (digit (value_of values c.args.carry)) c.get.result c.get-in-loop-i.result c.loop-i.through c.in_ok-through.through
          in_a in_b (digit_small (value_of values c.args.carry)) c.get.ensures c.get-in-loop-i.ensures (c.in_ok-through.ensures.meaning values v)
          (c.loop-i.invariant.meaning values (IsValuation-Grows c.in_ok-through.ensures.grows v));
      belongs = c.in_ok-through.ensures.belongs;
      grows = Grows-trans c.loop-i.invariant.grows c.in_ok-through.ensures.grows;
      conjunctions = AddsConjunctions-trans c.loop-i.invariant.conjunctions c.in_ok-through.ensures.conjunctions;
    }

pub loop-i-init : goal.loop-i-init
loop-i-init c = record {
  meaning = λ values v. carry_none (value_of values c.args.carry);
  belongs = c.requires.third;
  grows = Grows-refl _;
  conjunctions = AddsConjunctions-refl _;
}

pub returns-clause-meaning : goal.returns-clause-meaning
returns-clause-meaning c values v =
    let n : c.loop-i.i ≡ length c.args.a.now = omega arith in
    let a = take_all c.loop-i.i c.args.a.now (omega arith) in
    let b = take_all c.loop-i.i c.args.b.now (omega arith) in
    c.loop-i.invariant.meaning values v ∙ (λ j. leb (2 ^ n j) (unsigned values (a j) + unsigned values (b j) + digit (value_of values c.args.carry)))
