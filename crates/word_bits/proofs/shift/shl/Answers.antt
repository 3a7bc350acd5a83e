use Rattle.std.proofs.Common.{◌+◌, ◌*◌, ◌%◌, ◌^◌, ◌<◌, ◌≤◌, length, take, ap, sym, ◌∙◌, ◌⊎◌, arith, rules}
use Rattle.gates.specs.Literal.{span}
use Rattle.gates.specs.Valuation.{value_of}
use Rattle.gates.proofs.Growth.{Grows-trans, AddsConjunctions-trans, Grows-refl, AddsConjunctions-refl}
use Rattle.gates.proofs.Meaning.{IsValuation-Grows}
use Rattle.word_bits.specs.Number.{digit}
use Rattle.word_bits.specs.Words.{unsigned}
use Rattle.word_bits.proofs.Circuits.{grown}
use Rattle.word_bits.proofs.Numbers.{unsigned-below, unsigned-more, pow_more}
use Rattle.word_bits.proofs.Shifts.{shift_more, first_stage, amount_whole}
use Rattle.word_bits.proofs.shift.shl.Goals as goal

pub returns-in_err-shifted-clause-grows : goal.returns-in_err-shifted-clause-grows
returns-in_err-shifted-clause-grows c = Grows-refl _

pub returns-in_err-shifted-clause-conjunctions : goal.returns-in_err-shifted-clause-conjunctions
returns-in_err-shifted-clause-conjunctions c = AddsConjunctions-refl _

pub returns-in_err-shifted-2-clause-conjunctions : goal.returns-in_err-shifted-2-clause-conjunctions
returns-in_err-shifted-2-clause-conjunctions c = AddsConjunctions-trans c.loop-i.invariant.conjunctions c.in_err-shifted-2.ensures.conjunctions

pub returns-in_err-shifted-2-clause-grows : goal.returns-in_err-shifted-2-clause-grows
returns-in_err-shifted-2-clause-grows c = grown (returns-in_err-shifted-2-clause-conjunctions c)

pub loop-i-init : goal.loop-i-init
loop-i-init c = record {
  within = omega arith;
  distance = search rules;
  width = ap length c.in_ok-shifted.ensures;
  spells = λ values v. ap (unsigned values) c.in_ok-shifted.ensures ∙ first_stage (unsigned values c.args.a.now) (2 ^ length c.args.a.now) (unsigned-below values c.args.a.now);
  belongs = omega (arith, ap span c.in_ok-shifted.ensures);
  grows = Grows-refl _;
  conjunctions = AddsConjunctions-refl _;
}

pub loop-i-preserved : goal.loop-i-preserved
loop-i-preserved c =
    let in_by : c.loop-i.i < length c.args.by.now = omega arith in
    record {
      within = omega arith;
      distance = omega (arith, c.loop-i.invariant.distance, pow_more c.loop-i.i);
      width = c.in_ok-shifted-2.ensures.width ∙ c.loop-i.invariant.width;
      spells = λ values v.
          let a = unsigned values c.args.a.now in
          let s = unsigned values c.loop-i.shifted in
          let t = unsigned values (take c.loop-i.i c.args.by.now) in
          let b = value_of values c.get.result in
          let m = 2 ^ length c.args.a.now in
          c.in_ok-shifted-2.ensures.shifted values v
          ∙ (λ j. (s * 2 ^ (c.loop-i.invariant.distance j * digit b)) % 2 ^ (c.loop-i.invariant.width j))
          ∙ shift_more a s t (2 ^ c.loop-i.i) m b (c.loop-i.invariant.spells values (IsValuation-Grows c.in_ok-shifted-2.ensures.grows v))
          ∙ ap (λ n. (a * 2 ^ n) % m) (sym (unsigned-more values c.args.by.now c.loop-i.i in_by ∙ ap (λ l. t + 2 ^ c.loop-i.i * digit (value_of values l)) (sym c.get.ensures)));
      belongs = c.in_ok-shifted-2.ensures.belongs;
      grows = Grows-trans c.loop-i.invariant.grows c.in_ok-shifted-2.ensures.grows;
      conjunctions = AddsConjunctions-trans c.loop-i.invariant.conjunctions c.in_ok-shifted-2.ensures.conjunctions;
    }

pub returns-clause-shifted : goal.returns-clause-shifted
returns-clause-shifted c values v small =
    let done : (length c.args.by.now ≤ c.loop-i.i) ⊎ (length c.args.a.now < 2 ^ c.loop-i.i) = grind (arith, c.loop-i.invariant.distance) in
    c.loop-i.invariant.spells values v
    ∙ ap (λ n. (unsigned values c.args.a.now * 2 ^ n) % 2 ^ length c.args.a.now)
    (amount_whole values c.args.by.now c.loop-i.i (length c.args.a.now) c.loop-i.invariant.within done small)
