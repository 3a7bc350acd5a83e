use Rattle.std.proofs.Common.{◌-◌, ◌<◌, eqb, length, get_or, ap, sym, ◌∙◌, arith, drop, ◌≡◌}
use Rattle.std.proofs.lemmas.List.{drop_all}
use Rattle.gates.specs.Literal.{always}
use Rattle.gates.specs.Valuation.{value_of}
use Rattle.gates.proofs.Growth.{Grows-trans, AddsConjunctions-trans, Grows-refl, AddsConjunctions-refl}
use Rattle.gates.proofs.Meaning.{IsValuation-Grows, value_of-constant}
use Rattle.word_bits.specs.Words.{unsigned}
use Rattle.word_bits.proofs.Circuits.{grown}
use Rattle.word_bits.proofs.Products.{zero_more}
use Rattle.word_bits.proofs.division.is_zero.Goals as goal

pub returns-in_err-none-clause-conjunctions : goal.returns-in_err-none-clause-conjunctions
returns-in_err-none-clause-conjunctions c = AddsConjunctions-trans c.loop-i.invariant.conjunctions c.in_err-none.ensures.conjunctions

pub returns-in_err-none-clause-grows : goal.returns-in_err-none-clause-grows
returns-in_err-none-clause-grows c = grown (returns-in_err-none-clause-conjunctions c)

pub loop-i-init : goal.loop-i-init
loop-i-init c = record {
  meaning = λ values v. (value_of-constant v).0 ∙ sym (ap (λ l. eqb (unsigned values l) 0) (drop_all (length c.args.a.now - 0) c.args.a.now (omega arith)));
  belongs = omega arith;
  grows = Grows-refl _;
  conjunctions = AddsConjunctions-refl _;
}

pub loop-i-preserved : goal.loop-i-preserved
loop-i-preserved c =
    let a = c.args.a.now in
    let in_a : c.loop-i.i < length a = omega arith in
    record {
      meaning = λ values v.
          zero_more values a c.loop-i.i c.get-bit.result (value_of values c.loop-i.none) _ (value_of values c.lit_not.result) in_a
          (c.get-bit.ensures ∙ ap (λ n. get_or a (n - 1 - c.loop-i.i) always) c.len.ensures.count)
          (c.lit_not.ensures.value values) (c.in_ok-none.ensures.meaning values v)
          (c.loop-i.invariant.meaning values (IsValuation-Grows c.in_ok-none.ensures.grows v));
      belongs = c.in_ok-none.ensures.belongs;
      grows = Grows-trans c.loop-i.invariant.grows c.in_ok-none.ensures.grows;
      conjunctions = AddsConjunctions-trans c.loop-i.invariant.conjunctions c.in_ok-none.ensures.conjunctions;
    }

pub returns-clause-meaning : goal.returns-clause-meaning
returns-clause-meaning c values v =
    let none : length c.args.a.now - c.loop-i.i ≡ 0 = omega arith in
    c.loop-i.invariant.meaning values v ∙ ap (λ n. eqb (unsigned values (drop n c.args.a.now)) 0) none
