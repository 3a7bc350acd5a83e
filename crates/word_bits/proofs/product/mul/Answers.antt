use Rattle.std.proofs.Common.{◌+◌, ◌*◌, ◌%◌, ◌^◌, ◌<◌, length, take, ap, sym, ◌∙◌, arith}
use Rattle.std.proofs.lemmas.List.{length-replicate, take_all}
use Rattle.std.proofs.lemmas.Nat.{pow_pos}
use Rattle.gates.specs.Literal.{always, negated, span}
use Rattle.gates.specs.Valuation.{value_of}
use Rattle.gates.proofs.Growth.{AddsConjunctions-trans, Grows-refl, AddsConjunctions-refl, Grows-trans}
use Rattle.gates.proofs.Meaning.{IsValuation-Grows}
use Rattle.word_bits.specs.Number.{digit}
use Rattle.word_bits.specs.Words.{unsigned}
use Rattle.word_bits.proofs.Circuits.{span-pos, grown, span-replicate}
use Rattle.word_bits.proofs.Numbers.{unsigned-zeros, unsigned-more}
use Rattle.word_bits.proofs.Products.{mod_row, zero_product}
use Rattle.word_bits.proofs.product.mul.Goals as goal

pub returns-in_err-product-clause-grows : goal.returns-in_err-product-clause-grows
returns-in_err-product-clause-grows c = Grows-refl _

pub returns-in_err-product-clause-conjunctions : goal.returns-in_err-product-clause-conjunctions
returns-in_err-product-clause-conjunctions c = AddsConjunctions-refl _

pub returns-in_err-product-2-clause-conjunctions : goal.returns-in_err-product-2-clause-conjunctions
returns-in_err-product-2-clause-conjunctions c = AddsConjunctions-trans c.loop-i.invariant.conjunctions c.in_err-product-2.ensures.conjunctions

pub returns-in_err-product-2-clause-grows : goal.returns-in_err-product-2-clause-grows
returns-in_err-product-2-clause-grows c = grown (returns-in_err-product-2-clause-conjunctions c)

pub loop-i-init : goal.loop-i-init
loop-i-init c = record {
  width = ap length c.in_ok-product.ensures ∙ length-replicate _ _ ∙ c.len.ensures.count;
  spells = λ values v. zero_product (unsigned values c.args.a.now) (2 ^ length c.args.a.now) _ (pow_pos (length c.args.a.now)) (ap (unsigned values) c.in_ok-product.ensures ∙ unsigned-zeros v _);
  belongs = omega (arith, ap span c.in_ok-product.ensures, span-replicate c.len.result (negated always), span-pos c.args.a.now c.requires.bits);
  grows = Grows-refl _;
  conjunctions = AddsConjunctions-refl _;
}

pub loop-i-preserved : goal.loop-i-preserved
loop-i-preserved c =
    let in_b : c.loop-i.i < length c.args.b.now = omega arith in
    record {
      width = c.in_ok-product-2.ensures.width;
      spells = λ values v.
          let a = unsigned values c.args.a.now in
          let m = 2 ^ length c.args.a.now in
          let t = unsigned values (take c.loop-i.i c.args.b.now) in
          let p = 2 ^ c.loop-i.i in
          let d = digit (value_of values c.get.result) in
          c.in_ok-product-2.ensures.sum values v
          ∙ mod_row a t p d _ m (c.loop-i.invariant.spells values (IsValuation-Grows c.in_ok-product-2.ensures.grows v))
          ∙ ap (λ n. (a * n) % m) (sym (unsigned-more values c.args.b.now c.loop-i.i in_b ∙ ap (λ l. t + p * digit (value_of values l)) (sym c.get.ensures)));
      belongs = c.in_ok-product-2.ensures.belongs;
      grows = Grows-trans c.loop-i.invariant.grows c.in_ok-product-2.ensures.grows;
      conjunctions = AddsConjunctions-trans c.loop-i.invariant.conjunctions c.in_ok-product-2.ensures.conjunctions;
    }

pub returns-clause-product : goal.returns-clause-product
returns-clause-product c values v =
    let b = take_all c.loop-i.i c.args.b.now (omega arith) in
    c.loop-i.invariant.spells values v ∙ (λ j. (unsigned values c.args.a.now * unsigned values (b j)) % 2 ^ length c.args.a.now)
