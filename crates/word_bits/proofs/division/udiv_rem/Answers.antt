use Rattle.std.proofs.Common.{◌≡◌, ◌+◌, ◌*◌, ◌-◌, ◌/◌, ◌<◌, length, get_or, drop, ap, sym, ◌∙◌, subst, arith, ◌%◌}
use Rattle.std.proofs.lemmas.List.{length-append, drop_all}
use Rattle.std.proofs.lemmas.Nat.{div-mul-add, mod-mul-add}
use Rattle.gates.specs.Literal.{always, span}
use Rattle.gates.proofs.Growth.{Grows-refl, Grows-trans, AddsConjunctions-refl, AddsConjunctions-trans}
use Rattle.gates.proofs.Meaning.{IsValuation-Grows}
use Rattle.word_bits.specs.Words.{unsigned}
use Rattle.word_bits.proofs.Circuits.{grown}
use Rattle.word_bits.proofs.Products.{divide_more}
use Rattle.word_bits.proofs.division.udiv_rem.Goals as goal

pub returns-in_err-digit-clause-conjunctions : goal.returns-in_err-digit-clause-conjunctions
returns-in_err-digit-clause-conjunctions c = AddsConjunctions-trans c.loop-i.invariant.conjunctions c.in_err-digit.ensures.conjunctions

pub returns-in_err-digit-clause-grows : goal.returns-in_err-digit-clause-grows
returns-in_err-digit-clause-grows c = grown (returns-in_err-digit-clause-conjunctions c)

pub returns-in_err-single-clause-conjunctions : goal.returns-in_err-single-clause-conjunctions
returns-in_err-single-clause-conjunctions c = AddsConjunctions-trans c.loop-i.invariant.conjunctions c.in_ok-digit.ensures.conjunctions

pub returns-in_err-single-clause-grows : goal.returns-in_err-single-clause-grows
returns-in_err-single-clause-grows c = grown (returns-in_err-single-clause-conjunctions c)

pub returns-in_err-quotient-clause-conjunctions : goal.returns-in_err-quotient-clause-conjunctions
returns-in_err-quotient-clause-conjunctions c = AddsConjunctions-trans c.loop-i.invariant.conjunctions c.in_ok-digit.ensures.conjunctions

pub returns-in_err-quotient-clause-grows : goal.returns-in_err-quotient-clause-grows
returns-in_err-quotient-clause-grows c = grown (returns-in_err-quotient-clause-conjunctions c)

pub loop-i-init : goal.loop-i-init
loop-i-init c =
    record {
      quotient_width = ap length c.new-quotient.ensures;
      remainder_width = ap length c.new-remainder.ensures;
      spells = λ values v positive.
          ap (unsigned values) (drop_all (length c.args.a.now - 0) c.args.a.now (omega arith))
          ∙ sym ((λ i. unsigned values (c.new-quotient.ensures i) * unsigned values c.args.b.now + unsigned values (c.new-remainder.ensures i)) ∙ (let e : 0 * unsigned values c.args.b.now + 0 ≡ 0 = grind arith in e));
      below = λ values v positive. subst (λ l. unsigned values l < unsigned values c.args.b.now) (sym c.new-remainder.ensures) positive;
      quotient_belongs = omega (arith, ap span c.new-quotient.ensures);
      remainder_belongs = omega (arith, ap span c.new-remainder.ensures);
      grows = Grows-refl _;
      conjunctions = AddsConjunctions-refl _;
    }

pub loop-i-preserved : goal.loop-i-preserved
loop-i-preserved c =
    let a = c.args.a.now in
    let b = c.args.b.now in
    let in_a : c.loop-i.i < length a = omega arith in
    let at = c.get-bit.ensures ∙ ap (λ n. get_or a (n - 1 - c.loop-i.i) always) c.len.ensures.count in
    record {
      quotient_width = omega (arith, ap length c.in_ok-quotient.ensures.literals, ap length c.in_ok-single.ensures, length-append c.in_ok-single.single c.loop-i.quotient, c.loop-i.invariant.quotient_width);
      remainder_width = omega (arith, c.in_ok-digit.ensures.width, c.loop-i.invariant.remainder_width);
      spells = λ values v positive.
          let v0 = IsValuation-Grows c.in_ok-digit.ensures.grows v in
          let r = c.in_ok-digit.ensures.division values v (c.loop-i.invariant.below values v0 positive) in
          divide_more values a b c.loop-i.quotient c.in_ok-quotient.quotient c.in_ok-single.single c.loop-i.remainder c.in_ok-digit.rest c.loop-i.i c.get-bit.result c.in_ok-digit.digit
          in_a at c.in_ok-single.ensures c.in_ok-quotient.ensures.literals r.0 (c.loop-i.invariant.spells values v0 positive);
      below = λ values v positive.
          let v0 = IsValuation-Grows c.in_ok-digit.ensures.grows v in
          (c.in_ok-digit.ensures.division values v (c.loop-i.invariant.below values v0 positive)).1;
      quotient_belongs = omega (arith, c.in_ok-quotient.ensures.belongs, ap span c.in_ok-single.ensures, c.in_ok-digit.ensures.digit_belongs, c.in_ok-digit.ensures.grows.longer, c.loop-i.invariant.quotient_belongs);
      remainder_belongs = c.in_ok-digit.ensures.belongs;
      grows = Grows-trans c.loop-i.invariant.grows c.in_ok-digit.ensures.grows;
      conjunctions = AddsConjunctions-trans c.loop-i.invariant.conjunctions c.in_ok-digit.ensures.conjunctions;
    }

pub returns-clause-quotient : goal.returns-clause-quotient
returns-clause-quotient c values v positive =
    let a = c.args.a.now in
    let b = unsigned values c.args.b.now in
    let q = unsigned values c.loop-i.quotient in
    let r = unsigned values c.loop-i.remainder in
    let all = c.loop-i.invariant.spells values v positive in
    let none : length a - c.loop-i.i ≡ 0 = omega arith in
    sym (ap (λ n. n / b) (ap (λ n. unsigned values (drop n a)) (sym none) ∙ all) ∙ div-mul-add q b r (c.loop-i.invariant.below values v positive))

pub returns-clause-remainder : goal.returns-clause-remainder
returns-clause-remainder c values v positive =
    let a = c.args.a.now in
    let b = unsigned values c.args.b.now in
    let q = unsigned values c.loop-i.quotient in
    let r = unsigned values c.loop-i.remainder in
    let all = c.loop-i.invariant.spells values v positive in
    let none : length a - c.loop-i.i ≡ 0 = omega arith in
    sym (ap (λ n. n % b) (ap (λ n. unsigned values (drop n a)) (sym none) ∙ all) ∙ mod-mul-add q b r (c.loop-i.invariant.below values v positive))
