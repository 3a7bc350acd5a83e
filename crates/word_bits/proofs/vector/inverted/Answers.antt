use Rattle.std.proofs.Common.{not, ap, ◌∙◌, ◌<◌, length, arith}
use Rattle.std.proofs.lemmas.List.{length_push}
use Rattle.gates.specs.Valuation.{value_of}
use Rattle.word_bits.proofs.Circuits.{belongs}
use Rattle.word_bits.proofs.Numbers.{inverted_more}
use Rattle.word_bits.proofs.vector.inverted.Goals as goal

pub loop-i-preserved : goal.loop-i-preserved
loop-i-preserved c =
    let h : c.loop-i.i < length c.args.a.now = omega arith in
    record {
      width = omega (arith, ap length c.in_ok-push.ensures.ok, length_push c.loop-i.out c.lit_not-bit.result);
      number = λ values. rw c.in_ok-push.ensures.ok
          (inverted_more values c.args.a.now c.loop-i.out c.loop-i.i c.lit_not-bit.result h c.loop-i.invariant.width
          (c.lit_not-bit.ensures.value values ∙ ap (λ l. not (value_of values l)) c.get.ensures) (c.loop-i.invariant.number values));
      within = grind (arith, belongs, c.in_ok-push.ensures.ok);
    }
