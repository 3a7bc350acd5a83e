-- What is left of bits that move up is what is left of their number.
use Rattle.std.proofs.Common.{◌*◌, ◌%◌, ◌^◌, pos, [], ◌∷◌, ap, ◌∙◌}
use Rattle.smv_tree.specs.declared.value.Value.TheVariants.{Word as Bits}
use Rattle.smv_meaning.specs.Operators.{word_of}
use Rattle.smv_values.specs.Answers.{kept}
use Rattle.smv_values.proofs.words.moved_up.Goals as goal

pub returns : goal.returns
returns c =
    let moved = pos (c.args.w.now.bits * 2 ^ c.args.n) in
    c.wrapped.ensures moved (c.shifted_left.ensures ∙ ap (λ b. b * 2 ^ c.args.n % 2 ^ 128) c.bits.ensures.value)
    ∙ (λ i. kept (Bits (word_of (c.signed.ensures i) (c.width.ensures i) moved) ∷ []))
