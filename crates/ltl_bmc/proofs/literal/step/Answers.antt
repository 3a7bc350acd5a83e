use Rattle.std.proofs.Common.{◌&&◌, not, ap, ◌∙◌}
use Rattle.gates.specs.Valuation.{value_of}
use Rattle.gates.proofs.Meaning.{IsValuation-Grows}
use Rattle.ltl_form.specs.Rows.{turned}
use Rattle.ltl_bmc.proofs.Literals.{step-gates}
use Rattle.ltl_bmc.proofs.literal.step.Goals as goal

pub returns-clause-meaning : goal.returns-clause-meaning
returns-clause-meaning c values v =
    let v1 = IsValuation-Grows c.in_ok-neither.ensures.grows v in
    let both = c.in_ok-both.ensures.meaning values v1 in
    c.signed-4.ensures.value values
    ∙ ap (turned (not c.args.dual)) (c.in_ok-neither.ensures.meaning values v
    ∙ (λ i. c.signed-3.ensures.value values i && (c.lit_not.ensures.value values ∙ ap not (both ∙ (λ j. c.signed.ensures.value values j && c.signed-2.ensures.value values j))) i))
    ∙ step-gates c.args.dual (value_of values c.args.first) (value_of values c.args.second) (value_of values c.args.after)
