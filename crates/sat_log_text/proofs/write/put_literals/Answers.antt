use Rattle.std.proofs.Common.{◌∷◌, ap}
use Rattle.outside.proofs.WriteLemmas.{writes_as, writes_item, writes_item_stopped, writes_items, writes_none, writes_returned}
use Rattle.sat_log_text.specs.LogText.{literal_word}
use Rattle.sat_log.specs.Literal.{Literal}
use Rattle.sat_log_text.proofs.write.put_literals.Goals as goal

pub loop-literal-init : goal.loop-literal-init
loop-literal-init g c = writes_none _ _

pub loop-literal-preserved : goal.loop-literal-preserved
loop-literal-preserved g c =
    writes_item (λ (l : Literal). 32 ∷ literal_word l) c.args.literals.now c.loop-literal.literal-index c.literal-item.result c.loop-literal-test.true c.loop-literal.invariant (writes_as (ap (λ (l : Literal). 32 ∷ literal_word l) c.literal-item.is) c.in_ok-put_literal.ensures)

pub returns-in_err-put_literal : goal.returns-in_err-put_literal
returns-in_err-put_literal g c =
    writes_returned _ c.from_residual.result c.from_residual.ensures.1 (writes_item_stopped (λ (l : Literal). 32 ∷ literal_word l) c.args.literals.now c.loop-literal.literal-index c.literal-item.result c.loop-literal-test.true c.loop-literal.invariant (writes_as (ap (λ (l : Literal). 32 ∷ literal_word l) c.literal-item.is) c.in_err-put_literal.ensures))

pub returns : goal.returns
returns g c = writes_items (λ (l : Literal). 32 ∷ literal_word l) c.args.literals.now c.loop-literal.literal-index c.loop-literal-test.false c.loop-literal.invariant
