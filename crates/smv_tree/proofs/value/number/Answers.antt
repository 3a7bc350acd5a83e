use Rattle.std.proofs.Common.{◌∙◌, sym, ap, unsigned_abs, refl}
use Rattle.std.specs.Int.{is_negative}
use Rattle.smv_tree.proofs.Words.{wide_is_natural, natural_is_not_negative}
use Rattle.smv_tree.proofs.value.number.Goals as goal

-- src/value.rt:79:1
pub returns-in-None-clause-sign : goal.returns-in-None-clause-sign
returns-in-None-clause-sign c =
    natural_is_not_negative c.args.bits ∙ ap is_negative (sym (wide_is_natural (record { signed = c.args.signed; width = c.args.width; bits = c.args.bits }) c.ranges.bits.fits c.requires (c.in-None.ensures.lacks refl)))

-- src/value.rt:79:1
pub returns-in-None-clause-magnitude : goal.returns-in-None-clause-magnitude
returns-in-None-clause-magnitude c =
    ap unsigned_abs (sym (wide_is_natural (record { signed = c.args.signed; width = c.args.width; bits = c.args.bits }) c.ranges.bits.fits c.requires (c.in-None.ensures.lacks refl)))
