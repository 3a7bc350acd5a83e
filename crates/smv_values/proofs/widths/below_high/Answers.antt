use Rattle.smv_values.proofs.Wraps.{high_fits}
use Rattle.smv_values.proofs.widths.below_high.Goals as goal

pub overflow_add-result : goal.overflow_add-result
overflow_add-result c = record { fits = (high_fits c.args.n c.args.bits c.requires.room c.requires.below).1 }
