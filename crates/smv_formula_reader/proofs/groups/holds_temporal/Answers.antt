use Rattle.smv_formula_reader.proofs.GroupFlags.{flag_is}
use Rattle.smv_formula_reader.proofs.groups.holds_temporal.Goals as goal

pub returns : goal.returns
returns c = flag_is c.args.flags.now c.args.rest.now c.requires
