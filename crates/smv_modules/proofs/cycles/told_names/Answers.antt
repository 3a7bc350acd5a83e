use Rattle.std.proofs.Common.{get_or}
use Rattle.std.proofs.lemmas.List.{get_or_default}
use Rattle.smv_modules.proofs.cycles.told_names.Goals as goal

pub module_name-requires-in-loop-one : goal.module_name-requires-in-loop-one
module_name-requires-in-loop-one c =
    let between = c.args.between.now in
    let i = c.loop-one.one-index in
    c.requires.between (get_or between i 0) (i, c.loop-one-test.true, get_or_default between i (get_or between i 0) 0 c.loop-one-test.true)
