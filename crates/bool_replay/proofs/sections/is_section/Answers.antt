use Rattle.std.proofs.Common.{◌++◌, sym}
use Rattle.std.specs.Prelude.{codes, decimal}
use Rattle.bool_replay.proofs.sections.is_section.Goals as goal

pub returns-in_default : goal.returns-in_default
returns-in_default c =
    let other = rw c.in_default.is at c.behind.ensures in
    sym (other (decimal c.args.number ++ codes " <-"))
