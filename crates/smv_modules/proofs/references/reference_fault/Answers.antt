use Rattle.std.proofs.Common.{◌∙◌, ap}
use Rattle.smv_tree.specs.Models.{bodies}
use Rattle.smv_meaning.specs.Instances.{find_body}
use Rattle.smv_modules.specs.Counts.{counted_fault}
use Rattle.smv_modules.proofs.Counting.{counted_first}
use Rattle.smv_modules.proofs.references.reference_fault.Goals as goal

pub returns : goal.returns
returns c =
    c.in_ok-fault.ensures
    ∙ (ap (counted_fault c.args.name.now c.args.place c.args.given) c.parameter_count-count.ensures
    ∙ counted_first c.args.name.now c.args.place c.args.given (find_body c.args.name.now (bodies c.args.p.now)))
