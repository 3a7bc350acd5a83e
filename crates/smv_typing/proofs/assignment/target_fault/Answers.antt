use Rattle.std.specs.Prelude.{◌++◌}
use Rattle.smv_typing.specs.Uses.{input_fault, again_fault, frozen_fault}
use Rattle.smv_typing.proofs.Firsts.{two_first}
use Rattle.smv_typing.proofs.assignment.target_fault.Goals as goal

pub returns : goal.returns
returns c =
    let n = c.args.name.now in
    let again = again_fault c.args.target.again c.args.place n in
    let frozen = frozen_fault c.args.target.kind c.args.moment c.args.place n in
    two_first (input_fault c.args.target.kind c.args.place n) (again ++ frozen) c.in_ok-input.ensures (two_first again frozen c.in_ok-again.ensures c.in_ok-frozen.ensures c.earlier.ensures) c.earlier-2.ensures
