use Rattle.std.proofs.Common.{◌∙◌, sym, ap, flat_map}
use Rattle.smv_tree.specs.Models.{bodies, body_of}
use Rattle.type_fault.specs.First.{earlier, earliest}
use Rattle.type_fault.proofs.Firsts.{earliest_both}
use Rattle.smv_modules.specs.References.{main_faults, part_faults}
use Rattle.smv_modules.proofs.references.module_fault.Goals as goal

pub returns : goal.returns
returns c =
    let body = body_of c.args.one.now in
    let program = bodies c.args.p.now in
    c.earlier.ensures
    ∙ (ap (λ o. earlier o c.in_ok-part.part) c.main_fault-main.ensures
    ∙ (ap (earlier (earliest (main_faults body))) c.in_ok-part.ensures
    ∙ sym (earliest_both (main_faults body) (flat_map (part_faults program) body.parts))))
