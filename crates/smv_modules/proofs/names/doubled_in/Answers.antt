use Rattle.std.proofs.Common.{◌∙◌, sym, ap, flat_map}
use Rattle.smv_tree.specs.Models.{body_of}
use Rattle.type_fault.specs.First.{earlier, earliest}
use Rattle.type_fault.proofs.Firsts.{earliest_both}
use Rattle.smv_modules.specs.Declarations.{doubled, declarations, enumeration_declarations}
use Rattle.smv_modules.proofs.names.doubled_in.Goals as goal

pub returns : goal.returns
returns c =
    let body = body_of c.args.one.now in
    c.earlier.ensures
    ∙ (ap (λ o. earlier o c.in_ok-value.value) c.in_ok-name.ensures
    ∙ (ap (earlier (earliest (doubled (declarations body)))) c.in_ok-value.ensures
    ∙ sym (earliest_both (doubled (declarations body)) (flat_map (λ part. doubled (enumeration_declarations part)) body.parts))))
