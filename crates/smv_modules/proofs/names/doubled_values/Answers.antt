use Rattle.std.proofs.Common.{◌∙◌, ap, flat_map, fold, arith}
use Rattle.std.proofs.lemmas.List.{take_all}
use Rattle.smv_modules.specs.Declarations.{value_declarations}
use Rattle.smv_modules.specs.Scopes.{nothing_seen, see}
use Rattle.smv_modules.proofs.Doubles.{all_doubled}
use Rattle.smv_modules.proofs.names.doubled_values.Goals as goal

pub returns : goal.returns
returns c =
    let xs = c.args.values.now in
    c.into_first.ensures
    ∙ (ap (λ s. s.first) (c.loop-value.invariant ∙ ap (λ ys. fold see nothing_seen (flat_map (value_declarations c.args.place) ys)) (take_all c.loop-value.value-index xs (omega arith)))
    ∙ all_doubled (flat_map (value_declarations c.args.place) xs))
