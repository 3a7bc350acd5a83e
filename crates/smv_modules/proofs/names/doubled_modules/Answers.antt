use Rattle.std.proofs.Common.{◌∙◌, ap, map, fold, arith}
use Rattle.std.proofs.lemmas.List.{take_all}
use Rattle.smv_tree.specs.Models.{body_of}
use Rattle.smv_modules.specs.Declarations.{module_declaration}
use Rattle.smv_modules.specs.Scopes.{nothing_seen, see}
use Rattle.smv_modules.proofs.Doubles.{all_doubled}
use Rattle.smv_modules.proofs.names.doubled_modules.Goals as goal

pub returns : goal.returns
returns c =
    let xs = c.deref-one-items.result.now in
    c.into_first.ensures
    ∙ (ap (λ s. s.first) (c.loop-one.invariant ∙ ap (λ ys. fold see nothing_seen (map module_declaration (map body_of ys))) (take_all c.loop-one.one-index xs (omega arith) ∙ c.deref-one-items.ensures.value))
    ∙ all_doubled (map module_declaration (map body_of c.args.modules.now.items)))
