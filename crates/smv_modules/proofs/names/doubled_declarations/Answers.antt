use Rattle.std.proofs.Common.{◌∙◌, sym, ap, map, flat_map, fold}
use Rattle.std.proofs.lemmas.Grind.{fold-append}
use Rattle.smv_tree.specs.Models.{body_of}
use Rattle.smv_modules.specs.Declarations.{formal_declaration, part_declarations, declarations}
use Rattle.smv_modules.specs.Scopes.{nothing_seen, see}
use Rattle.smv_modules.proofs.Doubles.{all_doubled}
use Rattle.smv_modules.proofs.names.doubled_declarations.Goals as goal

pub returns : goal.returns
returns c =
    let body = body_of c.args.one.now in
    let params = map formal_declaration body.params in
    let parts = flat_map part_declarations body.parts in
    c.into_first.ensures
    ∙ (ap (λ s. s.first) (c.in_ok-scope-2.ensures ∙ (ap (λ s. fold see s parts) (c.in_ok-scope.ensures ∙ ap (λ s. fold see s params) c.new.ensures) ∙ sym (fold-append see nothing_seen params parts)))
    ∙ all_doubled (declarations body))
