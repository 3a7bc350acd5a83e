use Rattle.std.proofs.Common.{ap, ◌∙◌}
use Rattle.smv_tree.specs.Models.{formula_claim}
use Rattle.type_fault.specs.First.{earliest}
use Rattle.smv_names.specs.Unknown.{unknown_in_claim}
use Rattle.smv_names.proofs.KnownNames.{known_same}
use Rattle.smv_names.proofs.unknown_names.unknown_in_property.Goals as goal

pub returns : goal.returns
returns c program i ready at =
    c.in_ok-first.ensures ∙ ap (λ known. earliest (unknown_in_claim known (formula_claim c.args.formula.now))) (known_same program c.args.resolver.now ready c.args.number i at)
