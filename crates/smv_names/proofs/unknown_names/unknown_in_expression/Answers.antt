use Rattle.std.proofs.Common.{ap, ◌∙◌}
use Rattle.smv_tree.specs.Trees.{expr_tree}
use Rattle.type_fault.specs.First.{earliest}
use Rattle.smv_names.specs.Unknown.{unknown_in}
use Rattle.smv_names.proofs.KnownNames.{known_same}
use Rattle.smv_names.proofs.unknown_names.unknown_in_expression.Goals as goal

pub returns : goal.returns
returns c program i ready at =
    c.in_ok-first.ensures ∙ ap (λ known. earliest (unknown_in known (expr_tree c.args.e.now))) (known_same program c.args.resolver.now ready c.args.number i at)
