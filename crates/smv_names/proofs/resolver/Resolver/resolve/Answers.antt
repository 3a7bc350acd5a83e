use Rattle.std.proofs.Common.{ap, ◌∙◌, length}
use Rattle.std.proofs.lemmas.Option.{slice_get_within}
use Rattle.smv_meaning.specs.Instances.{instances}
use Rattle.smv_names.specs.Targets.{meant}
use Rattle.smv_names.proofs.Resolving.{resolves}
use Rattle.smv_names.proofs.resolver.Resolver.resolve.Goals as goal

pub returns-clause-meant : goal.returns-clause-meant
returns-clause-meant c program i ready at =
    let all = instances program in
    ap (meant program c.args.self.now.symbols) c.found.ensures
    ∙ resolves program (length all) c.args.self.now ready c.args.number i (slice_get_within all c.args.number i at) at c.args.path.now
