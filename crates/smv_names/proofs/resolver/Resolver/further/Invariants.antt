use Rattle.std.proofs.Common.{◌≡◌, drop}
use Rattle.smv_names.specs.Lookups.{further_target}
use Rattle.smv_names.proofs.resolver.Resolver.further.Given as goal

abbrev pub invariant-loop-name : goal.invariant-loop-name
invariant-loop-name l =
    further_target l.self l.target (drop l.name-index l.names) ≡ further_target l.self l.fn.target l.names
