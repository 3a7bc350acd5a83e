use Rattle.std.proofs.Common.{◌≡◌, fold, map, take}
use Rattle.smv_tree.specs.Models.{formal_of}
use Rattle.smv_modules.specs.Declarations.{formal_declaration}
use Rattle.smv_modules.specs.Scopes.{see}
use Rattle.smv_modules.proofs.names.declare_params.Given as goal

abbrev pub invariant-loop-param : goal.invariant-loop-param
invariant-loop-param l = l.scope ≡ fold see l.fn.scope (map formal_declaration (map formal_of (take l.param-index l.param-items)))
