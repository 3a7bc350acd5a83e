use Rattle.std.proofs.Common.{◌≡◌, fold, map, take}
use Rattle.smv_tree.specs.Models.{body_of}
use Rattle.smv_modules.specs.Declarations.{module_declaration}
use Rattle.smv_modules.specs.Scopes.{nothing_seen, see}
use Rattle.smv_modules.proofs.names.doubled_modules.Given as goal

abbrev pub invariant-loop-one : goal.invariant-loop-one
invariant-loop-one l = l.scope ≡ fold see nothing_seen (map module_declaration (map body_of (take l.one-index l.one-items)))
