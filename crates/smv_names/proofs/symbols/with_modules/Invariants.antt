use Rattle.std.proofs.Common.{take}
use Rattle.std.specs.List.{list_any}
use Rattle.smv_tree.specs.Models.{body_of}
use Rattle.smv_meaning.specs.Names.{names_symbol}
use Rattle.smv_names.specs.SymbolSets.{Gains}
use Rattle.smv_names.proofs.symbols.with_modules.Given as goal

abbrev pub invariant-loop-one : goal.invariant-loop-one
invariant-loop-one l = Gains (λ m. list_any (λ x. list_any (names_symbol m) (body_of x).parts) (take l.one-index l.one-items)) l.fn.symbols l.symbols
