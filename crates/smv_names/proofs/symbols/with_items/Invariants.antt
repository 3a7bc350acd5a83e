use Rattle.std.proofs.Common.{take}
use Rattle.std.specs.List.{list_any}
use Rattle.smv_tree.specs.Models.{part_of}
use Rattle.smv_meaning.specs.Names.{names_symbol}
use Rattle.smv_names.specs.SymbolSets.{Gains}
use Rattle.smv_names.proofs.symbols.with_items.Given as goal

abbrev pub invariant-loop-item : goal.invariant-loop-item
invariant-loop-item l = Gains (λ m. list_any (λ x. names_symbol m (part_of x)) (take l.item-index l.item-items)) l.fn.symbols l.symbols
