use Rattle.std.proofs.Common.{take}
use Rattle.std.specs.List.{list_any}
use Rattle.smv_meaning.specs.Names.{is_symbol}
use Rattle.smv_names.specs.SymbolSets.{Gains}
use Rattle.smv_names.proofs.symbols.with_values.Given as goal

abbrev pub invariant-loop-value : goal.invariant-loop-value
invariant-loop-value l = Gains (λ m. list_any (is_symbol m) (take l.value-index l.values)) l.fn.symbols l.symbols
