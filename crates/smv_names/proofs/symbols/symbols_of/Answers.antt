use Rattle.std.proofs.Common.{◌∙◌, ◌||◌, ap}
use Rattle.std.specs.List.{list_any}
use Rattle.smv_tree.specs.Models.{bodies}
use Rattle.smv_meaning.specs.Names.{names_symbol}
use Rattle.smv_names.specs.SymbolSets.{has}
use Rattle.smv_names.proofs.symbols.symbols_of.Goals as goal

pub returns : goal.returns
returns c m =
    c.in_ok-symbols.ensures m
    ∙ ap (λ s. has s m || list_any (λ b. list_any (names_symbol m) b.parts) (bodies c.args.p.now)) c.new.ensures
