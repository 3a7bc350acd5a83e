use Rattle.std.proofs.Common.{◌∙◌, ◌||◌, sym, ap, arith}
use Rattle.std.specs.List.{list_any}
use Rattle.std.proofs.lemmas.List.{take_all}
use Rattle.smv_tree.specs.Models.{part_of}
use Rattle.smv_meaning.specs.Names.{names_symbol}
use Rattle.smv_names.specs.SymbolSets.{has}
use Rattle.smv_names.proofs.Gaining.{or_false, gains_on, list_any-map}
use Rattle.smv_names.proofs.symbols.with_items.Goals as goal

pub loop-item-init : goal.loop-item-init
loop-item-init c m = sym (or_false (has c.args.symbols m))

pub loop-item-preserved : goal.loop-item-preserved
loop-item-preserved c =
    gains_on (λ m x. names_symbol m (part_of x)) c.deref-item-items.result.now c.loop-item.item-index c.item-item.result c.args.symbols c.loop-item.symbols c.in_ok-symbols.symbols c.loop-item-test.true c.item-item.is c.loop-item.invariant c.in_ok-symbols.ensures

pub returns : goal.returns
returns c m =
    c.loop-item.invariant m
    ∙ ap (λ b. has c.args.symbols m || b)
    (ap (list_any (λ x. names_symbol m (part_of x))) (take_all c.loop-item.item-index c.deref-item-items.result.now (omega arith) ∙ c.deref-item-items.ensures.value)
    ∙ sym (list_any-map (names_symbol m) part_of c.args.items.now.items))
