use Rattle.std.proofs.Common.{◌∙◌, ◌||◌, sym, ap, arith}
use Rattle.std.specs.List.{list_any}
use Rattle.std.proofs.lemmas.List.{take_all}
use Rattle.smv_meaning.specs.Names.{is_symbol}
use Rattle.smv_names.specs.SymbolSets.{has}
use Rattle.smv_names.proofs.Gaining.{or_false, gains_on}
use Rattle.smv_names.proofs.symbols.with_values.Goals as goal

pub loop-value-init : goal.loop-value-init
loop-value-init c m = sym (or_false (has c.args.symbols m))

pub loop-value-preserved : goal.loop-value-preserved
loop-value-preserved c =
    gains_on is_symbol c.args.values.now c.loop-value.value-index c.value-item.result c.args.symbols c.loop-value.symbols c.in_ok-symbols.symbols c.loop-value-test.true c.value-item.is c.loop-value.invariant c.in_ok-symbols.ensures

pub returns : goal.returns
returns c m =
    c.loop-value.invariant m
    ∙ ap (λ ys. has c.args.symbols m || list_any (is_symbol m) ys) (take_all c.loop-value.value-index c.args.values.now (omega arith))
