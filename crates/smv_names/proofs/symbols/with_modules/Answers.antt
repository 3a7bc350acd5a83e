use Rattle.std.proofs.Common.{◌∙◌, ◌||◌, sym, ap, arith}
use Rattle.std.specs.List.{list_any}
use Rattle.std.proofs.lemmas.List.{take_all}
use Rattle.smv_tree.specs.Models.{body_of}
use Rattle.smv_meaning.specs.Names.{names_symbol}
use Rattle.smv_names.specs.SymbolSets.{has}
use Rattle.smv_names.proofs.Gaining.{or_false, gains_on, list_any-map}
use Rattle.smv_names.proofs.symbols.with_modules.Goals as goal

pub loop-one-init : goal.loop-one-init
loop-one-init c m = sym (or_false (has c.args.symbols m))

pub loop-one-preserved : goal.loop-one-preserved
loop-one-preserved c =
    gains_on (λ m x. list_any (names_symbol m) (body_of x).parts) c.deref-one-items.result.now c.loop-one.one-index c.one-item.result c.args.symbols c.loop-one.symbols c.in_ok-symbols.symbols c.loop-one-test.true c.one-item.is c.loop-one.invariant c.in_ok-symbols.ensures

pub returns : goal.returns
returns c m =
    c.loop-one.invariant m
    ∙ ap (λ b. has c.args.symbols m || b)
    (ap (list_any (λ x. list_any (names_symbol m) (body_of x).parts)) (take_all c.loop-one.one-index c.deref-one-items.result.now (omega arith) ∙ c.deref-one-items.ensures.value)
    ∙ sym (list_any-map (λ b. list_any (names_symbol m) b.parts) body_of c.args.modules.now.items))
