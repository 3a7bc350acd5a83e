use Rattle.std.proofs.Common.{◌∙◌, ◌+◌, ◌∷◌, ◌++◌, [], List, take, sym, ap, arith}
use Rattle.std.specs.Prelude.{position}
use Rattle.std.specs.Str.{bytes_eq}
use Rattle.std.proofs.lemmas.List.{take_more, take_all, length-take-le}
use Rattle.smv_tree.specs.declared.program.Param.{Param}
use Rattle.smv_tree.specs.Models.{formal_of}
use Rattle.smv_tree.proofs.Positions.{position-map}
use Rattle.smv_graph.proofs.Numbering.{numbered_on}
use Rattle.smv_names.proofs.parameters.parameter_numbers.Goals as goal

pub loop-i-preserved : goal.loop-i-preserved
loop-i-preserved c =
    let xs = c.deref-param-items.result.now in
    let i = c.loop-i.i in
    let x = c.param-item.result in
    numbered_on (λ (y : Param). y.name) c.loop-i.numbers c.insert.new.self (take i xs) (take (i + 1) xs) x c.as_slice.result.now i c.loop-i.invariant
    (take_more xs i x c.loop-i-test.true ∙ ap (λ y. take i xs ++ y ∷ []) (sym c.param-item.is))
    c.as_slice.ensures.bytes
    (sym (length-take-le i xs (omega arith)))
    c.in_ok-insert.ensures

pub returns : goal.returns
returns c m =
    let xs = c.deref-param-items.result.now in
    c.loop-i.invariant m
    ∙ (ap (λ (ys : List Param). position (λ y. bytes_eq y.name m) ys) (take_all c.loop-i.i xs (omega arith) ∙ c.deref-param-items.ensures.value)
    ∙ sym (position-map (λ f. bytes_eq f.name m) formal_of c.args.params.now.items))
