use Rattle.std.proofs.Common.{◌∙◌, ◌+◌, [], refl, ap, map, fold, arith}
use Rattle.std.specs.Map.{lookup}
use Rattle.std.specs.Str.{bytes_eq}
use Rattle.std.proofs.lemmas.List.{take_all}
use Rattle.smv_tree.specs.Models.{part_of}
use Rattle.smv_names.specs.Entries.{put}
use Rattle.smv_names.specs.Tables.{part_entries}
use Rattle.smv_names.proofs.Entering.{all_put, part_on, defines_on, defines_fit}
use Rattle.smv_names.proofs.table.item_table.Goals as goal

pub loop-number-preserved : goal.loop-number-preserved
loop-number-preserved c =
    let xs = c.deref-item-items.result.now in
    let i = c.loop-number.number in
    let x = c.item-item.result in
    let d = c.loop-number.defines in (
      part_on part_of xs i d x [] c.loop-number.table c.in_ok-table.table c.loop-number-test.true c.item-item.is c.loop-number.invariant.1 c.loop-number.invariant.0 c.in_ok-table.ensures,
      ap (λ k. d + k) c.defines_of-defines.ensures ∙ defines_on part_of xs i d x c.loop-number-test.true c.item-item.is c.loop-number.invariant.1,
    )

pub returns : goal.returns
returns c m =
    let xs = c.deref-item-items.result.now in
    ap (lookup (bytes_eq m)) (c.loop-number.invariant.0
    ∙ ap (λ ys. fold put [] (part_entries 0 0 (map part_of ys))) (take_all c.loop-number.number xs (omega arith) ∙ c.deref-item-items.ensures.value))
    ∙ all_put (part_entries 0 0 (map part_of c.args.items.now.items)) [] m

pub loop-number-init : goal.loop-number-init
loop-number-init c = (c.new-table.ensures, refl)

pub overflow_add-defines : goal.overflow_add-defines
overflow_add-defines c =
    let fit = defines_fit part_of c.deref-item-items.result.now c.loop-number.number c.loop-number.defines c.item-item.result c.loop-number-test.true c.loop-number.invariant.1 in
    omega (arith, fit, c.defines_of-defines.ensures)
