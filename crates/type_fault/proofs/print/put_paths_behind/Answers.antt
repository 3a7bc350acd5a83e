use Rattle.std.proofs.Common.{◌++◌, List, ℕ, ap}
use Rattle.std.specs.Prelude.{codes}
use Rattle.outside.proofs.WriteLemmas.{writes_as, writes_item, writes_item_stopped, writes_items, writes_none, writes_returned}
use Rattle.type_fault.specs.Texts.{path_text}
use Rattle.type_fault.proofs.print.put_paths_behind.Goals as goal

pub loop-path-init : goal.loop-path-init
loop-path-init g c = writes_none _ _

pub loop-path-preserved : goal.loop-path-preserved
loop-path-preserved g c =
    writes_item (λ (p : List (List ℕ)). codes " -> " ++ path_text p) c.args.paths.now c.loop-path.path-index c.path-item.result c.loop-path-test.true c.loop-path.invariant (writes_as (ap (λ (p : List (List ℕ)). codes " -> " ++ path_text p) c.path-item.is) c.in_ok-put_next_path.ensures)

pub returns-in_err-put_next_path : goal.returns-in_err-put_next_path
returns-in_err-put_next_path g c =
    writes_returned _ c.from_residual.result c.from_residual.ensures.1 (writes_item_stopped (λ (p : List (List ℕ)). codes " -> " ++ path_text p) c.args.paths.now c.loop-path.path-index c.path-item.result c.loop-path-test.true c.loop-path.invariant (writes_as (ap (λ (p : List (List ℕ)). codes " -> " ++ path_text p) c.path-item.is) c.in_err-put_next_path.ensures))

pub returns : goal.returns
returns g c = writes_items (λ (p : List (List ℕ)). codes " -> " ++ path_text p) c.args.paths.now c.loop-path.path-index c.loop-path-test.false c.loop-path.invariant
