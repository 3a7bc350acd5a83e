use Rattle.std.proofs.Common.{◌-◌, length, refl, ap}
use Rattle.outside.proofs.WriteLemmas.{writes_as, writes_returned, writes_stopped, writes_then}
use Rattle.type_fault.specs.Texts.{path_text}
use Rattle.type_fault.proofs.Between.{paths_taken}
use Rattle.type_fault.proofs.print.put_paths.Goals as goal

pub returns-in_err-put_path-in-len1-up : goal.returns-in_err-put_path-in-len1-up
returns-in_err-put_path-in-len1-up g c =
    let first = paths_taken c.args.paths.now c.first-item.result (length c.args.paths.now - 1) c.in-len1-up.len_at_least refl c.first-item.is in
    writes_returned _ c.from_residual.result c.from_residual.ensures.1 (writes_as first (writes_stopped _ c.in_err-put_path-in-len1-up.ensures))

pub returns-in_ok-put_path-in-len1-up : goal.returns-in_ok-put_path-in-len1-up
returns-in_ok-put_path-in-len1-up g c =
    let first = paths_taken c.args.paths.now c.first-item.result (length c.args.paths.now - 1) c.in-len1-up.len_at_least refl c.first-item.is in
    writes_as first (writes_then c.in_ok-put_path-in-len1-up.ensures c.put_paths_behind.ensures)
