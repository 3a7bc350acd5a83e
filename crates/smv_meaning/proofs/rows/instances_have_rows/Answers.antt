use Rattle.smv_meaning.proofs.RowsThere.{rows_there, row_module}
use Rattle.smv_meaning.proofs.rows.instances_have_rows.Goals as goal

pub returns : goal.returns
returns c = record { there = rows_there; right = row_module }
