use Rattle.std.proofs.Common.{◌+◌}
use Rattle.ltl_form.proofs.Truth.{lasso_told, short_told}
use Rattle.ltl_form.proofs.laws.rows_tell_truth.Goals as goal

pub returns-clause-lasso : goal.returns-clause-lasso
returns-clause-lasso g c = λ names nodes table k l p b f h w covers told_so s t. lasso_told names g.A.Atoms.holds table nodes (k + 1) covers k l h told_so p b w t f s

pub returns-clause-path : goal.returns-clause-path
returns-clause-path g c = λ names nodes table k p b f w covers told_so s t. short_told names g.A.Atoms.holds table nodes (k + 1) covers k told_so p b w t f s
