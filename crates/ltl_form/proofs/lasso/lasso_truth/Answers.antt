use Rattle.std.proofs.Common.{◌+◌, rules, arith}
use Rattle.std.proofs.lemmas.Grind.{common_steps}
use Rattle.ltl_form.specs.Rows.{LassoTells}
use Rattle.ltl_form.specs.Tables.{passes}
use Rattle.ltl_form.proofs.Truth.{lasso_told}
use Rattle.ltl_form.proofs.lasso.lasso_truth.Goals as goal

pub returns-clause-truth : goal.returns-clause-truth
returns-clause-truth c = λ names holds f s told_so.
    let tells : LassoTells c.args.k c.args.l c.args.t.now c.args.n.now c.args.at c.get.result = first_of (search rules, grind (arith, common_steps)) in
    lasso_told names (passes holds) c.args.t.now c.args.n.now (c.args.k + 1) c.requires.table c.args.k c.args.l c.requires.start told_so c.args.at c.get.result c.requires.place tells f s
