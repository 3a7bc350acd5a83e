use Rattle.std.proofs.Common.{◌≡◌, not, length, arith}
use Rattle.ltl_form.specs.Rows.{told}
use Rattle.ltl_form.proofs.Rowwise.{around_row, on_value}
use Rattle.ltl_form.proofs.row.around_whole.Goals as goal

pub returns-clause-values : goal.returns-clause-values
returns-clause-values c = λ p b.
    let k = length c.args.second.now in
    let n : c.len.result ≡ k = c.len.ensures in
    on_value c.around.result p _ _ (c.around.ensures.values p b)
    (around_row c.args.dual k c.args.start (told c.in_ok-whole.whole) (λ _. not c.args.dual) (told c.args.second.now) p (omega arith) (omega arith) (λ q w. c.in_ok-whole.ensures.values q (omega arith)))
