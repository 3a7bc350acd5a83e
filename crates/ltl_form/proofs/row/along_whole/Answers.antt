use Rattle.std.proofs.Common.{◌≡◌, true, false, length, refl, arith}
use Rattle.ltl_form.specs.Rows.{told}
use Rattle.ltl_form.proofs.Rowwise.{ahead_same, on_value}
use Rattle.ltl_form.proofs.row.along_whole.Goals as goal

pub returns-clause-values : goal.returns-clause-values
returns-clause-values c = λ p b.
    let k = length c.args.second.now in
    let n : c.len.result ≡ k = c.len.ensures in
    on_value c.along.result p _ _ (c.along.ensures.values p b)
    (ahead_same k (told c.in_ok-whole.whole) (told c.args.second.now) (λ _. true) (told c.args.second.now) false p (omega arith) (λ q w. c.in_ok-whole.ensures.values q (omega arith)) (λ q w. refl))
