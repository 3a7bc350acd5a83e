use Rattle.std.proofs.Common.{◌≡◌, ◌&&◌, false, length, refl, ◌∙◌, arith}
use Rattle.ltl_form.specs.Rows.{told}
use Rattle.ltl_form.proofs.Rowwise.{ahead_same, on_value}
use Rattle.ltl_form.proofs.row.along_both.Goals as goal

pub returns-clause-values : goal.returns-clause-values
returns-clause-values c = λ p b.
    let k = length c.args.second.now in
    let f : length c.args.first.now ≡ k = c.requires in
    let n : length c.in_ok-joint.joint ≡ length c.args.first.now = c.in_ok-joint.ensures.places in
    let e : length c.in_ok-joint.joint ≡ k = n ∙ f in
    on_value c.along.result p _ _ (rw e at (c.along.ensures.values p (omega arith)))
    (ahead_same k (told c.args.second.now) (told c.in_ok-joint.joint) (told c.args.second.now) (λ q. told c.args.first.now q && told c.args.second.now q) false p (omega arith) (λ q w. refl) (λ q w. c.in_ok-joint.ensures.values q (omega arith)))
