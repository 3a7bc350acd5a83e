use Rattle.ltl_form.proofs.Rowwise.{next_row}
use Rattle.ltl_form.proofs.lasso.next.Goals as goal

pub returns : goal.returns
returns c = next_row c.args.part.now c.args.l c.get.result c.shifted.result c.get.ensures c.shifted.ensures.places c.shifted.ensures.values c.shifted.ensures.last
