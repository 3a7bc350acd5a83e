-- No list is left at the end.
use Rattle.std.proofs.Common.{sym, ap, ◌∙◌, subst, map}
use Rattle.std.specs.Prelude.{option_map, List, Option}
use Rattle.smv_tree.specs.declared.value.Value.{Value}
use Rattle.smv_flat.specs.declared.flat_expr.FlatExpr.{FlatExpr}
use Rattle.std.proofs.lemmas.List.{drop_all}
use Rattle.smv_flat.specs.Lists.{Answers}
use Rattle.smv_flat.specs.Views.{flat_tree, flats}
use Rattle.smv_flat.specs.Fitting.{each_fitting}
use Rattle.smv_flat.proofs.Loops.{count_on, count_told}
use Rattle.smv_flat.proofs.evaluation.+eval.Goals as goal

pub eval_count-returns : goal.eval_count-returns
eval_count-returns g t c =
    let each : List FlatExpr → Option (List (List Value)) = λ es. each_fitting (g.M.Moment.numbers c.args.now.now) (g.M.Moment.numbers c.args.later.now) (flats (map flat_tree es)) in
    let left = drop_all c.loop-e.e-index c.args.es.now c.loop-e-test.false in
    let told = count_told (each c.args.es.now) c.loop-e.count (c.loop-e.invariant.1 ∙ ap (λ es. option_map (count_on c.loop-e.count) (each es)) left) in
    subst (λ f. Answers c.answered.result f) (c.tallied.ensures ∙ sym told) c.answered.ensures
