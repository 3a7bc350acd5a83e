use Rattle.std.proofs.Common.{sym, ◌∙◌, ◌∷◌, ◌++◌, [], subst, ap, map, take, length}
use Rattle.smv_tree.specs.Trees.{expr_tree}
use Rattle.smv_names.specs.Declaring.{AreGiven, given_target}
use Rattle.smv_names.proofs.Entering.{one_on, so_many}
use Rattle.smv_names.proofs.ActualsMade.{given_more, length_on}
use Rattle.smv_names.proofs.resolver.Resolver.all_given.Goals as goal

pub loop-parameter-preserved : goal.loop-parameter-preserved
loop-parameter-preserved c =
    let r = c.args.self.now in
    let xs = c.args.actuals.now in
    let i = c.loop-parameter.parameter in
    let x = c.index-actuals-parameter.result in
    let ts = c.loop-parameter.targets.items in
    let new = c.push.new.self.items in
    let front = map expr_tree (take i xs) in
    let here = c.loop-parameter.invariant.0 in
    let put = c.in_ok-push.ensures.items ∙ ap (λ t. ts ++ t ∷ []) (c.given.ensures ∙ ap (λ j. given_target r c.args.around c.args.number j (expr_tree x)) (sym here)) in
    let all = given_more r c.args.around c.args.number front ts new (expr_tree x) (here ∙ sym (so_many expr_tree xs i c.loop-parameter-test.true)) c.loop-parameter.invariant.1 put in
    (ap length put ∙ length_on ts (given_target r c.args.around c.args.number (length ts) (expr_tree x)) i here, subst (λ es. AreGiven r c.args.around c.args.number es new) (sym (one_on expr_tree xs i x c.loop-parameter-test.true c.index-actuals-parameter.is)) all)
