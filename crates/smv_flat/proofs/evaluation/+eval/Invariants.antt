use Rattle.std.proofs.Common.{◌≡◌, ◌++◌, ◌≤◌, drop, map}
use Rattle.std.specs.Prelude.{Some, option_map, IfSome}
use Rattle.smv_flat.specs.Views.{flat_arm, flat_arms, flat_tree, flats}
use Rattle.smv_flat.specs.Fitting.{all_fitting, each_fitting, first_fitting, with_values}
use Rattle.smv_flat.proofs.Loops.{count_on}
use Rattle.smv_flat.proofs.evaluation.+eval.Given as goal

-- the values of all are those that are there, before those of the expressions that are left
abbrev pub invariant-eval_all-loop-e : goal.invariant-eval_all-loop-e
invariant-eval_all-loop-e g l =
    all_fitting (g.M.Moment.numbers l.now) (g.M.Moment.numbers l.later) (flats (map flat_tree l.es))
    ≡ with_values (all_fitting (g.M.Moment.numbers l.now) (g.M.Moment.numbers l.later) (flats (map flat_tree (drop l.e-index l.es)))) (λ ws. Some (l.all.items ++ ws))

-- the branches that are left decide
abbrev pub invariant-eval_first-loop-branch : goal.invariant-eval_first-loop-branch
invariant-eval_first-loop-branch g l =
    first_fitting (g.M.Moment.numbers l.now) (g.M.Moment.numbers l.later) (flat_arms (map flat_arm l.branches))
    ≡ first_fitting (g.M.Moment.numbers l.now) (g.M.Moment.numbers l.later) (flat_arms (map flat_arm (drop l.branch-index l.branches)))

-- the count of all is that of the expressions that are left, from the one so far on
abbrev pub invariant-eval_count-loop-e : goal.invariant-eval_count-loop-e
invariant-eval_count-loop-e g l =
    IfSome l.count (λ n. n ≤ l.e-index)
    × (option_map (count_on (Some 0)) (each_fitting (g.M.Moment.numbers l.now) (g.M.Moment.numbers l.later) (flats (map flat_tree l.es)))
    ≡ option_map (count_on l.count) (each_fitting (g.M.Moment.numbers l.now) (g.M.Moment.numbers l.later) (flats (map flat_tree (drop l.e-index l.es)))))
