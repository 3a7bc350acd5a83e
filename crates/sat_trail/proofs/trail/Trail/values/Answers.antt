use Rattle.std.proofs.Common.{◌≡◌, ◌≤◌, List, reverse, ap, sym, subst, ◌∙◌, arith}
use Rattle.sat_log.specs.Literal.{Literal}
use Rattle.sat_trail.specs.Assignment.{assignment, AreTrue}
use Rattle.sat_trail.specs.Trail.{Trailed, literals}
use Rattle.sat_trail.proofs.Tables.{literals_of}
use Rattle.sat_trail.proofs.Trails.{all_true, Tells}
use Rattle.sat_trail.proofs.trail.Trail.values.Goals as goal

pub returns-clause-true_ : goal.returns-clause-true_
returns-clause-true_ c =
    let t = c.self.inside in
    let lits : literals c.args.self.now.entries ≡ reverse t.trail.items =
    ap (λ (v : Trailed). literals v.entries) (sym c.self.view_is) ∙ literals_of t.levels.items t.reasons.items (reverse t.trail.items) in
    let all : t.variables ≤ c.loop-var.var = omega arith in
    let tells : Tells t.variables (reverse t.trail.items) c.loop-var.values.items =
    (λ v lower upper. subst (λ (s : List Literal). Tells c.loop-var.var s c.loop-var.values.items) lits c.loop-var.invariant.tells v lower (omega arith)) in
    subst (λ (s : List Literal). AreTrue (assignment c.loop-var.values.items) s) (sym lits) (all_true t.variables (reverse t.trail.items) c.loop-var.values.items c.self.invariant.distinct c.self.invariant.within tells)
