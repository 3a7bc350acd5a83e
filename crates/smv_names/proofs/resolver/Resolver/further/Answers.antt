use Rattle.std.proofs.Common.{◌+◌, drop, ap, sym, ◌∙◌}
use Rattle.std.proofs.lemmas.List.{at_drop_more}
use Rattle.smv_names.specs.Lookups.{target_behind, further_target}
use Rattle.smv_names.proofs.resolver.Resolver.further.Goals as goal

pub loop-name-preserved : goal.loop-name-preserved
loop-name-preserved c =
    let r = c.args.self.now in
    let rest = drop (c.loop-name.name-index + 1) c.args.names.now in
    let step = c.behind-target.ensures ∙ ap (target_behind r c.loop-name.target) c.name-item.is in
    let front = at_drop_more (further_target r c.loop-name.target) c.args.names.now c.loop-name.name-index c.name-item.result c.loop-name-test.true in
    ap (λ t. further_target r t rest) step ∙ (sym front ∙ c.loop-name.invariant)
