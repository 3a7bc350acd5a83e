use Rattle.std.proofs.Common.{◌≡◌, length, ap, ◌∙◌, arith}
use Rattle.sat_link.specs.Contents.{Contents}
use Rattle.sat_link.proofs.Adding.{originals-le}
use Rattle.sat_link.proofs.kept.Kept.counts.Goals as goal

pub overflow_sub-result : goal.overflow_sub-result
overflow_sub-result c = omega (arith, originals-le c.log-log.result.now)

pub returns-clause-lines : goal.returns-clause-lines
returns-clause-lines c =
    let log = c.log-log.result.now in
    let same : length log ≡ length c.args.self.now.log = ap length (c.log-log.ensures.value ∙ ap (λ (k : Contents). k.log) c.self.view_is) in
    omega (arith, originals-le log, same)
