use Rattle.std.proofs.Common.{◌≡◌, ◌≢◌}
use Rattle.sat_trail.specs.Trail.{literals}
use Rattle.sat_trail.proofs.Lists.{All-map}
use Rattle.sat_propagation.specs.Watching.{MayWatch}
use Rattle.sat_propagation.proofs.propagation.find_at.Goals as goal

pub returns-then-line-clause-none : goal.returns-then-line-clause-none
returns-then-line-clause-none c d named =
    All-map (λ l. l ≢ c.args.one → l ≡ c.args.other) (λ l. ¬ MayWatch (literals c.args.trail.now.entries) c.args.one c.args.other l) d
    (λ l only may. may.not_other (only may.not_one)) (c.requires.whole d named c.if-line.true)
