use Rattle.std.proofs.Common.{◌≡◌, subst}
use Rattle.std.specs.Prelude.{Some}
use Rattle.sat_watch.specs.Watched.{watchers, after}
use Rattle.sat_watch.proofs.watches.Watches.move_watch.Goals as goal

pub move_first-requires-clause-stands : goal.move_first-requires-clause-stands
move_first-requires-clause-stands c =
    subst (λ b. after (watchers c.args.self.now c.args.literal) b ≡ Some c.args.clause) c.in-None.is c.requires.stands

pub move_behind-requires-clause-stands : goal.move_behind-requires-clause-stands
move_behind-requires-clause-stands c =
    subst (λ b. after (watchers c.args.self.now c.args.literal) b ≡ Some c.args.clause) c.in-Some.is c.requires.stands
