use Rattle.std.proofs.Common.{◌≡◌, ◌++◌, ◌∷◌, [], ap, subst, ◌∙◌}
use Rattle.sat_watch.specs.Watched.{Watched}
use Rattle.sat_watch.specs.Threads.{watched_in}
use Rattle.sat_watch.proofs.Moves.{keeps_place, push_lists}
use Rattle.sat_watch.proofs.watches.Watches.add_place.Goals as goal

pub invariant_of-self-2 : goal.invariant_of-self-2
invariant_of-self-2 c = rw c.in_ok-push.ensures.items (keeps_place c.self.inside.heads.items c.self.inside.records.items c.self.invariant)

pub returns-clause-ok : goal.returns-clause-ok
returns-clause-ok c =
    let s = c.self.inside in
    subst (λ (w : Watched). watched_in c.push.new.self.items s.records.items ≡ record { pairs = w.pairs; lists = w.lists ++ [] ∷ [] }) c.self.view_is
    (ap (λ heads. watched_in heads s.records.items) c.in_ok-push.ensures.items ∙ ap (λ lists. record { pairs = (watched_in s.heads.items s.records.items).pairs; lists = lists }) (push_lists 0 s.records.items s.heads.items))
