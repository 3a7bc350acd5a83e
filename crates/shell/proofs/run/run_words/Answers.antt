use Rattle.std.proofs.Common.{refl, ap, subst, sym, ◌∙◌}
use Rattle.std.specs.Prelude.{Some, option_map}
use Rattle.shell_world.specs.Scenes.{at, fresh}
use Rattle.shell_world.specs.Written.{Performs}
use Rattle.shell_world.proofs.Performing.{left, over_said}
use Rattle.shell.specs.AskedViews.{asked_of}
use Rattle.shell.specs.Sessions.{SessionAsked, asked_by, nothing_asked}
use Rattle.shell.proofs.run.run_words.Goals as goal

pub returns-in_default : goal.returns-in_default
returns-in_default g c =
    let told = g.W.Outside.told in
    let r = c.tell_event.result in
    let said = c.tell_event.ensures fresh in
    let asked = sym (ap (option_map asked_of) c.in_default.is) ∙ (c.wanted_by.ensures ∙ ap (asked_by (Some nothing_asked)) c.as_slice.ensures) in
    let p = subst (λ a. Performs (SessionAsked a) (at fresh (told c.args.world.now)) r (at fresh (told c.tell_event.new.world))) asked said in
    (r, fresh, p, c.status_of.ensures fresh (over_said fresh _ _ refl said))

pub returns-in_default-new : goal.returns-in_default-new
returns-in_default-new g c =
    let told = g.W.Outside.told in
    let r = c.tell_event-in_default-new.result in
    let said = c.tell_event-in_default-new.ensures fresh in
    let asked = c.in-Some.ensures ∙ ap (asked_by (Some nothing_asked)) c.as_slice.ensures in
    let p = subst (λ a. Performs (SessionAsked a) (at fresh (told c.args.world.now)) r (at fresh (told c.tell_event-in_default-new.new.world))) asked (left _ said) in
    (r, fresh, p, c.status_of-in_default-new.ensures fresh (over_said fresh _ _ refl said))
