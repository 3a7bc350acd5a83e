use Rattle.std.proofs.Common.{◌≡◌, ◌+◌, ◌-◌, refl, ap, arith}
use Rattle.std.specs.List.{range_with_len}
use Rattle.shell_lang.specs.Past.{line_of}
use Rattle.shell_world.specs.Scenes.{goes_along}
use Rattle.shell_world.proofs.Performing.{items_more, items_over, items_stop}
use Rattle.shell_settings.specs.Settings.{ShowsLine}
use Rattle.shell_settings.proofs.Settling.{range_more}
use Rattle.shell_settings.proofs.past.show_last.Goals as goal

pub returns-then-not-goes_along : goal.returns-then-not-goes_along
returns-then-not-goes_along g c =
    let f = c.saturating_sub-first.result in
    let p = c.loop-place.place in
    let s = c.min-shown.result in
    items_stop goes_along (λ n. ShowsLine n (line_of c.args.state.now.past n)) (range_with_len (f + 1 + p) (s - p)) (range_with_len (f + 1 + (p + 1)) (s - (p + 1))) (f + p + 1) (range_more f p s c.loop-place-test.true) c.loop-place.invariant c.show_line-end.ensures (grind arith)

pub loop-place-preserved : goal.loop-place-preserved
loop-place-preserved g c =
    let f = c.saturating_sub-first.result in
    let p = c.loop-place.place in
    let s = c.min-shown.result in
    items_more goes_along (λ n. ShowsLine n (line_of c.args.state.now.past n)) (range_with_len (f + 1 + p) (s - p)) (range_with_len (f + 1 + (p + 1)) (s - (p + 1))) (f + p + 1) (λ t. refl) (range_more f p s c.loop-place-test.true) c.loop-place.invariant c.show_line-end.ensures (grind arith)

pub returns : goal.returns
returns g c =
    let f = c.saturating_sub-first.result in
    let p = c.loop-place.place in
    let s = c.min-shown.result in
    let e : s - p ≡ 0 = omega (arith, c.loop-place-test.false) in
    items_over goes_along (λ n. ShowsLine n (line_of c.args.state.now.past n)) (range_with_len (f + 1 + p) (s - p)) (ap (range_with_len (f + 1 + p)) e) c.loop-place.invariant
