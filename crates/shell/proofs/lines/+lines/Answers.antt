use Rattle.std.proofs.Common.{◌≡◌, ◌-◌, ◌∙◌, arith, refl, sym, subst, suc}
use Rattle.std.specs.Prelude.{Ok, Err}
use Rattle.cmd_table.specs.declared.commands.TheConstants.{SOURCE}
use Rattle.shell_world.specs.declared.phase.Phase.TheVariants.{Start}
use Rattle.shell_world.specs.declared.end.End.TheVariants as ends
use Rattle.shell_world.specs.declared.refusal.Refusal.TheVariants as refusal
use Rattle.shell_world.specs.Processes.{Then}
use Rattle.shell_world.specs.Scenes.{at, goes_along, goes_on}
use Rattle.shell_world.specs.Written.{Performs}
use Rattle.shell_world.proofs.Combining.{lacked}
use Rattle.shell_world.proofs.Rowing.{with_row, without_row}
use Rattle.shell_world.proofs.Performing.{each_more, each_over, each_stops, items_more, items_over, items_stop, led, stopped, went}
use Rattle.shell.specs.Lines.{DoesCommand, DoesGiven, DoesLine, DoesScriptLine, ShowsScriptLine, Sourcing, given_script}
use Rattle.text_lines.specs.Lines.{lines_of}
use Rattle.shell.proofs.Lining.{command_done, command_refused, line_lacked, line_not_split, line_split, script_done, too_deep, words_none}
use Rattle.text_lines.proofs.Cutting.{no_lines}
use Rattle.shell.proofs.lines.+lines.Goals as goal

pub do_line-returns-in-Ok-clause-does : goal.do_line-returns-in-Ok-clause-does
do_line-returns-in-Ok-clause-does g t c =
    line_split (Sourcing c.args.depth) c.args.line.now c.in-Ok.commands c.in-Ok.ensures.right (rw (sym c.as_slice.ensures) c.do_commands.ensures.does)

pub do_line-returns-in-Err-clause-does : goal.do_line-returns-in-Err-clause-does
do_line-returns-in-Err-clause-does g t c =
    line_not_split (Sourcing c.args.depth) c.args.line.now c.in-Err.fault c.in-Err.ensures.right c.refuse_line.ensures

pub do_commands-returns-then-not-goes_along-clause-does : goal.do_commands-returns-then-not-goes_along-clause-does
do_commands-returns-then-not-goes_along-clause-does g t c =
    each_stops goes_along (DoesCommand (Sourcing c.args.depth)) c.args.commands.now c.loop-command.command-index c.command-item.result c.loop-command-test.true c.loop-command.invariant.completes (subst (λ x. Performs (DoesCommand (Sourcing c.args.depth) x) (at c.loop-command.state (g.W.Outside.told c.loop-command.world)) c.do_command-end.result (at c.do_command-end.new.state (g.W.Outside.told c.do_command-end.new.world))) c.command-item.is c.do_command-end.ensures.does) (grind arith)

pub do_commands-loop-command-preserved : goal.do_commands-loop-command-preserved
do_commands-loop-command-preserved g t c = record {
  completes = each_more goes_along (DoesCommand (Sourcing c.args.depth)) c.args.commands.now c.loop-command.command-index c.command-item.result (λ s. refl) c.loop-command-test.true c.loop-command.invariant.completes (subst (λ x. Performs (DoesCommand (Sourcing c.args.depth) x) (at c.loop-command.state (g.W.Outside.told c.loop-command.world)) c.do_command-end.result (at c.do_command-end.new.state (g.W.Outside.told c.do_command-end.new.world))) c.command-item.is c.do_command-end.ensures.does) (grind arith);
  past = grind (arith, c.do_command-end.ensures.past, c.loop-command.invariant.past);
}

pub do_commands-returns-clause-does : goal.do_commands-returns-clause-does
do_commands-returns-clause-does g t c =
    each_over goes_along (DoesCommand (Sourcing c.args.depth)) c.args.commands.now c.loop-command.command-index c.loop-command-test.false c.loop-command.invariant.completes

pub do_command-returns-in-Ok-clause-does : goal.do_command-returns-in-Ok-clause-does
do_command-returns-in-Ok-clause-does g t c =
    command_done (Sourcing c.args.depth) c.args.command.now c.in-Ok.words c.args.state.now _ c.in-Ok.ensures.right c.do_words.ensures.does

pub do_command-returns-in-Err-clause-does : goal.do_command-returns-in-Err-clause-does
do_command-returns-in-Err-clause-does g t c =
    command_refused (Sourcing c.args.depth) c.args.command.now c.in-Err.fault c.args.state.now _ c.in-Err.ensures.right c.refuse.ensures

pub do_script-returns-then-depth-eq0-clause-does : goal.do_script-returns-then-depth-eq0-clause-does
do_script-returns-then-depth-eq0-clause-does g t c = rw c.if-depth-eq0.true (too_deep c.args.script.now c.refuse.ensures)

pub do_script-returns-in-Ok-clause-does : goal.do_script-returns-in-Ok-clause-does
do_script-returns-in-Ok-clause-does g t c =
    let e : c.args.depth ≡ suc (c.args.depth - 1) = omega (arith, c.if-depth-eq0.false) in
    rw e (script_done (c.args.depth - 1) c.args.script.now (Ok c.in-Ok.text) (c.in-Ok.ensures c.args.state.now) (rw (sym c.as_slice.ensures) c.do_script_lines.ensures.does))

pub do_script-returns-in-Err-clause-does : goal.do_script-returns-in-Err-clause-does
do_script-returns-in-Err-clause-does g t c =
    let e : c.args.depth ≡ suc (c.args.depth - 1) = omega (arith, c.if-depth-eq0.false) in
    rw e (script_done (c.args.depth - 1) c.args.script.now (Err c.in-Err.fault) (c.in-Err.ensures c.args.state.now) c.lack_script.ensures)

pub do_script_lines-returns-then-not-goes_on-clause-does : goal.do_script_lines-returns-then-not-goes_on-clause-does
do_script_lines-returns-then-not-goes_on-clause-does g t c =
    items_stop goes_on (DoesScriptLine (DoesLine c.args.depth) c.args.script.now) (lines_of c.loop-rest.rest.now) (lines_of c.first_line.result.1.now) c.first_line.result.0.now c.first_line.ensures.lines c.loop-rest.invariant.completes c.do_script_line-end.ensures.does (grind arith)

pub do_script_lines-loop-rest-preserved : goal.do_script_lines-loop-rest-preserved
do_script_lines-loop-rest-preserved g t c = record {
  completes = items_more goes_on (DoesScriptLine (DoesLine c.args.depth) c.args.script.now) (lines_of c.loop-rest.rest.now) (lines_of c.first_line.result.1.now) c.first_line.result.0.now (λ s. refl) c.first_line.ensures.lines c.loop-rest.invariant.completes c.do_script_line-end.ensures.does (grind arith);
  past = grind (arith, c.do_script_line-end.ensures.past, c.loop-rest.invariant.past);
}

pub do_script_lines-returns-clause-does : goal.do_script_lines-returns-clause-does
do_script_lines-returns-clause-does g t c =
    items_over goes_on (DoesScriptLine (DoesLine c.args.depth) c.args.script.now) (lines_of c.loop-rest.rest.now) (no_lines c.loop-rest.rest.now (sym c.is_empty.ensures ∙ c.loop-rest-test.false)) c.loop-rest.invariant.completes

pub do_script_line-returns-then-not-goes_along-clause-does : goal.do_script_line-returns-then-not-goes_along-clause-does
do_script_line-returns-then-not-goes_along-clause-does g t c =
    stopped goes_along (Then (ShowsScriptLine c.args.script.now.shows c.args.line.now) (DoesLine c.args.depth c.args.line.now)) c.say_if-end.ensures (grind arith)

pub do_script_line-returns-then-not-goes_along-2-clause-does : goal.do_script_line-returns-then-not-goes_along-2-clause-does
do_script_line-returns-then-not-goes_along-2-clause-does g t c =
    led goes_along (λ s. refl) c.say_if-end.ensures (grind arith) (stopped goes_along (DoesLine c.args.depth c.args.line.now) c.show_line-end.ensures (grind arith))

pub do_script_line-returns-in-Ok-clause-does : goal.do_script_line-returns-in-Ok-clause-does
do_script_line-returns-in-Ok-clause-does g t c =
    led goes_along (λ s. refl) c.say_if-end.ensures (grind arith) (led goes_along (λ s. refl) c.show_line-end.ensures (grind arith) (rw (sym c.in-Ok.ensures) c.do_line.ensures.does))

pub do_script_line-returns-in-Err-clause-does : goal.do_script_line-returns-in-Err-clause-does
do_script_line-returns-in-Err-clause-does g t c =
    led goes_along (λ s. refl) c.say_if-end.ensures (grind arith) (led goes_along (λ s. refl) c.show_line-end.ensures (grind arith) (line_lacked (Sourcing c.args.depth) c.args.line.now c.lack_memory.ensures))

pub do_source-returns-in-Err-clause-does : goal.do_source-returns-in-Err-clause-does
do_source-returns-in-Err-clause-does g t c =
    without_row SOURCE Start c.args.words.now (λ given. DoesGiven (Sourcing c.args.depth) (given_script given)) c.in-Err.refusal c.in-Err.ensures.refused c.refuse.ensures

pub do_source-returns-in-Err-script_given-clause-does : goal.do_source-returns-in-Err-script_given-clause-does
do_source-returns-in-Err-script_given-clause-does g t c = lacked _ refusal.NoMemory refl c.refuse-in-Err-script_given.ensures

pub do_source-returns-in-Some-clause-does : goal.do_source-returns-in-Some-clause-does
do_source-returns-in-Some-clause-does g t c =
    let p = subst (λ s. Performs (DoesGiven (Sourcing c.args.depth) s) (at c.args.state.now (g.W.Outside.told c.args.world.now)) c.do_script.result (at c.do_script.new.state (g.W.Outside.told c.do_script.new.world))) (sym c.in-Some.is ∙ c.in-Ok-script_given.ensures) c.do_script.ensures.does in
    with_row SOURCE Start c.args.words.now (λ given. DoesGiven (Sourcing c.args.depth) (given_script given)) c.in-Ok.given c.in-Ok.ensures.given p

pub do_source-returns-clause-does : goal.do_source-returns-clause-does
do_source-returns-clause-does g t c =
    let now = at c.args.state.now (g.W.Outside.told c.args.world.now) in
    let p = subst (λ s. Performs (DoesGiven (Sourcing c.args.depth) s) now ends.Went now) (sym c.in-None.is ∙ c.in-Ok-script_given.ensures) (went now) in
    with_row SOURCE Start c.args.words.now (λ given. DoesGiven (Sourcing c.args.depth) (given_script given)) c.in-Ok.given c.in-Ok.ensures.given p

pub do_words-returns-then-is_empty-clause-does : goal.do_words-returns-then-is_empty-clause-does
do_words-returns-then-is_empty-clause-does g t c = words_none (Sourcing c.args.depth) c.args.words _ (grind arith)
