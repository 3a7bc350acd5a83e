-- What executing a trace comes to.
use Rattle.std.proofs.Common.{◌≡◌, ℕ, Bool, List, true, false, refl, sym, subst}
use Rattle.std.specs.Prelude.{None, Some, Ok, Err}
use Rattle.smv_tree.specs.declared.program.Program.{Program}
use Rattle.smv_tree.specs.Models.{bodies}
use Rattle.bool_replay.specs.declared.load.ModelFault.{ModelFault}
use Rattle.bool_replay.specs.declared.verdict.Verdict.{Verdict}
use Rattle.bool_replay.specs.Verdicts.{Judges, ModelOf}
use Rattle.shell_world.specs.declared.end.End.{End}
use Rattle.shell_world.specs.declared.end.End.TheVariants as ends
use Rattle.shell_world.specs.declared.state.State.{State}
use Rattle.shell_world.specs.Processes.{Becomes, MayLack, Refuses, Then}
use Rattle.shell_world.specs.Scenes.{Moment, Told, at, goes_along}
use Rattle.shell_world.specs.Written.{Performs}
use Rattle.shell_world.proofs.Combining.{lacked_not}
use Rattle.shell_world.proofs.Performing.{became, here, known, led, some, stopped}
use Rattle.shell_model.specs.ModelCommands.{input_file, model_refusal, with_model}
use Rattle.shell_model.specs.TraceCommands.{Executes, ExecutesFrom, ExecutesOnText, ExecutesWith, JudgesFile, JudgesText, TellsVerdict}

-- a text was judged
pub judged : (program : Program) (text : List ℕ) (verdict : Verdict) {old new : Moment} {e : End} → Judges (bodies program) text verdict → Performs (TellsVerdict verdict) old e new → Performs (JudgesText false program text) old e new
judged program text verdict is p = lacked_not (some _ verdict (here is p))

-- the trace was not refused, and the model is kept
pub executed : (changes : Bool) (program : Program) (name : List ℕ) (state new : State) (told told' : Told) (e : End) → Performs (JudgesFile changes program name) (at state told) e (at state told') → goes_along state e ≡ true → new ≡ with_model program state → Performs (Then (JudgesFile changes program name) (Becomes (with_model program))) (at state told) ends.Went (at new told')
executed changes program name state new told told' e p leads is = led goes_along (λ _. refl) p leads (became (with_model program) state new told' is)

-- the trace was refused
pub executed_not : (changes : Bool) (program : Program) (name : List ℕ) {old new : Moment} {e : End} → Performs (JudgesFile changes program name) old e new → goes_along new.state e ≡ false → Performs (Then (JudgesFile changes program name) (Becomes (with_model program))) old e new
executed_not changes program name p leads = stopped goes_along _ p leads

-- the text is a model
pub text_executed : (changes : Bool) (name text : List ℕ) (program : Program) {old new : Moment} {e : End} → ModelOf text (Ok program) → Performs (Then (JudgesFile changes program name) (Becomes (with_model program))) old e new → Performs (ExecutesOnText changes name text) old e new
text_executed changes name text program is p = some _ (Ok program) (here is p)

-- the text is none
pub text_not_executed : (changes : Bool) (name text : List ℕ) (fault : ModelFault) {old new : Moment} {e : End} → ModelOf text (Err fault) → Performs (Refuses (model_refusal fault)) old e new → Performs (ExecutesOnText changes name text) old e new
text_not_executed changes name text fault is p = some _ (Err fault) (here is p)

-- on the model that is kept
pub on_kept : (changes : Bool) (name : List ℕ) (program : Program) {old new : Moment} {e : End} → old.state.model ≡ Some program → Performs (JudgesFile changes program name) old e new → Performs (Executes changes name) old e new
on_kept changes name program {old = old} {new = new} {e = e} is p = known _ (subst (λ m. Performs (ExecutesWith changes name m old.state) old e new) (sym is) p)

-- on the model that is read
pub on_read : (changes : Bool) (name : List ℕ) {old new : Moment} {e : End} → old.state.model ≡ None → Performs (MayLack (ExecutesFrom changes name (input_file old.state))) old e new → Performs (Executes changes name) old e new
on_read changes name {old = old} {new = new} {e = e} is p = known _ (subst (λ m. Performs (ExecutesWith changes name m old.state) old e new) (sym is) p)
