-- What reading a model comes to.
use Rattle.std.proofs.Common.{◌≡◌, ◌≤◌, ℕ, List, length, refl, sym, subst}
use Rattle.std.specs.Prelude.{Option, None, Some, Ok, Err, codes}
use Rattle.std.specs.Option.{option_or}
use Rattle.cmd_table.specs.declared.fault.OptFault.TheVariants.{Required}
use Rattle.smv_tree.specs.declared.program.Program.{Program}
use Rattle.bool_replay.specs.declared.load.ModelFault.{ModelFault}
use Rattle.bool_replay.specs.Verdicts.{ModelOf}
use Rattle.shell_world.specs.declared.end.End.{End}
use Rattle.shell_world.specs.declared.end.End.TheVariants as ends
use Rattle.shell_world.specs.declared.refusal.Refusal.TheVariants as refusal
use Rattle.shell_world.specs.declared.state.State.{State}
use Rattle.shell_world.specs.Processes.{Becomes, MayLack, Refuses}
use Rattle.shell_world.specs.Scenes.{Moment, Told, at}
use Rattle.shell_world.specs.Steps.{ReadsWhole, WithFile}
use Rattle.shell_world.specs.Written.{Performs}
use Rattle.shell_world.proofs.Combining.{lacked, lacked_not}
use Rattle.shell_world.proofs.Performing.{became, here, known, some}
use Rattle.shell_model.specs.ModelCommands.{ReadsBy, ReadsModel, ReadsNamed, TakesText, input_file, model_limit, model_refusal, with_read}

-- a text that was read is within its limit
pub within_limit : (limit : ℕ) (name text : List ℕ) {old new : Moment} {e : End} → Performs (ReadsWhole limit name (Ok text)) old e new → length text ≤ limit
unfolding ReadsWhole
within_limit limit name text p = p.happens.reads.1

-- a model is kept, and its file named
pub model_kept : (file : List ℕ) (program : Program) (old new : State) (told : Told) → new ≡ with_read file program old → Performs (MayLack (Becomes (with_read file program))) (at old told) ends.Went (at new told)
model_kept file program old new told e = lacked_not (became (with_read file program) old new told e)

-- memory was refused for its name
pub not_kept : (file : List ℕ) (program : Program) (old new : State) (told told' : Told) (e : End) → new ≡ old → Performs (Refuses refusal.NoMemory) (at new told) e (at new told') → Performs (MayLack (Becomes (with_read file program))) (at old told) e (at new told')
not_kept file program old new told told' e same p = lacked _ refusal.NoMemory refl (subst (λ s. Performs (Refuses refusal.NoMemory) (at s told) e (at new told')) same p)

-- the text is a model
pub text_taken : (file text : List ℕ) (program : Program) {old new : Moment} {e : End} → ModelOf text (Ok program) → Performs (MayLack (Becomes (with_read file program))) old e new → Performs (TakesText file text) old e new
text_taken file text program is p = some _ (Ok program) (here is p)

-- the text is none
pub text_refused : (file text : List ℕ) (fault : ModelFault) {old new : Moment} {e : End} → ModelOf text (Err fault) → Performs (Refuses (model_refusal fault)) old e new → Performs (TakesText file text) old e new
text_refused file text fault is p = some _ (Err fault) (here is p)

-- there is a model
pub there_is_one : (file : List ℕ) (model : Option Program) (program : Program) {old new : Moment} {e : End} → model ≡ Some program → Performs (Refuses refusal.ModelIsThere) old e new → Performs (ReadsModel file model) old e new
there_is_one file model program {old = old} {new = new} {e = e} is p = subst (λ m. Performs (ReadsModel file m) old e new) (sym is) p

-- there is none
pub there_is_none : (file : List ℕ) (model : Option Program) {old new : Moment} {e : End} → model ≡ None → Performs (WithFile model_limit file (TakesText file)) old e new → Performs (ReadsModel file model) old e new
there_is_none file model {old = old} {new = new} {e = e} is p = subst (λ m. Performs (ReadsModel file m) old e new) (sym is) p

-- no file was named
pub unnamed : (state : State) {old new : Moment} {e : End} → Performs (Refuses (refusal.Options (Required (codes "-i")))) old e new → Performs (ReadsNamed None state) old e new
unnamed state p = lacked_not p

-- the file is that of the option, or else that of the variable
pub by_named : (given found : Option (List ℕ)) {old new : Moment} {e : End} → found ≡ option_or given (input_file old.state) → Performs (ReadsNamed found old.state) old e new → Performs (MayLack (ReadsBy given)) old e new
by_named given found {old = old} {new = new} {e = e} is p = lacked_not (known _ (subst (λ f. Performs (ReadsNamed f old.state) old e new) is p))
