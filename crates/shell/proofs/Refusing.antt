-- What a refused command leaves as it was, and a line at it.
use Rattle.std.proofs.Common.{◌≡◌, ◌⊎◌, ℕ, zero, suc, Bool, true, false, List, [], ◌∷◌, ◌++◌, inl, inr, refl, ap, sym, subst, ◌∙◌}
use Rattle.std.specs.Prelude.{Option, None, Some, Result, Ok, Err}
use Rattle.cmd_table.specs.declared.given.Given.{Given}
use Rattle.cmd_table.specs.Options.{Options}
use Rattle.outside.specs.declared.files.FileFault.{FileFault}
use Rattle.outside.specs.declared.files.FileFault.TheVariants as faults
use Rattle.shell_lang.specs.declared.fault.LangFault.{LangFault}
use Rattle.shell_lang.specs.declared.line.Piece.{Piece}
use Rattle.shell_lang.specs.Filled.{Expands}
use Rattle.shell_lang.specs.Recall.{recalled}
use Rattle.shell_model.specs.declared.log_commands.LogCommand.{LogCommand}
use Rattle.shell_model.specs.declared.model_commands.ModelCommand.{ModelCommand}
use Rattle.shell_model.specs.declared.trace_commands.TraceCommand.{TraceCommand}
use Rattle.shell_model.specs.LogCommands.{DoesLog}
use Rattle.shell_model.specs.ModelCommands.{DoesModel}
use Rattle.shell_model.specs.Refused.{LogMayChange, ModelMayChange, TraceMayChange}
use Rattle.shell_model.specs.TraceCommands.{DoesTrace}
use Rattle.shell_settings.specs.declared.settings.SettingsCommand.{SettingsCommand}
use Rattle.shell_settings.specs.Refused.{SettingsMayChange}
use Rattle.shell_settings.specs.Settings.{DoesSettings}
use Rattle.shell_world.specs.declared.end.End.{End}
use Rattle.shell_world.specs.declared.end.End.TheVariants as ends
use Rattle.shell_world.specs.Happenings.{Happening}
use Rattle.shell_world.specs.Keeping.{Always, IsKept, IsKeptBut, KeepsRefused}
use Rattle.shell_world.specs.Processes.{Becomes, Chain, Each, Either, Ends, EndsSaying, ForSome, Knowing, LacksMemory, MayLack, Where}
use Rattle.shell_world.specs.Scenes.{Scene, goes_along}
use Rattle.shell_world.specs.Steps.{RefusesFile}
use Rattle.shell_world.proofs.Keeping.{Still, becomes_guards, by_row, each_leave, ended_kept, ends_leave, guarded_refused, guards_fact, kept_both, lack_kept, may_lack_leave, reads_still, refusal_kept, refused_not_went, refuses_leave, row_leave, said_kept, says_leave, some_leave, still_fact, stores_refused, where_leave}
use Rattle.shell.specs.declared.rows.Command.{Command}
use Rattle.shell.specs.declared.rows.Command.TheVariants as command
use Rattle.shell.specs.declared.script.Script.{Script}
use Rattle.shell.specs.declared.topics.ShellCommand.TheVariants as own
use Rattle.cmd_table.specs.declared.commands.TheConstants.{ECHO, HELP, QUIT, RESET, SOURCE}
use Rattle.shell_world.specs.declared.phase.Phase.TheVariants.{Start}
use Rattle.shell.specs.Echo.{Echoes, EchoesTo, echo_file, echoed}
use Rattle.shell.specs.Lines.{DoesAny, DoesCommand, DoesGiven, DoesLine, DoesNamed, DoesScriptLines, DoesSource, DoesWords, LacksScript, Sourcing, Unless, given_script, script_limit}
use Rattle.shell.specs.Refused.{BreaksFile, ChangesLittle, ChangesMore, RefusedAfter, RefusedInput, RefusedLine, RunsGiven, RunsScriptLines, ShellMayChange}
use Rattle.shell.specs.Rows.{command_of}
use Rattle.shell.specs.Sessions.{DoesInput, DoesRecalled, nesting_limit, remembered}
use Rattle.shell.specs.Topics.{HelpsLine, HelpsOn, HelpsWith, without_model}

-- what the topics below say of their commands
pub record TopicsKeep : Type 0 where
  pub settings : (c : SettingsCommand) (words : List (List ℕ)) → KeepsRefused (SettingsMayChange c words) (DoesSettings c words)
  pub log : (c : LogCommand) (words : List (List ℕ)) → KeepsRefused (LogMayChange c words) (DoesLog c words)
  pub model : (c : ModelCommand) (words : List (List ℕ)) → KeepsRefused (ModelMayChange c words) (DoesModel c words)
  pub trace : (c : TraceCommand) (words : List (List ℕ)) → KeepsRefused (TraceMayChange c words) (DoesTrace c words)

-- `help`, `quit` and `reset`
line_leaves : (line : List ℕ) → Always (HelpsLine line) Still
line_leaves line = may_lack_leave still_fact (says_leave still_fact _ _ refl refl)

on_leaves : (word : List ℕ) (found : Option Command) → Always (HelpsOn word found) Still
on_leaves word (Some c) = line_leaves _
on_leaves word None = refuses_leave still_fact _ refl

pub help_leaves : (words : List (List ℕ)) → Always (HelpsWith words) Still
help_leaves [] = may_lack_leave still_fact (some_leave _ (λ words. where_leave _ (λ is. each_leave still_fact goes_along HelpsLine words line_leaves)))
help_leaves (word ∷ words) = on_leaves word (command_of word)

-- `echo`, where no file is given and where one is
echo_kept : (given : Given) (file : Option (List ℕ)) (old : Scene) (events : List Happening) (end : End) (new : Scene) → end ≡ ends.Refused → EchoesTo given file old events end new → IsKept old new ⊎ ((name : List ℕ) × (file ≡ Some name) × IsKeptBut name (echoed given) old new)
echo_kept given None old events end new r p = inl (said_kept _ _ _ _ p)
echo_kept given (Some name) old events end new r p = inr (name, refl, stores_refused name (echoed given) old events end new r p)

echo_little : (words : List (List ℕ)) (old : Scene) (events : List Happening) (end : End) (new : Scene) → end ≡ ends.Refused → Echoes words old events end new → IsKept old new ⊎ BreaksFile words old new
unfolding Either
echo_little words old events end new r p = given_row (by_row ECHO Start words (λ given. MayLack (EchoesTo given (echo_file given))) old events end new p)
  where
    broken : (given : Given) → Options ECHO words (Ok given) → (IsKept old new ⊎ ((name : List ℕ) × (echo_file given ≡ Some name) × IsKeptBut name (echoed given) old new)) → IsKept old new ⊎ BreaksFile words old new
    broken given o (inl k) = inl k
    broken given o (inr (name, e, k)) = inr record { given = given; file = name; reads = o; named = e; kept = k }

    lacking : (given : Given) → Options ECHO words (Ok given) → MayLack (EchoesTo given (echo_file given)) old events end new → IsKept old new ⊎ BreaksFile words old new
    lacking given o (inl q) = inl (lack_kept _ _ q)
    lacking given o (inr q) = broken given o (echo_kept given (echo_file given) old events end new r q)

    given_row : (IsKept old new ⊎ ((given : Given) × Options ECHO words (Ok given) × MayLack (EchoesTo given (echo_file given)) old events end new)) → IsKept old new ⊎ BreaksFile words old new
    given_row (inl k) = inl k
    given_row (inr (given, o, q)) = lacking given o q

-- a script that was not read
lacks_script : (script : Script) (fault : FileFault) (events : List Happening) (end : End) {old new : Scene} → LacksScript script fault old events end new → IsKept old new
lacks_script script faults.NotThere events end {old = old} {new = new} p = by_test script.lenient p
  where
    by_test : (t : Bool) → Unless t (RefusesFile script_limit script.file faults.NotThere) old events end new → IsKept old new
    by_test true p = ended_kept ends.Went events end p
    by_test false p = refusal_kept _ events end p
lacks_script script (faults.TooLong size) events end p = refusal_kept _ events end p
lacks_script script faults.Failed events end p = refusal_kept _ events end p
lacks_script script (faults.NoMemory e) events end p = refusal_kept _ events end p

-- a script that is refused itself changes nothing, and else its lines alone do
sourced : (depth : ℕ) (script : Script) (old : Scene) (events : List Happening) (end : End) (new : Scene) → end ≡ ends.Refused → Sourcing depth script old events end new → IsKept old new ⊎ RunsScriptLines depth script old new
unfolding Sourcing ForSome Chain
sourced zero script old events end new r p = inl (said_kept _ _ _ _ p)
sourced (suc depth) script old events end new r (answer, inl p) = inl (reads_still _ _ _ old events end new p.first).kept
sourced (suc depth) script old events end new r (Ok text, inr p) = inr record {
  text = text;
  mid = p.mid;
  events = p.behind;
  kept = (reads_still _ _ _ old p.before p.middle p.mid p.first).kept;
  lines = subst (λ e. DoesScriptLines (DoesLine depth) script text p.mid p.behind e new) r p.second;
}
sourced (suc depth) script old events end new r (Err fault, inr p) =
    inl (kept_both (reads_still _ _ _ old p.before p.middle p.mid p.first).kept (lacks_script script fault _ _ p.second))

source_little : (depth : ℕ) (words : List (List ℕ)) (old : Scene) (events : List Happening) (end : End) (new : Scene) → end ≡ ends.Refused → DoesSource (Sourcing depth) words old events end new → IsKept old new ⊎ RunsGiven depth words old new
source_little depth words old events end new r p = given_row (by_row SOURCE Start words (λ given. DoesGiven (Sourcing depth) (given_script given)) old events end new p)
  where
    ran : (given : Given) → Options SOURCE words (Ok given) → (script : Script) → given_script given ≡ Some script → (IsKept old new ⊎ RunsScriptLines depth script old new) → IsKept old new ⊎ RunsGiven depth words old new
    ran given o script e (inl k) = inl k
    ran given o script e (inr k) = inr record { given = given; script = script; reads = o; named = e; runs = k }

    by_script : (given : Given) → Options SOURCE words (Ok given) → (found : Option Script) → given_script given ≡ found → DoesGiven (Sourcing depth) found old events end new → IsKept old new ⊎ RunsGiven depth words old new
    by_script given o None e q = inl (ended_kept ends.Went _ _ q)
    by_script given o (Some script) e q = ran given o script e (sourced depth script old events end new r q)

    given_row : (IsKept old new ⊎ ((given : Given) × Options SOURCE words (Ok given) × DoesGiven (Sourcing depth) (given_script given) old events end new)) → IsKept old new ⊎ RunsGiven depth words old new
    given_row (inl k) = inl k
    given_row (inr (given, o, q)) = by_script given o (given_script given) refl q

-- a command changes nothing, or what it may
pub named_little : TopicsKeep → (depth : ℕ) (c : Command) (words : List (List ℕ)) (old : Scene) (events : List Happening) (end : End) (new : Scene) → end ≡ ends.Refused → DoesNamed (Sourcing depth) c words old events end new → ChangesLittle depth c words old events new
named_little t depth (command.Settings c) words old events end new r p = t.settings c words old events end new r p
named_little t depth (command.Model c) words old events end new r p = t.model c words old events end new r p
named_little t depth (command.Trace c) words old events end new r p = t.trace c words old events end new r p
named_little t depth (command.Log c) words old events end new r p = t.log c words old events end new r p
named_little t depth (command.Shell own.Echo) words old events end new r p = echo_little words old events end new r p
named_little t depth (command.Shell own.Help) words old events end new r p = inl (row_leave still_fact HELP Start words (λ given. HelpsWith given.rest) (λ given. help_leaves given.rest) old events end new p).kept
named_little t depth (command.Shell own.Quit) words old events end new r p = inl (row_leave still_fact QUIT Start words (λ given. Ends ends.Quits) (λ given. ends_leave still_fact ends.Quits refl) old events end new p).kept
named_little t depth (command.Shell own.Reset) words old events end new r p =
    guarded_refused (ShellMayChange depth own.Reset words) (row_leave guards_fact RESET Start words (λ given. Becomes without_model) (λ given. becomes_guards without_model (λ s. refl))) old events end new r p
named_little t depth (command.Shell own.Source) words old events end new r p = source_little depth words old events end new r p

-- the same of a command of a line
pub command_kept : TopicsKeep → (depth : ℕ) (pieces : List (List Piece)) (old : Scene) (events : List Happening) (end : End) (new : Scene) → end ≡ ends.Refused → DoesCommand (Sourcing depth) pieces old events end new → IsKept old new ⊎ ChangesMore depth pieces old new
unfolding Either ForSome Where Knowing
command_kept t depth pieces old events end new r (inl (said, (number, p))) = inl (said_kept _ _ _ _ p)
command_kept t depth pieces old events end new r (inr (answer, (is, p))) = by_answer answer is p
  where
    changed : (word : List ℕ) (words : List (List ℕ)) (c : Command) → Expands old.state.vars old.state.aliases pieces (Ok (word ∷ words)) → command_of word ≡ Some c → DoesNamed (Sourcing depth) c words old events end new → ChangesLittle depth c words old events new → IsKept old new ⊎ ChangesMore depth pieces old new
    changed word words c x e q (inl k) = inl k
    changed word words c x e q (inr k) = inr record { word = word; words = words; found = c; events = events; expands = x; called = e; does = subst (λ z. DoesNamed (Sourcing depth) c words old events z new) r q; changed = k }

    by_found : (word : List ℕ) (words : List (List ℕ)) (found : Option Command) → Expands old.state.vars old.state.aliases pieces (Ok (word ∷ words)) → command_of word ≡ found → DoesAny (Sourcing depth) found word words old events end new → IsKept old new ⊎ ChangesMore depth pieces old new
    by_found word words (Some c) x e q = changed word words c x e q (named_little t depth c words old events end new r q)
    by_found word words None x e q = inl (refusal_kept _ _ _ q)

    by_answer : (answer : Result (List (List ℕ)) LangFault) → Expands old.state.vars old.state.aliases pieces answer → DoesWords (Sourcing depth) answer old events end new → IsKept old new ⊎ ChangesMore depth pieces old new
    by_answer (Ok []) x q = inl (ended_kept ends.Went _ _ q)
    by_answer (Ok (word ∷ words)) x q = by_found word words (command_of word) x refl q
    by_answer (Err fault) x q = inl (said_kept _ _ _ _ q)

-- a line that is refused did what its commands before the refused one did
pub commands_kept : TopicsKeep → (depth : ℕ) (commands : List (List (List Piece))) (old : Scene) (events : List Happening) (end : End) (new : Scene) → end ≡ ends.Refused → Each goes_along (DoesCommand (Sourcing depth)) commands old events end new → RefusedAfter depth commands old new
unfolding Chain Ends
commands_kept t depth [] old events end new r p = absurd (refused_not_went r p.ended)
commands_kept t depth (pieces ∷ commands) old events end new r (inl p) = record {
  before = [];
  refused = pieces;
  behind = commands;
  events = [];
  mid = old;
  are = refl;
  went = record { told = refl; ended = refl; same = refl };
  kept = command_kept t depth pieces old events end new r p.first;
}
commands_kept t depth (pieces ∷ commands) old events end new r (inr p) =
    let rest = commands_kept t depth commands p.mid p.behind end new r p.second in
    record {
      before = pieces ∷ rest.before;
      refused = rest.refused;
      behind = rest.behind;
      events = p.before ++ rest.events;
      mid = rest.mid;
      are = ap (λ xs. pieces ∷ xs) rest.are;
      went = inr record { mid = p.mid; middle = p.middle; before = p.before; behind = rest.events; first = p.first; leads_on = p.leads_on; second = rest.went; joined = refl };
      kept = rest.kept;
    }

-- want of memory outside a command is no refusal
lacking_not : (old : Scene) (events : List Happening) (end : End) (new : Scene) → end ≡ ends.Refused → LacksMemory old events end new → ⊥
unfolding EndsSaying
lacking_not old events end new r p = by_end p.ended
  where
    no_memory : ends.NoMemory ≡ ends.Refused → ⊥
    no_memory e = cc

    cut : ends.Cut ≡ ends.Refused → ⊥
    cut e = cc

    by_end : ((end ≡ ends.NoMemory) ⊎ (end ≡ ends.Cut)) → ⊥
    by_end (inl e) = no_memory (sym e ∙ r)
    by_end (inr e) = cut (sym e ∙ r)

pub line_kept : TopicsKeep → (depth : ℕ) (line : List ℕ) (old : Scene) (events : List Happening) (end : End) (new : Scene) → end ≡ ends.Refused → DoesLine depth line old events end new → RefusedLine depth line old new
unfolding Either ForSome Where
line_kept t depth line old events end new r (inl p) = absurd (lacking_not old events end new r p)
line_kept t depth line old events end new r (inr (Ok commands, (s, p))) = inr (commands, s, commands_kept t depth commands old events end new r p)
line_kept t depth line old events end new r (inr (Err fault, (s, p))) = inl (fault, s, said_kept _ _ _ _ p)

found_kept : TopicsKeep → (found : List ℕ) (old : Scene) (events : List Happening) (end : End) (new : Scene) → end ≡ ends.Refused → DoesRecalled (Ok found) old events end new → RefusedLine nesting_limit found (record old { state = remembered found old.state }) new
unfolding Chain Becomes
found_kept t found old events end new r (inl p) = absurd (refused_not_went r p.first.ended)
found_kept t found old events end new r (inr p) =
    subst (λ mid. RefusedLine nesting_limit found mid new) p.first.changed (line_kept t nesting_limit found p.mid p.behind end new r p.second)

pub input_kept : TopicsKeep → (line : List ℕ) (old : Scene) (events : List Happening) (end : End) (new : Scene) → end ≡ ends.Refused → DoesInput line old events end new → RefusedInput line old new
unfolding Either Knowing
input_kept t line old events end new r (inl p) = absurd (lacking_not old events end new r p)
input_kept t line old events end new r (inr p) = by_answer (recalled old.state.past line) refl p
  where
    by_answer : (answer : Result (List ℕ) LangFault) → recalled old.state.past line ≡ answer → DoesRecalled answer old events end new → RefusedInput line old new
    by_answer (Ok found) e q = inr (found, e, found_kept t found old events end new r q)
    by_answer (Err fault) e q = inl (fault, e, said_kept _ _ _ _ q)
