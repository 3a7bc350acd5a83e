-- A session: the words of the program, and then line after line of the input.
use Rattle.std.specs.Prelude.{◌≡◌, ◌+◌, ◌==◌, ℕ, Bool, true, false, List, [], ◌∷◌, ◌++◌, Option, Some, None, Result, Ok, Err, codes, is_some, if◌then◌else◌}
use Rattle.std.specs.List.{list_all}
use Rattle.std.specs.Str.{bytes_eq}
use Rattle.cmd_table.specs.Options.{begins_with_dash}
use Rattle.outside.specs.declared.source.Line.{Line}
use Rattle.outside.specs.declared.source.Line.TheVariants as lines
use Rattle.outside.specs.declared.source.LineFault.{LineFault}
use Rattle.outside.specs.declared.source.LineFault.TheVariants as faults
use Rattle.shell_lang.specs.declared.fault.LangFault.{LangFault}
use Rattle.text_lines.specs.Lines.{is_blank}
use Rattle.shell_lang.specs.Keyed.{with_name}
use Rattle.shell_lang.specs.Past.{remembering}
use Rattle.shell_lang.specs.Recall.{recalled}
use Rattle.shell_world.specs.declared.end.End.{End}
use Rattle.shell_world.specs.declared.end.End.TheVariants as ends
use Rattle.shell_world.specs.declared.event.Event.TheVariants as event
use Rattle.shell_world.specs.declared.shell_event.ShellEvent.TheVariants as shell
use Rattle.shell_world.specs.declared.refusal.Refusal.TheVariants as refusal
use Rattle.shell_world.specs.declared.state.State.{State}
use Rattle.shell_world.specs.Happenings.{Happening}
use Rattle.shell_world.specs.Processes.{Becomes, Chain, Either, Ends, EndsSaying, ForSome, Knowing, LacksMemory, Process, Refuses, SaysIf, Then}
use Rattle.shell_world.specs.Scenes.{Scene, goes_on}
use Rattle.shell_world.specs.Steps.{TakesLine}
use Rattle.shell.specs.declared.script.Script.{Script}
use Rattle.shell.specs.Lines.{DoesLine, Sourcing}

-- the line is remembered, unless it is blank
abbrev pub remembered : List ℕ → State → State
remembered line state =
    if list_all is_blank line then state else record state { past = remembering state.past line }

-- so many scripts may be nested in a line
abbrev pub nesting_limit : ℕ
nesting_limit = 16

-- a line of input has at most so many bytes
abbrev pub line_limit : ℕ
line_limit = 65536

-- a session has at most so many lines of input
abbrev pub most_lines : ℕ
most_lines = 1000000

-- a line that was recalled is remembered and done
abbrev pub DoesRecalled : Result (List ℕ) LangFault → Process
DoesRecalled (Ok line) = Then (Becomes (remembered line)) (DoesLine nesting_limit line)
DoesRecalled (Err fault) = Refuses (refusal.Language fault)

-- what a line of input does
abbrev pub DoesInput : List ℕ → Process
DoesInput line = Either LacksMemory (Knowing (λ state. DoesRecalled (recalled state.past line)))

-- the input failed, or passed a limit
abbrev pub Fails : LineFault → Process
Fails faults.ReadFault = EndsSaying (event.Refused (refusal.Line faults.ReadFault)) ends.InputFailed
Fails faults.TooLong = EndsSaying (event.Refused (refusal.Line faults.TooLong)) ends.InputFailed
Fails (faults.NoMemory e) = LacksMemory

-- a line after so many others
abbrev pub DoesNth : Bool → List ℕ → Process
DoesNth true line = EndsSaying (event.Refused refusal.TooManyLines) ends.InputFailed
DoesNth false line = DoesInput line

-- what is done about what was read
abbrev pub Treats : ℕ → Result Line LineFault → Process
Treats count (Ok lines.End) = Ends ends.Quits
Treats count (Ok (lines.Line line)) = DoesNth (count == most_lines) line
Treats count (Err fault) = Fails fault

-- after so many lines, a prompt where they are wanted, and the next line
abbrev pub Turn : Bool → ℕ → Process
Turn prompts count =
    Then (SaysIf prompts (event.Shell shell.Prompt))
    (ForSome (λ answer. Then (TakesLine line_limit answer) (Treats count answer)))

-- the turns of a session after so many lines, up to the one that does not go on
pub data Turns (prompts : Bool) : ℕ → Scene → List Happening → End → Scene → Type 0 where
  stops : (count : ℕ) (old : Scene) (events : List Happening) (end : End) (new : Scene)
      → Turn prompts count old events end new
      → goes_on new.state end ≡ false
      → Turns prompts count old events end new
  goes : (count : ℕ) (old : Scene) (first : List Happening) (end : End) (mid : Scene)
      (others : List Happening) (last : End) (new : Scene)
      → Turn prompts count old first end mid
      → goes_on mid.state end ≡ true
      → Turns prompts (count + 1) mid others last new
      → Turns prompts count old (first ++ others) last new

-- what the words of the program ask for: prompts, a script that is done first, and the model's file
pub record Invocation : Type 0 where
  pub prompts : Bool
  pub script : Option (List ℕ)
  pub model : Option (List ℕ)

-- nothing is asked for
abbrev pub nothing_asked : Invocation
nothing_asked = record { prompts = false; script = None; model = None }

-- `-int`, `-source file` and a model's file, each once at most
abbrev pub with_prompts : Invocation → Option Invocation
with_prompts asked = if asked.prompts then None else Some (record asked { prompts = true })

abbrev pub with_script : Invocation → List ℕ → Option Invocation
with_script asked file =
    if is_some asked.script then None else Some (record asked { script = Some file })

abbrev pub with_model_file : Invocation → List ℕ → Option Invocation
with_model_file asked file =
    if begins_with_dash file then None
    else (if is_some asked.model then None else Some (record asked { model = Some file }))

-- one word, with no script behind it
abbrev pub with_word : Invocation → List ℕ → Option Invocation
with_word asked word =
    if bytes_eq word (codes "-int") then with_prompts asked else with_model_file asked word

abbrev pub asked_by : Option Invocation → List (List ℕ) → Option Invocation
asked_by None words = None
asked_by (Some asked) [] = Some asked
asked_by (Some asked) (word ∷ []) = with_word asked word
asked_by (Some asked) (word ∷ next ∷ words) =
    if bytes_eq word (codes "-source") then asked_by (with_script asked next) words
    else asked_by (with_word asked word) (next ∷ words)

-- the input's lines, or the end, after the script that is asked for
abbrev pub Follows : Bool → Process
Follows true = Turns true 0
Follows false = Ends ends.Quits

-- a script with none of the options of `source`
abbrev pub plain_script : List ℕ → Script
plain_script file = record { file = file; prompts = false; lenient = false; shows = false }

abbrev pub Starts : Bool → Option (List ℕ) → Process
Starts prompts None = Turns prompts 0
Starts prompts (Some file) =
    Chain goes_on (Sourcing nesting_limit (plain_script file)) (Follows prompts)

-- the variable `input_file` names the model's file
abbrev pub naming : Option (List ℕ) → State → State
naming None state = state
naming (Some file) state = record state { vars = with_name state.vars (codes "input_file") file }

abbrev pub SessionAsked : Option Invocation → Process
SessionAsked None = EndsSaying event.Usage ends.Misused
SessionAsked (Some asked) =
    Either LacksMemory (Then (Becomes (naming asked.model)) (Starts asked.prompts asked.script))

-- a session of these words
abbrev pub Session : List (List ℕ) → Process
Session words = SessionAsked (asked_by (Some nothing_asked) words)
