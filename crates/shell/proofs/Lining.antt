-- How the steps of a line are put together.
use Rattle.std.proofs.Common.{◌≡◌, ◌≢◌, ◌⊎◌, ℕ, suc, List, [], ◌∷◌, length, inl, inr, refl, ap, arith}
use Rattle.std.specs.Prelude.{Result, Ok, Err, alloc_error}
use Rattle.outside.specs.declared.files.FileFault.{FileFault}
use Rattle.shell_lang.specs.declared.fault.LangFault.{LangFault}
use Rattle.shell_lang.specs.declared.fault.LangFault.TheVariants.{Quote, Unset, NoEvent, NoName, BadValue, TooManyAliases, NoMemory}
use Rattle.shell_lang.specs.declared.line.Piece.{Piece}
use Rattle.shell_lang.specs.Fault.{number_of}
use Rattle.shell_lang.specs.Filled.{Expands}
use Rattle.shell_lang.specs.Lines.{Splits}
use Rattle.shell_world.specs.declared.end.End.{End}
use Rattle.shell_world.specs.declared.end.End.TheVariants as ends
use Rattle.shell_world.specs.declared.refusal.Refusal.TheVariants as refusal
use Rattle.shell_world.specs.declared.state.State.{State}
use Rattle.shell_world.specs.Processes.{ForSome, Knowing, LacksMemory, Process, Refuses, Then, Where}
use Rattle.shell_world.specs.Scenes.{Moment, Told, at, goes_along}
use Rattle.shell_world.specs.Steps.{ReadsWhole}
use Rattle.shell_world.specs.Written.{Performs}
use Rattle.shell_world.proofs.Combining.{lacked, lacked_not}
use Rattle.shell_world.proofs.Performing.{here, known, led, left, right, some, went}
use Rattle.shell.specs.declared.script.Script.{Script}
use Rattle.shell.specs.Lines.{DoesCommand, DoesCommands, DoesLineBy, DoesWords, RunsScript, Sourcing}
use Rattle.shell.specs.Stepping.{RefusesLine}

-- an answer that is a fault is known by its number, and any other by 0
abbrev pub number_in : {A : Type 0} → Result A LangFault → ℕ
number_in (Ok x) = 0
number_in (Err fault) = number_of fault

-- memory was refused
abbrev pub LacksFor : {A : Type 0} → Result A LangFault → Type 0
LacksFor answer = answer ≡ Err (NoMemory alloc_error)

-- what was answered was not for want of memory
pub answered : {A : Type 0} (P : Result A LangFault → Type 0) (x : A) → (P (Ok x) ⊎ LacksFor (Ok x)) → P (Ok x)
answered P x (inl p) = p
answered P x (inr m) = absurd (let e : 0 ≡ 900 = ap number_in m in omega (arith, e))

-- a fault of a line ends the session where it is want of memory, and else is a refusal
pub by_fault : (X : Type 0) (fault : LangFault) {old new : Moment} {e : End} → (Performs LacksMemory old e new → X) → (number_of fault ≢ 900 → Performs (Refuses (refusal.Language fault)) old e new → X) → Performs (RefusesLine fault) old e new → X
by_fault X (NoMemory e) f g p = f p
by_fault X Quote f g p = g (λ e. omega (arith, e)) p
by_fault X (Unset name) f g p = g (λ e. omega (arith, e)) p
by_fault X (NoEvent name) f g p = g (λ e. omega (arith, e)) p
by_fault X (NoName name) f g p = g (λ e. omega (arith, e)) p
by_fault X (BadValue name) f g p = g (λ e. omega (arith, e)) p
by_fault X TooManyAliases f g p = g (λ e. omega (arith, e)) p

-- a line was split, and its commands were done
pub line_split : (nested : Script → Process) (line : List ℕ) (commands : List (List (List Piece))) {old new : Moment} {e : End} → (Splits line (Ok commands) ⊎ LacksFor (Ok commands)) → Performs (DoesCommands nested (Ok commands)) old e new → Performs (DoesLineBy nested line) old e new
line_split nested line commands s p =
    right LacksMemory (some (λ answer. Where (Splits line answer) (DoesCommands nested answer)) (Ok commands) (here (answered (Splits line) commands s) p))

-- a line was not split, and is refused
pub line_not_split : (nested : Script → Process) (line : List ℕ) (fault : LangFault) {old new : Moment} {e : End} → (Splits line (Err fault) ⊎ LacksFor {A = List (List (List Piece))} (Err fault)) → Performs (RefusesLine fault) old e new → Performs (DoesLineBy nested line) old e new
line_not_split nested line fault {old = old} {new = new} {e = e} (inl s) p =
    by_fault (Performs (DoesLineBy nested line) old e new) fault (λ q. left (ForSome (λ answer. Where (Splits line answer) (DoesCommands nested answer))) q) (λ n q. right LacksMemory (some (λ answer. Where (Splits line answer) (DoesCommands nested answer)) (Err fault) (here s q))) p
line_not_split nested line fault {old = old} {new = new} {e = e} (inr m) p =
    by_fault (Performs (DoesLineBy nested line) old e new) fault (λ q. left (ForSome (λ answer. Where (Splits line answer) (DoesCommands nested answer))) q) (λ n q. absurd (n (ap number_in m))) p

-- memory was refused for a line
pub line_lacked : (nested : Script → Process) (line : List ℕ) {old new : Moment} {e : End} → Performs LacksMemory old e new → Performs (DoesLineBy nested line) old e new
line_lacked nested line p = left (ForSome (λ answer. Where (Splits line answer) (DoesCommands nested answer))) p

-- a command's words were found
pub command_done : (nested : Script → Process) (pieces : List (List Piece)) (words : List (List ℕ)) (state : State) (told : Told) {new : Moment} {e : End} → (Expands state.vars state.aliases pieces (Ok words) ⊎ LacksFor (Ok words)) → Performs (DoesWords nested (Ok words)) (at state told) e new → Performs (DoesCommand nested pieces) (at state told) e new
command_done nested pieces words state told s p =
    lacked_not (known (λ s. ForSome (λ answer. Where (Expands s.vars s.aliases pieces answer) (DoesWords nested answer))) (some (λ answer. Where (Expands state.vars state.aliases pieces answer) (DoesWords nested answer)) (Ok words) (here (answered (Expands state.vars state.aliases pieces) words s) p)))

-- they were not
pub command_refused : (nested : Script → Process) (pieces : List (List Piece)) (fault : LangFault) (state : State) (told : Told) {new : Moment} {e : End} → (Expands state.vars state.aliases pieces (Err fault) ⊎ LacksFor {A = List (List ℕ)} (Err fault)) → Performs (Refuses (refusal.Language fault)) (at state told) e new → Performs (DoesCommand nested pieces) (at state told) e new
command_refused nested pieces fault state told (inl s) p =
    lacked_not (known (λ s. ForSome (λ answer. Where (Expands s.vars s.aliases pieces answer) (DoesWords nested answer))) (some (λ answer. Where (Expands state.vars state.aliases pieces answer) (DoesWords nested answer)) (Err fault) (here s p)))
command_refused nested pieces fault state told (inr m) p =
    lacked (Knowing (λ s. ForSome (λ answer. Where (Expands s.vars s.aliases pieces answer) (DoesWords nested answer)))) (refusal.Language fault) (ap number_in m) p

-- a script that may not be nested is refused
pub too_deep : (script : Script) {old new : Moment} {e : End} → Performs (Refuses refusal.TooDeep) old e new → Performs (Sourcing 0 script) old e new
unfolding Sourcing
too_deep script p = p

-- a script was read, and its lines were done
pub script_done : (depth : ℕ) (script : Script) (answer : Result (List ℕ) FileFault) {old mid new : Moment} {e : End} → Performs (ReadsWhole 4194304 script.file answer) old ends.Went mid → Performs (RunsScript (λ line. DoesLineBy (Sourcing depth) line) script answer) mid e new → Performs (Sourcing (suc depth) script) old e new
unfolding Sourcing
script_done depth script answer p q =
    some (λ answer. Then (ReadsWhole 4194304 script.file answer) (RunsScript (λ line. DoesLineBy (Sourcing depth) line) script answer)) answer (led goes_along (λ t. refl) p refl q)

-- no word is left of a command
pub words_none : (nested : Script → Process) (words : List (List ℕ)) (now : Moment) → length words ≡ 0 → Performs (DoesWords nested (Ok words)) now ends.Went now
words_none nested [] now e = went now
words_none nested (word ∷ words) now e = absurd (omega (arith, e))
