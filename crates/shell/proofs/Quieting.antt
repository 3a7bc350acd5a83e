-- A session tells a fault of the files or of the input only where their count rises.
use Rattle.std.proofs.Common.{◌≡◌, ◌<◌, ◌≤◌, ◌++◌, ℕ, Bool, true, false, List, inl, inr, refl, ap, sym, ◌∙◌, subst, arith}
use Rattle.std.proofs.lemmas.List.Folds.{list_any-append}
use Rattle.std.specs.List.{list_any}
use Rattle.std.specs.Prelude.{◌==◌, ◌||◌, Option, None, Some, Result, Ok, Err}
use Rattle.outside.specs.declared.source.Line.{Line}
use Rattle.outside.specs.declared.source.Line.TheVariants as lines
use Rattle.outside.specs.declared.source.LineFault.{LineFault}
use Rattle.outside.specs.declared.source.LineFault.TheVariants as faults
use Rattle.outside.specs.Lines.{ReadsLine}
use Rattle.outside.specs.Told.{HasRisen, Input}
use Rattle.shell_world.specs.declared.end.End.{End}
use Rattle.shell_world.specs.declared.end.End.TheVariants as ends
use Rattle.shell_world.specs.declared.event.Event.{Event}
use Rattle.shell_world.specs.declared.event.Event.TheVariants as event
use Rattle.shell_world.specs.declared.shell_event.ShellEvent.TheVariants as shell
use Rattle.shell_world.specs.declared.refusal.Refusal.TheVariants as refusal
use Rattle.shell_world.specs.declared.state.State.{State}
use Rattle.shell_world.specs.Happenings.{Happening, tells}
use Rattle.shell_world.specs.Keeping.{Always, IsCaused, last_count, tells_fault}
use Rattle.shell_world.specs.Processes.{Chain, Ends, EndsSaying, Process}
use Rattle.shell_world.specs.Scenes.{Scene, goes_along, goes_on}
use Rattle.shell_world.specs.Steps.{TakesLine}
use Rattle.shell_world.proofs.Keeping.{Counts, becomes_caused, count_step, either_leave, some_leave}
use Rattle.shell.specs.Sessions.{Invocation, DoesNth, Follows, Session, SessionAsked, Starts, Treats, Turn, Turns, asked_by, line_limit, most_lines, naming, nesting_limit, nothing_asked, plain_script}
use Rattle.shell.specs.Sessions.Turns.{goes, stops}
use Rattle.shell.specs.Sound.{IsSilent}
use Rattle.shell.proofs.Causing.{TopicsCause, lacks_memory_caused, prompt_caused, sourcing_caused}
use Rattle.shell.proofs.Turning.{input_caused, silent_not}

-- no fault is told where no count of the files and of the input rises
pub record IsQuiet (old : Scene) (events : List Happening) (end : End) (new : Scene) : Type 0 where
  pub disk : old.disk.faults ≤ last_count → (old.disk.faults ≤ new.disk.faults) × (new.disk.faults ≤ last_count)
  pub input : old.input.faults ≤ last_count → (old.input.faults ≤ new.input.faults) × (new.input.faults ≤ last_count)
  pub quiet : IsSilent old.disk.faults new.disk.faults → IsSilent old.input.faults new.input.faults → list_any tells_fault events ≡ false

caused_quiet : {P : Process} → Always P IsCaused → Always P IsQuiet
caused_quiet k old events end new p =
    let c : IsCaused old events end new = k old events end new p in
    record { disk = c.rises; input = count_step (inl (ap (λ i. i.faults) c.input)); quiet = λ d i. c.quiet d.could d.same }

-- a count that is silent over two steps is so over each
halves : (a b c : ℕ) → (a ≤ last_count → (a ≤ b) × (b ≤ last_count)) → (b ≤ last_count → (b ≤ c) × (c ≤ last_count)) → IsSilent a c → IsSilent a b × IsSilent b c
halves a b c f g s =
    let k = f (omega (arith, s.could)) in
    let l = g k.1 in
    let e : b ≡ a = omega (arith, k.0, l.0, s.same) in
    (record { same = e; could = s.could }, record { same = s.same ∙ sym e; could = subst (λ n. n < last_count) (sym e) s.could })

quiet_both : {old mid new : Scene} {before events : List Happening} {middle end : End} → IsQuiet old before middle mid → IsQuiet mid events end new → IsQuiet old (before ++ events) end new
quiet_both {old = old} {mid = mid} {new = new} {before = before} {events = events} k l = record {
  disk = λ low. rise old.disk.faults mid.disk.faults new.disk.faults k.disk l.disk low;
  input = λ low. rise old.input.faults mid.input.faults new.input.faults k.input l.input low;
  quiet = λ d i. both (halves old.disk.faults mid.disk.faults new.disk.faults k.disk l.disk d) (halves old.input.faults mid.input.faults new.input.faults k.input l.input i);
}
  where
    rise : (a b c : ℕ) → (a ≤ last_count → (a ≤ b) × (b ≤ last_count)) → (b ≤ last_count → (b ≤ c) × (c ≤ last_count)) → a ≤ last_count → (a ≤ c) × (c ≤ last_count)
    rise a b c f g low = let x = f low in let y = g x.1 in (omega (arith, x.0, y.0), y.1)

    both : IsSilent old.disk.faults mid.disk.faults × IsSilent mid.disk.faults new.disk.faults → IsSilent old.input.faults mid.input.faults × IsSilent mid.input.faults new.input.faults → list_any tells_fault (before ++ events) ≡ false
    both d i =
        let a : list_any tells_fault before ≡ false = k.quiet d.0 i.0 in
        let b : list_any tells_fault events ≡ false = l.quiet d.1 i.1 in
        list_any-append tells_fault before events ∙ (ap (λ t. t || list_any tells_fault events) a ∙ b)

chain_quiet : (leads : State → End → Bool) {P Q : Process} → Always P IsQuiet → Always Q IsQuiet → Always (Chain leads P Q) IsQuiet
unfolding Chain
chain_quiet leads k l old events end new (inl p) = k old events end new p.first
chain_quiet leads k l old events end new (inr p) =
    subst (λ es. IsQuiet old es end new) (sym p.joined) (quiet_both (k old p.before p.middle p.mid p.first) (l p.mid p.behind end new p.second))

-- a scene that stays, with events that tell no fault
stays_quiet : {old new : Scene} {events : List Happening} {end : End} → new ≡ old → list_any tells_fault events ≡ false → IsQuiet old events end new
stays_quiet same none = record {
  disk = count_step (inl (ap (λ s. s.disk.faults) same));
  input = count_step (inl (ap (λ s. s.input.faults) same));
  quiet = λ d i. none;
}

says_quiet : (said : Event) (wanted : End) → tells_fault (tells said) ≡ false → Always (EndsSaying said wanted) IsQuiet
unfolding EndsSaying
says_quiet said wanted q old events end new p = stays_quiet p.same (ap (λ es. list_any tells_fault es) p.told ∙ ap (λ t. t || false) q)

ends_quiet : (wanted : End) → Always (Ends wanted) IsQuiet
unfolding Ends
ends_quiet wanted old events end new p = stays_quiet p.same (ap (λ es. list_any tells_fault es) p.told)

-- a line that was read
read_counts : (answer : Result Line LineFault) (old new : Input) → ReadsLine line_limit old answer new → Counts old.faults new.faults
read_counts (Ok lines.End) old new r = inl r.cause
read_counts (Ok (lines.Line line)) old new r = inl r.cause
read_counts (Err faults.ReadFault) old new r = inr r.cause
read_counts (Err faults.TooLong) old new r = inl r.cause
read_counts (Err (faults.NoMemory e)) old new r = inl r.cause

takes_quiet : (answer : Result Line LineFault) → Always (TakesLine line_limit answer) IsQuiet
unfolding TakesLine
takes_quiet answer old events end new p = record {
  disk = count_step (inl (ap (λ s. s.disk.faults) p.others));
  input = count_step (read_counts answer old.input new.input p.reads);
  quiet = λ d i. ap (λ es. list_any tells_fault es) p.told;
}

nth_quiet : TopicsCause → (b : Bool) (line : List ℕ) → Always (DoesNth b line) IsQuiet
nth_quiet t true line = says_quiet (event.Refused refusal.TooManyLines) ends.InputFailed refl
nth_quiet t false line = caused_quiet (input_caused t line)

-- the input failed, and its count rose
read_failed : (count : ℕ) → Always (Chain goes_along (TakesLine line_limit (Err faults.ReadFault)) (Treats count (Err faults.ReadFault))) IsQuiet
unfolding Chain TakesLine EndsSaying
read_failed count old events end new (inl p) = takes_quiet (Err faults.ReadFault) old events end new p.first
read_failed count old events end new (inr p) = record {
  disk = count_step (inl (ap (λ s. s.disk.faults) p.second.same ∙ ap (λ s. s.disk.faults) p.first.others));
  input = count_step (inr risen);
  quiet = λ d i. absurd (silent_not i risen);
}
  where
    risen : HasRisen old.input.faults new.input.faults
    risen = subst (λ n. HasRisen old.input.faults n) (sym (ap (λ s. s.input.faults) p.second.same)) p.first.reads.cause

after_read : TopicsCause → (count : ℕ) (answer : Result Line LineFault) → Always (Chain goes_along (TakesLine line_limit answer) (Treats count answer)) IsQuiet
after_read t count (Ok lines.End) = chain_quiet goes_along (takes_quiet _) (ends_quiet ends.Quits)
after_read t count (Ok (lines.Line line)) = chain_quiet goes_along (takes_quiet _) (nth_quiet t (count == most_lines) line)
after_read t count (Err faults.ReadFault) = read_failed count
after_read t count (Err faults.TooLong) = chain_quiet goes_along (takes_quiet _) (says_quiet (event.Refused (refusal.Line faults.TooLong)) ends.InputFailed refl)
after_read t count (Err (faults.NoMemory e)) = chain_quiet goes_along (takes_quiet _) (caused_quiet lacks_memory_caused)

turn_quiet : TopicsCause → (prompts : Bool) (count : ℕ) → Always (Turn prompts count) IsQuiet
turn_quiet t prompts count = chain_quiet goes_along (caused_quiet (prompt_caused prompts (event.Shell shell.Prompt) refl)) (some_leave _ (after_read t count))

turns_quiet : TopicsCause → (prompts : Bool) {count : ℕ} {old : Scene} {events : List Happening} {end : End} {new : Scene} → Turns prompts count old events end new → IsQuiet old events end new
turns_quiet t prompts (stops count old events end new turn halt) = turn_quiet t prompts count old events end new turn
turns_quiet t prompts (goes count old first end mid others last new turn on rest) = quiet_both (turn_quiet t prompts count old first end mid turn) (turns_quiet t prompts rest)

follows_quiet : TopicsCause → (prompts : Bool) → Always (Follows prompts) IsQuiet
follows_quiet t true = λ old events end new p. turns_quiet t true p
follows_quiet t false = ends_quiet ends.Quits

starts_quiet : TopicsCause → (prompts : Bool) (script : Option (List ℕ)) → Always (Starts prompts script) IsQuiet
starts_quiet t prompts None = λ old events end new p. turns_quiet t prompts p
starts_quiet t prompts (Some file) = chain_quiet goes_on (caused_quiet (sourcing_caused t nesting_limit (plain_script file))) (follows_quiet t prompts)

asked_quiet : TopicsCause → (asked : Option Invocation) → Always (SessionAsked asked) IsQuiet
asked_quiet t None = says_quiet event.Usage ends.Misused refl
asked_quiet t (Some asked) = either_leave (caused_quiet lacks_memory_caused) (chain_quiet goes_along (caused_quiet (becomes_caused (naming asked.model))) (starts_quiet t asked.prompts asked.script))

pub session_quiet : TopicsCause → (words : List (List ℕ)) (old : Scene) (events : List Happening) (end : End) (new : Scene) → Session words old events end new → IsSilent old.disk.faults new.disk.faults → IsSilent old.input.faults new.input.faults → list_any tells_fault events ≡ false
session_quiet t words old events end new p d i = (asked_quiet t (asked_by (Some nothing_asked) words) old events end new p).quiet d i
