-- How the parts of a session are put together.
use Rattle.std.proofs.Common.{◌≡◌, ◌≢◌, ◌⊎◌, ◌<◌, ◌≤◌, arith, ◌+◌, ◌++◌, ℕ, Bool, true, false, List, inl, inr, refl, ap, sym, ◌∙◌, subst}
use Rattle.std.proofs.lemmas.Bool.{ltb-false, ltb-true, true≢false}
use Rattle.std.specs.Prelude.{Result, Ok, Err, nat_lt, unwrap_or}
use Rattle.outside.specs.declared.source.Line.{Line}
use Rattle.outside.specs.declared.source.LineFault.{LineFault}
use Rattle.outside.specs.declared.source.LineFault.TheVariants as faults
use Rattle.shell_lang.specs.declared.fault.LangFault.{LangFault}
use Rattle.shell_lang.specs.Fault.{number_of}
use Rattle.shell_lang.specs.Recall.{recalled}
use Rattle.shell_world.specs.declared.event.Event.TheVariants as event
use Rattle.shell_world.specs.declared.shell_event.ShellEvent.TheVariants as shell
use Rattle.shell_world.specs.declared.refusal.Refusal.TheVariants as refusal
use Rattle.shell_world.specs.Steps.{TakesLine}
use Rattle.shell_world.specs.declared.end.End.{End}
use Rattle.shell_world.specs.declared.end.End.TheVariants as ends
use Rattle.shell_world.specs.declared.end.Next.TheVariants.{Stop}
use Rattle.shell_world.specs.declared.state.State.{State}
use Rattle.shell_world.specs.Processes.{Chain, Either, ForSome, Knowing, LacksMemory, Process, Refuses, SaysIf, Then}
use Rattle.shell_world.specs.Scenes.{Moment, Told, after, after_refusal, at, goes_along, goes_on, is_go, own_status, quits, scene_of}
use Rattle.shell_world.specs.Written.{Performs}
use Rattle.shell_world.proofs.Performing.{Completes, known, leads_uncut, led, left, over_said, over_went, right, said_ended, some, stopped, uncut, written_then}
use Rattle.shell.specs.Sessions.{DoesInput, DoesRecalled, Fails, Follows, Treats, Turn, Turns}
use Rattle.shell.specs.Sessions.Turns.{goes, stops}
use Rattle.shell.specs.Lines.{Sourcing}
use Rattle.shell.specs.Stepping.{RefusesLine}
use Rattle.shell.specs.declared.script.Script.{Script}
use Rattle.shell.proofs.Lining.{LacksFor, answered, by_fault, number_in}

-- a turn that does not go on is the last
pub turns_stop : (prompts : Bool) (count : ℕ) {old new : Moment} {e : End} → Performs (Turn prompts count) old e new → goes_on new.state e ≡ false → Performs (Turns prompts count) old e new
turns_stop prompts count p n = record { events = p.events; happens = stops count _ p.events _ _ p.happens n; written = p.written; same = p.same }

-- a turn that goes on, and those behind it
pub turns_go : (prompts : Bool) (count : ℕ) {old mid new : Moment} {e f : End} → Performs (Turn prompts count) old e mid → goes_on mid.state e ≡ true → Performs (Turns prompts (count + 1)) mid f new → Performs (Turns prompts count) old f new
turns_go prompts count {old = old} {mid = mid} {new = new} {e = e} {f = f} p g q = record {
  events = p.events ++ q.events;
  happens = goes count _ p.events e _ q.events f _ p.happens g q.happens;
  written = written_then p.events q.events f old.told mid.told new.told (uncut p.events e old.told mid.told (leads_uncut goes_on mid.state e (λ t. refl) g) p.written) q.written;
  same = q.same ∙ p.same;
}

-- one more turn was done
pub turn_more : (prompts : Bool) (count : ℕ) {now next : Moment} {e : End} {whole : Process} {start : Moment} → Completes (Turns prompts count) now whole start → Performs (Turn prompts count) now e next → goes_on next.state e ≡ true → Completes (Turns prompts (count + 1)) next whole start
turn_more prompts count c p g = record { onwards = λ f last q. c.onwards f last (turns_go prompts count p g q) }

-- a line that was recalled was done
pub recalled_done : (line found : List ℕ) (state : State) (told : Told) {new : Moment} {e : End} → ((Ok found ≡ recalled state.past line) ⊎ LacksFor (Ok found)) → Performs (Either LacksMemory (DoesRecalled (Ok found))) (at state told) e new → Performs (DoesInput line) (at state told) e new
unfolding Either Knowing
recalled_done line found state told {new = new} {e = e} r p = record { events = p.events; happens = mapped p.happens; written = p.written; same = p.same }
  where
    is : Ok found ≡ recalled state.past line
    is = answered (λ a. a ≡ recalled state.past line) found r

    mapped : Either LacksMemory (DoesRecalled (Ok found)) (scene_of (at state told)) p.events e (scene_of new) → DoesInput line (scene_of (at state told)) p.events e (scene_of new)
    mapped (inl q) = inl q
    mapped (inr q) = inr (subst (λ a. DoesRecalled a (scene_of (at state told)) p.events e (scene_of new)) is q)

-- a line that was not recalled is refused
pub recalled_not : (line : List ℕ) (fault : LangFault) (state : State) (told : Told) {new : Moment} {e : End} → ((Err fault ≡ recalled state.past line) ⊎ LacksFor {A = List ℕ} (Err fault)) → Performs (RefusesLine fault) (at state told) e new → Performs (DoesInput line) (at state told) e new
recalled_not line fault state told {new = new} {e = e} r p =
    by_fault (Performs (DoesInput line) (at state told) e new) fault (λ q. left (Knowing (λ s. DoesRecalled (recalled s.past line))) q) (other r) p
  where
    other : ((Err fault ≡ recalled state.past line) ⊎ LacksFor {A = List ℕ} (Err fault)) → number_of fault ≢ 900 → Performs (Refuses (refusal.Language fault)) (at state told) e new → Performs (DoesInput line) (at state told) e new
    other (inl is) n q = right LacksMemory (known (λ s. DoesRecalled (recalled s.past line)) (subst (λ a. Performs (DoesRecalled a) (at state told) e new) is q))
    other (inr m) n q = absurd (n (ap number_in m))

-- what was read was treated
pub turned : (prompts : Bool) (count : ℕ) (answer : Result Line LineFault) {old mid next new : Moment} {d e : End} → Performs (SaysIf prompts (event.Shell shell.Prompt)) old d mid → goes_along mid.state d ≡ true → Performs (TakesLine 65536 answer) mid ends.Went next → Performs (Treats count answer) next e new → Performs (Turn prompts count) old e new
turned prompts count answer p g t q =
    led goes_along (λ s. refl) p g (some (λ a. Then (TakesLine 65536 a) (Treats count a)) answer (led goes_along (λ s. refl) t refl q))

-- the prompt was not written
pub not_turned : (prompts : Bool) (count : ℕ) {old new : Moment} {e : End} → Performs (SaysIf prompts (event.Shell shell.Prompt)) old e new → goes_along new.state e ≡ false → Performs (Turn prompts count) old e new
not_turned prompts count p g = stopped goes_along (ForSome (λ a. Then (TakesLine 65536 a) (Treats count a))) p g

-- a script was done, and the session goes on after it
pub started : (prompts : Bool) (script : Script) {old mid new : Moment} {d e : End} → Performs (Sourcing 16 script) old d mid → goes_on mid.state d ≡ true → Performs (Follows prompts) mid e new → Performs (Chain goes_on (Sourcing 16 script) (Follows prompts)) old e new
started prompts script p g q = led goes_on (λ s. refl) p g q

-- or it does not
pub started_not : (prompts : Bool) (script : Script) {old new : Moment} {e : End} → Performs (Sourcing 16 script) old e new → goes_on new.state e ≡ false → Performs (Chain goes_on (Sourcing 16 script) (Follows prompts)) old e new
started_not prompts script p g = stopped goes_on (Follows prompts) p g

-- a count that is not yet the last
pub below : (count : ℕ) (next : Bool) → count ≤ 1000000 → (count ≡ 1000000 → next ≡ false) → next ≡ true → count + 1 ≤ 1000000
below count next h f g = by_test (nat_lt count 1000000) refl
  where
    by_test : (t : Bool) → nat_lt count 1000000 ≡ t → count + 1 ≤ 1000000
    by_test true e = let l : count < 1000000 = ltb-true count 1000000 e in omega (arith, l)
    by_test false e = let l : 1000000 ≤ count = ltb-false count 1000000 e in absurd (true≢false (sym g ∙ f (omega (arith, l, h))))

-- where no line was read the session is over
pub over_fails : (state : State) (fault : LineFault) {old new : Moment} {e : End} → Performs (Fails fault) old e new → goes_on state e ≡ false
over_fails state faults.ReadFault p = over_said state _ _ refl p
over_fails state faults.TooLong p = over_said state _ _ refl p
over_fails state (faults.NoMemory x) p = over_said state _ _ refl p

-- where the prompt did not go well the session is over
pub prompt_over : (state : State) (prompts : Bool) {old new : Moment} {e : End} → Performs (SaysIf prompts (event.Shell shell.Prompt)) old e new → goes_along new.state e ≡ false → goes_on state e ≡ false
prompt_over state true {new = new} {e = e} p g = by_end (said_ended _ _ p)
  where
    by_end : ((e ≡ ends.Went) ⊎ (e ≡ ends.Cut)) → goes_on state e ≡ false
    by_end (inl is) = absurd (true≢false (sym (ap (goes_along new.state) is) ∙ g))
    by_end (inr is) = ap (goes_on state) is
prompt_over state false {new = new} {e = e} p g = absurd (true≢false (sym (ap (goes_along new.state) (over_went ends.Went p)) ∙ g))

-- a session that does not go on stops with the status of its end, and a refusal with 1
pub status_over : (end : End) (state : State) → goes_on state end ≡ false → after state end ≡ Stop (unwrap_or (own_status end) 1)
status_over ends.Went state g = absurd (true≢false g)
status_over ends.Refused state g = by_test (quits state) g
  where
    by_test : (t : Bool) → is_go (after_refusal t) ≡ false → after_refusal t ≡ Stop 1
    by_test true h = refl
    by_test false h = absurd (true≢false h)
status_over ends.Quits state g = refl
status_over ends.Misused state g = refl
status_over ends.InputFailed state g = refl
status_over ends.Cut state g = refl
status_over ends.NoMemory state g = refl
