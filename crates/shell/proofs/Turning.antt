-- What the turns of a session over objects that never fail come to.
use Rattle.std.proofs.Common.{◌≡◌, ◌⊎◌, ◌+◌, ◌<◌, ℕ, suc, Bool, true, false, List, length, inl, inr, refl, ap, sym, ◌∙◌, subst, arith}
use Rattle.std.proofs.lemmas.Bool.{eqb-true, false≢true, true≢false}
use Rattle.std.specs.List.{list_any}
use Rattle.std.specs.Prelude.{◌==◌, ◌||◌, Option, None, Some, Result, Ok, Err, min, nat_lt}
use Rattle.outside.specs.declared.source.Line.{Line}
use Rattle.outside.specs.declared.source.Line.TheVariants as lines
use Rattle.outside.specs.declared.source.LineFault.{LineFault}
use Rattle.outside.specs.declared.source.LineFault.TheVariants as faults
use Rattle.std.proofs.lemmas.Option.{none-some, same_Some}
use Rattle.std.specs.Io.KnownBytes.{prepend_known}
use Rattle.outside.specs.Lines as line_reads
use Rattle.outside.specs.Lines.{IsOneLine, ReadsLine}
use Rattle.outside.specs.Told.{HasRisen}
use Rattle.shell_lang.specs.declared.fault.LangFault.{LangFault}
use Rattle.shell_lang.specs.Recall.{recalled}
use Rattle.shell_world.specs.declared.end.End.{End}
use Rattle.shell_world.specs.declared.end.End.TheVariants as ends
use Rattle.shell_world.specs.declared.event.Event.TheVariants as event
use Rattle.shell_world.specs.declared.shell_event.ShellEvent.TheVariants as shell
use Rattle.shell_world.specs.declared.state.State.{State}
use Rattle.shell_world.specs.Happenings.{Happening}
use Rattle.shell_world.specs.Keeping.{Always, IsCaused, is_inner, last_count}
use Rattle.shell_world.specs.Processes.{Chain, Ends, EndsSaying, ForSome, SaysIf}
use Rattle.shell_world.specs.Scenes.{Scene, goes_along, goes_on}
use Rattle.shell_world.specs.Steps.{TakesLine}
use Rattle.shell_world.proofs.Keeping.{becomes_caused, caused_fact, either_leave, knowing_leave, says_leave}
use Rattle.text_lines.specs.Lines.{lines_of}
use Rattle.shell.specs.Sessions.{DoesInput, DoesNth, DoesRecalled, Treats, Turn, Turns, line_limit, most_lines, nesting_limit, remembered}
use Rattle.shell.specs.Sessions.Turns.{goes, stops}
use Rattle.shell.specs.Sound.{IsSilent, has_long_line}
use Rattle.shell.proofs.Causing.{TopicsCause, chain_caused, lacks_memory_caused, line_caused}
use Rattle.shell.proofs.Sounding.{TookLine, long_among, took_line}

or_true : (a : Bool) {b : Bool} → b ≡ true → (a || b) ≡ true
or_true true e = refl
or_true false e = e

-- a silent count did not rise
pub silent_not : {a b : ℕ} → IsSilent a b → HasRisen a b → ⊥
silent_not {a = a} {b = b} i r = let e : b ≡ min (a + 1) 18446744073709551615 = r in omega (arith, e, i.same, i.could)

-- a line of input is a command of the session, as any other
recalled_caused : TopicsCause → (answer : Result (List ℕ) LangFault) → Always (DoesRecalled answer) IsCaused
recalled_caused t (Ok line) = chain_caused goes_along (becomes_caused (remembered line)) (line_caused t nesting_limit line)
recalled_caused t (Err fault) = says_leave caused_fact _ _ refl refl

pub input_caused : TopicsCause → (line : List ℕ) → Always (DoesInput line) IsCaused
input_caused t line = either_leave lacks_memory_caused (knowing_leave (λ state. DoesRecalled (recalled state.past line)) (λ state. recalled_caused t (recalled state.past line)))

-- what a turn with this text before it comes to
pub data TurnGives (count : ℕ) (text : List ℕ) (old : Scene) (end : End) (new : Scene) : Type 0 where
  over : (end ≡ ends.InputFailed → ⊥) → goes_on new.state end ≡ false → TurnGives count text old end new
  long : has_long_line text ≡ true → TurnGives count text old end new
  failed : HasRisen old.input.faults new.input.faults → goes_on new.state end ≡ false → TurnGives count text old end new
  took : TookLine text new.input.left → new.input.faults ≡ old.input.faults → (end ≡ ends.InputFailed → count ≡ most_lines) → TurnGives count text old end new

-- an end of a command is none of the input's
pub inner_not : {end : End} → is_inner end ≡ true → end ≡ ends.InputFailed → ⊥
inner_not i e = false≢true (sym (ap is_inner e) ∙ i)

-- an end that is wanted, or that of a sink that failed
cut_or : {end wanted : End} (state : State) → goes_on state wanted ≡ false → ((end ≡ wanted) ⊎ (end ≡ ends.Cut)) → goes_on state end ≡ false
cut_or state w (inl e) = ap (goes_on state) e ∙ w
cut_or state w (inr e) = ap (goes_on state) e

-- the scene after a prompt, and its end where it did not go well
prompt_same : (prompts : Bool) (old : Scene) (events : List Happening) (end : End) (new : Scene) → SaysIf prompts (event.Shell shell.Prompt) old events end new → new ≡ old
unfolding EndsSaying Ends
prompt_same true old events end new p = p.same
prompt_same false old events end new p = p.same

prompt_cut : (prompts : Bool) (old : Scene) (events : List Happening) (end : End) (new : Scene) → SaysIf prompts (event.Shell shell.Prompt) old events end new → goes_along new.state end ≡ false → end ≡ ends.Cut
unfolding EndsSaying Ends
prompt_cut true old events end new p g = by_end p.ended
  where
    by_end : ((end ≡ ends.Went) ⊎ (end ≡ ends.Cut)) → end ≡ ends.Cut
    by_end (inl e) = absurd (true≢false (sym (ap (goes_along new.state) e) ∙ g))
    by_end (inr e) = e
prompt_cut false old events end new p g = absurd (true≢false (sym (ap (goes_along new.state) p.ended) ∙ g))

cut_not : ends.Cut ≡ ends.InputFailed → ⊥
cut_not e = cc

pub quits_not : ends.Quits ≡ ends.InputFailed → ⊥
quits_not e = cc

pub memory_not : ends.NoMemory ≡ ends.InputFailed → ⊥
memory_not e = cc

-- what is told ends as is wanted, or is cut
pub said_not : (wanted end : End) → (wanted ≡ ends.InputFailed → ⊥) → ((end ≡ wanted) ⊎ (end ≡ ends.Cut)) → end ≡ ends.InputFailed → ⊥
said_not wanted end n (inl e) f = n (sym e ∙ f)
said_not wanted end n (inr e) f = cut_not (sym e ∙ f)

-- what is done about what was read
treats_gives : TopicsCause → (count : ℕ) (text : List ℕ) (answer : Result Line LineFault) (start old : Scene) (events : List Happening) (end : End) (new : Scene) → start.input.left ≡ Some text → ReadsLine line_limit start.input answer old.input → Treats count answer old events end new → TurnGives count text start end new
unfolding EndsSaying Ends
treats_gives t count text (Ok lines.End) start old events end new l r p =
    over (λ e. quits_not (sym p.ended ∙ e)) (ap (goes_on new.state) p.ended)
treats_gives t count text (Ok (lines.Line line)) start old events end new l r p = by_count (count == most_lines) refl p
  where
    taken : TookLine text old.input.left
    taken = took_line text line old.input.left r.reads.0 (subst (λ left. line_reads.TakesLine left line old.input.left) l r.reads.2)

    by_count : (b : Bool) → (count == most_lines) ≡ b → DoesNth b line old events end new → TurnGives count text start end new
    by_count true c q = took (subst (λ left. TookLine text left) (ap (λ s. s.input.left) (sym q.same)) taken) (ap (λ s. s.input.faults) q.same ∙ r.cause) (λ e. eqb-true count most_lines c)
    by_count false c q =
        let k : IsCaused old events end new = input_caused t line old events end new q in
        took (subst (λ left. TookLine text left) (ap (λ i. i.left) (sym k.input)) taken) (ap (λ i. i.faults) k.input ∙ r.cause) (λ e. absurd (inner_not k.inner e))
treats_gives t count text (Err faults.ReadFault) start old events end new l r p =
    failed (subst (λ n. HasRisen start.input.faults n) (ap (λ s. s.input.faults) (sym p.same)) r.cause) (cut_or new.state refl p.ended)
treats_gives t count text (Err faults.TooLong) start old events end new l r p = long (too_long (sym l) r.reads)
  where
    by_left : (front : List ℕ) → IsOneLine front → length front ≡ line_limit + 1 → (left : Option (List ℕ)) → Some text ≡ prepend_known front left → has_long_line text ≡ true
    by_left front one n None k = absurd (none-some text (sym k))
    by_left front one n (Some rest) k = ap has_long_line (same_Some _ _ k) ∙ long_among line_limit front rest one n

    too_long : Some text ≡ start.input.left → ((front : List ℕ) × IsOneLine front × (length front ≡ line_limit + 1) × (start.input.left ≡ prepend_known front old.input.left)) → has_long_line text ≡ true
    too_long m (front, one, n, e) = by_left front one n old.input.left (m ∙ e)
treats_gives t count text (Err (faults.NoMemory m)) start old events end new l r p = over (said_not ends.NoMemory end memory_not p.ended) (cut_or new.state refl p.ended)

-- a turn
turn_gives : TopicsCause → (prompts : Bool) (count : ℕ) (text : List ℕ) (old : Scene) (events : List Happening) (end : End) (new : Scene) → old.input.left ≡ Some text → Turn prompts count old events end new → TurnGives count text old end new
unfolding Chain ForSome TakesLine
turn_gives t prompts count text old events end new l (inl p) =
    let c : end ≡ ends.Cut = prompt_cut prompts old events end new p.first p.stops in
    over (λ e. cut_not (sym c ∙ e)) (ap (goes_on new.state) c)
turn_gives t prompts count text old events end new l (inr p) = subst (λ s. TurnGives count text s end new) same (reads p.second)
  where
    same : p.mid ≡ old
    same = prompt_same prompts old p.before p.middle p.mid p.first

    reads : ForSome (λ answer. Chain goes_along (TakesLine line_limit answer) (Treats count answer)) p.mid p.behind end new → TurnGives count text p.mid end new
    reads (answer, inl q) = absurd (true≢false (sym (ap (goes_along new.state) q.first.ended) ∙ q.stops))
    reads (answer, inr q) = treats_gives t count text answer p.mid q.mid q.behind end new (ap (λ s. s.input.left) same ∙ l) q.first.reads q.second

-- more lines than a session may have, after so many of them
abbrev pub PassesFrom : ℕ → List ℕ → Type 0
PassesFrom count text = (has_long_line text ≡ true) ⊎ (most_lines < count + length (lines_of text))

-- a session that the input ended passed a limit of it
pub turns_pass : TopicsCause → (prompts : Bool) (text : List ℕ) {count : ℕ} {old : Scene} {events : List Happening} {end : End} {new : Scene} → end ≡ ends.InputFailed → old.input.left ≡ Some text → IsSilent old.input.faults new.input.faults → Turns prompts count old events end new → PassesFrom count text
turns_pass t prompts text f l i (stops count old events end new turn halt) = by_gift (turn_gives t prompts count text old events end new l turn)
  where
    last_of : TookLine text new.input.left → count ≡ most_lines → most_lines < count + length (lines_of text)
    last_of k c = let e : length (lines_of text) ≡ suc (length (lines_of k.rest)) = ap length k.lines in omega (arith, c, e)

    by_gift : TurnGives count text old end new → PassesFrom count text
    by_gift (over n g) = absurd (n f)
    by_gift (long h) = inl h
    by_gift (failed r g) = absurd (silent_not i r)
    by_gift (took k same c) = inr (last_of k (c f))
turns_pass t prompts text f l i (goes count old first end mid others last new turn on rest) =
    by_gift (λ k same. turns_pass t prompts k.rest f k.left record { same = i.same ∙ sym same; could = subst (λ n. n < last_count) (sym same) i.could } rest) (turn_gives t prompts count text old first end mid l turn)
  where
    more : (k : TookLine text mid.input.left) → PassesFrom (count + 1) k.rest → PassesFrom count text
    more k (inl h) = inl (ap (λ ls. list_any (λ line. nat_lt line_limit (length line)) ls) k.lines ∙ or_true (nat_lt line_limit (length k.line)) h)
    more k (inr h) = let e : length (lines_of text) ≡ suc (length (lines_of k.rest)) = ap length k.lines in inr (omega (arith, h, e))

    by_gift : ((k : TookLine text mid.input.left) → mid.input.faults ≡ old.input.faults → PassesFrom (count + 1) k.rest) → TurnGives count text old end mid → PassesFrom count text
    by_gift again (over n g) = absurd (true≢false (sym on ∙ g))
    by_gift again (long h) = inl h
    by_gift again (failed r g) = absurd (true≢false (sym on ∙ g))
    by_gift again (took k same c) = more k (again k same)
