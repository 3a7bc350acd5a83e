-- What a session over objects that never fail ends with.
use Rattle.std.proofs.Common.{◌≡◌, ◌≢◌, ◌⊎◌, ℕ, Bool, true, false, List, inl, inr, refl, ap, sym, ◌∙◌, subst, arith}
use Rattle.std.proofs.lemmas.Bool.{true≢false}
use Rattle.std.specs.Prelude.{Option, None, Some}
use Rattle.shell_world.specs.declared.end.End.{End}
use Rattle.shell_world.specs.declared.end.End.TheVariants as ends
use Rattle.shell_world.specs.declared.end.Next.{Next}
use Rattle.shell_world.specs.declared.end.Next.TheVariants.{Go, Stop}
use Rattle.shell_world.specs.declared.event.Side.{Side}
use Rattle.shell_world.specs.declared.event.Side.TheVariants as side
use Rattle.shell_world.specs.Happenings.{Happening}
use Rattle.shell_world.specs.Keeping.{IsCaused}
use Rattle.shell_world.specs.Processes.{Becomes, Chain, Either, Ends, EndsSaying}
use Rattle.shell_world.specs.Scenes.{Scene, Told, after, after_refusal, is_go, quits}
use Rattle.shell_world.specs.Texts.{side_of, text_of}
use Rattle.shell_world.specs.Written.{Breaks, Written}
use Rattle.shell.specs.Closing.{Closes}
use Rattle.shell.specs.Sessions.{Invocation, Follows, Session, SessionAsked, Starts, asked_by, nesting_limit, nothing_asked, plain_script}
use Rattle.shell.specs.Sound.{IsSilent, IsSoundStatus, PassesLimit, SinksAreSilent}
use Rattle.shell.proofs.Causing.{TopicsCause, sourcing_caused}
use Rattle.shell.proofs.Turning.{PassesFrom, inner_not, memory_not, quits_not, said_not, silent_not, turns_pass}

-- a limit that is passed from the first line on
from_none : (text : List ℕ) → PassesFrom 0 text → PassesLimit text
from_none text (inl h) = inl h
from_none text (inr h) = inr (omega (arith, h))

went_not : ends.Went ≡ ends.InputFailed → ⊥
went_not e = cc

misused_not : ends.Misused ≡ ends.InputFailed → ⊥
misused_not e = cc

follows_pass : TopicsCause → (prompts : Bool) (text : List ℕ) (old : Scene) (events : List Happening) (end : End) (new : Scene) → end ≡ ends.InputFailed → old.input.left ≡ Some text → IsSilent old.input.faults new.input.faults → Follows prompts old events end new → PassesLimit text
unfolding Ends
follows_pass t true text old events end new f l i p = from_none text (turns_pass t true text f l i p)
follows_pass t false text old events end new f l i p = absurd (quits_not (sym p.ended ∙ f))

starts_pass : TopicsCause → (prompts : Bool) (script : Option (List ℕ)) (text : List ℕ) (old : Scene) (events : List Happening) (end : End) (new : Scene) → end ≡ ends.InputFailed → old.input.left ≡ Some text → IsSilent old.input.faults new.input.faults → Starts prompts script old events end new → PassesLimit text
unfolding Chain
starts_pass t prompts None text old events end new f l i p = from_none text (turns_pass t prompts text f l i p)
starts_pass t prompts (Some file) text old events end new f l i (inl p) =
    absurd (inner_not (sourcing_caused t nesting_limit (plain_script file) old events end new p.first).inner f)
starts_pass t prompts (Some file) text old events end new f l i (inr p) =
    let k : IsCaused old p.before p.middle p.mid = sourcing_caused t nesting_limit (plain_script file) old p.before p.middle p.mid p.first in
    follows_pass t prompts text p.mid p.behind end new f (ap (λ i. i.left) k.input ∙ l) (subst (λ n. IsSilent n new.input.faults) (sym (ap (λ i. i.faults) k.input)) i) p.second

asked_passes : TopicsCause → (asked : Option Invocation) (text : List ℕ) (old : Scene) (events : List Happening) (end : End) (new : Scene) → end ≡ ends.InputFailed → old.input.left ≡ Some text → IsSilent old.input.faults new.input.faults → SessionAsked asked old events end new → PassesLimit text
unfolding Chain Either EndsSaying Becomes
asked_passes t None text old events end new f l i p = absurd (said_not ends.Misused end misused_not p.ended f)
asked_passes t (Some asked) text old events end new f l i (inl p) = absurd (said_not ends.NoMemory end memory_not p.ended f)
asked_passes t (Some asked) text old events end new f l i (inr (inl p)) = absurd (went_not (sym p.first.ended ∙ f))
asked_passes t (Some asked) text old events end new f l i (inr (inr p)) =
    starts_pass t asked.prompts asked.script text p.mid p.behind end new f (ap (λ s. s.input.left) p.first.changed ∙ l) (subst (λ n. IsSilent n new.input.faults) (sym (ap (λ s. s.input.faults) p.first.changed)) i) p.second

-- where no sink failed none was cut
uncut_silent : (events : List Happening) (e : End) (old new : Told) → Written events e old new → SinksAreSilent old new → e ≢ ends.Cut
uncut_silent events e old new (inl (n, w)) s = n
uncut_silent events e old new (inr (x, k)) s = λ is. by_side (side_of k.last) k.breaks
  where
    still : {a m b : ℕ} → m ≡ a → IsSilent a b → IsSilent m b
    still {b = b} e i = subst (λ n. IsSilent n b) (sym e) i

    by_side : (t : Side) → Breaks t (text_of k.last) k.mid new → ⊥
    by_side side.Output (broken, same) = silent_not (still k.written.out_quiet s.out) broken.risen
    by_side side.Errors (broken, same) = silent_not (still k.written.err_quiet s.err) broken.risen

-- the status of a stop
abbrev status_in : Next → ℕ
status_in Go = 0
status_in (Stop n) = n

pub sound_status : TopicsCause → (words : List (List ℕ)) (old new : Told) (status : ℕ) (text : List ℕ) → Closes old (Session words) status new → SinksAreSilent old new → IsSilent old.input.faults new.input.faults → old.input.left ≡ Some text → IsSoundStatus text status
sound_status t words old new status text (e, state, p, is) s i l = by_end e (uncut_silent p.events e old new p.written s) (λ f. asked_passes t (asked_by (Some nothing_asked) words) text _ p.events e _ f l i p.happens) is
  where
    refused : (b : Bool) → after_refusal b ≡ Stop status → IsSoundStatus text status
    refused true x = inr (inl (sym (ap status_in x)))
    refused false x = absurd (true≢false (ap is_go x))

    by_end : (e : End) → e ≢ ends.Cut → (e ≡ ends.InputFailed → PassesLimit text) → after state e ≡ Stop status → IsSoundStatus text status
    by_end ends.Went n f x = absurd (true≢false (ap is_go x))
    by_end ends.Refused n f x = refused (quits state) x
    by_end ends.Quits n f x = inl (sym (ap status_in x))
    by_end ends.Misused n f x = inr (inr (inl (sym (ap status_in x))))
    by_end ends.InputFailed n f x = inr (inr (inr (inr (sym (ap status_in x), f refl))))
    by_end ends.Cut n f x = absurd (n refl)
    by_end ends.NoMemory n f x = inr (inr (inr (inl (sym (ap status_in x)))))
