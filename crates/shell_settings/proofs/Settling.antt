-- Changes of settings that were made, or refused.
use Rattle.std.proofs.Common.{◌≡◌, ◌⊎◌, ◌<◌, ◌+◌, ◌-◌, ◌∙◌, ℕ, zero, suc, Bool, true, false, List, [], ◌∷◌, length, arith, inl, inr, refl, ap, sym, subst}
use Rattle.std.specs.Prelude.{alloc_error}
use Rattle.std.specs.List.{range_with_len}
use Rattle.shell_lang.specs.declared.fault.LangFault.{LangFault}
use Rattle.shell_lang.specs.declared.fault.LangFault.TheVariants.{NoMemory}
use Rattle.shell_world.specs.declared.end.End.{End}
use Rattle.shell_world.specs.declared.end.End.TheVariants as ends
use Rattle.shell_world.specs.declared.refusal.Refusal.TheVariants as refusal
use Rattle.shell_world.specs.declared.state.State.{State}
use Rattle.shell_world.specs.Processes.{Knowing, Refuses}
use Rattle.shell_world.specs.Scenes.{Moment, Told, at}
use Rattle.shell_world.specs.Written.{Performs}
use Rattle.shell_world.proofs.Combining.{lacked, lacked_not}
use Rattle.shell_world.proofs.Performing.{became, known}
use Rattle.shell_settings.specs.Settings.{Alters, RefusesOr, ShowsLast, ShowsWith}

-- a range of numbers begins with the first of them
range_step : (a n : ℕ) → 0 < n → range_with_len a n ≡ a ∷ range_with_len (a + 1) (n - 1)
range_step a zero h = absurd (omega arith)
range_step a (suc n) h = let e : n ≡ suc n - 1 = omega arith in ap (λ m. a ∷ range_with_len (a + 1) m) e

-- the numbers from a place on
pub range_more : (f p s : ℕ) → p < s → range_with_len (f + 1 + p) (s - p) ≡ (f + p + 1) ∷ range_with_len (f + 1 + (p + 1)) (s - (p + 1))
range_more f p s h =
    let a : f + 1 + p ≡ f + p + 1 = omega arith in
    let b : f + 1 + p + 1 ≡ f + 1 + (p + 1) = omega arith in
    let c : s - p - 1 ≡ s - (p + 1) = omega arith in
    range_step (f + 1 + p) (s - p) (omega arith)
    ∙ (ap (λ x. x ∷ range_with_len (f + 1 + p + 1) (s - p - 1)) a
    ∙ (ap (λ y. (f + p + 1) ∷ range_with_len y (s - p - 1)) b
    ∙ ap (λ z. (f + p + 1) ∷ range_with_len (f + 1 + (p + 1)) z) c))

-- no number is given
pub shown_all : (words : List (List ℕ)) {old new : Moment} {e : End} → length words < 1 → Performs (Knowing (λ s. ShowsLast s.past.count s.past)) old e new → Performs (ShowsWith words) old e new
shown_all [] h p = p
shown_all (word ∷ words) h p = absurd (omega arith)

-- a change was made
pub altered : (test : State → Bool) (fault : LangFault) (f : State → State) (old new : State) (told : Told) → test old ≡ false → new ≡ f old → Performs (Alters test fault f) (at old told) ends.Went (at new told)
altered test fault f old new told t e =
    lacked_not (known (λ s. RefusesOr (test s) fault f) (subst (λ b. Performs (RefusesOr b fault f) (at old told) ends.Went (at new told)) (sym t) (became f old new told e)))

-- it was refused, or memory was, and the state is as before
pub altered_not : (test : State → Bool) (fault e : LangFault) (f : State → State) (old mid : State) (told : Told) {new : Moment} {end : End} → mid ≡ old → (((e ≡ fault) × (test old ≡ true)) ⊎ (e ≡ NoMemory alloc_error)) → Performs (Refuses (refusal.Language e)) (at mid told) end new → Performs (Alters test fault f) (at old told) end new
altered_not test fault e f old mid told {new = new} {end = end} kept (inl (same, t)) p =
    let q = subst (λ s. Performs (Refuses (refusal.Language e)) (at s told) end new) kept p in
    lacked_not (known (λ s. RefusesOr (test s) fault f) (subst (λ b. Performs (RefusesOr b fault f) (at old told) end new) (sym t) (subst (λ x. Performs (Refuses (refusal.Language x)) (at old told) end new) same q)))
altered_not test fault e f old mid told {new = new} {end = end} kept (inr m) p =
    let q = subst (λ s. Performs (Refuses (refusal.Language e)) (at s told) end new) kept p in
    lacked (Knowing (λ s. RefusesOr (test s) fault f)) (refusal.Language (NoMemory alloc_error)) refl (subst (λ x. Performs (Refuses (refusal.Language x)) (at old told) end new) m q)
