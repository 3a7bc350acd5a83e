-- What a call answers is what the rules say.
use Rattle.std.proofs.Common.{◌≡◌, ℕ, List, Option, Some, None, Result, Ok, Err, IfErr, IfOk, refl, sym, ◌∙◌, ap, subst}
use Rattle.smv_tree.specs.declared.place.Place.{Place}
use Rattle.smv_token.specs.declared.token.Flaw.{Flaw}
use Rattle.smv_token.specs.declared.token.Token.{Token}
use Rattle.smv_token.specs.Tokens.{scanned}
use Rattle.smv_grammar.specs.declared.fault.ParseFault.{ParseFault}
use Rattle.smv_grammar.specs.Faults.{end_of}
use Rattle.smv_grammar.specs.Forms.{deepest}
use Rattle.smv_rules.specs.Reading.{Stop, all_read}
use Rattle.smv_rules.specs.Verdicts.{Answers, Unless, judged_by, verdict}
use Rattle.smv_rules.proofs.Judging.{unless_then}
use Rattle.smv_rules.specs.Rules.{Rule}
use Rattle.smv_rules.specs.Running.{run}
use Rattle.smv_rules.specs.Sorts.{Gift, Sort}
use Rattle.smv_rules.specs.Texts.{ExplainsBy}
use Rattle.smv_rules.specs.PartTexts.{SpellsSeen}
use Rattle.smv_rules.specs.WholeReading.{Right, judged}
use Rattle.smv_parse.specs.TextReading.{viewed}

verdict_viewed : {X Y : Type 0} (f : X → Y) (ts : List Token) (stop : Option (Place × Flaw)) (end : Place) (out : Result X Stop) → verdict ts stop end (viewed f out) ≡ viewed f (verdict ts stop end out)
verdict_viewed f ts None end (Ok x) = refl
verdict_viewed f ts (Some w) end (Ok x) = refl
verdict_viewed f ts stop end (Err s) = refl

judged_viewed : {s : Sort} {Y : Type 0} (r : Rule s) (seen : Gift s → Y) (bytes : List ℕ) → judged_by (λ ts. viewed seen (all_read (run deepest r ts))) bytes ≡ viewed seen (judged r bytes)
unfolding judged_by
judged_viewed r seen bytes = verdict_viewed seen (scanned bytes).tokens (scanned bytes).stop (end_of bytes) (all_read (run deepest r (scanned bytes).tokens))

viewed_ok : {X Y F : Type 0} (f : X → Y) (out : Result X F) (y : Y) → viewed f out ≡ Ok y → (x : X) × (out ≡ Ok x) × (f x ≡ y)
viewed_ok f (Ok x) y e = (x, refl, cc)
viewed_ok f (Err s) y e = absurd (cc)

pub viewed_err : {X Y F : Type 0} (f : X → Y) (out : Result X F) (s : F) → viewed f out ≡ Err s → out ≡ Err s
viewed_err f (Ok x) s e = absurd (cc)
viewed_err f (Err t) s e = cc

-- what a call answered, where it read by a rule
abbrev Called : {s : Sort} {X Y : Type 0} → Rule s → (Gift s → Y) → (X → Y) → List ℕ → Result X ParseFault → Type 0
Called r seen view bytes res = Answers view res (judged_by (λ ts. viewed seen (all_read (run deepest r ts))) bytes)

pub answers_found : {s : Sort} {X Y : Type 0} (r : Rule s) (seen : Gift s → Y) (view : X → Y) → Right r → (bytes : List ℕ) (res : Result X ParseFault) → Called r seen view bytes res → IfOk res (λ x. SpellsSeen r seen bytes (view x))
answers_found r seen view right bytes (Ok x) h =
    let g = viewed_ok seen (judged r bytes) (view x) (sym (judged_viewed r seen bytes) ∙ h) in
    record { given = g.0; spelled = right.found bytes g.0 g.1; is = g.2 }
answers_found r seen view right bytes (Err f) h = tt

answered : {X Y : Type 0} (view : X → Y) (res : Result X ParseFault) (a b : Result Y ParseFault) → a ≡ b → Answers view res a → Answers view res b
answered view res a b e h = let P : Result _ ParseFault → Type 0 = λ w. Answers view res w in subst P e h

pub answers_only : {s : Sort} {X Y : Type 0} (r : Rule s) (seen : Gift s → Y) (view : X → Y) → Right r → (bytes : List ℕ) (res : Result X ParseFault) → Called r seen view bytes res → (y : Y) → SpellsSeen r seen bytes y → Answers view res (Ok y)
answers_only r seen view right bytes res h y t =
    answered view res _ (Ok y) (judged_viewed r seen bytes ∙ ap (viewed seen) (right.only bytes t.given t.spelled) ∙ ap Ok t.is) h

pub answers_refused : {s : Sort} {X Y : Type 0} (r : Rule s) (seen : Gift s → Y) (view : X → Y) → Right r → (bytes : List ℕ) (res : Result X ParseFault) → Called r seen view bytes res → IfErr res (λ f. Unless f (ExplainsBy r bytes f))
answers_refused r seen view right bytes (Ok x) h = tt
answers_refused r seen view right bytes (Err f) h = unless_then f (λ e. right.refused bytes f (viewed_err seen (judged r bytes) f (sym (judged_viewed r seen bytes) ∙ e))) h

pub answers_cause : {s : Sort} {X Y : Type 0} (r : Rule s) (seen : Gift s → Y) (view : X → Y) → Right r → (bytes : List ℕ) (res : Result X ParseFault) → Called r seen view bytes res → (f : ParseFault) → ExplainsBy r bytes f → Answers view res (Err f)
answers_cause r seen view right bytes res h f t =
    answered view res _ (Err f) (judged_viewed r seen bytes ∙ ap (viewed seen) (right.cause bytes f t)) h
