-- What is said of a trace whose states were read.
use Rattle.std.proofs.Common.{◌≡◌, ◌<◌, ℕ, Bool, true, List, [], ◌∷◌, map, length, refl, ap, sym, ◌∙◌, subst}
use Rattle.std.specs.Prelude.{Option, Some, None}
use Rattle.std.proofs.lemmas.List.{length-map}
use Rattle.smv_tree.specs.Models.{Body}
use Rattle.bool_replay.specs.declared.verdict.Cause.{Cause}
use Rattle.std.proofs.lemmas.Bool.{false≢true}
use Rattle.bool_replay.specs.declared.verdict.Verdict.{Verdict}
use Rattle.bool_replay.specs.declared.verdict.Verdict.TheVariants.{NotBuilt, NoValue}
use Rattle.bool_replay.specs.Plain.{is_plain_body, is_plain_program, names_of}
use Rattle.bool_replay.specs.ProgramNames.{program_names}
use Rattle.bool_replay.specs.Evaluation.{stop_of}
use Rattle.bool_replay.specs.Stops.{verdict_of}
use Rattle.bool_replay.specs.TraceTexts.{Section, IsTraceText, first_gap, truths_of}
use Rattle.bool_replay.specs.Verdicts.{Judges}
use Rattle.bool_replay.proofs.MainLemmas.{plain_facts}
use Rattle.bool_replay.proofs.RunLemmas.{AreFull, Judged, judged}

-- each state that was read is full
full_states : (b : Body) (sections : List Section) → AreFull b (map (truths_of (names_of b.parts)) sections)
full_states b [] = tt
full_states b (s ∷ sections) = (length-map (names_of b.parts) _, full_states b sections)

pub judges_states : (b : Body) (text : List ℕ) (sections : List Section) (states : List (List Bool)) (n : ℕ) → is_plain_body b ≡ true → IsTraceText (names_of b.parts) text sections → 0 < length sections → first_gap (names_of b.parts) sections ≡ None → states ≡ map (truths_of (names_of b.parts)) sections → n ≡ length states
    → Judges (b ∷ []) text (verdict_of n (stop_of (names_of b.parts) b.parts states))
judges_states b text sections states n plain is some gap same count =
    subst (λ ts. n ≡ length ts → Judges (b ∷ []) text (verdict_of n (stop_of (names_of b.parts) b.parts ts))) (sym same) at_truths count
  where
    truths : List (List Bool)
    truths = map (truths_of (names_of b.parts)) sections

    by_stop : (o : Option (ℕ × Cause)) → n ≡ length truths → Judged b truths o → Judges (b ∷ []) text (verdict_of n o)
    by_stop None k j = (sections, is, gap, k ∙ length-map sections (truths_of (names_of b.parts)), j)
    by_stop (Some stop) k j = (sections, is, gap, j)

    at_truths : n ≡ length truths → Judges (b ∷ []) text (verdict_of n (stop_of (names_of b.parts) b.parts truths))
    at_truths k = by_stop (stop_of (names_of b.parts) b.parts truths) k (judged b (plain_facts b plain) truths (subst (λ m. 0 < m) (sym (length-map sections (truths_of (names_of b.parts)))) some) (full_states b sections))

-- what is said where the names are those of a plain program
pub no_trace : (program : List Body) (names : List (List ℕ)) (text : List ℕ) → is_plain_program program ≡ true → names ≡ program_names program → ((sections : List Section) → IsTraceText names text sections → ⊥) → Judges program text NotBuilt
no_trace [] names text p e h = absurd (false≢true p)
no_trace (b ∷ []) names text p e h = λ sections is. h sections (subst (λ ns. IsTraceText ns text sections) (sym e) is)
no_trace (b ∷ d ∷ bs) names text p e h = absurd (false≢true p)

pub a_gap : (program : List Body) (names : List (List ℕ)) (text : List ℕ) (sections : List Section) (line : ℕ) (name : List ℕ) → is_plain_program program ≡ true → names ≡ program_names program → IsTraceText names text sections → first_gap names sections ≡ Some (line, name) → Judges program text (NoValue line name)
a_gap [] names text sections line name p e is g = absurd (false≢true p)
a_gap (b ∷ []) names text sections line name p e is g =
    (sections, subst (λ ns. IsTraceText ns text sections) e is, subst (λ ns. first_gap ns sections ≡ Some (line, name)) e g)
a_gap (b ∷ d ∷ bs) names text sections line name p e is g = absurd (false≢true p)

pub a_replay : (program : List Body) (names : List (List ℕ)) (text : List ℕ) (sections : List Section) (states : List (List Bool)) (verdict : Verdict) → names ≡ program_names program → IsTraceText names text sections → 0 < length sections → (first_gap names sections ≡ None) × (states ≡ map (truths_of names) sections)
    → (b : Body) → program ≡ b ∷ [] → is_plain_body b ≡ true → verdict ≡ verdict_of (length states) (stop_of (names_of b.parts) b.parts states) → Judges program text verdict
a_replay program names text sections states verdict e is some (gap, same) b one plain says =
    subst (λ p. Judges p text verdict) (sym one) (subst (Judges (b ∷ []) text) (sym says)
    (judges_states b text sections states (length states) plain (subst (λ ns. IsTraceText ns text sections) names_are is) some (subst (λ ns. first_gap ns sections ≡ None) names_are gap) (same ∙ ap (λ ns. map (truths_of ns) sections) names_are) refl))
  where
    names_are : names ≡ names_of b.parts
    names_are = e ∙ ap program_names one
