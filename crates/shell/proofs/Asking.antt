-- How the words of the program are read, the first of them apart.
use Rattle.std.proofs.Common.{◌≡◌, ◌≤◌, ℕ, true, false, List, [], ◌∷◌, arith, drop, get_or, length, ap, sym, ◌∙◌}
use Rattle.std.specs.Prelude.{Some, codes, if◌then◌else◌}
use Rattle.std.specs.Str.{bytes_eq}
use Rattle.shell.specs.Sessions.{Invocation, asked_by, with_script, with_word}

-- a script and its file
pub asked_script : (asked : Invocation) (word next : List ℕ) (words : List (List ℕ)) → 2 ≤ length words → word ≡ get_or words 0 word → next ≡ get_or words 1 next → bytes_eq word (codes "-source") ≡ true → asked_by (Some asked) words ≡ asked_by (with_script asked next) (drop 2 words)
asked_script asked word next [] h w n e = absurd (omega (arith, h))
asked_script asked word next (x ∷ []) h w n e = absurd (omega (arith, h))
asked_script asked word next (x ∷ y ∷ words) h w n e =
    ap (λ t. if t then asked_by (with_script asked y) words else asked_by (with_word asked x) (y ∷ words)) (ap (λ v. bytes_eq v (codes "-source")) (sym w) ∙ e) ∙ ap (λ v. asked_by (with_script asked v) words) (sym n)

-- any other word, with words behind it
pub asked_word : (asked : Invocation) (word : List ℕ) (words : List (List ℕ)) → 2 ≤ length words → word ≡ get_or words 0 word → bytes_eq word (codes "-source") ≡ false → asked_by (Some asked) words ≡ asked_by (with_word asked word) (drop 1 words)
asked_word asked word [] h w e = absurd (omega (arith, h))
asked_word asked word (x ∷ []) h w e = absurd (omega (arith, h))
asked_word asked word (x ∷ y ∷ words) h w e =
    ap (λ t. if t then asked_by (with_script asked y) words else asked_by (with_word asked x) (y ∷ words)) (ap (λ v. bytes_eq v (codes "-source")) (sym w) ∙ e) ∙ ap (λ v. asked_by (with_word asked v) (y ∷ words)) (sym w)
