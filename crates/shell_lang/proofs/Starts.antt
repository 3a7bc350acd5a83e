-- A line that begins with a sign which says how the rest is read.
use Rattle.std.proofs.Common.{◌≡◌, ℕ, ◌+◌, ◌≤◌, ◌<◌, List, [], ◌∷◌, length, get_or, drop, refl, ap, sym, ◌∙◌, subst, arith, add-one}
use Rattle.shell_lang.specs.declared.mark.Mark.{Mark}
use Rattle.shell_lang.specs.Lines.{start_of, start_quoted, start_dollar}
use Rattle.shell_lang.specs.Lines.{Start, begins}
use Rattle.shell_lang.specs.Marks.{Takes}

drop_more : (byte len : ℕ) (rest : List ℕ) → drop (len + 1) (byte ∷ rest) ≡ drop len rest
drop_more byte len rest = rw add-one refl

-- a start of the rest, as that of the whole line
widened : (byte : ℕ) (rest : List ℕ) (start : Start) (mark : Mark) (len : ℕ) → Takes start rest (mark, len) → Takes start (byte ∷ rest) (mark, len + 1) × (0 < len + 1)
widened byte rest start mark len h =
    ((h.0 ∙ ap (begins mark) (sym (drop_more byte len rest)), omega (arith, h.1)), omega arith)

-- a line that begins with a quote takes what its rest takes, and the quote
pub past_quote : (line rest : List ℕ) (mark : Mark) (len : ℕ) → 1 ≤ length line → get_or line 0 0 ≡ 34 → rest ≡ drop 1 line → Takes (start_quoted rest) rest (mark, len) → Takes (start_of line) line (mark, len + 1) × (0 < len + 1)
past_quote [] rest mark len some first is h = absurd (omega arith)
past_quote (byte ∷ bytes) rest mark len some first is h =
    subst (λ (b : ℕ). Takes (start_of (b ∷ bytes)) (b ∷ bytes) (mark, len + 1) × (0 < len + 1)) (sym first) (widened 34 bytes (start_quoted bytes) mark len (subst (λ (r : List ℕ). Takes (start_quoted r) r (mark, len)) is h))

-- a line that begins with a `$` takes what its rest takes, and the `$`
pub past_dollar : (line rest : List ℕ) (mark : Mark) (len : ℕ) → 1 ≤ length line → get_or line 0 0 ≡ 36 → rest ≡ drop 1 line → Takes (start_dollar rest) rest (mark, len) → Takes (start_of line) line (mark, len + 1) × (0 < len + 1)
past_dollar [] rest mark len some first is h = absurd (omega arith)
past_dollar (byte ∷ bytes) rest mark len some first is h =
    subst (λ (b : ℕ). Takes (start_of (b ∷ bytes)) (b ∷ bytes) (mark, len + 1) × (0 < len + 1)) (sym first) (widened 36 bytes (start_dollar bytes) mark len (subst (λ (r : List ℕ). Takes (start_dollar r) r (mark, len)) is h))
