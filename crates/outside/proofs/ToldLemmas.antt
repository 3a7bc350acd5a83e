-- Laws of what an object tells.
use Rattle.std.proofs.Common.{◌≡◌, ◌≢◌, ◌+◌, ◌<◌, ℕ, List, [], ◌∷◌, ◌++◌, take, drop, length, refl, ap, sym, ◌∙◌, append_assoc, arith, length-append}
use Rattle.std.specs.Prelude.{Option, Some, None}
use Rattle.std.specs.Io.KnownBytes.{append_known, prepend_known}
use Rattle.std.proofs.lemmas.Grind.{common_steps}
use Rattle.std.proofs.Math.Seq.{take-add}
use Rattle.std.proofs.lemmas.List.{take-append-drop}
use Rattle.outside.specs.Told.{AddsFront}
use Rattle.outside.specs.Lines.{IsOneLine, TakesFront}

-- added twice is added together
pub append_known-twice : (told : Option (List ℕ)) (a b : List ℕ) → append_known (append_known told a) b ≡ append_known told (a ++ b)
append_known-twice None a b = refl
append_known-twice (Some old) a b = ap Some (append_assoc old a b)

-- a front that was written, and the next piece of the bytes
pub written_more : (told : Option (List ℕ)) (bytes : List ℕ) (at n : ℕ) → append_known (append_known told (take at bytes)) (take n (drop at bytes)) ≡ append_known told (take (at + n) bytes)
written_more told bytes at n = append_known-twice told (take at bytes) (take n (drop at bytes)) ∙ ap (append_known told) (sym (take-add at n bytes))

-- what was written up to a place is a front
pub front_at : (old new : Option (List ℕ)) (bytes : List ℕ) (at : ℕ) → new ≡ append_known old (take at bytes) → AddsFront old new bytes
front_at old new bytes at e = (take at bytes, drop at bytes, sym (take-append-drop at bytes), e)

-- taken twice is taken together
pub prepend_known-twice : (told : Option (List ℕ)) (a b : List ℕ) → prepend_known a (prepend_known b told) ≡ prepend_known (a ++ b) told
prepend_known-twice None a b = refl
prepend_known-twice (Some rest) a b = ap Some (sym (append_assoc a b rest))

-- a text and one more byte, none of them a line feed
pub one_line_more : (line : List ℕ) (b : ℕ) → IsOneLine line → b ≢ 10 → IsOneLine (line ++ b ∷ [])
one_line_more line b free other h = grind (arith, common_steps)

-- a byte more than the limit was taken
pub taken_past : (before mid after : Option (List ℕ)) (line : List ℕ) (b limit : ℕ) → IsOneLine line → b ≢ 10 → length line ≡ limit → before ≡ prepend_known line mid → mid ≡ prepend_known (b ∷ []) after → (front : List ℕ) × IsOneLine front × (length front ≡ limit + 1) × (before ≡ prepend_known front after)
taken_past before mid after line b limit free other full e d =
    (line ++ b ∷ [], one_line_more line b free other, omega (arith, length-append line (b ∷ [])), e ∙ (ap (prepend_known line) d ∙ prepend_known-twice after line (b ∷ [])))

-- a byte more was taken, within the limit
pub taken_front : (before mid after : Option (List ℕ)) (line : List ℕ) (b limit : ℕ) → IsOneLine line → b ≢ 10 → length line < limit → before ≡ prepend_known line mid → mid ≡ prepend_known (b ∷ []) after → TakesFront limit before after
taken_front before mid after line b limit free other full e d =
    (line ++ b ∷ [], one_line_more line b free other, omega (arith, length-append line (b ∷ [])), e ∙ (ap (prepend_known line) d ∙ prepend_known-twice after line (b ∷ [])))
