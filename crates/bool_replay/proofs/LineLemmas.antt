-- Laws of blanks at the ends of lines.
use Rattle.std.proofs.Common.{◌≡◌, ◌+◌, ◌-◌, ◌≤◌, ℕ, get_or, true, false, cond, List, [], ◌∷◌, ◌++◌, length, take, refl, ap, sym, ◌∙◌, arith}
use Rattle.std.proofs.lemmas.List.{take_more}
use Rattle.std.proofs.Math.Seq.{take-length}
use Rattle.text_lines.specs.Lines.{is_blank}
use Rattle.bool_replay.specs.TraceTexts.{unless_blank, without_end}

-- a blank at the end makes no difference
pub blank_end : (xs : List ℕ) (b : ℕ) → is_blank b ≡ true → without_end (xs ++ b ∷ []) ≡ without_end xs
blank_end [] b h = ap (λ t. cond t [] (b ∷ [])) h
blank_end (x ∷ xs) b h = ap (unless_blank x) (blank_end xs b h)

-- any other byte at the end stays
pub other_end : (xs : List ℕ) (b : ℕ) → is_blank b ≡ false → without_end (xs ++ b ∷ []) ≡ xs ++ b ∷ []
other_end [] b h = ap (λ t. cond t [] (b ∷ [])) h
other_end (x ∷ xs) b h = ap (unless_blank x) (other_end xs b h) ∙ stays xs
  where
    stays : (ys : List ℕ) → unless_blank x (ys ++ b ∷ []) ≡ x ∷ (ys ++ b ∷ [])
    stays [] = refl
    stays (y ∷ ys) = refl

-- a list that is not empty is what stands before its last element, and that element
last_split : (xs : List ℕ) (d : ℕ) → 1 ≤ length xs → take (length xs - 1) xs ++ get_or xs (length xs - 1) d ∷ [] ≡ xs
last_split xs d h =
    let e : length xs - 1 + 1 ≡ length xs = omega arith in
    sym (take_more xs (length xs - 1) d (omega arith)) ∙ (ap (λ n. take n xs) e ∙ take-length xs)

-- a blank in the last place makes no difference, and any other byte there stays
pub blank_back : (xs : List ℕ) (d : ℕ) → 1 ≤ length xs → is_blank (get_or xs (length xs - 1) d) ≡ true → without_end (take (length xs - 1) xs) ≡ without_end xs
blank_back xs d h e = sym (blank_end (take (length xs - 1) xs) (get_or xs (length xs - 1) d) e) ∙ ap without_end (last_split xs d h)

pub other_back : (xs : List ℕ) (d : ℕ) → 1 ≤ length xs → is_blank (get_or xs (length xs - 1) d) ≡ false → without_end xs ≡ xs
other_back xs d h e = ap without_end (sym (last_split xs d h)) ∙ (other_end (take (length xs - 1) xs) (get_or xs (length xs - 1) d) e ∙ last_split xs d h)
