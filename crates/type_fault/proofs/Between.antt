-- Texts with marks between them, from the first.
use Rattle.std.proofs.Common.{◌≡◌, ℕ, ◌-◌, ◌≤◌, List, [], ◌∷◌, ◌++◌, length, get_or, take, drop, refl, ap, sym, ◌∙◌, arith}
use Rattle.std.proofs.lemmas.List.{take_all}
use Rattle.type_fault.specs.Texts.{behind, between, path_text, paths_behind, paths_between}

rest_of : {X : Type 0} (x : X) (xs : List X) (n : ℕ) → n ≡ length (x ∷ xs) - 1 → take n xs ≡ xs
rest_of x xs n e = take_all n xs (omega (arith, e))

pub between_taken : (mark : List ℕ) (texts : List (List ℕ)) (t : List ℕ) (n : ℕ) → 1 ≤ length texts → n ≡ length texts - 1 → t ≡ get_or texts 0 t → t ++ behind mark (take n (drop 1 texts)) ≡ between mark texts
between_taken mark [] t n h e g = absurd (omega arith)
between_taken mark (x ∷ xs) t n h e g = ap (λ y. y ++ behind mark (take n xs)) g ∙ ap (λ ys. x ++ behind mark ys) (rest_of x xs n e)

pub paths_taken : (paths : List (List (List ℕ))) (p : List (List ℕ)) (n : ℕ) → 1 ≤ length paths → n ≡ length paths - 1 → p ≡ get_or paths 0 p → path_text p ++ paths_behind (take n (drop 1 paths)) ≡ paths_between paths
paths_taken [] p n h e g = absurd (omega arith)
paths_taken (x ∷ xs) p n h e g = ap (λ y. path_text y ++ paths_behind (take n xs)) g ∙ ap (λ ys. path_text x ++ paths_behind ys) (rest_of x xs n e)
