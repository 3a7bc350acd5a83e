-- Words are filled in from the left.
use Rattle.std.proofs.Common.{◌≡◌, ℕ, ◌+◌, ◌<◌, List, [], ◌∷◌, ◌++◌, length, get_or, drop, refl, ap, sym, ◌∙◌, append_assoc}
use Rattle.std.specs.Prelude.{Result, Ok, Err}
use Rattle.std.proofs.lemmas.List.{at_drop_more}
use Rattle.shell_lang.specs.declared.fault.LangFault.{LangFault}
use Rattle.shell_lang.specs.declared.line.Piece.{Piece}
use Rattle.shell_lang.specs.Filled.{Values, both, text_of_piece, filled_word, filled}

-- lists one after another, or the first fault
abbrev pub joined : {A : Type 0} → List A → Result (List A) LangFault → Result (List A) LangFault
joined front rest = both (λ xs ys. xs ++ ys) (Ok front) rest

pub joined-none : {A : Type 0} (rest : Result (List A) LangFault) → joined [] rest ≡ rest
joined-none (Ok xs) = refl
joined-none (Err fault) = refl

joined-piece : (front text : List ℕ) (rest : Result (List ℕ) LangFault) → joined front (both (λ xs ys. xs ++ ys) (Ok text) rest) ≡ joined (front ++ text) rest
joined-piece front text (Ok xs) = ap Ok (sym (append_assoc front text xs))
joined-piece front text (Err fault) = refl

joined-word : (front : List (List ℕ)) (word : List ℕ) (rest : Result (List (List ℕ)) LangFault) → joined front (both (λ x xs. x ∷ xs) (Ok word) rest) ≡ joined (front ++ word ∷ []) rest
joined-word front word (Ok xs) = ap Ok (sym (append_assoc front (word ∷ []) xs))
joined-word front word (Err fault) = refl

next_piece : (vars : Values) (pieces : List Piece) (i : ℕ) (piece : Piece) → i < length pieces → piece ≡ get_or pieces i piece → filled_word vars (drop i pieces) ≡ both (λ xs ys. xs ++ ys) (text_of_piece vars piece) (filled_word vars (drop (i + 1) pieces))
next_piece vars pieces i piece within is =
    at_drop_more (filled_word vars) pieces i piece within ∙ ap (λ (p : Piece). both (λ xs ys. xs ++ ys) (text_of_piece vars p) (filled_word vars (drop (i + 1) pieces))) (sym is)

-- one more piece is added
pub piece-more : (vars : Values) (pieces : List Piece) (i : ℕ) (piece : Piece) (front text : List ℕ) → i < length pieces → piece ≡ get_or pieces i piece → text_of_piece vars piece ≡ Ok text → joined front (filled_word vars (drop i pieces)) ≡ joined (front ++ text) (filled_word vars (drop (i + 1) pieces))
piece-more vars pieces i piece front text within is filled_is =
    ap (joined front) (next_piece vars pieces i piece within is ∙ ap (λ (t : Result (List ℕ) LangFault). both (λ xs ys. xs ++ ys) t (filled_word vars (drop (i + 1) pieces))) filled_is)
    ∙ joined-piece front text (filled_word vars (drop (i + 1) pieces))

-- a piece's variable is not set
pub piece-fault : (vars : Values) (pieces : List Piece) (i : ℕ) (piece : Piece) (front : List ℕ) (fault : LangFault) → i < length pieces → piece ≡ get_or pieces i piece → text_of_piece vars piece ≡ Err fault → joined front (filled_word vars (drop i pieces)) ≡ Err fault
piece-fault vars pieces i piece front fault within is fault_is =
    ap (joined front) (next_piece vars pieces i piece within is ∙ ap (λ (t : Result (List ℕ) LangFault). both (λ xs ys. xs ++ ys) t (filled_word vars (drop (i + 1) pieces))) fault_is)

next_word : (vars : Values) (words : List (List Piece)) (i : ℕ) (word : List Piece) → i < length words → word ≡ get_or words i word → filled vars (drop i words) ≡ both (λ x xs. x ∷ xs) (filled_word vars word) (filled vars (drop (i + 1) words))
next_word vars words i word within is =
    at_drop_more (filled vars) words i word within ∙ ap (λ (w : List Piece). both (λ x xs. x ∷ xs) (filled_word vars w) (filled vars (drop (i + 1) words))) (sym is)

-- one more word is filled in
pub word-more : (vars : Values) (words : List (List Piece)) (i : ℕ) (word : List Piece) (front : List (List ℕ)) (text : List ℕ) → i < length words → word ≡ get_or words i word → filled_word vars word ≡ Ok text → joined front (filled vars (drop i words)) ≡ joined (front ++ text ∷ []) (filled vars (drop (i + 1) words))
word-more vars words i word front text within is filled_is =
    ap (joined front) (next_word vars words i word within is ∙ ap (λ (t : Result (List ℕ) LangFault). both (λ x xs. x ∷ xs) t (filled vars (drop (i + 1) words))) filled_is)
    ∙ joined-word front text (filled vars (drop (i + 1) words))

-- a word has a variable that is not set
pub word-fault : (vars : Values) (words : List (List Piece)) (i : ℕ) (word : List Piece) (front : List (List ℕ)) (fault : LangFault) → i < length words → word ≡ get_or words i word → filled_word vars word ≡ Err fault → joined front (filled vars (drop i words)) ≡ Err fault
word-fault vars words i word front fault within is fault_is =
    ap (joined front) (next_word vars words i word within is ∙ ap (λ (t : Result (List ℕ) LangFault). both (λ x xs. x ∷ xs) t (filled vars (drop (i + 1) words))) fault_is)
