-- The commands that grow as marks are read are those of all marks.
use Rattle.std.proofs.Common.{◌≡◌, List, [], ◌∷◌, ◌++◌, map, refl, ap, sym, ◌∙◌, append_assoc, append-nil}
use Rattle.shell_lang.specs.declared.line.Piece.{Piece}
use Rattle.shell_lang.specs.declared.mark.Mark.{Mark}
use Rattle.shell_lang.specs.declared.mark.Mark.TheVariants.{Part, Gap, End}
use Rattle.shell_lang.specs.Lines.{not_empty, parted, is_gap, is_end, pieces_of, words_of, commands_of}
use Rattle.shell_lang.specs.Grouped.{kept, from_open}

not_empty-cons : {A : Type 0} (xs : List A) (lists : List (List A)) → not_empty (xs ∷ lists) ≡ kept xs ++ not_empty lists
not_empty-cons [] lists = refl
not_empty-cons (x ∷ xs) lists = refl

-- the words of a part of the marks, the first of which goes on from pieces that are there
abbrev words_after : List Piece → List Mark → List (List Piece)
words_after pieces marks =
    kept (pieces ++ pieces_of (parted is_gap marks).0) ++ not_empty (map pieces_of (parted is_gap marks).1)

words_after-none : (marks : List Mark) → words_of marks ≡ words_after [] marks
words_after-none marks = not_empty-cons (pieces_of (parted is_gap marks).0) (map pieces_of (parted is_gap marks).1)

-- a gap ends the word, if there is one
words_after-gap : (pieces : List Piece) (marks : List Mark) → kept pieces ++ words_after [] marks ≡ words_after pieces (Gap ∷ marks)
words_after-gap pieces marks =
    ap (λ (p : List Piece). kept p ++ words_after [] marks) (sym (append-nil pieces))
    ∙ ap (λ (ws : List (List Piece)). kept (pieces ++ []) ++ ws) (sym (words_after-none marks))

-- where nothing follows, the word is the last
words_after-end : (pieces : List Piece) → words_after pieces [] ≡ kept pieces
words_after-end pieces =
    append-nil (kept (pieces ++ [])) ∙ ap (λ (p : List Piece). kept p) (append-nil pieces)

-- what grows from nothing
from_nothing : (marks : List Mark) → from_open [] [] marks ≡ kept (words_after [] (parted is_end marks).0) ++ not_empty (map words_of (parted is_end marks).1) → from_open [] [] marks ≡ commands_of marks
from_nothing marks is =
    is
    ∙ ap (λ (ws : List (List Piece)). kept ws ++ not_empty (map words_of (parted is_end marks).1)) (sym (words_after-none (parted is_end marks).0))
    ∙ sym (not_empty-cons (words_of (parted is_end marks).0) (map words_of (parted is_end marks).1))

grown : (words : List (List Piece)) (pieces : List Piece) (marks : List Mark) → from_open words pieces marks ≡ kept (words ++ words_after pieces (parted is_end marks).0) ++ not_empty (map words_of (parted is_end marks).1)
grown words pieces [] =
    ap (λ (ws : List (List Piece)). kept (words ++ ws)) (sym (words_after-end pieces)) ∙ sym (append-nil (kept (words ++ words_after pieces [])))
grown words pieces (Part piece ∷ marks) =
    let s = parted is_end marks in
    grown words (pieces ++ piece ∷ []) marks ∙ ap (λ (p : List Piece). kept (words ++ (kept p ++ not_empty (map pieces_of (parted is_gap s.0).1))) ++ not_empty (map words_of s.1)) (append_assoc pieces (piece ∷ []) (pieces_of (parted is_gap s.0).0))
grown words pieces (Gap ∷ marks) =
    let s = parted is_end marks in
    grown (words ++ kept pieces) [] marks
    ∙ ap (λ (ws : List (List Piece)). kept ws ++ not_empty (map words_of s.1)) (append_assoc words (kept pieces) (words_after [] s.0) ∙ ap (λ (ws : List (List Piece)). words ++ ws) (words_after-gap pieces s.0))
grown words pieces (End ∷ marks) =
    ap (λ (cs : List (List (List Piece))). kept (words ++ kept pieces) ++ cs) (from_nothing marks (grown [] [] marks))
    ∙ ap (λ (ws : List (List Piece)). kept (words ++ ws) ++ commands_of marks) (sym (words_after-end pieces))

-- the commands of a line's marks, as they grow from nothing
pub from_open-all : (marks : List Mark) → from_open [] [] marks ≡ commands_of marks
from_open-all marks = from_nothing marks (grown [] [] marks)
