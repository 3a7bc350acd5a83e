-- The words of a command.
use Rattle.std.specs.Prelude.{◌≡◌, ℕ, Bool, List, [], ◌∷◌, ◌++◌, Option, Some, None, option_map, ok_or, Result, Ok, Err, if◌then◌else◌}
use Rattle.std.specs.List.{list_any}
use Rattle.std.specs.Str.{bytes_eq}
use Rattle.shell_lang.specs.Keyed.{at_name}
use Rattle.shell_lang.specs.declared.fault.LangFault.{LangFault}
use Rattle.shell_lang.specs.declared.fault.LangFault.TheVariants.{Unset}
use Rattle.shell_lang.specs.declared.line.Piece.{Piece}
use Rattle.shell_lang.specs.declared.line.Piece.TheVariants.{Plain, Var}

-- the variables, and the aliases with their words
abbrev pub Values : Type 0
Values = List (List ℕ × List ℕ)

abbrev pub Bodies : Type 0
Bodies = List (List ℕ × List (List ℕ))

-- an element before the others, where there is no fault; the first fault counts
abbrev pub both : {A B : Type 0} → (A → B → B) → Result A LangFault → Result B LangFault → Result B LangFault
both join (Err fault) rest = Err fault
both join (Ok x) (Err fault) = Err fault
both join (Ok x) (Ok xs) = Ok (join x xs)

-- the text that a piece stands for
abbrev pub text_of_piece : Values → Piece → Result (List ℕ) LangFault
text_of_piece vars (Plain text) = Ok text
text_of_piece vars (Var name) = ok_or (at_name vars name) (Unset name)

-- a word: the texts of its pieces, one after another
abbrev pub filled_word : Values → List Piece → Result (List ℕ) LangFault
filled_word vars [] = Ok []
filled_word vars (piece ∷ pieces) = both (λ text more. text ++ more) (text_of_piece vars piece) (filled_word vars pieces)

-- the words of a command, before an alias is replaced
abbrev pub filled : Values → List (List Piece) → Result (List (List ℕ)) LangFault
filled vars [] = Ok []
filled vars (word ∷ words) = both (λ first more. first ∷ more) (filled_word vars word) (filled vars words)

-- the name was replaced before
abbrev pub is_used : List (List ℕ) → List ℕ → Bool
is_used used name = list_any (λ old. bytes_eq old name) used

-- the words that a name stands for, if it is an alias and was not replaced before
abbrev pub body_of : Bodies → Bool → List ℕ → Option (List (List ℕ))
body_of aliases was_replaced name = if was_replaced then None else at_name aliases name

-- the words after the first one is replaced, if it can be
abbrev pub replaced : Bodies → List (List ℕ) → List (List ℕ) → Option (List (List ℕ))
replaced aliases used [] = None
replaced aliases used (name ∷ words) =
    option_map (λ body. body ++ words) (body_of aliases (is_used used name) name)

-- the words that words become, where the aliases in `used` were replaced before
pub data Unfolds (aliases : Bodies) : List (List ℕ) → List (List ℕ) → List (List ℕ) → Type 0 where
  stays : (used words : List (List ℕ)) → replaced aliases used words ≡ None → Unfolds aliases used words words
  unfolds : (used words more last : List (List ℕ)) (name : List ℕ) → replaced aliases used (name ∷ words) ≡ Some more → Unfolds aliases (used ++ name ∷ []) more last → Unfolds aliases used (name ∷ words) last

-- the answer to words that were filled in, or to the fault in them
abbrev pub AnswersFilled : Bodies → Result (List (List ℕ)) LangFault → Result (List (List ℕ)) LangFault → Type 0
AnswersFilled aliases (Err fault) answer = answer ≡ Err fault
AnswersFilled aliases (Ok words) answer = (last : List (List ℕ)) × Unfolds aliases [] words last × (answer ≡ Ok last)

-- a command gives this answer: a variable that is not set is a fault, and else aliases at the head are
-- replaced, each at most once
abbrev pub Expands : Values → Bodies → List (List Piece) → Result (List (List ℕ)) LangFault → Type 0
Expands vars aliases command answer = AnswersFilled aliases (filled vars command) answer
