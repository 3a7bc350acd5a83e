-- The tokens of the models that are read so far: no operators but `!` and `=`, and no brackets but
-- those of `next` around a name.
use Rattle.std.specs.Prelude.{◌≡◌, ℕ, Bool, true, false, List, [], ◌∷◌, Option, Some, None}
use Rattle.smv_parse.specs.declared.first_form.Stage.{Stage}
use Rattle.smv_parse.specs.declared.first_form.Stage.TheVariants as stage
use Rattle.smv_token.specs.declared.mark.Mark.{Mark}
use Rattle.smv_token.specs.declared.mark.Mark.TheVariants as marks
use Rattle.smv_token.specs.declared.token.Token.{Token}
use Rattle.smv_token.specs.Tokens.{scanned}
use Rattle.smv_token.specs.declared.token.Lexeme.{Lexeme}
use Rattle.smv_token.specs.declared.token.Lexeme.TheVariants as lexeme

-- what may stand anywhere
abbrev pub free : Mark → Option Stage
free marks.Module = Some stage.Free
free marks.Var = Some stage.Free
free marks.Init = Some stage.Free
free marks.Trans = Some stage.Free
free marks.Boolean = Some stage.Free
free marks.Colon = Some stage.Free
free marks.Semicolon = Some stage.Free
free marks.True = Some stage.Free
free marks.False = Some stage.Free
free marks.Bang = Some stage.Free
free marks.Equals = Some stage.Free
free marks.Next = Some stage.Open
free m = None

abbrev pub opens : Mark → Option Stage
opens marks.OpenRound = Some stage.Inside
opens m = None

abbrev pub closes : Mark → Option Stage
closes marks.CloseRound = Some stage.Free
closes m = None

-- the stage behind a token
abbrev pub behind : Stage → Lexeme → Option Stage
behind stage.Free (lexeme.Name n) = Some stage.Free
behind stage.Free (lexeme.Mark m) = free m
behind stage.Open (lexeme.Mark m) = opens m
behind stage.Inside (lexeme.Name n) = Some stage.Close
behind stage.Close (lexeme.Mark m) = closes m
behind s x = None

abbrev pub goes_on : (Stage → Bool) → Option Stage → Bool
goes_on more None = false
goes_on more (Some s) = more s

unfoldable pub first_from : Stage → List Token → Bool
first_from s [] = true
first_from s (t ∷ ts) = goes_on (λ n. first_from n ts) (behind s t.lexeme)

-- these are such tokens
abbrev pub is_first : List Token → Bool
is_first ts = first_from stage.Free ts

-- the tokens of a text are such
abbrev pub IsFirstForm : List ℕ → Type 0
IsFirstForm bytes = is_first (scanned bytes).tokens ≡ true
