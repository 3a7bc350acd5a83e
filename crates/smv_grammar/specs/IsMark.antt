-- Whether a token is a mark.
use Rattle.std.specs.Prelude.{Bool, false}
use denote.Enum.Bare.{sameb}
use Rattle.smv_token.specs.contracts.mark.Mark.{the_type}
use Rattle.smv_token.specs.declared.mark.Mark.{Mark}
use Rattle.smv_token.specs.declared.token.Lexeme.{Lexeme}
use Rattle.smv_token.specs.declared.token.Lexeme.TheVariants as lexeme

-- `==` on marks
unfoldable pub same_mark : Mark → Mark → Bool
same_mark = sameb the_type

abbrev pub is_mark : Mark → Lexeme → Bool
is_mark m (lexeme.Mark n) = same_mark m n
is_mark m l = false
