-- The symbols and the reserved words of the language.
use Rattle.std.specs.Prelude.{ℕ, List, [], ◌∷◌, Option, codes, nat_eq}
use Rattle.std.specs.List.{find, starts_with}
use Rattle.std.specs.Str.{bytes_eq}
use Rattle.smv_token.specs.declared.mark.Mark as mark

-- how a mark is written
unfoldable pub text : mark.Mark → List ℕ
text mark.TheVariants.Iff = codes "<->"
text mark.TheVariants.Arrow = codes "->"
text mark.TheVariants.Becomes = codes ":="
text mark.TheVariants.Concat = codes "::"
text mark.TheVariants.Dots = codes ".."
text mark.TheVariants.Differs = codes "!="
text mark.TheVariants.AtMost = codes "<="
text mark.TheVariants.AtLeast = codes ">="
text mark.TheVariants.ShiftLeft = codes "<<"
text mark.TheVariants.ShiftRight = codes ">>"
text mark.TheVariants.OpenRound = codes "("
text mark.TheVariants.CloseRound = codes ")"
text mark.TheVariants.OpenCurly = codes "{"
text mark.TheVariants.CloseCurly = codes "}"
text mark.TheVariants.OpenSquare = codes "["
text mark.TheVariants.CloseSquare = codes "]"
text mark.TheVariants.Comma = codes ","
text mark.TheVariants.Semicolon = codes ";"
text mark.TheVariants.Colon = codes ":"
text mark.TheVariants.Dot = codes "."
text mark.TheVariants.Bang = codes "!"
text mark.TheVariants.Ampersand = codes "&"
text mark.TheVariants.Bar = codes "|"
text mark.TheVariants.Equals = codes "="
text mark.TheVariants.Less = codes "<"
text mark.TheVariants.Greater = codes ">"
text mark.TheVariants.Plus = codes "+"
text mark.TheVariants.Minus = codes "-"
text mark.TheVariants.Star = codes "*"
text mark.TheVariants.Slash = codes "/"
text mark.TheVariants.Question = codes "?"
text mark.TheVariants.Module = codes "MODULE"
text mark.TheVariants.Var = codes "VAR"
text mark.TheVariants.InputVar = codes "IVAR"
text mark.TheVariants.FrozenVar = codes "FROZENVAR"
text mark.TheVariants.Define = codes "DEFINE"
text mark.TheVariants.Assign = codes "ASSIGN"
text mark.TheVariants.Init = codes "INIT"
text mark.TheVariants.Trans = codes "TRANS"
text mark.TheVariants.Invar = codes "INVAR"
text mark.TheVariants.LtlSpec = codes "LTLSPEC"
text mark.TheVariants.NameWord = codes "NAME"
text mark.TheVariants.True = codes "TRUE"
text mark.TheVariants.False = codes "FALSE"
text mark.TheVariants.Boolean = codes "boolean"
text mark.TheVariants.WordType = codes "word"
text mark.TheVariants.Signed = codes "signed"
text mark.TheVariants.Unsigned = codes "unsigned"
text mark.TheVariants.WordOne = codes "word1"
text mark.TheVariants.BoolOf = codes "bool"
text mark.TheVariants.Extend = codes "extend"
text mark.TheVariants.Resize = codes "resize"
text mark.TheVariants.ToInt = codes "toint"
text mark.TheVariants.UwConst = codes "uwconst"
text mark.TheVariants.SwConst = codes "swconst"
text mark.TheVariants.Count = codes "count"
text mark.TheVariants.Case = codes "case"
text mark.TheVariants.Esac = codes "esac"
text mark.TheVariants.Next = codes "next"
text mark.TheVariants.InitOf = codes "init"
text mark.TheVariants.SelfWord = codes "self"
text mark.TheVariants.Mod = codes "mod"
text mark.TheVariants.Union = codes "union"
text mark.TheVariants.InWord = codes "in"
text mark.TheVariants.Xor = codes "xor"
text mark.TheVariants.Xnor = codes "xnor"
text mark.TheVariants.WordX = codes "X"
text mark.TheVariants.WordG = codes "G"
text mark.TheVariants.WordF = codes "F"
text mark.TheVariants.WordU = codes "U"
text mark.TheVariants.WordV = codes "V"

-- the symbols, longer ones before those that begin them
unfoldable pub symbols : List mark.Mark
symbols =
    mark.TheVariants.Iff ∷ mark.TheVariants.Arrow ∷ mark.TheVariants.Becomes ∷ mark.TheVariants.Concat ∷
    mark.TheVariants.Dots ∷ mark.TheVariants.Differs ∷ mark.TheVariants.AtMost ∷ mark.TheVariants.AtLeast ∷
    mark.TheVariants.ShiftLeft ∷ mark.TheVariants.ShiftRight ∷ mark.TheVariants.OpenRound ∷ mark.TheVariants.CloseRound ∷
    mark.TheVariants.OpenCurly ∷ mark.TheVariants.CloseCurly ∷ mark.TheVariants.OpenSquare ∷ mark.TheVariants.CloseSquare ∷
    mark.TheVariants.Comma ∷ mark.TheVariants.Semicolon ∷ mark.TheVariants.Colon ∷ mark.TheVariants.Dot ∷
    mark.TheVariants.Bang ∷ mark.TheVariants.Ampersand ∷ mark.TheVariants.Bar ∷ mark.TheVariants.Equals ∷
    mark.TheVariants.Less ∷ mark.TheVariants.Greater ∷ mark.TheVariants.Plus ∷ mark.TheVariants.Minus ∷
    mark.TheVariants.Star ∷ mark.TheVariants.Slash ∷ mark.TheVariants.Question ∷ []

-- the reserved words
unfoldable pub words : List mark.Mark
words =
    mark.TheVariants.Module ∷ mark.TheVariants.Var ∷ mark.TheVariants.InputVar ∷ mark.TheVariants.FrozenVar ∷
    mark.TheVariants.Define ∷ mark.TheVariants.Assign ∷ mark.TheVariants.Init ∷ mark.TheVariants.Trans ∷
    mark.TheVariants.Invar ∷ mark.TheVariants.LtlSpec ∷ mark.TheVariants.NameWord ∷ mark.TheVariants.True ∷
    mark.TheVariants.False ∷ mark.TheVariants.Boolean ∷ mark.TheVariants.WordType ∷ mark.TheVariants.Signed ∷
    mark.TheVariants.Unsigned ∷ mark.TheVariants.WordOne ∷ mark.TheVariants.BoolOf ∷ mark.TheVariants.Extend ∷
    mark.TheVariants.Resize ∷ mark.TheVariants.ToInt ∷ mark.TheVariants.UwConst ∷ mark.TheVariants.SwConst ∷
    mark.TheVariants.Count ∷ mark.TheVariants.Case ∷ mark.TheVariants.Esac ∷ mark.TheVariants.Next ∷
    mark.TheVariants.InitOf ∷ mark.TheVariants.SelfWord ∷ mark.TheVariants.Mod ∷ mark.TheVariants.Union ∷
    mark.TheVariants.InWord ∷ mark.TheVariants.Xor ∷ mark.TheVariants.Xnor ∷ mark.TheVariants.WordX ∷
    mark.TheVariants.WordG ∷ mark.TheVariants.WordF ∷ mark.TheVariants.WordU ∷ mark.TheVariants.WordV ∷ []

-- the longest symbol that the bytes begin with
unfoldable pub symbol_at : List ℕ → Option mark.Mark
symbol_at bytes = find (λ m. starts_with nat_eq bytes (text m)) symbols

-- the reserved word that is written so
unfoldable pub word_of : List ℕ → Option mark.Mark
word_of name = find (λ m. bytes_eq (text m) name) words
