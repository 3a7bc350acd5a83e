-- Why a text is no expression.
use Rattle.std.specs.Prelude.{ℕ, zero, suc, List, [], ◌∷◌, ◌++◌, Option, Some, None, codes, decimal, fold}
use Rattle.smv_tree.specs.declared.place.Place.{Place}
use Rattle.smv_token.specs.declared.left_out.LeftOut.{LeftOut}
use Rattle.smv_token.specs.declared.left_out.LeftOut.TheVariants as out
use Rattle.smv_grammar.specs.declared.fault.ParseFault.{ParseFault}
use Rattle.smv_grammar.specs.declared.fault.ParseFault.TheVariants as faults
use Rattle.smv_token.specs.declared.token.Flaw.{Flaw}
use Rattle.smv_token.specs.declared.token.Flaw.TheVariants as flaw
use Rattle.smv_token.specs.declared.token.Token.{Token}
use Rattle.smv_token.specs.LeftOut.{text}
use Rattle.smv_token.specs.Tokens.{after, start}

-- the fault that a left-out word is
abbrev pub left_out_fault : Place → LeftOut → ParseFault
left_out_fault p out.Justice = faults.Fairness p
left_out_fault p out.Fairness = faults.Fairness p
left_out_fault p out.PastY = faults.Past p
left_out_fault p out.PastZ = faults.Past p
left_out_fault p out.PastH = faults.Past p
left_out_fault p out.PastO = faults.Past p
left_out_fault p out.PastS = faults.Past p
left_out_fault p out.PastT = faults.Past p
left_out_fault p out.InvarSpec = faults.InvarSpec p
left_out_fault p w = faults.LeftOut p (text w)

-- the fault that a place where no token begins is
abbrev pub fault_of : Place → Flaw → ParseFault
fault_of p flaw.BadByte = faults.BadByte p
fault_of p flaw.BadWord = faults.BadWord p
fault_of p flaw.NumberRange = faults.NumberRange p
fault_of p (flaw.LeftOut w) = left_out_fault p w
fault_of p flaw.LongName = faults.LongName p

-- the place of a token by its number
abbrev pub place_at : List Token → ℕ → Place
place_at [] i = start
place_at (t ∷ ts) zero = t.place
place_at (t ∷ ts) (suc i) = place_at ts i

-- the place directly after a text's last byte
abbrev pub end_of : List ℕ → Place
end_of bytes = fold after start bytes

-- the number of a refusal, and the place that it names
abbrev pub number_of : ParseFault → ℕ
number_of (faults.BadByte p) = 101
number_of (faults.BadWord p) = 102
number_of (faults.NumberRange p) = 103
number_of (faults.Unexpected p) = 104
number_of (faults.End p) = 105
number_of (faults.Deep p) = 106
number_of (faults.LeftOut p n) = 107
number_of (faults.Fairness p) = 108
number_of (faults.Past p) = 109
number_of (faults.InvarSpec p) = 110
number_of (faults.LongName p) = 111
number_of (faults.NoMemory e) = 900

abbrev pub place_of : ParseFault → Option Place
place_of (faults.BadByte p) = Some p
place_of (faults.BadWord p) = Some p
place_of (faults.NumberRange p) = Some p
place_of (faults.Unexpected p) = Some p
place_of (faults.End p) = Some p
place_of (faults.Deep p) = Some p
place_of (faults.LeftOut p n) = Some p
place_of (faults.Fairness p) = Some p
place_of (faults.Past p) = Some p
place_of (faults.InvarSpec p) = Some p
place_of (faults.LongName p) = Some p
place_of (faults.NoMemory e) = None

-- the place of a refusal as it is written before what is said: line and column
abbrev pub placed : Option Place → List ℕ
placed None = []
placed (Some p) = (decimal p.line ++ codes ":") ++ (decimal p.column ++ codes ": ")

-- what a refusal says
abbrev pub said : ParseFault → List ℕ
said (faults.BadByte p) = codes "unexpected byte"
said (faults.BadWord p) = codes "bad word constant"
said (faults.NumberRange p) = codes "number out of range"
said (faults.Unexpected p) = codes "unexpected token"
said (faults.End p) = codes "unexpected end"
said (faults.Deep p) = codes "nested too deep"
said (faults.LeftOut p n) = n ++ codes " is left out"
said (faults.Fairness p) = codes "fairness is left out"
said (faults.Past p) = codes "past operator is left out"
said (faults.InvarSpec p) = codes "INVARSPEC is left out"
said (faults.LongName p) = codes "name longer than 255 bytes"
said (faults.NoMemory e) = codes "out of memory"

-- the text of a refusal behind its number: the place, where it names one, and what it says
abbrev pub fault_text : ParseFault → List ℕ
fault_text f = placed (place_of f) ++ said f
