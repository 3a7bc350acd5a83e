-- What whole texts spell by the plain rules, and why a text spells nothing.
use Rattle.std.specs.Prelude.{ℕ, List, []}
use Rattle.smv_tree.specs.Models.{Body}
use Rattle.smv_token.specs.declared.token.Token.{Token}
use Rattle.smv_grammar.specs.declared.fault.ParseFault.{ParseFault}
use Rattle.smv_grammar.specs.Explaining.{ExplainsText, SpellsText}
use Rattle.smv_grammar.specs.Forms.{deepest}
use Rattle.smv_rules.specs.Sorts.{Gift, Sort}
use Rattle.smv_rules.specs.Rules.{Rule}
use Rattle.smv_rules.specs.Programs.{program}
use Rattle.smv_rules.specs.Follows.{by_token, plain, Follows, Leads, anywhere, at_depth}

-- all tokens are what the rule says
abbrev pub IsAll : {s : Sort} → Rule s → List Token → Gift s → Type 0
IsAll {s} r ts x = Follows plain deepest s r ts [] x

-- the text spells what the rule gives
abbrev pub SpellsBy : {s : Sort} → Rule s → List ℕ → Gift s → Type 0
SpellsBy r bytes x = SpellsText (IsAll r) bytes x

-- Why a text spells nothing by the rule. It gets too deep at the end of a part, and the next token tells
-- where a part ends.
abbrev pub ExplainsBy : {s : Sort} → Rule s → List ℕ → ParseFault → Type 0
ExplainsBy {s} r bytes f = ExplainsText (IsAll r) (Leads plain anywhere deepest s r) (Leads by_token at_depth deepest s r) bytes f

-- the text spells these modules
abbrev pub SpellsProgram : List ℕ → List Body → Type 0
SpellsProgram bytes ms = SpellsBy program bytes ms

-- why a text spells no program
abbrev pub ExplainsProgram : List ℕ → ParseFault → Type 0
ExplainsProgram bytes f = ExplainsBy program bytes f
