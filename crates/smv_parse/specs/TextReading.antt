-- How whole texts are read, and what they then spell.
use Rattle.std.specs.Prelude.{List, Result, Ok, Err}
use Rattle.smv_tree.specs.Models.{Body, Claim}
use Rattle.smv_tree.specs.Trees.{Tree}
use Rattle.smv_token.specs.declared.token.Token.{Token}
use Rattle.smv_grammar.specs.Forms.{deepest}
use Rattle.smv_rules.specs.Reading.{Stop, all_read}
use Rattle.smv_rules.specs.Expressions.{expr}
use Rattle.smv_rules.specs.Programs.{program}
use Rattle.smv_rules.specs.Running.{run}
use Rattle.smv_rules.specs.PartTexts.{claim_of, formula, tree_of}

-- what was read, seen by a function
abbrev pub viewed : {X Y F : Type 0} → (X → Y) → Result X F → Result Y F
viewed f (Ok x) = Ok (f x)
viewed f (Err s) = Err s

-- the expression, the formula, the modules of all tokens
unfoldable pub expression_of : List Token → Result Tree Stop
expression_of ts = viewed tree_of (all_read (run deepest expr ts))

unfoldable pub formula_of : List Token → Result Claim Stop
formula_of ts = viewed claim_of (all_read (run deepest formula ts))

unfoldable pub modules_of : List Token → Result (List Body) Stop
modules_of ts = all_read (run deepest program ts)
