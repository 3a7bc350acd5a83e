-- What the code hands on of formulas, as the rules give it.
use Rattle.std.specs.Prelude.{List}
use denote.Ref.{Bor}
use Rattle.smv_tree.specs.Models.{Claim, after, always, formula_claim, no, some_time}
use Rattle.smv_token.specs.declared.token.Token.{Token}
use Rattle.smv_grammar.specs.Formulas as start
use Rattle.smv_rules.specs.Sorts.{Formula}
use Rattle.smv_formula_reader.specs.declared.formulas.ParsedFormula.{ParsedFormula}
use Rattle.smv_formula_reader.specs.declared.groups.Prefix.{Prefix}
use Rattle.smv_formula_reader.specs.declared.groups.Prefix.TheVariants as prefix
use Rattle.smv_formula_reader.specs.declared.groups.Start.{Start}
use Rattle.smv_formula_reader.specs.declared.groups.Start.TheVariants as begins

abbrev pub formula_of : ParsedFormula → Formula
formula_of x = record { claim = formula_claim x.formula; depth = x.depth }

-- a formula, and the tokens behind it
abbrev pub found_formula : ParsedFormula × Bor (List Token) → Formula × List Token
found_formula x = (formula_of x.0, x.1.now)

abbrev pub applied : Prefix → Claim → Claim
applied prefix.Not = no
applied prefix.Next = after
applied prefix.Always = always
applied prefix.Eventually = some_time

abbrev pub start_seen : Start → start.Start
start_seen (begins.Before p) = start.before_operand (applied p)
start_seen begins.Bracket = start.bracket
start_seen begins.Atom = start.of_atom
