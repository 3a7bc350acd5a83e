-- What is nested, by its rule.
use Rattle.smv_rules.specs.Rules.{Part, Rule, expression, formula, inside, bits}
use Rattle.smv_rules.specs.Sorts.{Sort}
use Rattle.smv_rules.specs.Expressions.{level, nested, selecting}
use Rattle.smv_rules.specs.Formulas.{formula_level}

unfoldable pub table : {s : Sort} → Part s → Rule s
table (expression l) = level l
table (formula l) = formula_level l
table (inside o p) = nested o p
table (bits a p) = selecting a p
