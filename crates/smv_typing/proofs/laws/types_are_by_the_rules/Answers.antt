use Rattle.smv_typing.proofs.ByRules.{rules_hold, rules_found, one_type}
use Rattle.smv_typing.proofs.laws.types_are_by_the_rules.Goals as goal

pub returns-clause-rules : goal.returns-clause-rules
returns-clause-rules c = λ names s e t. (rules_found names s e t, rules_hold names {scope = s} {e = e} {t = t})

pub returns-clause-unique : goal.returns-clause-unique
returns-clause-unique c = one_type
