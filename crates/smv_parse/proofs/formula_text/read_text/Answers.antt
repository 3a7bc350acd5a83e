use Rattle.std.proofs.Common.{Result, subst}
use Rattle.smv_tree.specs.Models.{Claim, formula_claim}
use Rattle.smv_grammar.specs.declared.fault.ParseFault.{ParseFault}
use Rattle.smv_rules.specs.Verdicts.{Answers}
use Rattle.smv_rules.proofs.Judging.{judged_so}
use Rattle.smv_parse.specs.TextReading.{formula_of}
use Rattle.smv_parse.proofs.formula_text.read_text.Goals as goal

pub returns : goal.returns
returns c =
    let P : Result Claim ParseFault → Type 0 = λ r. Answers formula_claim c.judge.result r in
    subst P (judged_so formula_of c.args.bytes.now c.in_ok-text.text.tokens.items c.in_ok-text.text.stop c.in_ok-text.text.end c.in_ok-text.ensures.tokens c.in_ok-text.ensures.end) c.judge.ensures
