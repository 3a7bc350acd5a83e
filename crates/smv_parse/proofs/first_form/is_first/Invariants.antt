use Rattle.std.proofs.Common.{◌≡◌, drop}
use Rattle.smv_parse.specs.FirstForm.{first_from, is_first}
use Rattle.smv_parse.proofs.first_form.is_first.Given as goal

abbrev pub invariant-loop-token : goal.invariant-loop-token
invariant-loop-token l = first_from l.stage (drop l.token-index l.tokens) ≡ is_first l.tokens
