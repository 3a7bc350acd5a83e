-- Each operator has a line, and the line meets its definition.
use Rattle.std.proofs.Common.{◌≡◌, true, false, ap, sym, ◌∙◌}
use Rattle.std.specs.Prelude.{is_some}
use Rattle.smv_kinds.proofs.Lines.{one_has_line}
use Rattle.smv_kinds.proofs.Meets.{one_met}
use Rattle.smv_kinds.proofs.operators.one_typing.Goals as goal

pub unreachable-requires : goal.unreachable-requires
unreachable-requires c = let none : false ≡ true = ap is_some c.in-None.ensures ∙ one_has_line c.args.operator in cc

pub returns : goal.returns
returns c = c.typing.ensures ∙ one_met c.args.operator c.in-Some.line c.args.operand (sym c.find.ensures ∙ c.in-Some.is)
