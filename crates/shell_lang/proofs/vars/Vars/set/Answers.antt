use Rattle.std.proofs.Common.{sym, ◌∙◌}
use Rattle.shell_lang.proofs.Settling.{set-settled}
use Rattle.shell_lang.proofs.vars.Vars.set.Goals as goal

pub invariant_of-self-2 : goal.invariant_of-self-2
invariant_of-self-2 c = (
  c.self.invariant.0,
  c.self.invariant.1,
  set-settled _ _ c.as_slice-3.result.now c.as_slice-4.result.now c.self.invariant.2 c.in_ok-put.ensures.changes
      (rw (c.as_slice-3.ensures, c.as_slice-4.ensures) (rw (c.as_slice.ensures, c.as_slice-2.ensures) at (sym c.is_illegal.ensures ∙ c.if-is_illegal.false))),
)
