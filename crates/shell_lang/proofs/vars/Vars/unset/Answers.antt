use Rattle.std.proofs.Common.{sym}
use Rattle.shell_lang.proofs.Settling.{default-legal, free-known, free-unknown, removed-settled, set-settled}
use Rattle.shell_lang.proofs.vars.Vars.unset.Goals as goal

pub invariant_of-self : goal.invariant_of-self
invariant_of-self c = (
  c.self.invariant.0,
  c.self.invariant.1,
  set-settled _ _ c.as_slice-in-Some-default.result.now c.in-Some-default.value.now c.self.invariant.2 c.in_ok-put-in-Some-default.ensures.changes
      (default-legal c.in-Some.known c.as_slice-in-Some-default.result.now _ (sym (rw (c.as_slice.ensures, ← c.as_slice-in-Some-default.ensures) at c.in-Some.ensures)) (sym c.in-Some-default.ensures)),
)

pub invariant_of-self-in-None-default : goal.invariant_of-self-in-None-default
invariant_of-self-in-None-default c = (
  c.self.invariant.0,
  c.self.invariant.1,
  removed-settled _ _ c.args.name.now c.self.invariant.2 c.remove.ensures.updates.0
      (free-known c.args.name.now c.in-Some.known (sym (rw c.as_slice.ensures at c.in-Some.ensures)) (sym c.in-None-default.ensures)),
)

pub invariant_of-self-else-is_none : goal.invariant_of-self-else-is_none
invariant_of-self-else-is_none c = (
  c.self.invariant.0,
  c.self.invariant.1,
  removed-settled _ _ c.args.name.now c.self.invariant.2 c.remove-in-None.ensures.updates.0 (free-unknown c.args.name.now (sym (rw c.as_slice.ensures at c.in-None.ensures))),
)
