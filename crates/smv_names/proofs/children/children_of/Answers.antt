use Rattle.std.proofs.Common.{subst}
use Rattle.smv_modules.specs.Told.{row_of}
use Rattle.smv_names.specs.Declaring.{IsEntered}
use Rattle.smv_names.proofs.TablesMade.{entered_on}
use Rattle.smv_names.proofs.children.children_of.Goals as goal

pub loop-number-preserved : goal.loop-number-preserved
loop-number-preserved c =
    entered_on c.args.scopes.now c.args.instances.now c.loop-number.number (row_of c.instance.result.now) c.loop-number.children.entries c.in_ok-children.children.entries c.instance.ensures c.loop-number.invariant
    (subst (λ o. IsEntered c.loop-number.children.entries o c.loop-number.number c.in_ok-children.children.entries) c.declaration-declaration.ensures c.in_ok-children.ensures)
