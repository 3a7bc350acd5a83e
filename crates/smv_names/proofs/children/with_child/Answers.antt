use Rattle.std.proofs.Common.{sym, subst}
use Rattle.smv_names.specs.Declaring.{IsEntered}
use Rattle.smv_names.proofs.children.with_child.Goals as goal

pub returns : goal.returns
returns c =
    subst (λ o. IsEntered c.args.children.entries o c.args.number c.insert.new.self.entries) (sym c.in-Some.is)
    (λ n k. c.in_ok-insert.ensures.updates.0 (n, k))
