use Rattle.std.proofs.Common.{IfSome, sym, ◌∙◌, subst}
use Rattle.gates.specs.Nodes.{Belongs}
use Rattle.gates.proofs.Meaning.{conjunction-lookup, conjunction_belongs}
use Rattle.gates.proofs.graph.Gates.find.Goals as goal

pub returns-in-None-clause-value : goal.returns-in-None-clause-value
returns-in-None-clause-value c =
    rw (← c.self.view_is)
    (conjunction-lookup c.self.inside.nodes.items c.args.a c.args.b _ _ c.self.inside.pairs.entries c.copied.result
    c.self.invariant.1 c.in_order.ensures.first c.in_order.ensures.second c.in-None.ensures (c.copied.ensures ∙ c.get.ensures.value))

pub returns-in-None-clause-belongs : goal.returns-in-None-clause-belongs
returns-in-None-clause-belongs c =
    let e = conjunction-lookup c.self.inside.nodes.items c.args.a c.args.b _ _ c.self.inside.pairs.entries c.copied.result
    c.self.invariant.1 c.in_order.ensures.first c.in_order.ensures.second c.in-None.ensures (c.copied.ensures ∙ c.get.ensures.value) in
    rw (← c.self.view_is) (subst (λ r. IfSome r (Belongs c.self.inside.nodes.items)) (sym e) (conjunction_belongs c.self.inside.nodes.items c.args.a c.args.b (rw c.self.view_is c.requires.first) (rw c.self.view_is c.requires.second)))
