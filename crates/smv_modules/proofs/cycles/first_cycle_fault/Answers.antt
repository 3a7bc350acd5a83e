use Rattle.std.proofs.Common.{sym, subst}
use Rattle.std.specs.Prelude.{Contains, MatchOption}
use Rattle.smv_tree.specs.Models.{bodies}
use Rattle.smv_meaning.specs.Walks.{IsOnCycle}
use Rattle.smv_meaning.specs.FirstCycles.{IsFirstCycle}
use Rattle.smv_meaning.specs.ModuleCycles.{HasModuleCycle}
use Rattle.smv_graph.specs.Graph.{Leads}
use Rattle.smv_graph.specs.Choices.{GoesBefore}
use Rattle.smv_graph.specs.declared.choice.StepOrder.TheVariants.{ByNumber}
use Rattle.smv_modules.specs.Contained.{IsFirstContained}
use Rattle.smv_modules.specs.CycleFaults.{TellsOf}
use Rattle.smv_modules.proofs.NamedCycles.{contained_cycle, cycle_within, cycle_told}
use Rattle.smv_modules.proofs.cycles.first_cycle_fault.Goals as goal

pub told_cycle-requires-clause-between : goal.told_cycle-requires-clause-between
told_cycle-requires-clause-between c b h =
    let program = bodies c.args.p.now in
    let graph = c.in_ok-graph.graph in
    let k = c.in-Some.number in
    let cycle = subst (λ o. MatchOption o (¬ IsOnCycle (Leads graph) k) (λ v. IsFirstCycle (Leads graph) (GoesBefore ByNumber graph) k v.items)) c.in-Some-2.is c.in_ok-between.ensures in
    cycle_within program graph k c.in-Some-2.between.items c.in_ok-graph.ensures cycle b (subst (λ xs. Contains xs b) c.as_slice.ensures.value h)

pub unreachable-requires : goal.unreachable-requires
unreachable-requires c =
    let program = bodies c.args.p.now in
    let graph = c.in_ok-graph.graph in
    let k = c.in-Some.number in
    let none = subst (λ o. MatchOption o (¬ IsOnCycle (Leads graph) k) (λ v. IsFirstCycle (Leads graph) (GoesBefore ByNumber graph) k v.items)) c.in-None.is c.in_ok-between.ensures in
    let first = subst (λ o. MatchOption o (¬ HasModuleCycle program) (IsFirstContained program)) c.in-Some.is c.in_ok-number.ensures in
    none (subst (λ g. IsOnCycle (Leads g) k) (sym c.in_ok-graph.ensures) (contained_cycle program k first))

pub returns : goal.returns
returns c =
    let program = bodies c.args.p.now in
    let graph = c.in_ok-graph.graph in
    let k = c.in-Some.number in
    let between = c.in-Some-2.between.items in
    let cycle = subst (λ o. MatchOption o (¬ IsOnCycle (Leads graph) k) (λ v. IsFirstCycle (Leads graph) (GoesBefore ByNumber graph) k v.items)) c.in-Some-2.is c.in_ok-between.ensures in
    let first = subst (λ o. MatchOption o (¬ HasModuleCycle program) (IsFirstContained program)) c.in-Some.is c.in_ok-number.ensures in
    cycle_told program k between c.in_ok-told_cycle-in-Some-2.field-0 first
    (subst (λ g. IsFirstCycle (Leads g) (GoesBefore ByNumber g) k between) c.in_ok-graph.ensures cycle)
    (subst (λ xs. TellsOf program k xs c.in_ok-told_cycle-in-Some-2.field-0) c.as_slice.ensures.value c.in_ok-told_cycle-in-Some-2.ensures)
