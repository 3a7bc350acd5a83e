use Rattle.std.proofs.Common.{◌≡◌, [], sym, ◌∙◌}
use Rattle.std.proofs.lemmas.Result.{err_from_is_err_and, IfOk-weaker, IfErr-weaker}
use Rattle.smv_tree.specs.Models.{bodies}
use Rattle.type_fault.proofs.Firsts.{earliest_first, nothing_first}
use Rattle.smv_modules.specs.Declarations.{name_faults}
use Rattle.smv_modules.specs.Limits.{IsWithinLimits, IsLimitFault}
use Rattle.smv_modules.specs.Passes.{AreModulesRight, IsModuleFault, of_names, of_reached, of_limits, of_memory}
use Rattle.smv_modules.proofs.Passed.{none_reached, no_cycle}
use Rattle.smv_modules.proofs.check.check_modules.Goals as goal

pub returns-in_err-fault-clause-refused : goal.returns-in_err-fault-clause-refused
returns-in_err-fault-clause-refused c =
    let p = err_from_is_err_and c.from_residual.result c.from_residual.ensures.1 in
    rw p.1 (of_memory c.in_err-fault.field-0.0 p.2)

pub returns-in-Some-clause-refused : goal.returns-in-Some-clause-refused
returns-in-Some-clause-refused c =
    of_names (earliest_first (name_faults (bodies c.args.p.now)) c.in-Some.fault (sym c.in_ok-fault.ensures ∙ c.in-Some.is))

pub returns-in_err-fault-2-clause-refused : goal.returns-in_err-fault-2-clause-refused
returns-in_err-fault-2-clause-refused c =
    let p = err_from_is_err_and c.from_residual-in_err-fault-2.result c.from_residual-in_err-fault-2.ensures.1 in
    rw p.1 (of_memory c.in_err-fault-2.field-0.0 p.2)

pub returns-in-Some-2-clause-refused : goal.returns-in-Some-2-clause-refused
returns-in-Some-2-clause-refused c =
    let named : name_faults (bodies c.args.p.now) ≡ [] = nothing_first (name_faults (bodies c.args.p.now)) (sym c.in_ok-fault.ensures ∙ c.in_default.is) in
    let all = c.in_ok-fault-2.ensures in
    of_reached all.0 named all.1 (earliest_first all.0 c.in-Some-2.fault (sym all.2 ∙ c.in-Some-2.is))

pub of-requires : goal.of-requires
of-requires c =
    let program = bodies c.args.p.now in
    let all = c.in_ok-fault-2.ensures in
    no_cycle program (none_reached program all.0 all.1 (sym c.in_default-2.is ∙ all.2))

pub returns-clause-accepted : goal.returns-clause-accepted
returns-clause-accepted c =
    let program = bodies c.args.p.now in
    let named : name_faults program ≡ [] = nothing_first (name_faults program) (sym c.in_ok-fault.ensures ∙ c.in_default.is) in
    let all = c.in_ok-fault-2.ensures in
    let none = none_reached program all.0 all.1 (sym c.in_default-2.is ∙ all.2) in
    IfOk-weaker c.of.result (λ i. IsWithinLimits program) (λ i. AreModulesRight program) (λ i l. record { names = named; reached = none; limits = l }) c.of.ensures.within

pub returns-clause-refused : goal.returns-clause-refused
returns-clause-refused c =
    let program = bodies c.args.p.now in
    let named : name_faults program ≡ [] = nothing_first (name_faults program) (sym c.in_ok-fault.ensures ∙ c.in_default.is) in
    let all = c.in_ok-fault-2.ensures in
    let none = none_reached program all.0 all.1 (sym c.in_default-2.is ∙ all.2) in
    IfErr-weaker c.of.result (IsLimitFault program) (IsModuleFault program) (λ f l. of_limits named none l) c.of.ensures.refused
