use Rattle.std.proofs.Common.{ap, ◌∙◌, flat_map, arith}
use Rattle.std.proofs.lemmas.List.{take_all}
use Rattle.std.proofs.lemmas.Slice.Zip.{AllZip-long}
use Rattle.smv_tree.specs.Models.{bodies}
use Rattle.smv_meaning.specs.Instances.{instances}
use Rattle.type_fault.specs.First.{earliest}
use Rattle.smv_names.specs.UnknownNames.{is_known_by, is_assignable_by, unknown_in_part, unknown_at}
use Rattle.smv_names.specs.Ready.{IsModuleOf}
use Rattle.smv_names.proofs.Unknowns.{none_first}
use Rattle.smv_names.proofs.Resolving.{in_list}
use Rattle.smv_names.proofs.KnownNames.{faults_on, unknown_same}
use Rattle.smv_names.proofs.unknown_names.first_unknown_name.Goals as goal

pub loop-number-init : goal.loop-number-init
loop-number-init c = none_first

pub loop-number-preserved : goal.loop-number-preserved
loop-number-preserved c =
    let program = bodies c.args.p.now in
    let r = c.args.resolver.now in
    let n = c.loop-number.number in
    let all = instances program in
    let long = AllZip-long (IsModuleOf program) all r.scopes.module_numbers.items c.requires.scopes.numbers in
    let i = in_list all n (omega (arith, long, c.loop-number-test.true, c.instance_count-number-end.ensures)) in
    let parts = ap (flat_map (unknown_in_part (is_known_by r n) (is_assignable_by r n))) c.items_at-items.ensures ∙ unknown_same program r c.requires n i.0 i.1 in
    faults_on (unknown_at program) all n i.0 c.loop-number.first c.in_ok-unknown_in_items.field-0 c.earlier-first.result i.1 c.loop-number.invariant (c.in_ok-unknown_in_items.ensures ∙ ap earliest parts) c.earlier-first.ensures

pub returns : goal.returns
returns c =
    let program = bodies c.args.p.now in
    let all = instances program in
    let long = AllZip-long (IsModuleOf program) all c.args.resolver.now.scopes.module_numbers.items c.requires.scopes.numbers in
    c.loop-number.invariant ∙ ap (λ xs. earliest (flat_map (unknown_at program) xs)) (take_all c.loop-number.number all (omega (arith, long, c.loop-number-test.false, c.instance_count-number-end.ensures)))
