use Rattle.std.proofs.Common.{◌≡◌, ◌∷◌, ◌++◌, ◌∙◌, [], map, ap}
use Rattle.std.specs.Prelude.{Some, slice_get}
use Rattle.smv_tree.specs.Models.{bodies, body_of}
use Rattle.smv_meaning.specs.Instances.{list_of}
use Rattle.smv_meaning.proofs.Lists.{slice_get-map}
use Rattle.type_fault.specs.declared.fault.TypeFault.TheVariants as faults
use Rattle.smv_modules.specs.CycleFaults.{name_of}
use Rattle.smv_modules.proofs.cycles.told_cycle.Goals as goal

pub returns : goal.returns
returns c =
    let program = bodies c.args.p.now in
    let one = body_of c.module_at.result.now in
    let there : slice_get program c.args.number ≡ Some one = slice_get-map body_of c.args.p.now.modules.items c.args.number c.module_at.result.now c.module_at.ensures in
    let name : name_of program c.args.number ≡ one.name = ap (list_of (λ b. b.name)) there in
    (one, there, ap (λ ns. faults.Contains one.place ns) (c.in_ok-names.ensures ∙ ap (λ n. n ∷ (map (name_of program) c.args.between.now ++ n ∷ [])) name))
