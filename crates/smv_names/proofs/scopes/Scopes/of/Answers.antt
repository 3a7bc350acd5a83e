use Rattle.std.proofs.Common.{subst, sym}
use Rattle.std.specs.List.{AllZip}
use Rattle.smv_tree.specs.Models.{bodies}
use Rattle.smv_meaning.specs.Instances.{instances}
use Rattle.smv_names.specs.Ready.{IsModuleOf}
use Rattle.smv_names.proofs.TablesMade.{numbers_right}
use Rattle.smv_names.proofs.scopes.Scopes.of.Goals as goal

pub returns : goal.returns
returns c =
    let program = bodies c.args.p.now in
    record {
      modules = c.in_ok-modules.ensures;
      numbers = subst (AllZip (IsModuleOf program) (instances program)) (sym c.in_ok-module_numbers.ensures)
          (numbers_right program (instances program) c.args.instances.now (λ i h. h) c.requires);
    }
