use Rattle.std.proofs.Common.{refl, map}
use Rattle.smv_tree.specs.Trees.{expr_tree}
use Rattle.smv_tree.specs.Models.{bodies}
use Rattle.smv_modules.specs.Told.{row_of}
use Rattle.smv_names.proofs.ActualsMade.{given_on}
use Rattle.smv_names.proofs.resolver.Resolver.with_given.Goals as goal

pub returns : goal.returns
returns c =
    given_on (bodies c.args.p.now) c.args.number c.args.self c.requires.ready c.args.instances.now c.requires.rows (row_of c.instance-instance.result.now) c.instance-instance.ensures (map expr_tree c.actuals-actuals.result.now) c.in_ok-targets.targets.items c.actuals-actuals.ensures c.in_ok-targets.ensures
    (record { scopes = c.args.self.scopes; children = c.args.self.children; symbols = c.args.self.symbols; actuals = c.push.new.self })
    c.in_ok-targets.targets refl refl refl refl c.in_ok-push.ensures.items
