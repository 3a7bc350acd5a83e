use Rattle.smv_meaning.specs.Rows.{Row}
use Rattle.smv_modules.specs.Told.{row_of}
use Rattle.smv_names.proofs.TablesMade.{map_on}
use Rattle.smv_names.proofs.scopes.module_numbers.Goals as goal

pub loop-n-preserved : goal.loop-n-preserved
loop-n-preserved c =
    map_on (λ (row : Row). row.module_number) c.args.instances.now c.loop-n.n (row_of c.instance.result.now) c.loop-n.numbers.items c.push.new.self.items c.instance.ensures c.loop-n.invariant c.in_ok-push.ensures.items
