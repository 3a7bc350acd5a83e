use Rattle.smv_tree.specs.Models.{body_of}
use Rattle.smv_names.specs.Ready.{AreNamesOf}
use Rattle.smv_names.proofs.TablesMade.{zip_on}
use Rattle.smv_names.proofs.scopes.all_names.Goals as goal

pub loop-one-preserved : goal.loop-one-preserved
loop-one-preserved c =
    zip_on AreNamesOf body_of c.deref-one-items.result.now c.loop-one.one-index c.one-item.result c.loop-one.all.items c.push.new.self.items c.in_ok-names.names c.loop-one-test.true c.one-item.is c.in_ok-push.ensures.items c.in_ok-names.ensures c.loop-one.invariant
