use Rattle.std.proofs.Common.{length, ap, subst, arith}
use Rattle.smv_tree.specs.Models.{bodies}
use Rattle.smv_meaning.specs.Instances.{instances}
use Rattle.smv_meaning.specs.Rows.{IsRow}
use Rattle.smv_names.specs.Ready.{IsReadyBelow}
use Rattle.smv_names.proofs.TablesMade.{children_are}
use Rattle.std.proofs.lemmas.Slice.Zip.{AllZip-long}
use Rattle.smv_names.proofs.resolver.Resolver.of.Goals as goal

pub loop-number-init : goal.loop-number-init
loop-number-init c =
    let program = bodies c.args.p.now in
    record {
      whole = c.requires.whole;
      scopes = c.in_ok-scopes.ensures;
      children = children_are program c.in_ok-scopes.scopes c.in_ok-scopes.ensures c.requires.whole c.args.instances.now c.requires.rows c.in_ok-children.children.entries c.in_ok-children.ensures;
      symbols = c.in_ok-symbols.ensures;
      counted = ap length c.new.ensures.items;
      actuals = λ n k i e l. absurd (omega arith);
    }

pub returns : goal.returns
returns c =
    let program = bodies c.args.p.now in
    let rows = AllZip-long (IsRow program) (instances program) c.args.instances.now c.requires.rows in
    subst (λ n. IsReadyBelow program n c.loop-number.resolver) (omega (arith, rows, c.loop-number-test.false, c.loop-number.auto.number-end, c.instance_count-number-end.ensures)) c.loop-number.invariant
