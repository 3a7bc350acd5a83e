use Rattle.std.proofs.Common.{◌≡◌, ◌≤◌, ◌∙◌, List, length, sym, ap, subst, arith, position}
use Rattle.std.specs.Prelude.{None, codes}
use Rattle.std.specs.Map.{lookup}
use Rattle.std.specs.Str.{bytes_eq}
use Rattle.smv_tree.specs.Models.{bodies}
use Rattle.smv_modules.specs.declared.nodes.Node.{Node}
use Rattle.smv_modules.specs.Nodes.{AreNodes}
use Rattle.smv_modules.proofs.Listing.{none_without_main}
use Rattle.smv_modules.proofs.nodes.tree_nodes.Goals as goal

pub returns : goal.returns
returns c =
    let program = bodies c.args.p.now in
    let none : position (λ b. bytes_eq b.name (codes "main")) program ≡ None =
    sym (c.in_ok-numbers.ensures (codes "main")) ∙ (ap (λ n. lookup (bytes_eq n) c.in_ok-numbers.numbers) (sym c.as_slice.ensures) ∙ sym c.in-None.ensures) in (
      subst (AreNodes program) (sym c.new.ensures.items) (none_without_main program none),
      subst (λ (xs : List Node). length xs ≤ 100000) (sym c.new.ensures.items) (omega arith),
    )
