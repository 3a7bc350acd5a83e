use Rattle.std.proofs.Common.{◌∙◌, sym, ap}
use Rattle.std.specs.Prelude.{codes}
use Rattle.std.specs.Map.{lookup}
use Rattle.std.specs.Str.{bytes_eq}
use Rattle.smv_tree.specs.Models.{bodies}
use Rattle.smv_graph.specs.Graph.{IsNumbered}
use Rattle.smv_modules.proofs.Reached.{all_reached}
use Rattle.smv_modules.proofs.references.reached_numbers.Goals as goal

pub returns-in_ok-insert-in-Some : goal.returns-in_ok-insert-in-Some
returns-in_ok-insert-in-Some c =
    let numbered : IsNumbered (bodies c.args.p.now) (codes "main") c.in-Some.main =
    sym (c.requires (codes "main")) ∙ (ap (λ n. lookup (bytes_eq n) c.args.numbers.now) (sym c.as_slice.ensures) ∙ sym c.in-Some.ensures) in
    all_reached (bodies c.args.p.now) c.in_ok-graph-in-Some.graph c.in-Some.main c.in_ok-reached-in-Some.reached.keys c.insert.new.self.keys c.in_ok-graph-in-Some.ensures numbered c.in_ok-reached-in-Some.ensures c.in_ok-insert-in-Some.ensures.keys
