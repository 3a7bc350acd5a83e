use Rattle.std.proofs.Common.{◌∙◌, sym, ap}
use Rattle.std.specs.Prelude.{Some}
use Rattle.std.specs.Map.{lookup}
use Rattle.std.specs.Str.{bytes_eq}
use Rattle.smv_tree.specs.Models.{bodies}
use Rattle.smv_graph.specs.Graph.{IsNumbered}
use Rattle.smv_modules.proofs.Counting.{count_some, count_none}
use Rattle.smv_modules.proofs.references.parameter_count.Goals as goal

pub returns-in-Some : goal.returns-in-Some
returns-in-Some c =
    let numbered : IsNumbered (bodies c.args.p.now) c.args.name.now c.in-Some.number =
    sym (c.requires c.args.name.now) ∙ (ap (λ n. lookup (bytes_eq n) c.args.numbers.now) (sym c.as_slice.ensures.bytes) ∙ sym c.in-Some.ensures) in
    let count = count_some c.args.p.now.modules.items c.args.name.now c.in-Some.number c.module_at.result.now numbered c.module_at.ensures in
    ap Some c.arity.ensures ∙ count

pub returns-in-None : goal.returns-in-None
returns-in-None c =
    count_none (bodies c.args.p.now) c.args.name.now
    (sym (c.requires c.args.name.now) ∙ (ap (λ n. lookup (bytes_eq n) c.args.numbers.now) (sym c.as_slice.ensures.bytes) ∙ sym c.in-None.ensures))
