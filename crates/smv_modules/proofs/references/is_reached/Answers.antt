use Rattle.std.proofs.Common.{◌≡◌, ◌∙◌, sym, ap}
use Rattle.std.specs.Prelude.{None, Some, position}
use Rattle.std.specs.Map.{lookup}
use Rattle.std.specs.Str.{bytes_eq}
use Rattle.smv_tree.specs.Models.{bodies, body_of}
use Rattle.smv_meaning.proofs.Lists.{slice_get-map}
use Rattle.smv_graph.specs.Graph.{IsNumbered}
use Rattle.smv_graph.proofs.Queues.{has_tells}
use Rattle.smv_modules.proofs.Reached.{number_reached, reached_number, declared_numbered, contained_at}
use Rattle.smv_modules.proofs.references.is_reached.Goals as goal

pub returns-in-Some : goal.returns-in-Some
returns-in-Some c =
    let program = bodies c.args.p.now in
    let name = c.args.one.now.name in
    let number = c.in-Some.number in
    let numbered : IsNumbered program name number =
    sym (c.requires.numbers name) ∙ (ap (λ n. lookup (bytes_eq n) c.args.numbers.now) (sym c.as_slice.ensures.bytes) ∙ sym c.in-Some.ensures) in
    let tells = has_tells c.args.reached.now.keys number c.contains.result c.contains.ensures in
    let reached = c.requires.reached number in
    (λ h. number_reached program name number numbered (reached.0 (tells.0 h)), λ r. tells.1 (reached.1 (reached_number program name number numbered r)))

pub returns-in-None : goal.returns-in-None
returns-in-None c =
    let program = bodies c.args.p.now in
    let name = c.args.one.now.name in
    let at = contained_at c.args.p.now.modules.items c.args.one.now c.requires.listed in
    let numbered = declared_numbered program at.0 (body_of c.args.one.now) (slice_get-map body_of c.args.p.now.modules.items at.0 c.args.one.now at.1) in
    let there : position (λ b. bytes_eq b.name name) program ≡ Some numbered.0 = numbered.1 in
    let none : position (λ b. bytes_eq b.name name) program ≡ None =
    sym (c.requires.numbers name) ∙ (ap (λ n. lookup (bytes_eq n) c.args.numbers.now) (sym c.as_slice.ensures.bytes) ∙ sym c.in-None.ensures) in
    absurd (cc)
