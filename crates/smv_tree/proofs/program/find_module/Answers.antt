use Rattle.std.proofs.Common.{sym, ◌∙◌}
use Rattle.std.specs.Str.{bytes_eq}
use Rattle.smv_tree.specs.Models.{body_of}
use Rattle.smv_tree.proofs.Positions.{position-map}
use Rattle.smv_tree.proofs.program.find_module.Goals as goal

pub returns : goal.returns
returns c = c.first_named.ensures ∙ sym (position-map (λ b. bytes_eq b.name c.args.name.now) body_of c.args.p.now.modules.items)
