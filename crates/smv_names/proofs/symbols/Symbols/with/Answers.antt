use Rattle.smv_names.proofs.Gaining.{gained_one}
use Rattle.smv_names.proofs.symbols.Symbols.with.Goals as goal

pub returns : goal.returns
returns c =
    gained_one (λ n. n.items) c.self.inside.names.keys c.insert.new.self.keys c.in_ok-from_slice.field-0 c.args.name.now c.args.self c.self.view_is c.in_ok-from_slice.ensures.items c.in_ok-insert.ensures.keys
