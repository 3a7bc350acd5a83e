use Rattle.std.proofs.Common.{refl}
use Rattle.smv_modules.proofs.example.names_are_declared_twice.Goals as goal

pub returns : goal.returns
returns c = record { empty = refl; variable = refl; both = refl }
