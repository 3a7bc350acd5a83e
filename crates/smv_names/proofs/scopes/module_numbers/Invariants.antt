use Rattle.std.proofs.Common.{◌≡◌, map, take}
use Rattle.smv_meaning.specs.Rows.{Row}
use Rattle.smv_names.proofs.scopes.module_numbers.Given as goal

abbrev pub invariant-loop-n : goal.invariant-loop-n
invariant-loop-n l = l.numbers.items ≡ map (λ (row : Row). row.module_number) (take l.n l.instances)
