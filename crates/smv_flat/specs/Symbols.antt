use Rattle.std.specs.Prelude.{ℕ, List, []}
use Rattle.smv_tree.specs.declared.value.Value.{Value}
use Rattle.smv_tree.specs.declared.value.Value.TheVariants.{Sym}

-- the name of a value that is a symbol
abbrev pub symbol_name : Value → List ℕ
symbol_name (Sym n) = n
symbol_name v = []
