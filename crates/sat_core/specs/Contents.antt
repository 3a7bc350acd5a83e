-- What callers see of a solver.
use Rattle.std.specs.Prelude.{ℕ, List}
use Rattle.sat_log.specs.declared.line.LogLine.{LogLine}

-- how many variables a solver has, and its log
pub record Contents : Type 0 where
  pub variables : ℕ
  pub log : List LogLine
