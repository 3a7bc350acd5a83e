-- What callers see of a kept solver, and what it keeps.
use Rattle.std.specs.Prelude.{◌≡◌, ◌≤◌, ◌<◌, ◌+◌, ℕ, max, List, ◌++◌, length}
use Rattle.std.specs.List.{AllByRecursion}
use Rattle.gates.specs.declared.node.Node.{Node}
use Rattle.gates.specs.Nodes.{node_at, StandsAt, Grows}
use Rattle.sat_log.specs.Accepted.{originals, IsLog}
use Rattle.sat_log.specs.declared.line.LineKind.TheVariants.{Original}
use Rattle.sat_log.specs.declared.line.LogLine.{LogLine}
use Rattle.sat_core.specs.Contents.{Contents as SolverContents}
use Rattle.sat_link.specs.Encoding.{definitions}

-- How many variables the solver has, the nodes that have their clauses, and the log. Each of these
-- nodes has a variable. After want of memory there may be one more, which the next node gets.
pub record Contents : Type 0 where
  pub variables : ℕ
  pub nodes : List Node
  pub log : List LogLine

-- The log is one, its originals are just the clauses of the nodes, and there is a variable for each
-- node, or one more.
pub record HasDefinitions (kept : Contents) : Type 0 where
  pub enough : length kept.nodes ≤ kept.variables
  pub spare : kept.variables ≤ length kept.nodes + 1
  pub is_log : IsLog kept.log
  pub clauses : originals kept.log ≡ definitions kept.nodes

-- Each node stands where it may and has a variable, beside which there is at most one more, and the
-- originals are just the clauses of the nodes.
pub record KeepsClauses (nodes : List Node) (solver : SolverContents) : Type 0 where
  pub placed : (n : ℕ) → n < length nodes → StandsAt n (node_at nodes n)
  pub variables : length nodes ≤ solver.variables
  pub spare : solver.variables ≤ length nodes + 1
  pub is_log : IsLog solver.log
  pub clauses : originals solver.log ≡ definitions nodes

-- the new lines are the old ones, with originals behind them
pub record AddsOriginals (old new : List LogLine) : Type 0 where
  pub added : List LogLine
  pub longer : new ≡ old ++ added
  pub all_originals : AllByRecursion (λ line. line.kind ≡ Original) added

-- More of the gates' nodes have their clauses, there may be more variables, up to the number of the
-- gates' nodes, and the log gained only originals.
pub record GrowsTowards (gates : List Node) (old new : Contents) : Type 0 where
  pub grown : Grows old.nodes new.nodes
  pub prefix : Grows new.nodes gates
  pub no_fewer : old.variables ≤ new.variables
  pub no_more : new.variables ≤ max old.variables (length gates)
  pub log : AddsOriginals old.log new.log
