-- What a search leaves, and what it means over gates.
use Rattle.std.proofs.Common.{◌≡◌, ◌≢◌, ◌≤◌, ◌+◌, List, [], ◌∷◌, ◌++◌, length, refl, sym, ap, subst, ◌∙◌}
use Rattle.std.specs.Prelude.{option_to_list}
use Rattle.std.proofs.lemmas.List.{append-nil}
use Rattle.gates.specs.declared.node.Node.{Node}
use Rattle.sat_log.specs.Accepted.{given, originals, IsLog}
use Rattle.sat_log.specs.declared.line.LineKind.{LineKind}
use Rattle.sat_log.specs.declared.line.LineKind.TheVariants.{Original, Conflict, Final}
use Rattle.sat_log.specs.declared.line.LogLine.{LogLine}
use Rattle.sat_core.specs.Contents.{Contents as SolverContents}
use Rattle.sat_core.specs.Gained.{gained, IsLonger, HasNoOriginal}
use Rattle.sat_link.specs.Contents.{KeepsClauses}
use Rattle.sat_link.proofs.Adding.{originals-append}

no_originals : (lines : List LogLine) → HasNoOriginal lines → originals lines ≡ []
no_originals [] h = refl
no_originals (line ∷ lines) h = ap (λ cs. cs ++ originals lines) (by line.kind h.0) ∙ no_originals lines h.1
  where
    by : (kind : LineKind) → kind ≢ Original → option_to_list (given kind line.lits) ≡ []
    by Original other = absurd (other refl)
    by Conflict other = refl
    by Final other = refl

same_originals : (old new : List LogLine) → IsLonger old new → HasNoOriginal (gained old new) → originals new ≡ originals old
same_originals old new longer none =
    ap originals longer ∙ originals-append old (gained old new) ∙ ap (λ cs. originals old ++ cs) (no_originals (gained old new) none) ∙ append-nil (originals old)

pub keeps_searched : (nodes : List Node) (old solver : SolverContents) → KeepsClauses nodes old → solver.variables ≡ old.variables → IsLonger old.log solver.log → HasNoOriginal (gained old.log solver.log) → IsLog solver.log → KeepsClauses nodes solver
keeps_searched nodes old solver k variables longer none log = record {
  placed = k.placed;
  variables = subst (λ n. length nodes ≤ n) (sym variables) k.variables;
  spare = subst (λ n. n ≤ length nodes + 1) (sym variables) k.spare;
  is_log = log;
  clauses = same_originals old.log solver.log longer none ∙ k.clauses;
}
