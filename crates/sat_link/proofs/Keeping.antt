-- What a kept solver keeps, from one node to the next.
use Rattle.std.proofs.Common.{◌≡◌, ◌≢◌, ◌≤◌, ◌<◌, ◌+◌, ◌^◌, ℕ, max, suc, List, [], ◌∷◌, ◌++◌, length, map, sym, ap, subst, ◌∙◌, append_assoc, ⊎_elim, arith}
use Rattle.std.specs.List.{AllByRecursion}
use Rattle.std.proofs.lemmas.List.{append-nil, length_push, get_or_append_left, get_or_push}
use Rattle.std.proofs.lemmas.Bool.{cases_lt}
use Rattle.gates.specs.declared.node.Node.{Node}
use Rattle.gates.specs.declared.node.Node.TheVariants.{True, Input, And}
use Rattle.gates.specs.Nodes.{StandsAt}
use Rattle.sat_log.specs.Clause.{AreLiterals}
use Rattle.sat_log.specs.Accepted.{originals, IsLog}
use Rattle.sat_log.specs.Lines.{original, AreProper}
use Rattle.sat_core.specs.Contents.{Contents as SolverContents}
use Rattle.sat_link.specs.Encoding.{clauses_of, clauses_from, definitions}
use Rattle.sat_link.specs.Contents.{KeepsClauses}
use Rattle.sat_link.proofs.Adding.{originals-added, log-added}

-- The clauses of more nodes.

pub clauses_from-append : (n : ℕ) (nodes more : List Node) → clauses_from n (nodes ++ more) ≡ clauses_from n nodes ++ clauses_from (n + length nodes) more
clauses_from-append n [] more = let e : n ≡ n + 0 = omega arith in ap (λ m. clauses_from m more) e
clauses_from-append n (y ∷ nodes) more =
    let e : n + 1 + length nodes ≡ n + suc (length nodes) = omega arith in
    ap (λ cs. clauses_of n y ++ cs) (clauses_from-append (n + 1) nodes more ∙ ap (λ m. clauses_from (n + 1) nodes ++ clauses_from m more) e)
    ∙ sym (append_assoc (clauses_of n y) (clauses_from (n + 1) nodes) (clauses_from (n + suc (length nodes)) more))

definitions-push : (nodes : List Node) (y : Node) → definitions (nodes ++ y ∷ []) ≡ definitions nodes ++ clauses_of (length nodes) y
definitions-push nodes y =
    let e : 0 + length nodes ≡ length nodes = omega arith in
    clauses_from-append 0 nodes (y ∷ []) ∙ ap (λ cs. definitions nodes ++ cs) (append-nil (clauses_of (0 + length nodes) y) ∙ ap (λ m. clauses_of m y) e)

-- The clauses of a node.

pub node_proper : (n : ℕ) (y : Node) → StandsAt n y → AreProper (clauses_of n y)
node_proper n True h = (((λ e. absurd cc), (tt, tt)), tt)
node_proper n Input h = tt
node_proper n (And a b) h =
    let first : a.node + 1 ≢ n + 1 = (λ e. absurd (omega (arith, e, h.0, h.1, h.2))) in
    let second : b.node + 1 ≢ n + 1 = (λ e. absurd (omega (arith, e, h.2))) in
    let apart : b.node + 1 ≢ a.node + 1 = (λ e. absurd (omega (arith, e, h.1))) in
    (((λ e. absurd cc), ((first, tt), (tt, tt))), (((λ e. absurd cc), ((second, tt), (tt, tt))), (((λ e. absurd cc), ((first, (second, tt)), ((apart, tt), (tt, tt)))), tt)))

node_literals : (n : ℕ) (y : Node) → StandsAt n y → n + 1 < 2 ^ 63 → AllByRecursion AreLiterals (clauses_of n y)
node_literals n True h fits = (((omega arith, fits), tt), tt)
node_literals n Input h fits = tt
node_literals n (And a b) h fits =
    let this : (1 ≤ n + 1) × (n + 1 < 2 ^ 63) = (omega arith, fits) in
    let first : (1 ≤ a.node + 1) × (a.node + 1 < 2 ^ 63) = (omega arith, omega (arith, fits, h.1, h.2)) in
    let second : (1 ≤ b.node + 1) × (b.node + 1 < 2 ^ 63) = (omega arith, omega (arith, fits, h.2)) in
    ((this, (first, tt)), ((this, (second, tt)), ((this, (first, (second, tt))), tt)))

-- What is kept.

-- the next node got its clauses
pub keeps_defined : (nodes new : List Node) (y : Node) (old solver : SolverContents) → KeepsClauses nodes old → StandsAt (length nodes) y → length nodes + 1 < 2 ^ 63 → new ≡ nodes ++ y ∷ []
    → solver.variables ≡ max old.variables (length nodes + 1) → solver.log ≡ old.log ++ map original (clauses_of (length nodes) y) → KeepsClauses new solver
keeps_defined nodes new y old solver k stands fits e variables added =
    let cs = clauses_of (length nodes) y in
    subst (λ ns. KeepsClauses ns solver) (sym e) (
    record {
      placed = λ n l. ⊎_elim
          (λ below. subst (StandsAt n) (sym (get_or_append_left nodes (y ∷ []) True n below)) (k.placed n below))
          (λ above. let same : length nodes ≡ n = omega (arith, l, above, length_push nodes y) in
          subst (StandsAt n) (sym (get_or_push nodes y True n same)) (subst (λ m. StandsAt m y) same stands))
          (cases_lt n (length nodes));
      variables = omega (arith, variables, length_push nodes y);
      spare = omega (arith, variables, k.spare, length_push nodes y);
      is_log = subst IsLog (sym added) (log-added old.log cs k.is_log (node_proper (length nodes) y stands) (node_literals (length nodes) y stands fits));
      clauses = ap originals added ∙ originals-added old.log cs ∙ ap (λ ds. ds ++ cs) k.clauses ∙ sym (definitions-push nodes y);
    }
    )
