use Rattle.std.proofs.Common.{◌≡◌, ℕ, ap, eqb, subst, sym}
use Rattle.std.specs.Prelude.{◌↔◌, Option, Some, None}
use Rattle.std.specs.Map.{lookup}
use Rattle.smv_graph.proofs.Leasts.{here_at, not_here_at}
use Rattle.smv_graph.proofs.choice.module_at.Goals as goal

pub returns-then-far-distance : goal.returns-then-far-distance
returns-then-far-distance c =
    here_at c.args.distances.now.entries c.args.target (Some c.in_ok-far.far) c.args.distance c.in_ok-far.ensures (ap (λ d. Some d) c.if-far-distance.true)

pub returns-else-far-distance : goal.returns-else-far-distance
returns-else-far-distance c =
    not_here_at c.args.distances.now.entries c.args.target (Some c.in_ok-far.far) c.args.distance c.in_ok-far.ensures
    (λ (e : Some c.in_ok-far.far ≡ Some c.args.distance). c.if-far-distance.false (cc))

pub returns-in_err-far : goal.returns-in_err-far
returns-in_err-far c =
    let none : c.from_residual.result ≡ None = c.from_residual.ensures in
    subst (λ (o : Option ℕ). (b : ℕ) → (o ≡ Some b) ↔ ((c.args.target ≡ Some b) × (lookup (eqb b) c.args.distances.now.entries ≡ Some c.args.distance))) (sym none)
    (not_here_at c.args.distances.now.entries c.args.target None c.args.distance c.in_err-far.ensures (λ e. absurd (cc)))
