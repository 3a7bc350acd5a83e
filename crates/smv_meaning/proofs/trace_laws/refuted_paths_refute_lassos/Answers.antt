use Rattle.std.proofs.Common.{◌≡◌, ℕ, ◌+◌, false, List, length, sym, subst, arith}
use Rattle.std.specs.Prelude.{IsSomeAnd}
use Rattle.smv_tree.specs.Models.{Body}
use Rattle.smv_tree.specs.declared.value.Value.{Value}
use Rattle.smv_meaning.specs.Places.{place}
use Rattle.smv_meaning.specs.SettledTruth.{BeginsSo}
use Rattle.smv_meaning.specs.Runs.{Holds, at_state, nothing_else}
use Rattle.smv_meaning.specs.Counterexamples.{HoldsIn, WordBegins}
use Rattle.smv_meaning.proofs.SettledTruths.{settled_so}
use Rattle.smv_meaning.proofs.trace_laws.refuted_paths_refute_lassos.Goals as goal

begins : (program : List Body) (up : List (List ℕ)) (m k l : ℕ) (front states : List (List Value)) → length front ≡ m + 1 → WordBegins k l states front → BeginsSo m k l (HoldsIn program up front) (HoldsIn program up states)
begins program up m k l front states n w e p h =
    let same = w p (omega arith) in
    let holds = λ (s : List Value). Holds program (at_state s) nothing_else up e in
    (subst (λ o. IsSomeAnd o holds) same, subst (λ o. IsSomeAnd o holds) (sym same))

pub returns : goal.returns
unfolding place
returns c = λ program up f m k l front states h n w s.
    settled_so k l m h (HoldsIn program up front) (HoldsIn program up states) (begins program up m k l front states n w) f false 0 (omega arith) s
