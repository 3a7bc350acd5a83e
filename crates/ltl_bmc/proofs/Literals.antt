-- How circuits compose, and what single gates compute.
use Rattle.std.proofs.Common.{◌≡◌, Bool, true, false, not, ◌&&◌, ◌||◌, refl}
use Rattle.gates.proofs.Growth.{Grows-refl, Grows-trans, AddsConjunctions-refl, AddsConjunctions-trans}
use Rattle.gates.proofs.Meaning.{IsValuation-Grows, value_of-constant}
use Rattle.ltl_form.specs.Rows.{turned}

pub ruleset circuits = (Grows-refl, Grows-trans, AddsConjunctions-refl, AddsConjunctions-trans, IsValuation-Grows, value_of-constant)

-- a disjunction as the negated conjunction of two negations, or the dual of it
pub step-gates : (d f s a : Bool) → turned (not d) (turned (not d) s && not (turned d f && turned d a)) ≡ turned d (turned d s || (turned d f && turned d a))
step-gates true f true a = refl
step-gates true true false a = refl
step-gates true false false true = refl
step-gates true false false false = refl
step-gates false f true a = refl
step-gates false true false true = refl
step-gates false true false false = refl
step-gates false false false a = refl

pub or-gates : (a b : Bool) → turned true (turned true a && turned true b) ≡ (a || b)
or-gates true b = refl
or-gates false true = refl
or-gates false false = refl
