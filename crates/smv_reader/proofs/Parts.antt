-- Parts where a nesting is left for them, and what reading leaves.
use Rattle.std.proofs.Common.{◌≡◌, ◌≤◌, ◌-◌, ℕ, zero, suc, List, length, Ok, ap, subst, arith}
use Rattle.smv_token.specs.declared.token.Token.{Token}
use Rattle.smv_rules.specs.Reading.{Got}
use Rattle.smv_rules.proofs.Outcomes.{ReachedTo}
use Rattle.smv_rules.specs.Rules.{Part, Rule, part}
use Rattle.smv_rules.specs.Running.{run}
use Rattle.smv_rules.specs.Sorts.{Gift, Sort}
use Rattle.smv_rules.specs.Table.{table}
use Rattle.smv_rules.proofs.Meeting.{run_within}

-- a part, where a nesting is left for it
pub part_inner : (n : ℕ) (s : Sort) (p : Part s) (r : Rule s) (ts : List Token) → 1 ≤ n → run n (part s p r) ts ≡ run (n - 1) (table p) ts
unfolding run
part_inner zero s p r ts h = absurd (omega (arith, h))
part_inner (suc m) s p r ts h = let e : m ≡ suc m - 1 = omega arith in ap (λ k. run k (table p) ts) e

-- reading leaves no more than there was
within_is : {X : Type 0} (m : ℕ) (out : Got X) (x : X) (us : List Token) → ReachedTo m out → out ≡ Ok (x, us) → length us ≤ m
unfolding ReachedTo
within_is m out x us h e = let P : Got _ → Type 0 = λ o. ReachedTo m o in subst P e h

pub left_within : (n : ℕ) (s : Sort) (r : Rule s) (ts us : List Token) (x : Gift s) → run n r ts ≡ Ok (x, us) → length us ≤ length ts
left_within n s r ts us x e = within_is (length ts) (run n r ts) x us (run_within n r ts) e
