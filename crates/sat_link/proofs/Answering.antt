-- The solver's answers over variables, read over nodes.
use Rattle.std.proofs.Common.{◌≡◌, ◌≢◌, ◌≤◌, ◌+◌, ℕ, Bool, List, [], ◌∷◌, length, Result, Ok, Err, OnOk, sym, ap, subst, ◌∙◌, arith}
use Rattle.std.specs.List.{AllByRecursion}
use Rattle.std.specs.Result.{IsErrAnd}
use Rattle.std.proofs.lemmas.Result.{err_from_is_err_and}
use Rattle.std.specs.declared.alloc.AllocError.{AllocError}
use Rattle.gates.specs.Literal.{Literal, span}
use Rattle.gates.specs.declared.node.Node.{Node}
use Rattle.gates.specs.Nodes.{WellFormed}
use Rattle.sat_log.specs.Literal.{Literal as SolverLiteral}
use Rattle.sat_log.specs.Clause.{HasDistinctVariables}
use Rattle.sat_log.specs.Checking.{IsUpTo}
use Rattle.sat_log.specs.Accepted.{originals}
use Rattle.sat_log.specs.declared.line.LogLine.{LogLine}
use Rattle.sat_core.specs.Assignment.{assignment, AreTrue as AreTrueVariables, IsSolution as IsAssignment, HasNoSolution as HasNoAssignment}
use Rattle.sat_core.specs.Verdicts.{IfYes as IfFoundYes, IfNo as IfFoundNo, IsBelow, IsWithin}
use Rattle.sat_core.specs.Gained.{gained, conflicts}
use Rattle.sat_core.specs.Gains.{Outcome, Satisfied, Refuted, OutOfBudget, OutOfMemory, EndsAs, Gains, outcome as outcome_found}
use Rattle.sat_core.specs.declared.budget.Budget.{Budget}
use Rattle.sat_core.specs.declared.budget.Budget.TheVariants.{Unset, Of}
use Rattle.sat_core.specs.declared.verdict.Verdict.{Verdict as Found}
use Rattle.sat_core.specs.declared.verdict.Verdict.TheVariants as answer
use Rattle.sat_link.specs.declared.verdict.Verdict.{Verdict}
use Rattle.sat_link.specs.declared.verdict.Verdict.TheVariants.{Yes, No, Spent}
use Rattle.sat_link.specs.Encoding.{all_encoded, definitions}
use Rattle.sat_link.specs.Definitional.{IsDefinitional, IsWhole}
use Rattle.sat_link.specs.Answers.{HasDistinctNodes, AreTrue, IsSolution, HasNoSolution, IfYes, IfNo, IsValued, Tells, outcome}
use Rattle.sat_link.proofs.Defining.{encoded_value, whole}
use Rattle.sat_link.proofs.Valued.{true_first}

-- What is wanted, over variables.

apart_encoded : (l : Literal) (ls : List Literal) → AllByRecursion (λ k. k.node ≢ l.node) ls → AllByRecursion (λ k. k.var ≢ l.node + 1) (all_encoded ls)
apart_encoded l [] h = tt
apart_encoded l (k ∷ ls) h = (λ e. h.0 (let same : k.node ≡ l.node = omega arith in same), apart_encoded l ls h.1)

pub distinct_encoded : (ls : List Literal) → HasDistinctNodes ls → HasDistinctVariables (all_encoded ls)
distinct_encoded [] h = tt
distinct_encoded (l ∷ ls) h = (apart_encoded l ls h.0, distinct_encoded ls h.1)

pub up_to_encoded : (n : ℕ) (ls : List Literal) → span ls ≤ n → IsUpTo n (all_encoded ls)
up_to_encoded n [] h = tt
up_to_encoded n (l ∷ ls) h = (omega arith, up_to_encoded n ls (omega arith))

true_encoded : (values : List Bool) (ls : List Literal) → AreTrue values ls → AreTrueVariables (assignment values) (all_encoded ls)
true_encoded values [] h = tt
true_encoded values (l ∷ ls) h = (encoded_value values l ∙ h.0, true_encoded values ls h.1)

encoded_true : (values : List Bool) (ls : List Literal) → AreTrueVariables (assignment values) (all_encoded ls) → AreTrue values ls
encoded_true values [] h = tt
encoded_true values (l ∷ ls) h = (sym (encoded_value values l) ∙ h.0, encoded_true values ls h.1)

-- What is found, over nodes.

pub whole_originals : (gates : List Node) (log : List LogLine) → WellFormed gates → originals log ≡ definitions gates → IsWhole gates (originals log)
whole_originals gates log well all = subst (IsWhole gates) (sym all) (whole gates well)

pub no_solution : (gates : List Node) (log : List LogLine) (want : List Literal) → IsDefinitional gates (originals log) → HasNoAssignment log (all_encoded want) → HasNoSolution gates want
no_solution gates log want d none values v t = none (assignment values) (d values v) (true_encoded values want t)

pub valued : (gates : List Node) (log : List LogLine) (want : List SolverLiteral) (variables : ℕ) (f : Found) → IsWhole gates (originals log) → length gates ≤ variables
    → IfFoundYes {E = AllocError} (Ok f) (IsAssignment variables log want) → IsValued gates f
valued gates log want variables (answer.Yes bits) w enough s = w bits (subst (λ n. length gates ≤ n) (sym s.one_each) enough) s.originals_true
valued gates log want variables (answer.No id) w enough s = tt
valued gates log want variables (answer.Spent n) w enough s = tt

-- What an answer tells.

pub yes_told : {F : Type 0} (gates : List Node) (log : List LogLine) (want : List Literal) (literals : List SolverLiteral) (variables : ℕ) (f : Found) (r : Result Verdict F) → span want ≤ length gates → literals ≡ all_encoded want
    → Tells gates f r → IfFoundYes {E = AllocError} (Ok f) (IsAssignment variables log literals) → IfYes r (IsSolution gates want)
yes_told gates log want literals variables (answer.Yes bits) (Ok (Yes values)) within encoding t s = record {
  one_each = t.one_each;
  valuation = t.valuation;
  wanted_true = subst (λ vs. AreTrue vs want) (sym t.first) (true_first (length gates) bits want within (encoded_true bits want (subst (AreTrueVariables (assignment bits)) encoding s.wanted_true)));
}
yes_told gates log want literals variables (answer.Yes bits) (Ok (No id)) within encoding t s = tt
yes_told gates log want literals variables (answer.Yes bits) (Ok (Spent n)) within encoding t s = tt
yes_told gates log want literals variables (answer.Yes bits) (Err e) within encoding t s = tt
yes_told gates log want literals variables (answer.No id) (Ok (Yes values)) within encoding t s = absurd t
yes_told gates log want literals variables (answer.No id) (Ok (No id')) within encoding t s = tt
yes_told gates log want literals variables (answer.No id) (Ok (Spent n)) within encoding t s = tt
yes_told gates log want literals variables (answer.No id) (Err e) within encoding t s = tt
yes_told gates log want literals variables (answer.Spent n) (Ok (Yes values)) within encoding t s = absurd t
yes_told gates log want literals variables (answer.Spent n) (Ok (No id)) within encoding t s = tt
yes_told gates log want literals variables (answer.Spent n) (Ok (Spent n')) within encoding t s = tt
yes_told gates log want literals variables (answer.Spent n) (Err e) within encoding t s = tt

pub no_told : {F : Type 0} (gates : List Node) (f : Found) (r : Result Verdict F) (P Q : Type 0) → (P → Q) → Tells gates f r → IfFoundNo {E = AllocError} (Ok f) (λ _. P) → IfNo r (λ _. Q)
no_told gates (answer.Yes bits) (Ok (Yes values)) P Q g t h = tt
no_told gates (answer.Yes bits) (Ok (No id)) P Q g t h = absurd t
no_told gates (answer.Yes bits) (Ok (Spent n)) P Q g t h = tt
no_told gates (answer.Yes bits) (Err e) P Q g t h = tt
no_told gates (answer.No id) (Ok (Yes values)) P Q g t h = tt
no_told gates (answer.No id) (Ok (No id')) P Q g t h = g h
no_told gates (answer.No id) (Ok (Spent n)) P Q g t h = tt
no_told gates (answer.No id) (Err e) P Q g t h = tt
no_told gates (answer.Spent n) (Ok (Yes values)) P Q g t h = tt
no_told gates (answer.Spent n) (Ok (No id)) P Q g t h = absurd t
no_told gates (answer.Spent n) (Ok (Spent n')) P Q g t h = tt
no_told gates (answer.Spent n) (Err e) P Q g t h = tt

-- below a budget is within it
below_within : (budget : Budget) (n : ℕ) → IsBelow budget n → IsWithin budget n
below_within Unset n h = tt
below_within (Of most) n h = omega (arith, h)

gains_end : (variables : ℕ) (budget : Budget) (want : List SolverLiteral) (old new : List LogLine) (end end' : Outcome) → (EndsAs budget want old new end → EndsAs budget want old new end') → Gains variables budget want old new end → Gains variables budget want old new end'
gains_end variables budget want old new end end' f g =
    record { longer = g.longer; is_log = g.is_log; learned = g.learned; fresh = g.fresh; few = g.few; ends = f g.ends }

pub gains_told : {F : Type 0} (gates : List Node) (variables : ℕ) (budget : Budget) (want : List SolverLiteral) (old new : List LogLine) (f : Found) (r : Result Verdict F) → Tells gates f r
    → Gains variables budget want old new (outcome_found {E = AllocError} (Ok f)) → Gains variables budget want old new (outcome r)
gains_told gates variables budget want old new (answer.Yes bits) (Ok (Yes values)) t g = g
gains_told gates variables budget want old new (answer.Yes bits) (Ok (No id)) t g = absurd t
gains_told gates variables budget want old new (answer.Yes bits) (Ok (Spent n)) t g = absurd t
gains_told gates variables budget want old new (answer.Yes bits) (Err e) t g =
    gains_end variables budget want old new Satisfied OutOfMemory (λ h. (h.0, below_within budget (conflicts (gained old new)) h.1)) g
gains_told gates variables budget want old new (answer.No id) (Ok (Yes values)) t g = absurd t
gains_told gates variables budget want old new (answer.No id) (Ok (No id')) t g = subst (λ i. Gains variables budget want old new (Refuted i)) (sym t) g
gains_told gates variables budget want old new (answer.No id) (Ok (Spent n)) t g = absurd t
gains_told gates variables budget want old new (answer.No id) (Err e) t g = absurd t
gains_told gates variables budget want old new (answer.Spent n) (Ok (Yes values)) t g = absurd t
gains_told gates variables budget want old new (answer.Spent n) (Ok (No id)) t g = absurd t
gains_told gates variables budget want old new (answer.Spent n) (Ok (Spent n')) t g = subst (λ m. Gains variables budget want old new (OutOfBudget m)) (sym t) g
gains_told gates variables budget want old new (answer.Spent n) (Err e) t g = absurd t

-- what a `?` returns
pub gains_stopped : {F : Type 0} (variables : ℕ) (budget : Budget) (want : List SolverLiteral) (old new : List LogLine) (Q : F → Type 0) (r : Result Verdict F) → IsErrAnd r Q
    → Gains variables budget want old new OutOfMemory → Gains variables budget want old new (outcome r)
gains_stopped {F} variables budget want old new Q r q g =
    subst (Gains variables budget want old new) (sym (ap (λ (s : Result Verdict F). outcome s) (err_from_is_err_and r q).1)) g

pub if_ok : {A F : Type 0} (r : Result A F) (P : Type 0) → P → OnOk r P
if_ok (Err e) P h = tt
if_ok (Ok a) P h = h
