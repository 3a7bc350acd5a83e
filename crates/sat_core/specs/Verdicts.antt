-- Answers of a search by cases, and budgets.
use Rattle.std.specs.Prelude.{◌<◌, ◌≤◌, ℕ, Bool, Result, Ok, Err, List}
use Rattle.sat_core.specs.declared.budget.Budget.{Budget}
use Rattle.sat_core.specs.declared.budget.Budget.TheVariants.{Unset, Of}
use Rattle.sat_core.specs.declared.verdict.Verdict.{Verdict}
use Rattle.sat_core.specs.declared.verdict.Verdict.TheVariants.{Yes, No, Spent}

-- fewer conflicts than the budget, if one is set
abbrev pub IsBelow : Budget → ℕ → Type 0
IsBelow Unset n = Unit {0}
IsBelow (Of most) n = n < most

-- what holds of the truth values of a Yes
abbrev pub IfYes : {E : Type 0} → Result Verdict E → (List Bool → Type 0) → Type 0
IfYes (Ok (Yes bits)) P = P bits
IfYes (Ok (No id)) P = Unit {0}
IfYes (Ok (Spent n)) P = Unit {0}
IfYes (Err e) P = Unit {0}

-- what holds of the id of a No
abbrev pub IfNo : {E : Type 0} → Result Verdict E → (ℕ → Type 0) → Type 0
IfNo (Ok (Yes bits)) P = Unit {0}
IfNo (Ok (No id)) P = P id
IfNo (Ok (Spent n)) P = Unit {0}
IfNo (Err e) P = Unit {0}

-- no more conflicts than the budget
abbrev pub IsWithin : Budget → ℕ → Type 0
IsWithin Unset n = Unit {0}
IsWithin (Of most) n = n ≤ most
