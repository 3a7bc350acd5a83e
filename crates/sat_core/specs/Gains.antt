-- What a log gains in a search, by what the search comes to.
use Rattle.std.specs.Prelude.{◌≡◌, ◌<◌, ◌^◌, ℕ, Result, Ok, Err, List}
use Rattle.sat_log.specs.Literal.{Literal}
use Rattle.sat_log.specs.Accepted.{IsLog}
use Rattle.sat_log.specs.Learned.{AllFresh}
use Rattle.sat_log.specs.declared.line.LogLine.{LogLine}
use Rattle.sat_core.specs.Gained.{gained, conflicts, IsLonger, HasNoFinal, AreLearned, IsRefusal}
use Rattle.sat_core.specs.Verdicts.{IsBelow, IsWithin}
use Rattle.sat_core.specs.declared.budget.Budget.{Budget}
use Rattle.sat_core.specs.declared.budget.Budget.TheVariants.{Of}
use Rattle.sat_core.specs.declared.verdict.Verdict.{Verdict}
use Rattle.sat_core.specs.declared.verdict.Verdict.TheVariants.{Yes, No, Spent}

-- What a search comes to: there are values, the final line of this id refutes what is wanted, a
-- budget of so many conflict lines is spent, or memory was refused.
pub data Outcome : Type 0 where
  Satisfied : Outcome
  Refuted : ℕ → Outcome
  OutOfBudget : ℕ → Outcome
  OutOfMemory : Outcome

-- what an answer says of that
abbrev pub outcome : {E : Type 0} → Result Verdict E → Outcome
outcome (Ok (Yes bits)) = Satisfied
outcome (Ok (No id)) = Refuted id
outcome (Ok (Spent n)) = OutOfBudget n
outcome (Err e) = OutOfMemory

-- Where a budget is set, an answer comes before it is spent, and where memory is refused no more of
-- it is. Only what refutes appends a final line.
abbrev pub EndsAs : Budget → List Literal → List LogLine → List LogLine → Outcome → Type 0
EndsAs budget want old new Satisfied =
    HasNoFinal (gained old new) × IsBelow budget (conflicts (gained old new))
EndsAs budget want old new (Refuted id) =
    IsRefusal old new want id × IsBelow budget (conflicts (gained old new))
EndsAs budget want old new (OutOfBudget n) =
    HasNoFinal (gained old new) × (budget ≡ Of n) × (conflicts (gained old new) ≡ n)
EndsAs budget want old new OutOfMemory =
    HasNoFinal (gained old new) × IsWithin budget (conflicts (gained old new))

-- The log is a log and begins with the old one. Its new conflict lines are needed and drawn, and so
-- fresh. Over n variables they are fewer than 3 ^ n, so that no budget as great as that is ever
-- spent.
pub record Gains (variables : ℕ) (budget : Budget) (want : List Literal)
    (old new : List LogLine) (end : Outcome) : Type 0 where
  pub longer : IsLonger old new
  pub is_log : IsLog new
  pub learned : AreLearned old (gained old new)
  pub fresh : AllFresh old (gained old new)
  pub few : conflicts (gained old new) < 3 ^ variables
  pub ends : EndsAs budget want old new end
