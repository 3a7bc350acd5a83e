-- What is asked over gates, and what the answers say.
use Rattle.std.specs.Prelude.{◌≡◌, ◌≢◌, ℕ, Bool, Result, Ok, Err, List, [], ◌∷◌, length, take, IsTrue}
use Rattle.std.specs.List.{AllByRecursion}
use Rattle.gates.specs.Literal.{Literal}
use Rattle.gates.specs.declared.node.Node.{Node}
use Rattle.gates.specs.Valuation.{value_of, IsValuation}
use Rattle.sat_core.specs.declared.verdict.Verdict.{Verdict as Found}
use Rattle.sat_core.specs.declared.verdict.Verdict.TheVariants as answer
use Rattle.sat_core.specs.Gains.{Outcome, Satisfied, Refuted, OutOfBudget, OutOfMemory}
use Rattle.sat_link.specs.declared.verdict.Verdict.{Verdict}
use Rattle.sat_link.specs.declared.verdict.Verdict.TheVariants.{Yes, No, Spent}

-- no node stands in it twice
abbrev pub HasDistinctNodes : List Literal → Type 0
HasDistinctNodes [] = Unit {0}
HasDistinctNodes (l ∷ ls) = AllByRecursion (λ k. k.node ≢ l.node) ls × HasDistinctNodes ls

-- every literal is true
abbrev pub AreTrue : List Bool → List Literal → Type 0
AreTrue values ls = AllByRecursion (λ l. IsTrue (value_of values l)) ls

-- one truth value for each node, each one that it may have, and all that is wanted is true
pub record IsSolution (nodes : List Node) (want : List Literal) (bits : List Bool) : Type 0 where
  pub one_each : length bits ≡ length nodes
  pub valuation : IsValuation nodes bits
  pub wanted_true : AreTrue bits want

-- no values that the nodes may have make all that is wanted true
abbrev pub HasNoSolution : List Node → List Literal → Type 0
HasNoSolution nodes want = (values : List Bool) → IsValuation nodes values → ¬ AreTrue values want

-- what holds of the truth values of a Yes
abbrev pub IfYes : {E : Type 0} → Result Verdict E → (List Bool → Type 0) → Type 0
IfYes (Ok (Yes bits)) P = P bits
IfYes (Ok (No id)) P = Unit {0}
IfYes (Ok (Spent n)) P = Unit {0}
IfYes (Err e) P = Unit {0}

-- what holds of the id of a No
abbrev pub IfNo : {E : Type 0} → Result Verdict E → (ℕ → Type 0) → Type 0
IfNo (Ok (Yes bits)) P = Unit {0}
IfNo (Ok (No id)) P = P id
IfNo (Ok (Spent n)) P = Unit {0}
IfNo (Err e) P = Unit {0}

-- what an answer says of how the search ended
abbrev pub outcome : {E : Type 0} → Result Verdict E → Outcome
outcome (Ok (Yes bits)) = Satisfied
outcome (Ok (No id)) = Refuted id
outcome (Ok (Spent n)) = OutOfBudget n
outcome (Err e) = OutOfMemory

-- the truth values of a Yes are those of nodes, and maybe of one variable more
abbrev pub IsValued : List Node → Found → Type 0
IsValued nodes (answer.Yes bits) = IsValuation nodes bits
IsValued nodes (answer.No id) = Unit {0}
IsValued nodes (answer.Spent n) = Unit {0}

-- the truth values of the nodes are the first of these
pub record AreFirst (nodes : List Node) (bits values : List Bool) : Type 0 where
  pub first : values ≡ take (length nodes) bits
  pub one_each : length values ≡ length nodes
  pub valuation : IsValuation nodes values

-- An answer over nodes says the same as one over variables, but that memory may be refused for
-- truth values.
abbrev pub Tells : {E : Type 0} → List Node → Found → Result Verdict E → Type 0
Tells nodes (answer.Yes bits) (Ok (Yes values)) = AreFirst nodes bits values
Tells nodes (answer.Yes bits) (Err e) = Unit {0}
Tells nodes (answer.No id) (Ok (No id')) = id' ≡ id
Tells nodes (answer.Spent n) (Ok (Spent n')) = n' ≡ n
Tells nodes other result = ⊥
