-- Clauses, and what they are where some literals are set true.
use Rattle.std.specs.Prelude.{◌≡◌, ◌≢◌, ◌⊎◌, List, [], ◌∷◌, ◌++◌}
use Rattle.std.specs.List.{AllByRecursion}
use Rattle.sat_log.specs.Literal.{Literal, negated, IsVariable}

-- the literal is one of these
abbrev pub Among : List Literal → Literal → Type 0
Among [] l = ⊥
Among (x ∷ xs) l = (x ≡ l) ⊎ Among xs l

-- no variable stands in it twice
abbrev pub HasDistinctVariables : List Literal → Type 0
HasDistinctVariables [] = Unit {0}
HasDistinctVariables (l ∷ c) = AllByRecursion (λ k. k.var ≢ l.var) c × HasDistinctVariables c

-- each literal is of a variable that a literal can have
abbrev pub AreLiterals : List Literal → Type 0
AreLiterals c = AllByRecursion (λ l. IsVariable l.var) c

-- In what follows some literals are set true, and their negations false with them.

-- its negation is set
abbrev pub IsFalse : List Literal → Literal → Type 0
IsFalse set l = Among set (negated l)

-- neither it nor its negation is set
abbrev pub IsUnset : List Literal → Literal → Type 0
IsUnset set l = (¬ Among set l) × (¬ Among set (negated l))

-- all its literals are false
abbrev pub IsFalsified : List Literal → List Literal → Type 0
IsFalsified set c = AllByRecursion (IsFalse set) c

-- one of its literals is unset, and all others are false
abbrev pub IsUnit : List Literal → List Literal → Literal → Type 0
IsUnit set c u =
    (front : List Literal) × (back : List Literal) × (c ≡ front ++ u ∷ back) ×
    IsFalsified set front × IsUnset set u × IsFalsified set back
