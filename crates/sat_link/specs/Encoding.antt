-- The clauses that define the nodes of gates: node n is variable n + 1 of the solver.
use Rattle.std.specs.Prelude.{◌+◌, ℕ, List, [], ◌∷◌, ◌++◌, map}
use Rattle.gates.specs.Literal.{Literal as GateLiteral, positive}
use Rattle.gates.specs.declared.node.Node.{Node}
use Rattle.gates.specs.declared.node.Node.TheVariants.{True, Input, And}
use Rattle.sat_log.specs.Literal.{Literal, negated}

-- the literal of the node's variable, with the same sign
abbrev pub encoded : GateLiteral → Literal
encoded l = record { var = l.node + 1; negative = l.negative }

-- the same for each of a list
abbrev pub all_encoded : List GateLiteral → List Literal
all_encoded ls = map encoded ls

-- the literal x is false where one of two others is, and true where both are
abbrev pub joint_clauses : Literal → Literal → Literal → List (List Literal)
joint_clauses x a b =
    (negated x ∷ a ∷ []) ∷ (negated x ∷ b ∷ []) ∷ (x ∷ negated a ∷ negated b ∷ []) ∷ []

-- The clauses of a node: the constant is true, an input is free, and a conjunction is that of its
-- parts.
abbrev pub clauses_of : ℕ → Node → List (List Literal)
clauses_of n True = (encoded (positive n) ∷ []) ∷ []
clauses_of n Input = []
clauses_of n (And a b) = joint_clauses (encoded (positive n)) (encoded a) (encoded b)

-- the clauses of nodes, of which the first has the number n
abbrev pub clauses_from : ℕ → List Node → List (List Literal)
clauses_from n [] = []
clauses_from n (y ∷ nodes) = clauses_of n y ++ clauses_from (n + 1) nodes

-- the clauses of all nodes
abbrev pub definitions : List Node → List (List Literal)
definitions nodes = clauses_from 0 nodes
