use Rattle.std.specs.Prelude.{◌≡◌, ℕ, ◌+◌, Bool, false, ◌&&◌, ◌==◌, nat_lt, if◌then◌else◌, List, [], ◌∷◌, Option, None, Some}
use Rattle.std.specs.List.{position_from}
use Rattle.std.specs.Option.{option_map, option_or}
use Rattle.gates.specs.Literal.{Literal, code_of, positive, never}
use Rattle.gates.specs.declared.node.Node.{Node}
use Rattle.gates.specs.declared.node.Node.TheVariants.{True, Input, And}

-- whether two literals are one
abbrev pub is_same : Literal → Literal → Bool
is_same a b = code_of a == code_of b

-- the conjunction of two literals where they are of one node, or one is a constant: no node is
-- needed
abbrev pub simplified : Literal → Literal → Option Literal
simplified a b =
    if a.node == b.node then Some (if is_same a b then a else never)
    else if a.node == 0 then Some (if a.negative then a else b)
    else if b.node == 0 then Some (if b.negative then b else a)
    else None

-- two literals in the order of their nodes
abbrev pub earlier : Literal → Literal → Literal
earlier a b = if nat_lt a.node b.node then a else b

abbrev pub later : Literal → Literal → Literal
later a b = if nat_lt a.node b.node then b else a

-- whether a node is the conjunction of these two
abbrev pub joins : Literal → Literal → Node → Bool
joins a b True = false
joins a b Input = false
joins a b (And x y) = is_same a x && is_same b y

-- the positive literal of the node that joins these two, if there is one
abbrev pub joined : List Node → Literal → Literal → Option Literal
joined nodes a b = option_map positive (position_from (joins a b) 0 nodes)

-- the literal that stands for the conjunction of two among these nodes, if one does
abbrev pub conjunction : List Node → Literal → Literal → Option Literal
conjunction nodes a b = option_or (simplified a b) (joined nodes (earlier a b) (later a b))

-- the literal stands for the conjunction of the two, in either order
pub record Stands (nodes : List Node) (a b l : Literal) : Type 0 where
  pub forwards : conjunction nodes a b ≡ Some l
  pub backwards : conjunction nodes b a ≡ Some l

-- the conjunctions among the nodes, by their parts, with their positive literals, where the first
-- node has the number n
abbrev pub pairs_from : ℕ → List Node → List ((Literal × Literal) × Literal)
pairs_from n [] = []
pairs_from n (True ∷ nodes) = pairs_from (n + 1) nodes
pairs_from n (Input ∷ nodes) = pairs_from (n + 1) nodes
pairs_from n (And a b ∷ nodes) = ((a, b), positive n) ∷ pairs_from (n + 1) nodes
