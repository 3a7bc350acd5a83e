-- The grammar of expressions. Each definition is a line of it: what may stand there, in its order, and
-- what it gives.
use Rattle.std.specs.Prelude.{◌==◌, ◌++◌, ℕ, zero, suc, max, Bool, true, false, List, [], ◌∷◌, if◌then◌else◌, nat_lt}
use Rattle.smv_tree.specs.declared.place.Place.{Place}
use Rattle.smv_tree.specs.declared.expr.Op1.{Op1}
use Rattle.smv_tree.specs.declared.expr.Op1.TheVariants as op1
use Rattle.smv_tree.specs.declared.expr.Op2.TheVariants as op2
use Rattle.smv_tree.specs.Trees.{Tree, trees, arms}
use Rattle.smv_tree.specs.Trees as tree
use Rattle.smv_token.specs.declared.mark.Mark.{Mark}
use Rattle.smv_token.specs.declared.mark.Mark.TheVariants as marks
use Rattle.smv_grammar.specs.Forms.{capped, deepest, integer}
use Rattle.smv_rules.specs.Keys.{Opener, Primary, truth, path, digits, below, word, opens, round, set, branches, count, next, function, widen, const}
use Rattle.smv_rules.specs.Keys as key
use Rattle.smv_rules.specs.Rules.{Rule, gives, too_deep, must, may, part, again, expression, inside, bits, ◌>>=◌}
use Rattle.smv_rules.specs.Sorts.{Branches, Expression, Operands, a_flag, a_count, a_name, a_place, an_expression, an_integer, some_branches, some_names, some_operands}

-- a mark, a name, a number
abbrev pub mark : Mark → Rule a_place
mark m = must a_place (key.mark m) (λ p. gives a_place p)

abbrev pub name : Rule a_name
name = must a_name key.name (λ n. gives a_name n)

abbrev pub number : Rule a_count
number = must a_count key.number (λ n. gives a_count n)

-- whether a mark that may be left out stands there
abbrev pub optional : Mark → Rule a_flag
optional m = may a_flag (key.mark m) (λ p. gives a_flag true) (gives a_flag false)

-- int: a number with a `-` before it or not
abbrev pub an_int : Rule an_integer
an_int = do
  minus ← optional marks.Minus
  n ← number
  gives an_integer (integer minus n)

-- one deeper than its deepest part, if it may be so deep
abbrev pub deeper : Tree → ℕ → Rule an_expression
deeper x d = if nat_lt d deepest then gives an_expression (record { tree = x; depth = suc d; bare = false }) else too_deep an_expression

-- what has no parts
abbrev pub single : Tree → Rule an_expression
single x = gives an_expression (record { tree = x; depth = 1; bare = false })

-- an expression of a level that is nested once more: behind a token that opens it, or open from its own
-- first token
abbrev pub opened : ℕ → Rule an_expression
opened l = part an_expression (expression l) (too_deep an_expression)

abbrev pub side : ℕ → Rule an_expression
side l = part an_expression (expression l) (must an_expression key.operand (λ p. too_deep an_expression))

-- the names of a path, each behind a dot
abbrev pub more_names : List (List ℕ) → Rule some_names
more_names ns = again some_names (key.mark marks.Dot) (λ ns p. name >>= (λ n. gives some_names (ns ++ n.0 ∷ []))) ns

-- `..` int, behind the first number: a range has depth 2
abbrev pub range_from : Place → Bool → ℕ → Rule an_expression
range_from p minus n = do
  high ← an_int
  gives an_expression (record { tree = tree.span p (integer minus n) high; depth = 2; bare = true })

-- a primary expression, behind its first token
abbrev pub primary_from : Primary → Place → Rule an_expression
primary_from (truth b) p = single (tree.truth p b)
primary_from (path n) p = more_names (n ∷ []) >>= (λ ns. single (tree.name p ns))
primary_from (digits n) p = may an_expression (key.mark marks.Dots) (λ q. range_from p false n) (single (tree.number p n))
primary_from below p = number >>= (λ n. mark marks.Dots >>= (λ q. range_from p true n))
primary_from (word w) p = single (tree.word p w)
primary_from (opens o) p = part an_expression (inside o p) (too_deep an_expression)

abbrev pub primary : Rule an_expression
primary = must an_expression key.primary (λ o. primary_from o.0 o.1)

-- the operators of one level between operands, from the left
abbrev pub joined : ℕ → Rule an_expression → Expression → Rule an_expression
joined l tighter a = again an_expression (key.operator l) (λ a o. tighter >>= (λ b. deeper (tree.two o.1 o.0 a.tree b.tree) (max a.depth b.depth))) a

-- { "[" number ":" number "]" }*
abbrev pub selected : Expression → Rule an_expression
selected a = again an_expression (key.mark marks.OpenSquare) (λ a p. part an_expression (bits a p) (too_deep an_expression)) a

-- an operator before an operand of its own level
abbrev pub prefixed : Place → Op1 → ℕ → Rule an_expression
prefixed p o l = opened l >>= (λ a. deeper (tree.one p o a.tree) a.depth)

-- [ "?" expr ":" level 13 ]
abbrev pub choosing : Expression → Place → Rule an_expression
choosing c p = do
  a ← side 15
  q ← mark marks.Colon
  b ← side 13
  deeper (tree.choice p c.tree a.tree b.tree) (max c.depth (max a.depth b.depth))

abbrev pub chosen : Expression → Rule an_expression
chosen c = may an_expression (key.mark marks.Question) (λ p. choosing c p) (gives an_expression c)

-- [ "->" level 15 ]
abbrev pub implying : Expression → Place → Rule an_expression
implying a p = side 15 >>= (λ b. deeper (tree.two p op2.Implies a.tree b.tree) (max a.depth b.depth))

abbrev pub implied : Expression → Rule an_expression
implied a = may an_expression (key.mark marks.Arrow) (λ p. implying a p) (gives an_expression a)

-- An expression of a level, from one of the next tighter level.
abbrev pub level_from : ℕ → Rule an_expression → Rule an_expression
level_from l tighter =
    if l == 1 then tighter >>= selected
    else (if l == 2 then may an_expression (key.mark marks.Bang) (λ p. prefixed p op1.Not 2) tighter
    else (if l == 4 then may an_expression key.minus (λ p. prefixed p op1.Neg 4) tighter
    else (if l == 13 then tighter >>= chosen
    else (if l == 15 then tighter >>= implied
    else tighter >>= joined l tighter))))

-- an expression of a level or of a tighter one; the loosest is 15
unfoldable pub level : ℕ → Rule an_expression
level zero = primary
level (suc l) = level_from (suc l) (level l)

abbrev pub expr : Rule an_expression
expr = level 15

-- expr { , expr }*, behind operands
abbrev pub one_more : Operands → Expression → Operands
one_more xs a = record { trees = xs.trees ++ a.tree ∷ []; depth = max xs.depth a.depth }

abbrev pub more_operands : Operands → Rule some_operands
more_operands xs = again some_operands (key.mark marks.Comma) (λ xs p. expr >>= (λ b. gives some_operands (one_more xs b))) xs

abbrev pub operands : Rule some_operands
operands = expr >>= (λ a. more_operands (record { trees = a.tree ∷ []; depth = a.depth }))

-- expr : expr
abbrev pub branch : Branches → Rule some_branches
branch bs = do
  c ← expr
  p ← mark marks.Colon
  v ← expr
  gives some_branches (record { arms = bs.arms ++ (c.tree, v.tree) ∷ []; depth = max bs.depth (max c.depth v.depth) })

abbrev pub more_branches : Branches → Rule some_branches
more_branches bs = again some_branches key.further (λ bs q. branch bs) bs

abbrev pub no_branches : Branches
no_branches = record { arms = []; depth = 0 }

-- the `;` before the end of a case
abbrev pub last_semicolon : Rule a_place
last_semicolon = must a_place key.closing (λ p. gives a_place p)

-- { expr : expr ; }* esac, with at least one branch
abbrev pub listed_branches : Place → Rule an_expression
listed_branches p = do
  b ← branch no_branches
  bs ← more_branches b
  q ← last_semicolon
  r ← mark marks.Esac
  deeper (tree.cases p (arms bs.arms)) bs.depth

-- brackets around an expression
abbrev pub bracketed : Expression → Rule an_expression
bracketed a = if a.bare then gives an_expression (record { tree = a.tree; depth = a.depth; bare = false }) else deeper a.tree a.depth

-- "(" expr ")"
abbrev pub applied : (Tree → Tree) → Rule an_expression
applied f = do
  p ← mark marks.OpenRound
  a ← expr
  q ← mark marks.CloseRound
  deeper (f a.tree) a.depth

-- "(" expr , number ")"
abbrev pub widened : Place → Bool → Rule an_expression
widened p resize = do
  q ← mark marks.OpenRound
  a ← expr
  r ← mark marks.Comma
  n ← number
  t ← mark marks.CloseRound
  deeper (tree.widen p resize a.tree (capped n)) a.depth

-- "(" int , number ")"
abbrev pub constant : Place → Bool → Rule an_expression
constant p signed = do
  q ← mark marks.OpenRound
  v ← an_int
  r ← mark marks.Comma
  n ← number
  t ← mark marks.CloseRound
  deeper (tree.const p signed v (capped n)) 1

-- "(" expr { , expr }* ")"
abbrev pub counted : Place → Rule an_expression
counted p = do
  q ← mark marks.OpenRound
  xs ← operands
  r ← mark marks.CloseRound
  deeper (tree.count p (trees xs.trees)) xs.depth

-- expr { , expr }* "}"
abbrev pub listed : Place → Rule an_expression
listed p = do
  xs ← operands
  r ← mark marks.CloseCurly
  deeper (tree.set p (trees xs.trees)) xs.depth

-- expr ")"
abbrev pub enclosed : Rule an_expression
enclosed = do
  a ← expr
  q ← mark marks.CloseRound
  bracketed a

-- what stands behind a token that opens a nesting
abbrev pub nested : Opener → Place → Rule an_expression
nested round p = enclosed
nested set p = listed p
nested branches p = listed_branches p
nested count p = counted p
nested next p = applied (tree.next p)
nested (function o) p = applied (tree.one p o)
nested (widen resize) p = widened p resize
nested (const signed) p = constant p signed

-- number ":" number "]"
abbrev pub selecting : Expression → Place → Rule an_expression
selecting a p = do
  h ← number
  q ← mark marks.Colon
  l ← number
  r ← mark marks.CloseSquare
  deeper (tree.select p a.tree (capped h) (capped l)) a.depth
