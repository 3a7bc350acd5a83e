-- The clauses of nodes are true at just the valuations of the nodes.
use Rattle.std.proofs.Common.{◌≡◌, ◌<◌, ◌+◌, ◌-◌, ℕ, zero, suc, Bool, true, false, not, cond, ◌||◌, ◌&&◌, List, [], ◌∷◌, length, IsTrue, refl, sym, ap, subst, ◌∙◌, arith}
use Rattle.std.proofs.Math.Path.{transport}
use Rattle.std.proofs.Math.Bool.{or-false}
use Rattle.std.proofs.lemmas.Bool.{false≢true}
use Rattle.gates.specs.Literal.{Literal as GateLiteral}
use Rattle.gates.specs.declared.node.Node.{Node}
use Rattle.gates.specs.declared.node.Node.TheVariants.{True, Input, And}
use Rattle.gates.specs.Nodes.{node_at, WellFormed}
use Rattle.gates.specs.Valuation.{value_at, value_of, MayBe}
use Rattle.gates.proofs.Growth.{node_at-zero}
use Rattle.sat_log.specs.Literal.{negated}
use Rattle.sat_log.specs.Clauses.{literal_value, Satisfies}
use Rattle.sat_log.proofs.LiteralLemmas.{negated_value, Satisfies-append, Satisfies-parts}
use Rattle.sat_core.specs.Assignment.{assignment}
use Rattle.sat_link.specs.Encoding.{encoded, clauses_of, clauses_from, definitions}
use Rattle.sat_link.specs.Definitional.{IsDefinitional, IsWhole}

-- The value of a literal's variable.

before_next : (n : ℕ) → n + 1 - 1 ≡ n
before_next n = omega arith

variable_value : (values : List Bool) (n : ℕ) → assignment values (n + 1) ≡ value_at values n
variable_value values n = ap (value_at values) (before_next n)

pub encoded_value : (values : List Bool) (l : GateLiteral) → literal_value (assignment values) (encoded l) ≡ value_of values l
unfolding value_of
encoded_value values l = ap (λ b. cond l.negative (not b) b) (variable_value values l.node)

negated_encoded_value : (values : List Bool) (l : GateLiteral) → literal_value (assignment values) (negated (encoded l)) ≡ not (value_of values l)
negated_encoded_value values l = negated_value (assignment values) (encoded l) ∙ ap not (encoded_value values l)

-- The three clauses of a conjunction, from the values of the node, its parts, and their negations.

abbrev AreJoined : Bool → Bool → Bool → Bool → Bool → Type 0
AreJoined x a b na nb = IsTrue (not x || (a || false)) × (IsTrue (not x || (b || false)) × (IsTrue (x || (na || (nb || false))) × Unit {0}))

joined_from : (x a b : Bool) → x ≡ (a && b) → AreJoined x a b (not a) (not b)
joined_from true true true e = (refl, (refl, (refl, tt)))
joined_from true true false e = absurd (false≢true (sym e))
joined_from true false b e = absurd (false≢true (sym e))
joined_from false true true e = absurd (false≢true e)
joined_from false true false e = (refl, (refl, (refl, tt)))
joined_from false false b e = (refl, (refl, (refl, tt)))

from_joined : (x a b : Bool) → AreJoined x a b (not a) (not b) → x ≡ (a && b)
from_joined true true true h = refl
from_joined true true false h = sym h.1.0
from_joined true false b h = sym h.0
from_joined false true true h = h.1.1.0
from_joined false true false h = refl
from_joined false false b h = refl

joined_values : (values : List Bool) (n : ℕ) (a b : GateLiteral) → Satisfies (assignment values) (clauses_of n (And a b)) ≡ AreJoined (value_at values n) (value_of values a) (value_of values b) (not (value_of values a)) (not (value_of values b))
joined_values values n a b i =
    AreJoined (variable_value values n i) (encoded_value values a i) (encoded_value values b i) (negated_encoded_value values a i) (negated_encoded_value values b i)

-- The clauses of one node.

node_satisfied : (values : List Bool) (n : ℕ) (y : Node) → MayBe values y (value_at values n) → Satisfies (assignment values) (clauses_of n y)
node_satisfied values n True h = ((ap (λ b. b || false) (variable_value values n ∙ h)), tt)
node_satisfied values n Input h = tt
node_satisfied values n (And a b) h = transport (sym (joined_values values n a b)) (joined_from _ _ _ h)

satisfied_node : (values : List Bool) (n : ℕ) (y : Node) → Satisfies (assignment values) (clauses_of n y) → MayBe values y (value_at values n)
satisfied_node values n True h = sym (variable_value values n) ∙ sym (or-false _) ∙ h.0
satisfied_node values n Input h = tt
satisfied_node values n (And a b) h = from_joined _ _ _ (transport (joined_values values n a b) h)

-- The clauses of all nodes.

-- each of the nodes has a value that it may have, where the first has the number n
abbrev MayBeFrom : List Bool → ℕ → List Node → Type 0
MayBeFrom values n nodes = (k : ℕ) → k < length nodes → MayBe values (node_at nodes k) (value_at values (n + k))

from_next : (n k : ℕ) → n + suc k ≡ n + 1 + k
from_next n k = omega arith

from_first : (n : ℕ) → n + 0 ≡ n
from_first n = omega arith

nodes_satisfied : (values : List Bool) (n : ℕ) (nodes : List Node) → MayBeFrom values n nodes → Satisfies (assignment values) (clauses_from n nodes)
nodes_satisfied values n [] h = tt
nodes_satisfied values n (y ∷ nodes) h =
    let first = subst (λ m. MayBe values y (value_at values m)) (from_first n) (h 0 (omega arith)) in
    let rest : MayBeFrom values (n + 1) nodes = λ k l. subst (λ m. MayBe values (node_at nodes k) (value_at values m)) (from_next n k) (h (suc k) (omega (arith, l))) in
    Satisfies-append (assignment values) (clauses_of n y) (clauses_from (n + 1) nodes) (node_satisfied values n y first) (nodes_satisfied values (n + 1) nodes rest)

satisfied_nodes : (values : List Bool) (n : ℕ) (nodes : List Node) → Satisfies (assignment values) (clauses_from n nodes) → MayBeFrom values n nodes
satisfied_nodes values n [] h k l = absurd (omega (arith, l))
satisfied_nodes values n (y ∷ nodes) h zero l =
    subst (λ m. MayBe values y (value_at values m)) (sym (from_first n)) (satisfied_node values n y (Satisfies-parts (assignment values) (clauses_of n y) (clauses_from (n + 1) nodes) h).0)
satisfied_nodes values n (y ∷ nodes) h (suc k) l =
    subst (λ m. MayBe values (node_at nodes k) (value_at values m)) (sym (from_next n k))
    (satisfied_nodes values (n + 1) nodes (Satisfies-parts (assignment values) (clauses_of n y) (clauses_from (n + 1) nodes) h).1 k (omega (arith, l)))

zero_first : (n : ℕ) → 0 + n ≡ n
zero_first n = omega arith

pub definitional : (nodes : List Node) → IsDefinitional nodes (definitions nodes)
definitional nodes values v =
    nodes_satisfied values 0 nodes (λ k l. subst (λ m. MayBe values (node_at nodes k) (value_at values m)) (sym (zero_first k)) (v.agrees k l))

pub whole : (nodes : List Node) → WellFormed nodes → IsWhole nodes (definitions nodes)
whole nodes well values enough h =
    let agrees : (k : ℕ) → k < length nodes → MayBe values (node_at nodes k) (value_at values k) = λ k l. subst (λ m. MayBe values (node_at nodes k) (value_at values m)) (zero_first k) (satisfied_nodes values 0 nodes h k l) in
    record {
      enough = enough;
      constant = subst (λ y. MayBe values y (value_at values 0)) (node_at-zero nodes well) (agrees 0 well.constant);
      agrees = agrees;
    }
