-- How circuits compose: a valuation of the gates in the end is one at each moment before, and conjunctions are all that is added.
use Rattle.std.proofs.Common.{◌≡◌, ℕ, zero, suc, replicate, take, drop, ◌+◌, ◌<◌, ◌≤◌, max, Bool, true, false, ◌&&◌, ◌||◌, cond, not, List, [], ◌∷◌, ◌++◌, length, refl, ap, sym, subst, arith}
use Rattle.gates.proofs.Growth.{Grows-append, Grows-refl, Grows-trans, AddsConjunctions-refl, AddsConjunctions-trans, node-lt-span}
use Rattle.gates.proofs.Meaning.{IsValuation-Grows, value_of-constant}
use Rattle.gates.specs.declared.node.Node.{Node}
use Rattle.gates.specs.Nodes.{Grows, AddsConjunctions, Belongs, AllBelong}
use Rattle.gates.specs.Literal.{Literal, span}
use Rattle.word_bits.specs.Number.{xor, carry}

pub ruleset circuits = (Grows-refl, Grows-trans, AddsConjunctions-refl, AddsConjunctions-trans, IsValuation-Grows, value_of-constant)

-- what the three gates of an exclusive or compute
pub xor-gates : (a b : Bool) → not (a && b) && not (not a && not b) ≡ xor a b
xor-gates true true = refl
xor-gates true false = refl
xor-gates false true = refl
xor-gates false false = refl

-- what the gates of a carry compute
pub carry-gates : (a b c : Bool) → ((a && b) || (xor a b && c)) ≡ carry a b c
carry-gates true true c = refl
carry-gates true false c = refl
carry-gates false true c = refl
carry-gates false false c = refl

-- what the gates of a choice compute
pub choice-gates : (c a b : Bool) → ((c && a) || (not c && b)) ≡ cond c a b
choice-gates true true b = refl
choice-gates true false b = refl
choice-gates false a b = refl

-- what the gate of a disjunction computes
pub or-gates : (a b : Bool) → not (not a && not b) ≡ (a || b)
or-gates true b = refl
or-gates false true = refl
or-gates false false = refl

span_push : (xs : List Literal) (y : Literal) → span (xs ++ y ∷ []) ≡ max (span xs) (y.node + 1)
span_push [] y = omega arith
span_push (x ∷ xs) y = omega (arith, span_push xs y)

pub span-push : (xs : List Literal) (y : Literal) → (xs ++ y ∷ [] ≡ xs ++ y ∷ []) × (span (xs ++ y ∷ []) ≡ max (span xs) (y.node + 1))
span-push xs y = (refl, span_push xs y)

-- a literal more, where it belongs
pub push_belongs : {old new : List Node} (xs ys : List Literal) (y : Literal) → ys ≡ xs ++ y ∷ [] → AllBelong old xs → Grows old new → Belongs new y → AllBelong new ys
push_belongs xs ys y is h grows k = omega (arith, ap span is, span_push xs y, grows.longer, h, k)

pub span-pos : (xs : List Literal) → 0 < length xs → 0 < span xs
span-pos [] h = h
span-pos (x ∷ xs) h = omega arith

pub span-replicate : (n : ℕ) (y : Literal) → span (replicate n y) ≤ y.node + 1
span-replicate zero y = omega arith
span-replicate (suc n) y = omega (arith, span-replicate n y)

pub span-append : (xs ys : List Literal) → span (xs ++ ys) ≡ max (span xs) (span ys)
span-append [] ys = omega arith
span-append (x ∷ xs) ys = omega (arith, span-append xs ys)

pub span-take : (n : ℕ) (xs : List Literal) → span (take n xs) ≤ span xs
span-take zero xs = omega arith
span-take (suc n) [] = omega arith
span-take (suc n) (x ∷ xs) = omega (arith, span-take n xs)

pub span-drop : (n : ℕ) (xs : List Literal) → span (drop n xs) ≤ span xs
span-drop zero xs = omega arith
span-drop (suc n) [] = omega arith
span-drop (suc n) (x ∷ xs) = omega (arith, span-drop n xs)

pub ruleset belongs = (node-lt-span, span-push, span-pos, span-replicate, span-append, span-take, span-drop)

-- nodes with conjunctions behind them have grown
pub grown : {a b : List Node} → AddsConjunctions a b → Grows a b
grown {a} {b} h = subst (Grows a) (sym h.longer) (Grows-append a h.added)
