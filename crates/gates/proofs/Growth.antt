-- How lists of nodes grow, and what stays when they do.
use Rattle.std.proofs.Common.{◌≡◌, ℕ, ◌<◌, zero, suc, List, [], ◌∷◌, ◌++◌, length, get_or, take, refl, sym, ap, ◌∙◌, subst, append_assoc, arith, ⊎_elim, Result, Ok, Err, OnOk, IsTrue}
use Rattle.std.specs.Prelude.{OnErr}
use Rattle.std.specs.List.{AllByRecursion}
use Rattle.std.proofs.lemmas.List.{append-nil, length-append, take_at, take-take, take_all, get_or_append_left, get_or-take, get_or_push, length_push}
use Rattle.std.proofs.lemmas.Bool.{cases_lt}
use Rattle.gates.specs.Literal.{Literal, span}
use Rattle.gates.specs.declared.node.Node.{Node}
use Rattle.gates.specs.declared.node.Node.TheVariants.{True, Input, And}
use Rattle.gates.specs.Nodes.{node_at, is_conjunction, StandsAt, WellFormed, Grows, AddsConjunctions}

pub Grows-refl : (nodes : List Node) → Grows nodes nodes
Grows-refl nodes = record { longer = omega arith; kept = take_all _ nodes (omega arith) }

pub Grows-append : (nodes more : List Node) → Grows nodes (nodes ++ more)
Grows-append nodes more = record { longer = omega (arith, length-append nodes more); kept = take_at nodes more _ refl }

pub Grows-trans : {a b c : List Node} → Grows a b → Grows b c → Grows a c
Grows-trans {a} {b} {c} first second = record {
  longer = omega (arith, first.longer, second.longer);
  kept = sym (take-take (length a) (length b) c first.longer) ∙ ap (take (length a)) second.kept ∙ first.kept;
}

-- Where only conjunctions are added.

pub AddsConjunctions-refl : (nodes : List Node) → AddsConjunctions nodes nodes
AddsConjunctions-refl nodes = record { added = []; longer = sym (append-nil nodes); all_conjunctions = tt }

conjunctions-append : (xs ys : List Node) → AllByRecursion (λ y. IsTrue (is_conjunction y)) xs → AllByRecursion (λ y. IsTrue (is_conjunction y)) ys → AllByRecursion (λ y. IsTrue (is_conjunction y)) (xs ++ ys)
conjunctions-append [] ys h k = k
conjunctions-append (x ∷ xs) ys h k = (h.0, conjunctions-append xs ys h.1 k)

pub AddsConjunctions-trans : {a b c : List Node} → AddsConjunctions a b → AddsConjunctions b c → AddsConjunctions a c
AddsConjunctions-trans {a} {b} {c} first second = record {
  added = first.added ++ second.added;
  longer = second.longer ∙ ap (λ ns. ns ++ second.added) first.longer ∙ append_assoc a first.added second.added;
  all_conjunctions = conjunctions-append first.added second.added first.all_conjunctions second.all_conjunctions;
}

-- one conjunction was added, or none where memory was refused
pub AddsConjunctions-one : {T E : Type 0} (old new : List Node) (a b : Literal) (r : Result T E) → OnOk r (new ≡ old ++ And a b ∷ []) → OnErr r (new ≡ old) → AddsConjunctions old new
AddsConjunctions-one old new a b (Ok x) ok err = record { added = And a b ∷ []; longer = ok; all_conjunctions = (refl, tt) }
AddsConjunctions-one old new a b (Err e) ok err = record { added = []; longer = err ∙ sym (append-nil old); all_conjunctions = tt }

-- a node keeps its number
pub node_at-Grows : {old new : List Node} → Grows old new → (n : ℕ) → n < length old → node_at new n ≡ node_at old n
node_at-Grows {old} {new} grows n h = sym (get_or-take (length old) new n True h) ∙ ap (λ ns. node_at ns n) grows.kept

-- a node more, where it may stand
pub WellFormed-push : (nodes : List Node) (y : Node) → WellFormed nodes → StandsAt (length nodes) y → WellFormed (nodes ++ y ∷ [])
WellFormed-push nodes y well h = record {
  constant = omega (arith, length_push nodes y, well.constant);
  placed = λ n below. ⊎_elim
      (λ l. subst (StandsAt n) (sym (get_or_append_left nodes (y ∷ []) True n l)) (well.placed n l))
      (λ m. let e : length nodes ≡ n = omega (arith, length_push nodes y) in
      subst (StandsAt n) (sym (get_or_push nodes y True n e)) (subst (λ k. StandsAt k y) e h))
      (cases_lt n (length nodes));
}

-- the first node is the constant, and no other
pub node_at-zero : (nodes : List Node) → WellFormed nodes → node_at nodes 0 ≡ True
node_at-zero nodes well = by (node_at nodes 0) (well.placed 0 well.constant)
  where
    by : (y : Node) → StandsAt 0 y → y ≡ True
    by True h = refl
    by Input h = absurd (omega (arith, h))
    by (And a b) h = absurd (omega (arith, h.0, h.1, h.2))

-- a list's literals belong if each of them does, and the other way round
pub node-lt-span : (ls : List Literal) (k : ℕ) (d : Literal) → k < length ls → (get_or ls k d).node < span ls
node-lt-span [] k d h = absurd (omega (arith, h))
node-lt-span (l ∷ ls) zero d h = omega arith
node-lt-span (l ∷ ls) (suc k) d h = omega (arith, node-lt-span ls k d (omega (arith, h)))
