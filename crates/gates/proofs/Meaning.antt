-- What a conjunction's literal means, and that the pair finds it again.
use Rattle.std.proofs.Common.{◌≡◌, ◌≢◌, ℕ, ◌+◌, ◌*◌, ◌/◌, ◌%◌, ◌<◌, Bool, true, false, cond, eqb, ltb, ◌&&◌, not, List, [], ◌∷◌, ◌++◌, length, drop, Option, None, Some, Result, Ok, Err, IfSome, IfOk, OnOk, refl, sym, ap, ◌∙◌, subst, arith, ⊎_elim}
use Rattle.std.specs.List.{position_from}
use Rattle.std.specs.Option.{option_map, option_or}
use Rattle.std.proofs.lemmas.List.{take-append-drop}
use Rattle.std.proofs.lemmas.Bool.{cases_lt, false≢true, eqb-true, eqb-false, eq-eqb, lt-ltb, le-ltb, and_parts}
use Rattle.std.proofs.lemmas.Bool.Decides.{nat_tests}
use Rattle.gates.specs.Literal.{Literal, literal_of, code_of, negated, positive, always, never}
use Rattle.gates.specs.declared.node.Node.{Node}
use Rattle.gates.specs.declared.node.Node.TheVariants.{True, Input, And}
use Rattle.gates.specs.Nodes.{node_at, StandsAt, WellFormed, Grows, Belongs}
use Rattle.gates.specs.Valuation.{value_at, value_of, MayBe, IsValuation}
use Rattle.std.specs.Map.{lookup}
use Rattle.gates.specs.Sharing.{pairs_from, is_same, simplified, earlier, later, joins, joined, conjunction, Stands}
use Rattle.gates.proofs.Growth.{node_at-Grows}
use Rattle.gates.proofs.Pairs.{lookup-pairs_from, position_from-append, position_from-push, position_from-found}

-- a valuation of more nodes is one of the first of them
pub IsValuation-Grows : {old new : List Node} {values : List Bool} → Grows old new → IsValuation new values → IsValuation old values
IsValuation-Grows {old} {new} {values} grows v = record {
  enough = omega (arith, grows.longer, v.enough);
  constant = v.constant;
  agrees = λ n h. subst (λ y. MayBe values y (value_at values n)) (node_at-Grows grows n h) (v.agrees n (omega (arith, h, grows.longer)));
}

-- the constant's literals
pub value_of-constant : {nodes : List Node} {values : List Bool} → IsValuation nodes values → (value_of values always ≡ true) × (value_of values (negated always) ≡ false)
unfolding value_of
value_of-constant v = (v.constant, ap not v.constant)

-- the value of a negation
pub value_of-negated : (values : List Bool) (l : Literal) → value_of values (negated l) ≡ not (value_of values l)
unfolding value_of
value_of-negated values l = by l.negative (value_at values l.node)
  where
    by : (n v : Bool) → cond (not n) (not v) v ≡ not (cond n (not v) v)
    by true true = refl
    by true false = refl
    by false true = refl
    by false false = refl

-- how `simplified` goes, by cases on the two literals
data Simplifies (a b : Literal) : Option Literal → Type 0 where
  same : is_same a b ≡ true → Simplifies a b (Some a)
  opposite : a.node ≡ b.node → is_same a b ≡ false → Simplifies a b (Some never)
  first_false : a.node ≡ 0 → b.node ≢ 0 → a.negative ≡ true → Simplifies a b (Some a)
  first_true : a.node ≡ 0 → b.node ≢ 0 → a.negative ≡ false → Simplifies a b (Some b)
  second_false : b.node ≡ 0 → a.node ≢ 0 → b.negative ≡ true → Simplifies a b (Some b)
  second_true : b.node ≡ 0 → a.node ≢ 0 → b.negative ≡ false → Simplifies a b (Some a)
  needs_node : a.node ≢ b.node → a.node ≢ 0 → b.node ≢ 0 → Simplifies a b None

by_second : (a b : Literal) → a.node ≢ b.node → a.node ≢ 0 → (r : Bool) → eqb b.node 0 ≡ r → Simplifies a b (cond r (Some (cond b.negative b a)) None)
by_second a b apart nonzero true e = by b.negative refl
  where
    by : (s : Bool) → b.negative ≡ s → Simplifies a b (Some (cond s b a))
    by true n = second_false (eqb-true b.node 0 e) nonzero n
    by false n = second_true (eqb-true b.node 0 e) nonzero n
by_second a b apart nonzero false e = needs_node apart nonzero (eqb-false b.node 0 e)

by_first : (a b : Literal) → a.node ≢ b.node → (r : Bool) → eqb a.node 0 ≡ r → Simplifies a b (cond r (Some (cond a.negative a b)) (cond (eqb b.node 0) (Some (cond b.negative b a)) None))
by_first a b apart true e = by a.negative refl
  where
    by : (s : Bool) → a.negative ≡ s → Simplifies a b (Some (cond s a b))
    by true n = first_false (eqb-true a.node 0 e) (λ z. apart (eqb-true a.node 0 e ∙ sym z)) n
    by false n = first_true (eqb-true a.node 0 e) (λ z. apart (eqb-true a.node 0 e ∙ sym z)) n
by_first a b apart false e = by_second a b apart (eqb-false a.node 0 e) (eqb b.node 0) refl

by_node : (a b : Literal) → (r : Bool) → eqb a.node b.node ≡ r → Simplifies a b (cond r (Some (cond (is_same a b) a never)) (cond (eqb a.node 0) (Some (cond a.negative a b)) (cond (eqb b.node 0) (Some (cond b.negative b a)) None)))
by_node a b true e = by (is_same a b) refl
  where
    by : (s : Bool) → is_same a b ≡ s → Simplifies a b (Some (cond s a never))
    by true n = same n
    by false n = opposite (eqb-true a.node b.node e) n
by_node a b false e = by_first a b (eqb-false a.node b.node e) (eqb a.node 0) refl

simplifies : (a b : Literal) → Simplifies a b (simplified a b)
simplifies a b = by_node a b (eqb a.node b.node) refl

-- a literal is kept by its number
half-code_of : (l : Literal) → code_of l / 2 ≡ l.node
half-code_of l = by l.negative
  where
    by : (b : Bool) → (2 * l.node + cond b 1 0) / 2 ≡ l.node
    by true = omega arith
    by false = omega arith

odd-code_of : (l : Literal) → eqb (code_of l % 2) 1 ≡ l.negative
odd-code_of l = by l.negative
  where
    by : (b : Bool) → eqb ((2 * l.node + cond b 1 0) % 2) 1 ≡ b
    by true = grind (arith, nat_tests)
    by false = grind (arith, nat_tests)

literal_of-code_of : (l : Literal) → literal_of (code_of l) ≡ l
literal_of-code_of l i = record { node = half-code_of l i; negative = odd-code_of l i }

-- literals of one number are one
same_literal : (a b : Literal) → code_of a ≡ code_of b → a ≡ b
same_literal a b e = sym (literal_of-code_of a) ∙ ap literal_of e ∙ literal_of-code_of b

pub same_from_is_same : (a b : Literal) → is_same a b ≡ true → a ≡ b
same_from_is_same a b e = same_literal a b (eqb-true (code_of a) (code_of b) e)

and-true : (x : Bool) → x && true ≡ x
and-true true = refl
and-true false = refl

and-false : (x : Bool) → x && false ≡ false
and-false true = refl
and-false false = refl

and-self : (x : Bool) → x && x ≡ x
and-self true = refl
and-self false = refl

pub and_turned : (x y : Bool) → x && y ≡ y && x
and_turned true y = sym (and-true y)
and_turned false y = sym (and-false y)

-- two literals of one node that are not one have opposite values
opposite_values : (values : List Bool) (a b : Literal) → a.node ≡ b.node → is_same a b ≡ false → value_of values a && value_of values b ≡ false
unfolding value_of
opposite_values values a b node apart =
    ap (λ k. value_of values a && cond b.negative (not (value_at values k)) (value_at values k)) (sym node)
    ∙ by a.negative b.negative refl refl (value_at values a.node)
  where
    by : (m n : Bool) → a.negative ≡ m → b.negative ≡ n → (v : Bool) → cond m (not v) v && cond n (not v) v ≡ false
    by true true e f v = absurd (false≢true (sym apart ∙ eq-eqb (code_of a) (code_of b) (λ i. 2 * node i + cond ((e ∙ sym f) i) 1 0)))
    by true false e f true = refl
    by true false e f false = refl
    by false true e f true = refl
    by false true e f false = refl
    by false false e f v = absurd (false≢true (sym apart ∙ eq-eqb (code_of a) (code_of b) (λ i. 2 * node i + cond ((e ∙ sym f) i) 1 0)))

-- the values of the constant's literals
value_of-never : (values : List Bool) → value_at values 0 ≡ true → (a : Literal) → a.node ≡ 0 → a.negative ≡ true → value_of values a ≡ false
unfolding value_of
value_of-never values constant a z n =
    ap (λ s. cond s (not (value_at values a.node)) (value_at values a.node)) n ∙ ap (λ k. not (value_at values k)) z ∙ ap not constant

value_of-always : (values : List Bool) → value_at values 0 ≡ true → (a : Literal) → a.node ≡ 0 → a.negative ≡ false → value_of values a ≡ true
unfolding value_of
value_of-always values constant a z n =
    ap (λ s. cond s (not (value_at values a.node)) (value_at values a.node)) n ∙ ap (value_at values) z ∙ constant

-- the literal, if there is one, has the value of the conjunction
abbrev pub Means : List Bool → Literal → Literal → Option Literal → Type 0
Means values a b r = IfSome r (λ l. value_of values l ≡ (value_of values a && value_of values b))

simplified_means : (values : List Bool) → value_at values 0 ≡ true → (a b : Literal) (r : Option Literal) → Simplifies a b r → Means values a b r
simplified_means values constant a b _ (same e) = sym (and-self (value_of values a)) ∙ ap (λ y. value_of values a && value_of values y) (same_from_is_same a b e)
simplified_means values constant a b _ (opposite n e) = value_of-never values constant never refl refl ∙ sym (opposite_values values a b n e)
simplified_means values constant a b _ (first_false z nz n) =
    let f = value_of-never values constant a z n in f ∙ ap (λ x. x && value_of values b) (sym f)
simplified_means values constant a b _ (first_true z nz n) =
    ap (λ x. x && value_of values b) (sym (value_of-always values constant a z n))
simplified_means values constant a b _ (second_false z nz n) =
    let f = value_of-never values constant b z n in f ∙ sym (and-false (value_of values a)) ∙ ap (λ x. value_of values a && x) (sym f)
simplified_means values constant a b _ (second_true z nz n) =
    sym (and-true (value_of values a)) ∙ ap (λ x. value_of values a && x) (sym (value_of-always values constant b z n))
simplified_means values constant a b _ (needs_node x y z) = tt

simplified_belongs : (n : ℕ) (a b : Literal) (r : Option Literal) → a.node < n → b.node < n → Simplifies a b r → IfSome r (λ l. l.node < n)
simplified_belongs n a b _ h k (same e) = h
simplified_belongs n a b _ h k (opposite e f) = omega (arith, h)
simplified_belongs n a b _ h k (first_false z nz s) = h
simplified_belongs n a b _ h k (first_true z nz s) = k
simplified_belongs n a b _ h k (second_false z nz s) = k
simplified_belongs n a b _ h k (second_true z nz s) = h
simplified_belongs n a b _ h k (needs_node x y z) = tt

-- the order of the two makes no difference
simplified_turned : (a b : Literal) (r : Option Literal) → Simplifies a b r → r ≡ simplified b a
simplified_turned a b _ (same e) =
    let ab = same_from_is_same a b e in
    subst (λ y. Some a ≡ simplified y a) ab (rw (eq-eqb a.node a.node refl, eq-eqb (code_of a) (code_of a) refl))
simplified_turned a b _ (opposite n e) = grind (arith, nat_tests)
simplified_turned a b _ (first_false z nz n) = grind (arith, nat_tests)
simplified_turned a b _ (first_true z nz n) = grind (arith, nat_tests)
simplified_turned a b _ (second_false z nz n) = grind (arith, nat_tests)
simplified_turned a b _ (second_true z nz n) = grind (arith, nat_tests)
simplified_turned a b _ (needs_node x y z) = grind (arith, nat_tests)

-- ---- with the nodes

no_choice : (r q : Option Literal) → option_or r q ≡ None → (r ≡ None) × (q ≡ None)
no_choice None q h = (refl, h)
no_choice (Some l) q h = absurd (let e : Some l ≡ None = h in cc)

no_place : (p : Option ℕ) → option_map positive p ≡ None → p ≡ None
no_place None h = refl
no_place (Some n) h = absurd (let e : Some (positive n) ≡ None = h in cc)

a_place : (p : Option ℕ) (l : Literal) → option_map positive p ≡ Some l → (n : ℕ) × (p ≡ Some n) × (positive n ≡ l)
a_place None l h = absurd (let e : None ≡ Some l = h in cc)
a_place (Some n) l h = (n, refl, let e : Some (positive n) ≡ Some l = h in cc)

-- what stood for a conjunction still does when there are more nodes
pub conjunction-Grows : {old new : List Node} → Grows old new → (a b l : Literal) → conjunction old a b ≡ Some l → conjunction new a b ≡ Some l
conjunction-Grows {old} {new} grows a b l h =
    subst (λ ns. conjunction ns a b ≡ Some l) (ap (λ ns. ns ++ drop (length old) new) (sym grows.kept) ∙ take-append-drop (length old) new)
    (by (simplified a b) h)
  where
    by : (r : Option Literal) → option_or r (joined old (earlier a b) (later a b)) ≡ Some l → option_or r (joined (old ++ drop (length old) new) (earlier a b) (later a b)) ≡ Some l
    by None e = let p = a_place (position_from (joins (earlier a b) (later a b)) 0 old) l e in
        ap (option_map positive) (position_from-append (joins (earlier a b) (later a b)) 0 p.0 old (drop (length old) new) p.1) ∙ ap Some p.2
    by (Some k) e = e

order_apart : (a b : Literal) → a.node ≢ b.node → (earlier a b ≡ earlier b a) × (later a b ≡ later b a)
order_apart a b apart = ⊎_elim
    (λ l. let f = lt-ltb a.node b.node l in let g = le-ltb b.node a.node (omega (arith, l)) in
    (ap (λ c. cond c a b) f ∙ ap (λ c. cond c b a) (sym g), ap (λ c. cond c b a) f ∙ ap (λ c. cond c a b) (sym g)))
    (λ m. let l : b.node < a.node = omega (arith, m, apart) in let f = lt-ltb b.node a.node l in let g = le-ltb a.node b.node m in
    (ap (λ c. cond c a b) g ∙ ap (λ c. cond c b a) (sym f), ap (λ c. cond c b a) g ∙ ap (λ c. cond c a b) (sym f)))
    (cases_lt a.node b.node)

-- the order of the two makes no difference
pub conjunction-turned : (nodes : List Node) (a b : Literal) → conjunction nodes a b ≡ conjunction nodes b a
conjunction-turned nodes a b =
    by (simplified a b) (simplifies a b) ∙ ap (λ r. option_or r (joined nodes (earlier b a) (later b a))) (simplified_turned a b (simplified a b) (simplifies a b))
  where
    by : (r : Option Literal) → Simplifies a b r → option_or r (joined nodes (earlier a b) (later a b)) ≡ option_or r (joined nodes (earlier b a) (later b a))
    by _ (same e) = refl
    by _ (opposite n e) = refl
    by _ (first_false z nz n) = refl
    by _ (first_true z nz n) = refl
    by _ (second_false z nz n) = refl
    by _ (second_true z nz n) = refl
    by _ (needs_node apart y z) = let o = order_apart a b apart in λ i. joined nodes (o.0 i) (o.1 i)

-- where nothing stands for a conjunction, its node may stand next
pub StandsAt-next : (nodes : List Node) (a b : Literal) → Belongs nodes a → Belongs nodes b → conjunction nodes a b ≡ None → StandsAt (length nodes) (And (earlier a b) (later a b))
StandsAt-next nodes a b h k none = by (simplified a b) (simplifies a b) (no_choice (simplified a b) (joined nodes (earlier a b) (later a b)) none).0
  where
    by : (r : Option Literal) → Simplifies a b r → r ≡ None → StandsAt (length nodes) (And (earlier a b) (later a b))
    by _ (same e) n = absurd (let f : Some a ≡ None = n in cc)
    by _ (opposite s e) n = absurd (let f : Some never ≡ None = n in cc)
    by _ (first_false z nz s) n = absurd (let f : Some a ≡ None = n in cc)
    by _ (first_true z nz s) n = absurd (let f : Some b ≡ None = n in cc)
    by _ (second_false z nz s) n = absurd (let f : Some b ≡ None = n in cc)
    by _ (second_true z nz s) n = absurd (let f : Some a ≡ None = n in cc)
    by _ (needs_node apart y z) n = ⊎_elim
        (λ l. let P : Bool → Type 0 = λ c. StandsAt (length nodes) (And (cond c a b) (cond c b a)) in
        subst P (sym (lt-ltb a.node b.node l)) (omega (arith, y), l, k))
        (λ m. let P : Bool → Type 0 = λ c. StandsAt (length nodes) (And (cond c a b) (cond c b a)) in
        subst P (sym (le-ltb a.node b.node m)) (omega (arith, z), omega (arith, m, apart), h))
        (cases_lt a.node b.node)

is_same-refl : (a : Literal) → is_same a a ≡ true
is_same-refl a = eq-eqb (code_of a) (code_of a) refl

-- and then it stands for the conjunction
pub conjunction-push : (nodes : List Node) (a b : Literal) → conjunction nodes a b ≡ None → conjunction (nodes ++ And (earlier a b) (later a b) ∷ []) a b ≡ Some (positive (length nodes))
conjunction-push nodes a b none =
    let n = no_choice (simplified a b) (joined nodes (earlier a b) (later a b)) none in
    ap (λ r. option_or r (joined (nodes ++ And (earlier a b) (later a b) ∷ []) (earlier a b) (later a b))) n.0
    ∙ ap (option_map positive) (position_from-push (joins (earlier a b) (later a b)) 0 (length nodes) nodes (And (earlier a b) (later a b))
    (no_place (position_from (joins (earlier a b) (later a b)) 0 nodes) n.1)
    (ap (λ c. c && is_same (later a b) (later a b)) (is_same-refl (earlier a b)) ∙ is_same-refl (later a b))
    (omega arith))

-- the node that joins two literals
joins-And : (x y : Literal) (node : Node) → joins x y node ≡ true → node ≡ And x y
joins-And x y True h = absurd (false≢true h)
joins-And x y Input h = absurd (false≢true h)
joins-And x y (And p q) h = let e = and_parts (is_same x p) (is_same y q) h in
    sym (λ i. And (same_from_is_same x p e.0 i) (same_from_is_same y q e.1 i))

in_order_means : (values : List Bool) (a b : Literal) → value_of values (earlier a b) && value_of values (later a b) ≡ value_of values a && value_of values b
in_order_means values a b = by (ltb a.node b.node)
  where
    by : (c : Bool) → value_of values (cond c a b) && value_of values (cond c b a) ≡ value_of values a && value_of values b
    by true = refl
    by false = and_turned (value_of values b) (value_of values a)

-- a literal that stands for a conjunction has its value
pub conjunction_means : (nodes : List Node) (values : List Bool) (a b : Literal) → WellFormed nodes → IsValuation nodes values → Means values a b (conjunction nodes a b)
unfolding value_of
conjunction_means nodes values a b well v = by (simplified a b) (simplified_means values v.constant a b (simplified a b) (simplifies a b))
  where
    at : (p : Option ℕ) → position_from (joins (earlier a b) (later a b)) 0 nodes ≡ p → Means values a b (option_map positive p)
    at None e = tt
    at (Some n) e =
        let f = position_from-found (joins (earlier a b) (later a b)) 0 n nodes True e in
        let same : f.0 ≡ n = omega (arith, f.1) in
        let node = joins-And (earlier a b) (later a b) (node_at nodes f.0) f.3 in
        subst (λ m. value_at values m ≡ value_of values a && value_of values b) same
        (subst (λ y. MayBe values y (value_at values f.0)) node (v.agrees f.0 f.2) ∙ in_order_means values a b)

    by : (r : Option Literal) → Means values a b r → Means values a b (option_or r (joined nodes (earlier a b) (later a b)))
    by None h = at (position_from (joins (earlier a b) (later a b)) 0 nodes) refl
    by (Some l) h = h

-- and belongs to the nodes
pub conjunction_belongs : (nodes : List Node) (a b : Literal) → Belongs nodes a → Belongs nodes b → IfSome (conjunction nodes a b) (Belongs nodes)
conjunction_belongs nodes a b h k = by (simplified a b) (simplified_belongs (length nodes) a b (simplified a b) h k (simplifies a b))
  where
    at : (p : Option ℕ) → position_from (joins (earlier a b) (later a b)) 0 nodes ≡ p → IfSome (option_map positive p) (Belongs nodes)
    at None e = tt
    at (Some n) e = let f = position_from-found (joins (earlier a b) (later a b)) 0 n nodes True e in omega (arith, f.1, f.2)

    by : (r : Option Literal) → IfSome r (Belongs nodes) → IfSome (option_or r (joined nodes (earlier a b) (later a b))) (Belongs nodes)
    by None h = at (position_from (joins (earlier a b) (later a b)) 0 nodes) refl
    by (Some l) h = h

-- what is found among the pairs
pub conjunction-lookup : (nodes : List Node) (a b x y : Literal) (entries : List ((Literal × Literal) × Literal)) (r : Option Literal)
    → entries ≡ pairs_from 0 nodes → x ≡ earlier a b → y ≡ later a b → None ≡ simplified a b
    → r ≡ lookup (λ p. is_same x p.0 && is_same y p.1) entries → r ≡ conjunction nodes a b
conjunction-lookup nodes a b x y entries r es first second none h =
    h ∙ (λ i. lookup (λ p. is_same (first i) p.0 && is_same (second i) p.1) (es i)) ∙ lookup-pairs_from (earlier a b) (later a b) 0 nodes
    ∙ ap (λ q. option_or q (joined nodes (earlier a b) (later a b))) none

-- a new node stands for its pair in both orders
pub Stands-push : (nodes : List Node) (a b : Literal) → conjunction nodes a b ≡ None → Stands (nodes ++ And (earlier a b) (later a b) ∷ []) a b (positive (length nodes))
Stands-push nodes a b none = record {
  forwards = conjunction-push nodes a b none;
  backwards = sym (conjunction-turned (nodes ++ And (earlier a b) (later a b) ∷ []) a b) ∙ conjunction-push nodes a b none;
}

-- the pair of a conjunction that nothing stands for is not found
pub lookup-absent : (nodes : List Node) (a b x y : Literal) (entries : List ((Literal × Literal) × Literal))
    → entries ≡ pairs_from 0 nodes → x ≡ earlier a b → y ≡ later a b → conjunction nodes a b ≡ None
    → lookup (λ p. is_same x p.0 && is_same y p.1) entries ≡ None
lookup-absent nodes a b x y entries es first second none =
    (λ i. lookup (λ p. is_same (first i) p.0 && is_same (second i) p.1) (es i)) ∙ lookup-pairs_from (earlier a b) (later a b) 0 nodes
    ∙ (no_choice (simplified a b) (joined nodes (earlier a b) (later a b)) none).1

-- what an answer of `join` stands for
pub Stands-joined : {E : Type 0} (nodes new : List Node) (a b : Literal) (r : Result Literal E) → conjunction nodes a b ≡ None
    → OnOk r (new ≡ nodes ++ And (earlier a b) (later a b) ∷ []) → IfOk r (λ l. l ≡ positive (length nodes)) → IfOk r (λ l. Stands new a b l)
Stands-joined nodes new a b (Err e) none added literal = tt
Stands-joined nodes new a b (Ok l) none added literal =
    subst (λ ns. Stands ns a b l) (sym added) (subst (λ m. Stands (nodes ++ And (earlier a b) (later a b) ∷ []) a b m) (sym literal) (Stands-push nodes a b none))

-- and what it means
pub Means-joined : {E : Type 0} (nodes new : List Node) (a b : Literal) (r : Result Literal E) → conjunction nodes a b ≡ None
    → OnOk r (new ≡ nodes ++ And (earlier a b) (later a b) ∷ []) → IfOk r (λ l. l ≡ positive (length nodes)) → WellFormed new
    → IfOk r (λ l. (values : List Bool) → IsValuation new values → value_of values l ≡ (value_of values a && value_of values b))
Means-joined nodes new a b (Err e) none added literal well = tt
Means-joined nodes new a b (Ok l) none added literal well =
    λ values v. subst (Means values a b) (ap (λ ns. conjunction ns a b) added ∙ conjunction-push nodes a b none ∙ ap Some (sym literal)) (conjunction_means new values a b well v)
