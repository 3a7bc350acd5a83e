-- The valuation that inputs give.
use Rattle.std.proofs.Common.{◌≡◌, ℕ, zero, suc, ◌+◌, ◌<◌, ◌≤◌, Bool, false, cond, ◌&&◌, not, List, [], ◌∷◌, ◌++◌, length, drop, refl, sym, ap, ◌∙◌, subst, arith, ⊎_elim}
use Rattle.std.proofs.lemmas.List.{length_push, get_or_append_left, get_or_push, drop_all}
use Rattle.std.proofs.lemmas.Bool.{cases_lt}
use Rattle.gates.specs.Literal.{Literal}
use Rattle.gates.specs.declared.node.Node.{Node}
use Rattle.gates.specs.declared.node.Node.TheVariants.{True, Input, And}
use Rattle.gates.specs.Nodes.{node_at, StandsAt, WellFormed}
use Rattle.gates.proofs.Growth.{node_at-zero}
use Rattle.gates.specs.Valuation.{value_at, value_of, MayBe, IsValuation, FollowsInputs, PartsWithin, next_value, values_after, valuation_of}

pub length-values_after : (values : List Bool) (nodes : List Node) (inputs : List Bool) → length (values_after values nodes inputs) ≡ length values + length nodes
length-values_after values [] inputs = omega arith
length-values_after values (y ∷ nodes) inputs =
    let v = next_value values y (value_at inputs (length values)) in
    omega (arith, length-values_after (values ++ v ∷ []) nodes inputs, length_push values v)

-- the values that come before stay
value_at-values_after : (values : List Bool) (nodes : List Node) (inputs : List Bool) (n : ℕ) → n < length values → value_at (values_after values nodes inputs) n ≡ value_at values n
value_at-values_after values [] inputs n h = refl
value_at-values_after values (y ∷ nodes) inputs n h =
    let v = next_value values y (value_at inputs (length values)) in
    value_at-values_after (values ++ v ∷ []) nodes inputs n (omega (arith, h, length_push values v)) ∙ get_or_append_left values (v ∷ []) false n h

value_of-same : (u v : List Bool) (l : Literal) → value_at u l.node ≡ value_at v l.node → value_of u l ≡ value_of v l
unfolding value_of
value_of-same u v l e = ap (λ b. cond l.negative (not b) b) e

-- a node's next value is one that it may have, wherever the values of its parts stay
MayBe-next : (values final : List Bool) (y : Node) (input : Bool) → PartsWithin (length values) y → ((n : ℕ) → n < length values → value_at final n ≡ value_at values n) → MayBe final y (next_value values y input)
MayBe-next values final True input h stay = refl
MayBe-next values final Input input h stay = tt
MayBe-next values final (And a b) input h stay =
    λ i. value_of-same values final a (sym (stay a.node h.0)) i && value_of-same values final b (sym (stay b.node h.1)) i

pub PartsWithin-StandsAt : (n : ℕ) (y : Node) → StandsAt n y → PartsWithin n y
PartsWithin-StandsAt n True h = tt
PartsWithin-StandsAt n Input h = tt
PartsWithin-StandsAt n (And a b) h = (omega (arith, h.1, h.2), h.2)

next_value-Input : (values : List Bool) (y : Node) (input : Bool) → y ≡ Input → next_value values y input ≡ input
next_value-Input values y input e = ap (λ x. next_value values x input) e

-- the value of each node after the first ones
abbrev Computed : List Bool → List Node → List Bool → ℕ → Type 0
Computed values nodes inputs n =
    let final = values_after values nodes inputs in
    let at = length values + n in
    MayBe final (node_at nodes n) (value_at final at) × (node_at nodes n ≡ Input → value_at final at ≡ value_at inputs at)

computed : (values : List Bool) (nodes : List Node) (inputs : List Bool) → ((n : ℕ) → n < length nodes → StandsAt (length values + n) (node_at nodes n)) → (n : ℕ) → n < length nodes → Computed values nodes inputs n
computed values [] inputs placed n h = absurd (omega (arith, h))
computed values (y ∷ nodes) inputs placed zero h =
    let v = next_value values y (value_at inputs (length values)) in
    let final = values_after (values ++ v ∷ []) nodes inputs in
    let k : length values + 0 ≡ length values = omega arith in
    let e : value_at final (length values + 0) ≡ v =
    ap (value_at final) k ∙ value_at-values_after (values ++ v ∷ []) nodes inputs (length values) (omega (arith, length_push values v)) ∙ get_or_push values v false (length values) refl in
    let stay = λ (m : ℕ) (l : m < length values). value_at-values_after (values ++ v ∷ []) nodes inputs m (omega (arith, l, length_push values v)) ∙ get_or_append_left values (v ∷ []) false m l in (
      subst (MayBe final y) (sym e) (MayBe-next values final y (value_at inputs (length values)) (PartsWithin-StandsAt (length values) y (subst (λ m. StandsAt m y) k (placed 0 h))) stay),
      λ input. e ∙ next_value-Input values y (value_at inputs (length values)) input ∙ ap (value_at inputs) (sym k),
    )
computed values (y ∷ nodes) inputs placed (suc n) h =
    let v = next_value values y (value_at inputs (length values)) in
    let final = values_after (values ++ v ∷ []) nodes inputs in
    let k = λ (m : ℕ). (let e : length (values ++ v ∷ []) + m ≡ length values + suc m = omega (arith, length_push values v) in e) in
    let r = computed (values ++ v ∷ []) nodes inputs (λ m l. subst (λ j. StandsAt j (node_at nodes m)) (sym (k m)) (placed (suc m) (omega (arith, l)))) n (omega (arith, h)) in (
      subst (λ j. MayBe final (node_at nodes n) (value_at final j)) (k n) r.0,
      subst (λ j. node_at nodes n ≡ Input → value_at final j ≡ value_at inputs j) (k n) r.1,
    )

module _ (nodes : List Node) (inputs : List Bool) (well : WellFormed nodes) where
  at_start : (n : ℕ) → n < length nodes → Computed [] nodes inputs n
  at_start = computed [] nodes inputs (λ n h. let e : n ≡ 0 + n = omega arith in subst (λ m. StandsAt m (node_at nodes n)) e (well.placed n h))

  pub IsValuation-valuation_of : IsValuation nodes (valuation_of nodes inputs)
  IsValuation-valuation_of = record {
    enough = omega (arith, length-values_after [] nodes inputs);
    constant = subst (λ y. MayBe (valuation_of nodes inputs) y (value_at (valuation_of nodes inputs) 0)) (node_at-zero nodes well) (at_start 0 well.constant).0;
    agrees = λ n h. let e : 0 + n ≡ n = omega arith in subst (λ m. MayBe (valuation_of nodes inputs) (node_at nodes n) (value_at (valuation_of nodes inputs) m)) e (at_start n h).0;
  }

  pub FollowsInputs-valuation_of : FollowsInputs nodes inputs (valuation_of nodes inputs)
  FollowsInputs-valuation_of n h = let e : 0 + n ≡ n = omega arith in subst (λ m. node_at nodes n ≡ Input → value_at (valuation_of nodes inputs) m ≡ value_at inputs m) e (at_start n h).1

  pub length-valuation_of : length (valuation_of nodes inputs) ≡ length nodes
  length-valuation_of = length-values_after [] nodes inputs ∙ omega arith

-- two valuations that agree on the inputs agree on all nodes
module _ (nodes : List Node) (u v : List Bool) (well : WellFormed nodes) (first : IsValuation nodes u) (second : IsValuation nodes v)
    (inputs : (n : ℕ) → n < length nodes → node_at nodes n ≡ Input → value_at u n ≡ value_at v n) where
  same_value : (n : ℕ) (y : Node) → PartsWithin n y → (y ≡ Input → value_at u n ≡ value_at v n) → ((m : ℕ) → m < n → value_at u m ≡ value_at v m)
      → MayBe u y (value_at u n) → MayBe v y (value_at v n) → value_at u n ≡ value_at v n
  same_value n True h input below p q = p ∙ sym q
  same_value n Input h input below p q = input refl
  same_value n (And a b) h input below p q = p ∙ (λ i. value_of-same u v a (below a.node h.0) i && value_of-same u v b (below b.node h.1) i) ∙ sym q

  same_below : (bound : ℕ) → bound ≤ length nodes → (m : ℕ) → m < bound → value_at u m ≡ value_at v m
  same_below zero _ m h = absurd (omega (arith, h))
  same_below (suc bound) within m h =
      let before = same_below bound (omega (arith, within)) in
      ⊎_elim (before m)
      (λ above. let e : bound ≡ m = omega (arith, h, above) in
      subst (λ k. value_at u k ≡ value_at v k) e
      (same_value bound (node_at nodes bound) (PartsWithin-StandsAt bound (node_at nodes bound) (well.placed bound (omega (arith, within))))
      (inputs bound (omega (arith, within))) before (first.agrees bound (omega (arith, within))) (second.agrees bound (omega (arith, within)))))
      (cases_lt m bound)

  pub valuations_agree : (n : ℕ) → n < length nodes → value_at u n ≡ value_at v n
  valuations_agree = same_below (length nodes) (omega arith)

pub values_after-all : (values : List Bool) (nodes : List Node) (inputs : List Bool) (n : ℕ) → length nodes ≤ n → values_after values (drop n nodes) inputs ≡ values
values_after-all values nodes inputs n h = ap (λ rest. values_after values rest inputs) (drop_all n nodes h)
