-- What the nodes of a draft say.
use Rattle.std.proofs.Common.{◌≡◌, ℕ, ◌+◌, ◌*◌, ◌<◌, ◌≤◌, Bool, true, false, not, cond, List, [], ◌∷◌, ◌++◌, length, Result, Ok, Err, refl, sym, ap, subst, ◌∙◌, arith, append_assoc}
use Rattle.std.specs.Prelude.{Some, slice_get, IfOk, OnOk}
use Rattle.std.specs.declared.alloc.AllocError.{AllocError}
use Rattle.std.proofs.lemmas.List.{get_or_append_left, get_or_push, length-append, length_push, append-nil}
use Rattle.std.proofs.lemmas.Option.{get_or_from_slice_get, slice_get_within, slice_get_read}
use Rattle.smv_tree.specs.Trees.{Tree}
use Rattle.smv_tree.specs.Models.{Claim, atom, no, after, always, some_time, both}
use Rattle.smv_tree.specs.declared.formula.FormOp.{FormOp}
use Rattle.smv_tree.specs.declared.formula.FormOp.TheVariants as op
use Rattle.ltl_form.specs.declared.node.NnfNode.{NnfNode}
use Rattle.ltl_form.specs.declared.node.NnfNode.TheVariants as node
use Rattle.ltl_form.specs.Nodes.{Says, PartsWithin, IsOrdered, node_at}
use Rattle.ltl_form.specs.Nodes as says
use Rattle.ltl_form.specs.Normal.{normal}
use Rattle.ltl_form.specs.Sizes.{compares, size, comparisons, nodes_of_one, nodes_of_two}
use Rattle.ltl_form.specs.Numbered.{claim_of}
use Rattle.ltl_form.specs.declared.numbered.NumberedFormula.{NumberedFormula}
use Rattle.ltl_form.specs.Drafts.{Extends, SaysTwo, always_node, left_negated, joined_node, equal_asked}

pub there : (nodes more : List NnfNode) (i : ℕ) (n : NnfNode) → slice_get nodes i ≡ Some n → slice_get (nodes ++ more) i ≡ Some n
there nodes more i n e =
    let w : i < length nodes = slice_get_within nodes i n e in
    slice_get_read (nodes ++ more) (length (nodes ++ more)) i n refl (omega (arith, length-append nodes more))
    (sym (get_or_append_left nodes more n i w ∙ get_or_from_slice_get nodes i n n e))

pub here : (nodes : List NnfNode) (n : NnfNode) → slice_get (nodes ++ n ∷ []) (length nodes) ≡ Some n
here nodes n = slice_get_read (nodes ++ n ∷ []) (length (nodes ++ n ∷ [])) (length nodes) n refl (omega (arith, length_push nodes n)) (sym (get_or_push nodes n n (length nodes) refl))

module _ (names : ℕ → Tree) (nodes more : List NnfNode) where
  pub says_more : (i : ℕ) (f : Claim) → Says names nodes i f → Says names (nodes ++ more) i f
  says_more _ _ (says.plain i a e) = says.plain i a (there nodes more i (node.Literal a false) e)
  says_more _ _ (says.negated i a e) = says.negated i a (there nodes more i (node.Literal a true) e)
  says_more _ _ (says.and_ i a b f g e x y) = says.and_ i a b f g (there nodes more i (node.And a b) e) (says_more a f x) (says_more b g y)
  says_more _ _ (says.or_ i a b f g e x y) = says.or_ i a b f g (there nodes more i (node.Or a b) e) (says_more a f x) (says_more b g y)
  says_more _ _ (says.next i a f e x) = says.next i a f (there nodes more i (node.Next a) e) (says_more a f x)
  says_more _ _ (says.until i a b f g e x y) = says.until i a b f g (there nodes more i (node.Until a b) e) (says_more a f x) (says_more b g y)
  says_more _ _ (says.releases i a b f g e x y) = says.releases i a b f g (there nodes more i (node.Releases a b) e) (says_more a f x) (says_more b g y)
  says_more _ _ (says.throughout i a f e x) = says.throughout i a f (there nodes more i (node.Always a) e) (says_more a f x)
  says_more _ _ (says.eventually i a f e x) = says.eventually i a f (there nodes more i (node.Eventually a) e) (says_more a f x)

pub says_on : {names : ℕ → Tree} {old new : List NnfNode} {i : ℕ} {f : Claim} → Extends old new → Says names old i f → Says names new i f
says_on {names} {old} {new} {i} {f} x s = subst (λ ns. Says names ns i f) (sym x.longer) (says_more names old x.more i f s)

pub both_on : {names : ℕ → Tree} {old new : List NnfNode} {a b : ℕ} {f : Claim} → Extends old new → SaysTwo names old a b f → SaysTwo names new a b f
both_on x s = record { plain = says_on x s.plain; negated = says_on x s.negated }

pub extends_not : (nodes : List NnfNode) → Extends nodes nodes
extends_not nodes = record { more = []; longer = sym (append-nil nodes) }

pub extends_by : {old new : List NnfNode} (n : NnfNode) → new ≡ old ++ n ∷ [] → Extends old new
extends_by n e = record { more = n ∷ []; longer = e }

pub extends_on : {a b c : List NnfNode} → Extends a b → Extends b c → Extends a c
extends_on {a} {b} {c} x y = record { more = x.more ++ y.more; longer = y.longer ∙ ap (λ ns. ns ++ y.more) x.longer ∙ append_assoc a x.more y.more }

pub extends_longer : {old new : List NnfNode} → Extends old new → length old ≤ length new
extends_longer {old} {new} x = omega (arith, length-append old x.more, ap (λ (ns : List NnfNode). length ns) x.longer)

-- the parts of an added node
pub joined_within : (o : FormOp) (b : Bool) (n c d : ℕ) → c < n → d < n → PartsWithin n (joined_node o b c d)
joined_within op.And false n c d v w = (v, w)
joined_within op.And true n c d v w = (v, w)
joined_within op.Or false n c d v w = (v, w)
joined_within op.Or true n c d v w = (v, w)
joined_within op.Implies false n c d v w = (v, w)
joined_within op.Implies true n c d v w = (v, w)
joined_within op.Until false n c d v w = (v, w)
joined_within op.Until true n c d v w = (v, w)
joined_within op.Releases false n c d v w = (v, w)
joined_within op.Releases true n c d v w = (v, w)
joined_within op.Xor b n c d v w = (v, w)
joined_within op.Xnor b n c d v w = (v, w)
joined_within op.Iff b n c d v w = (v, w)

pub always_within : (b : Bool) (n c : ℕ) → c < n → PartsWithin n (always_node b c)
always_within false n c w = w
always_within true n c w = w

module _ (names : ℕ → Tree) (nodes : List NnfNode) (i : ℕ) where
  pub says_atom : (b : Bool) (a : ℕ) → slice_get nodes i ≡ Some (node.Literal a b) → Says names nodes i (normal b (atom (names a)))
  says_atom false a e = says.plain i a e
  says_atom true a e = says.negated i a e

  pub says_after : (b : Bool) (a : ℕ) (f : Claim) → slice_get nodes i ≡ Some (node.Next a) → Says names nodes a (normal b f) → Says names nodes i (normal b (after f))
  says_after false a f e s = says.next i a (normal false f) e s
  says_after true a f e s = says.next i a (normal true f) e s

  pub says_always : (b : Bool) (a : ℕ) (f : Claim) → slice_get nodes i ≡ Some (always_node b a) → Says names nodes a (normal b f) → Says names nodes i (normal b (always f))
  says_always false a f e s = says.throughout i a (normal false f) e s
  says_always true a f e s = says.eventually i a (normal true f) e s

  pub says_some_time : (b : Bool) (a : ℕ) (f : Claim) → slice_get nodes i ≡ Some (always_node (not b) a) → Says names nodes a (normal b f) → Says names nodes i (normal b (some_time f))
  says_some_time false a f e s = says.eventually i a (normal false f) e s
  says_some_time true a f e s = says.throughout i a (normal true f) e s

  module _ (c d : ℕ) (f g : Claim) where
    pub says_joined : (o : FormOp) (b : Bool) → compares o ≡ false → slice_get nodes i ≡ Some (joined_node o b c d) → Says names nodes c (normal (left_negated o b) f) → Says names nodes d (normal b g) → Says names nodes i (normal b (both o f g))
    says_joined op.And false n e s t = says.and_ i c d (normal false f) (normal false g) e s t
    says_joined op.And true n e s t = says.or_ i c d (normal true f) (normal true g) e s t
    says_joined op.Or false n e s t = says.or_ i c d (normal false f) (normal false g) e s t
    says_joined op.Or true n e s t = says.and_ i c d (normal true f) (normal true g) e s t
    says_joined op.Implies false n e s t = says.or_ i c d (normal true f) (normal false g) e s t
    says_joined op.Implies true n e s t = says.and_ i c d (normal false f) (normal true g) e s t
    says_joined op.Until false n e s t = says.until i c d (normal false f) (normal false g) e s t
    says_joined op.Until true n e s t = says.releases i c d (normal true f) (normal true g) e s t
    says_joined op.Releases false n e s t = says.releases i c d (normal false f) (normal false g) e s t
    says_joined op.Releases true n e s t = says.until i c d (normal true f) (normal true g) e s t
    says_joined op.Xor b n e s t = absurd (cc)
    says_joined op.Xnor b n e s t = absurd (cc)
    says_joined op.Iff b n e s t = absurd (cc)

-- the side of a formula that is asked
pub side_says : {names : ℕ → Tree} {nodes : List NnfNode} {a b : ℕ} {f : Claim} (n : Bool) → SaysTwo names nodes a b f → Says names nodes (cond n b a) (normal n f)
side_says true s = s.negated
side_says false s = s.plain

-- how many nodes there are at most
module _ (m n s t a b : ℕ) where
  two_of_two : (c : Bool) → m ≤ 2 * s + 4 * a → n ≤ 2 * t + 4 * b → m + n + cond c 6 2 ≤ 2 * (s + t + 1) + 4 * (a + b + cond c 1 0)
  two_of_two true v w = omega arith
  two_of_two false v w = omega arith

  one_of_two : (c : Bool) (x y : ℕ) → x ≤ 2 * s + 4 * a → y ≤ 2 * t + 4 * b → m ≤ 2 * s + 4 * a → n ≤ 2 * t + 4 * b → cond c (x + y + 3) (m + n + 1) ≤ 2 * (s + t + 1) + 4 * (a + b + cond c 1 0)
  one_of_two true x y f g v w = omega arith
  one_of_two false x y f g v w = omega arith

  plain_of_two : (c : Bool) (x y : ℕ) → (a ≡ 0 → m ≤ s) → (b ≡ 0 → n ≤ t) → a + b + cond c 1 0 ≡ 0 → cond c (x + y + 3) (m + n + 1) ≤ s + t + 1
  plain_of_two true x y v w z = absurd (omega arith)
  plain_of_two false x y v w z = omega (arith, v (omega arith), w (omega arith))

pub two_bound : (f : Claim) → nodes_of_two f ≤ 2 * size f + 4 * comparisons f
two_bound (atom e) = omega arith
two_bound (no f) = omega (arith, two_bound f)
two_bound (after f) = omega (arith, two_bound f)
two_bound (always f) = omega (arith, two_bound f)
two_bound (some_time f) = omega (arith, two_bound f)
two_bound (both o f g) = two_of_two (nodes_of_two f) (nodes_of_two g) (size f) (size g) (comparisons f) (comparisons g) (compares o) (two_bound f) (two_bound g)

pub one_bound : (f : Claim) → nodes_of_one f ≤ 2 * size f + 4 * comparisons f
one_bound (atom e) = omega arith
one_bound (no f) = omega (arith, one_bound f)
one_bound (after f) = omega (arith, one_bound f)
one_bound (always f) = omega (arith, one_bound f)
one_bound (some_time f) = omega (arith, one_bound f)
one_bound (both o f g) = one_of_two (nodes_of_one f) (nodes_of_one g) (size f) (size g) (comparisons f) (comparisons g) (compares o) (nodes_of_two f) (nodes_of_two g) (two_bound f) (two_bound g) (one_bound f) (one_bound g)

pub plain_bound : (f : Claim) → comparisons f ≡ 0 → nodes_of_one f ≤ size f
plain_bound (atom e) z = omega arith
plain_bound (no f) z = omega (arith, plain_bound f z)
plain_bound (after f) z = omega (arith, plain_bound f z)
plain_bound (always f) z = omega (arith, plain_bound f z)
plain_bound (some_time f) z = omega (arith, plain_bound f z)
plain_bound (both o f g) z = plain_of_two (nodes_of_one f) (nodes_of_one g) (size f) (size g) (comparisons f) (comparisons g) (compares o) (nodes_of_two f) (nodes_of_two g) (plain_bound f) (plain_bound g) z

pub normal_no : (b : Bool) (f : Claim) → normal b (no f) ≡ normal (not b) f
normal_no false f = refl
normal_no true f = refl

-- what is so of the list of nodes behind which one more came
pub added : (r : Result ℕ AllocError) (old new : List NnfNode) (y : NnfNode) (P : ℕ → List NnfNode → Type 0) → OnOk r (new ≡ old ++ y ∷ []) → IfOk r (λ n. n ≡ length old) → P (length old) (old ++ y ∷ []) → IfOk r (λ n. P n new)
added (Ok n) old new y P e m s = subst (λ i. P i new) (sym m) (subst (λ ns. P (length old) ns) (sym e) s)
added (Err e) old new y P f m s = tt

-- a node behind the nodes of its parts, where the formula is one of this shape
module _ (names : ℕ → Tree) (b : Bool) (r : Result ℕ AllocError) (old new : List NnfNode) (y : NnfNode) (f g : Claim) (shape : f ≡ g) (ok : OnOk r (new ≡ old ++ y ∷ [])) (number : IfOk r (λ n. n ≡ length old)) where
  pub added_says : (slice_get (old ++ y ∷ []) (length old) ≡ Some y → Says names (old ++ y ∷ []) (length old) (normal b g)) → IfOk r (λ n. Says names new n (normal b f))
  added_says s = added r old new y (λ n ns. Says names ns n (normal b f)) ok number (subst (λ h. Says names (old ++ y ∷ []) (length old) (normal b h)) (sym shape) (s (here old y)))

  pub added_count : (start : ℕ) → length old + 1 ≡ start + nodes_of_one g → OnOk r (length new ≡ start + nodes_of_one f)
  added_count start e = added r old new y (λ n ns. length ns ≡ start + nodes_of_one f) ok number (length_push old y ∙ e ∙ ap (λ h. start + nodes_of_one h) (sym shape))

pub both_of : (names : ℕ → Tree) (o : FormOp) {f g h i : NumberedFormula} → f ≡ h → g ≡ i → both o (claim_of names f) (claim_of names g) ≡ both o (claim_of names h) (claim_of names i)
both_of names o {f} {g} {h} {i} d e = ap (λ (x : NumberedFormula). both o (claim_of names x) (claim_of names g)) d ∙ ap (λ (x : NumberedFormula). both o (claim_of names h) (claim_of names x)) e

-- a list that grew in two steps
pub longer : (r : Result ℕ AllocError) (m n start more all : ℕ) → OnOk r (m ≡ n + more) → n + more ≡ start + all → OnOk r (m ≡ start + all)
longer (Ok x) m n start more all e f = e ∙ f
longer (Err x) m n start more all e f = tt

module _ (names : ℕ → Tree) (nodes : List NnfNode) (n u v a b c d : ℕ) (f g : Claim) where
  differing : slice_get nodes n ≡ Some (node.Or u v) → slice_get nodes u ≡ Some (node.And a c) → slice_get nodes v ≡ Some (node.And b d) → Says names nodes a (normal false f) → Says names nodes b (normal true f) → (e : Bool) → Says names nodes c (normal (not e) g) → Says names nodes d (normal e g) →
      Says names nodes n (both op.Or (both op.And (normal false f) (normal (not e) g)) (both op.And (normal true f) (normal e g)))
  differing i j k r s e w x = says.or_ n u v _ _ i (says.and_ u a c _ _ j r w) (says.and_ v b d _ _ k s x)

  -- the nodes of an operator that compares
  pub says_compared : (o : FormOp) (m : Bool) → compares o ≡ true → slice_get nodes n ≡ Some (node.Or u v) → slice_get nodes u ≡ Some (node.And a c) → slice_get nodes v ≡ Some (node.And b d) → Says names nodes a (normal false f) → Says names nodes b (normal true f) → Says names nodes c (normal (not (equal_asked o m)) g) → Says names nodes d (normal (equal_asked o m) g) →
      Says names nodes n (normal m (both o f g))
  says_compared op.Xor false z i j k r s w x = differing i j k r s false w x
  says_compared op.Xor true z i j k r s w x = differing i j k r s true w x
  says_compared op.Xnor false z i j k r s w x = differing i j k r s true w x
  says_compared op.Xnor true z i j k r s w x = differing i j k r s false w x
  says_compared op.Iff false z i j k r s w x = differing i j k r s true w x
  says_compared op.Iff true z i j k r s w x = differing i j k r s false w x
  says_compared op.And m z i j k r s w x = absurd cc
  says_compared op.Or m z i j k r s w x = absurd cc
  says_compared op.Implies m z i j k r s w x = absurd cc
  says_compared op.Until m z i j k r s w x = absurd cc
  says_compared op.Releases m z i j k r s w x = absurd cc

-- two nodes more, of which one says a formula of this shape and one its negation
module _ (old mid new : List NnfNode) (y z : NnfNode) (first : mid ≡ old ++ y ∷ []) (second : new ≡ mid ++ z ∷ []) where
  pub two_extend : Extends old new
  two_extend = extends_on (extends_by y first) (extends_by z second)

  pub two_longer : length new ≡ length old + 2
  two_longer = omega (arith, ap (λ (ns : List NnfNode). length ns) first, ap (λ (ns : List NnfNode). length ns) second, length_push old y, length_push mid z)

  module _ (names : ℕ → Tree) (i j : ℕ) (f g : Claim) (shape : f ≡ g) (at : i ≡ length old) (behind : j ≡ length mid) where
    pub two_said : (slice_get new i ≡ Some y → Says names new i (normal false g)) → (slice_get new j ≡ Some z → Says names new j (normal true g)) → SaysTwo names new i j f
    two_said s t =
        let one : slice_get mid i ≡ Some y = subst (λ ns. slice_get ns i ≡ Some y) (sym first) (subst (λ n. slice_get (old ++ y ∷ []) n ≡ Some y) (sym at) (here old y)) in
        let both : slice_get new i ≡ Some y = subst (λ ns. slice_get ns i ≡ Some y) (sym second) (there mid (z ∷ []) i y one) in
        let last : slice_get new j ≡ Some z = subst (λ ns. slice_get ns j ≡ Some z) (sym second) (subst (λ n. slice_get (mid ++ z ∷ []) n ≡ Some z) (sym behind) (here mid z)) in
        subst (λ h. SaysTwo names new i j h) (sym shape) (record { plain = s both; negated = t last })

pub twice : (c : Bool) → cond c 6 2 ≡ cond c 3 1 + cond c 3 1
twice true = refl
twice false = refl
