-- The conjunctions among the nodes, as they are found by their parts.
use Rattle.std.proofs.Common.{◌≡◌, ℕ, suc, ◌+◌, ◌<◌, Bool, true, false, cond, ◌&&◌, List, [], ◌∷◌, ◌++◌, length, get_or, None, Some, refl, sym, ap, ◌∙◌, arith, ⊎_elim}
use Rattle.std.specs.List.{position_from, count_by}
use Rattle.std.specs.Map.{lookup}
use Rattle.std.proofs.lemmas.List.Sums.{sum_by-cons}
use Rattle.std.proofs.lemmas.Bool.{cases_Bool}
use Rattle.std.specs.Option.{option_map}
use Rattle.gates.specs.Literal.{Literal, positive}
use Rattle.gates.specs.declared.node.Node.{Node}
use Rattle.gates.specs.declared.node.Node.TheVariants.{True, Input, And}
use Rattle.gates.specs.Nodes.{is_conjunction}
use Rattle.gates.specs.Sharing.{is_same, joins, pairs_from}

pub pairs_from-push_input : (k : ℕ) (nodes : List Node) → pairs_from k (nodes ++ Input ∷ []) ≡ pairs_from k nodes
pairs_from-push_input k [] = refl
pairs_from-push_input k (True ∷ nodes) = pairs_from-push_input (k + 1) nodes
pairs_from-push_input k (Input ∷ nodes) = pairs_from-push_input (k + 1) nodes
pairs_from-push_input k (And a b ∷ nodes) = ap (λ ps. ((a, b), positive k) ∷ ps) (pairs_from-push_input (k + 1) nodes)

pub pairs_from-push_and : (k n : ℕ) (nodes : List Node) (a b : Literal) → n ≡ k + length nodes → pairs_from k (nodes ++ And a b ∷ []) ≡ pairs_from k nodes ++ ((a, b), positive n) ∷ []
pairs_from-push_and k n [] a b e = ap (λ m. ((a, b), positive m) ∷ []) (let h : k ≡ n = omega arith in h)
pairs_from-push_and k n (True ∷ nodes) a b e = pairs_from-push_and (k + 1) n nodes a b (omega arith)
pairs_from-push_and k n (Input ∷ nodes) a b e = pairs_from-push_and (k + 1) n nodes a b (omega arith)
pairs_from-push_and k n (And x y ∷ nodes) a b e = ap (λ ps. ((x, y), positive k) ∷ ps) (pairs_from-push_and (k + 1) n nodes a b (omega arith))

-- a look-up by the parts finds the first node that joins them
pub lookup-pairs_from : (a b : Literal) (k : ℕ) (nodes : List Node) → lookup (λ p. is_same a p.0 && is_same b p.1) (pairs_from k nodes) ≡ option_map positive (position_from (joins a b) k nodes)
lookup-pairs_from a b k [] = refl
lookup-pairs_from a b k (True ∷ nodes) = lookup-pairs_from a b (k + 1) nodes
lookup-pairs_from a b k (Input ∷ nodes) = lookup-pairs_from a b (k + 1) nodes
lookup-pairs_from a b k (And x y ∷ nodes) =
    ap (λ r. cond (is_same a x && is_same b y) (Some (positive k)) r) (lookup-pairs_from a b (k + 1) nodes)
    ∙ by (is_same a x && is_same b y)
  where
    by : (c : Bool) → cond c (Some (positive k)) (option_map positive (position_from (joins a b) (k + 1) nodes)) ≡ option_map positive (cond c (Some k) (position_from (joins a b) (k + 1) nodes))
    by true = refl
    by false = refl

abbrev conjunctions : Node → ℕ
conjunctions y = cond (is_conjunction y) 1 0

pub length-pairs_from : (k : ℕ) (nodes : List Node) → length (pairs_from k nodes) ≡ count_by is_conjunction nodes
length-pairs_from k [] = refl
length-pairs_from k (True ∷ nodes) = length-pairs_from (k + 1) nodes ∙ sym (sum_by-cons conjunctions True nodes ∙ omega arith)
length-pairs_from k (Input ∷ nodes) = length-pairs_from (k + 1) nodes ∙ sym (sum_by-cons conjunctions Input nodes ∙ omega arith)
length-pairs_from k (And a b ∷ nodes) = sym (sum_by-cons conjunctions (And a b) nodes ∙ one_more (count_by is_conjunction nodes) _ (length-pairs_from (k + 1) nodes))
  where
    one_more : (m n : ℕ) → n ≡ m → 1 + m ≡ suc n
    one_more m n e = omega arith

-- the same, with a first part that shows `grind` the call to match
pub count_of_pairs : (k : ℕ) (nodes : List Node) → (pairs_from k nodes ≡ pairs_from k nodes) × (length (pairs_from k nodes) ≡ count_by is_conjunction nodes)
count_of_pairs k nodes = (refl, length-pairs_from k nodes)

module _ {X : Type 0} (test : X → Bool) where
  -- where the test passes first among xs, it does among more
  pub position_from-append : (k n : ℕ) (xs ys : List X) → position_from test k xs ≡ Some n → position_from test k (xs ++ ys) ≡ Some n
  position_from-append k n [] ys h = cc
  position_from-append k n (x ∷ xs) ys h =
      ⊎_elim
      (λ t. ap (λ c. cond c (Some k) (position_from test (k + 1) (xs ++ ys))) t ∙ ap (λ c. cond c (Some k) (position_from test (k + 1) xs)) (sym t) ∙ h)
      (λ t. ap (λ c. cond c (Some k) (position_from test (k + 1) (xs ++ ys))) t
      ∙ position_from-append (k + 1) n xs ys (ap (λ c. cond c (Some k) (position_from test (k + 1) xs)) (sym t) ∙ h))
      (cases_Bool (test x))

  -- a first one that passes is found where it is pushed
  pub position_from-push : (k n : ℕ) (xs : List X) (y : X) → position_from test k xs ≡ None → test y ≡ true → n ≡ k + length xs → position_from test k (xs ++ y ∷ []) ≡ Some n
  position_from-push k n [] y h e same = ap (λ c. cond c (Some k) None) e ∙ ap Some (let s : k ≡ n = omega arith in s)
  position_from-push k n (x ∷ xs) y h e same =
      ⊎_elim
      (λ t. absurd (let g : Some k ≡ None = ap (λ c. cond c (Some k) (position_from test (k + 1) xs)) (sym t) ∙ h in cc))
      (λ t. ap (λ c. cond c (Some k) (position_from test (k + 1) (xs ++ y ∷ []))) t
      ∙ position_from-push (k + 1) n xs y (ap (λ c. cond c (Some k) (position_from test (k + 1) xs)) (sym t) ∙ h) e (omega arith))
      (cases_Bool (test x))

  -- what stands at a place that is found
  pub position_from-found : (k n : ℕ) (xs : List X) (d : X) → position_from test k xs ≡ Some n → (m : ℕ) × (n ≡ k + m) × (m < length xs) × (test (get_or xs m d) ≡ true)
  position_from-found k n [] d h = absurd (let e : None ≡ Some n = h in cc)
  position_from-found k n (x ∷ xs) d h =
      ⊎_elim
      (λ t. let e : Some k ≡ Some n = ap (λ c. cond c (Some k) (position_from test (k + 1) xs)) (sym t) ∙ h in
      let same : k ≡ n = cc in
      (0, omega arith, omega arith, t))
      (λ t. let r = position_from-found (k + 1) n xs d (ap (λ c. cond c (Some k) (position_from test (k + 1) xs)) (sym t) ∙ h) in
      (suc r.0, omega (arith, r.1), omega (arith, r.2), r.3))
      (cases_Bool (test x))
