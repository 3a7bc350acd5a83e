-- What rows of literals tell.
use Rattle.std.proofs.Common.{◌&&◌, ◌≡◌, ℕ, replicate, ◌+◌, ◌<◌, ◌≤◌, Bool, true, false, List, [], ◌∷◌, ◌++◌, length, inl, inr, refl, sym, ap, subst, ◌∙◌, arith}
use Rattle.std.specs.Prelude.{nat_lt, slice_set, Result, Ok, Err, IfOk}
use Rattle.std.specs.declared.alloc.AllocError.{AllocError}
use Rattle.ltl_form.proofs.Rowwise.{around_found, around_row, ahead_same, short_next}
use Rattle.smv_meaning.specs.Sweeps.{ahead}
use Rattle.std.proofs.lemmas.Bool.{cases_lt}
use Rattle.std.proofs.lemmas.List.{get_or-map, map-append, length-map, length_push, get_or_append_left, get_or_push, get_or-replicate, length-replicate, get_or-set_same, get_or-set_other, length-set}
use Rattle.gates.specs.Literal.{Literal, always}
use Rattle.gates.specs.declared.node.Node.{Node}
use Rattle.gates.specs.Nodes.{Belongs, Grows}
use Rattle.gates.specs.Valuation.{value_of, values_of, IsValuation}
use Rattle.gates.proofs.Meaning.{value_of-negated}
use Rattle.ltl_form.specs.declared.node.NnfNode.{NnfNode}
use Rattle.ltl_form.specs.Rows.{told, row_at, turned, ahead_turned, around_turned, IsRow}
use Rattle.ltl_form.specs.Nodes.{node_at, AtomWithin}
use Rattle.ltl_form.specs.Tables.{Covers}
use Rattle.smv_meaning.specs.Places.{next_place}
use Rattle.smv_meaning.proofs.Lassos.{next_last, next_other}
use Rattle.std.proofs.Math.ListN.{get_or-map as get_or-map-default}
use Rattle.ltl_bmc.specs.Circuits.{lit_at, lits_at, signed_lit, told_rows, RowBelongs, RowsBelong, CoversLits}

pub told_value : (values : List Bool) (row : List Literal) (p : ℕ) → p < length row → told (values_of values row) p ≡ value_of values (lit_at row p)
told_value values row p w = get_or-map (value_of values) row p always false w

pub length_values : (values : List Bool) (row : List Literal) → length (values_of values row) ≡ length row
length_values values row = length-map row (value_of values)

-- a row that goes on with one more place
pub pushed_row : (values : List Bool) (n : ℕ) (v : ℕ → Bool) (row : List Literal) (x : Literal) → IsRow n v (values_of values row) → value_of values x ≡ v n → IsRow (n + 1) v (values_of values (row ++ x ∷ []))
pushed_row values n v row x r e =
    let bs = values_of values row in
    let b = value_of values x in
    subst (IsRow (n + 1) v) (sym (map-append (value_of values) row (x ∷ [])))
    (record {
      has = length_push bs b ∙ ap (λ i. i + 1) r.has;
      values = λ p w. elim (cases_lt p n) [
        | inl before ↦ get_or_append_left bs (b ∷ []) false p (omega (arith, r.has)) ∙ r.values p before
        | inr last ↦ let i : p ≡ n = omega arith in get_or_push bs b false p (omega (arith, r.has)) ∙ e ∙ ap v (sym i)
      ];
    })

-- what belongs goes on to do so
pub belongs_on : {old new : List Node} (row : List Literal) → Grows old new → RowBelongs old row → RowBelongs new row
belongs_on row g b = λ p w. omega (arith, b p w, g.longer)

pub belong_on : {old new : List Node} (rows : List (List Literal)) → Grows old new → RowsBelong old rows → RowsBelong new rows
belong_on rows g b = λ a v p w. omega (arith, b a v p w, g.longer)

pub pushed_belongs : (nodes : List Node) (row : List Literal) (x : Literal) → RowBelongs nodes row → Belongs nodes x → RowBelongs nodes (row ++ x ∷ [])
pushed_belongs nodes row x b h = λ p w. elim (cases_lt p (length row)) [
  | inl before ↦ subst (Belongs nodes) (sym (get_or_append_left row (x ∷ []) always p before)) (b p before)
  | inr last ↦ subst (Belongs nodes) (sym (get_or_push row x always p (omega (arith, length_push row x)))) h
]

pub set_belongs : (nodes : List Node) (row : List Literal) (i : ℕ) (x : Literal) → i < length row → RowBelongs nodes row → Belongs nodes x → RowBelongs nodes (slice_set row i x)
set_belongs nodes row i x v b h = λ p w. elim (cases_lt p i) [
  | inl before ↦ subst (Belongs nodes) (sym (get_or-set_other row i p x always (λ e. absurd (omega arith)))) (b p (omega (arith, length-set row i x)))
  | inr behind ↦ elim (cases_lt i p) [
    | inl after ↦ subst (Belongs nodes) (sym (get_or-set_other row i p x always (λ e. absurd (omega arith)))) (b p (omega (arith, length-set row i x)))
    | inr same ↦ let e : i ≡ p = omega arith in subst (λ n. Belongs nodes (lit_at (slice_set row i x) n)) e (subst (Belongs nodes) (sym (get_or-set_same row i x always v)) h)
  ]
]

pub filled_belongs : (nodes : List Node) (n : ℕ) (x : Literal) → Belongs nodes x → RowBelongs nodes (replicate n x)
filled_belongs nodes n x h = λ p w. subst (Belongs nodes) (sym (get_or-replicate n p x always (omega (arith, length-replicate n x)))) h

-- a row of one literal
pub filled_told : (values : List Bool) (n : ℕ) (x : Literal) (p : ℕ) → p < n → told (values_of values (replicate n x)) p ≡ value_of values x
filled_told values n x p w = told_value values (replicate n x) p (omega (arith, length-replicate n x)) ∙ ap (value_of values) (get_or-replicate n p x always w)

pub signed_value : (values : List Bool) (n : Bool) (a : Literal) → value_of values (signed_lit n a) ≡ turned n (value_of values a)
signed_value values true a = value_of-negated values a
signed_value values false a = refl

pub signed_belongs : (nodes : List Node) (n : Bool) (a : Literal) → Belongs nodes a → Belongs nodes (signed_lit n a)
signed_belongs nodes true a h = h
signed_belongs nodes false a h = h

pub if_ok : {X : Type 0} {P Q : X → Type 0} (r : Result X AllocError) → IfOk r P → ((x : X) → P x → Q x) → IfOk r Q
if_ok (Ok x) p f = f x p
if_ok (Err e) p f = tt

-- the rows of two sweeps around a loop, the second of which begins with what the first found
pub around_told : (d : Bool) (k l m n : ℕ) (f g : ℕ → Bool) (row : List Bool) (x e : Bool) → m ≡ k → n ≡ k → length row ≡ k → e ≡ d → x ≡ ahead_turned d m f g e l → ((p : ℕ) → 0 ≤ p → p < n → told row p ≡ ahead_turned d n f g x p) → IsRow k (around_turned d k l f g) row
around_told d k l m n f g row x e hm hn hr he hx hv =
    let h : x ≡ ahead_turned d k f g d l = hx ∙ ap (λ y. ahead_turned d m f g y l) he ∙ ap (λ i. ahead_turned d i f g d l) hm in
    record {
      has = hr;
      values = λ p w. hv p (omega arith) (omega arith) ∙ ap (λ i. ahead_turned d i f g x p) hn ∙ around_found d k l f g x h p;
    }

-- the same where the first test is another that agrees
pub around_other : (d : Bool) (k l : ℕ) (f h g : ℕ → Bool) (row : List Bool) → l < k → ((q : ℕ) → q < k → f q ≡ h q) → IsRow k (around_turned d k l f g) row → IsRow k (around_turned d k l h g) row
around_other d k l f h g row w e r = record { has = r.has; values = λ p v. r.values p v ∙ around_row d k l f h g p (omega arith) (omega arith) e }

pub whole_told : (values : List Bool) (row : List Literal) (n : ℕ) (x : Literal) (b : Bool) (q : ℕ) → row ≡ replicate n x → value_of values x ≡ b → q < n → told (values_of values row) q ≡ b
whole_told values row n x b q e h w = ap (λ (r : List Literal). told (values_of values r) q) e ∙ filled_told values n x q w ∙ h

pub filled_length : (row : List Literal) (n : ℕ) (x : Literal) → row ≡ replicate n x → length row ≡ n
filled_length row n x e = ap (λ (r : List Literal). length r) e ∙ length-replicate n x

pub row_at_told : (values : List Bool) (rows : List (List Literal)) (a : ℕ) → row_at (told_rows values rows) a ≡ values_of values (lits_at rows a)
row_at_told values rows a = get_or-map-default (values_of values) rows a []

module _ (g : List Node) (rows : List (List Literal)) (k : ℕ) where
  -- the row of a node of two parts, or of one
  pub two_parts : (a b : ℕ) (F : List Bool → List Bool → ℕ → Bool) (H : ℕ → List Bool → List Bool → ℕ → Bool) (r : Result (List Literal) AllocError) (first second : List Literal) → first ≡ lits_at rows a → second ≡ lits_at rows b → length second ≡ k
      → IfOk r (λ row. (values : List Bool) → IsValuation g values → IsRow (length second) (H (length second) (values_of values first) (values_of values second)) (values_of values row))
      → ((x y : List Bool) (p : ℕ) → H k x y p ≡ F x y p)
      → IfOk r (λ row. (values : List Bool) → IsValuation g values → IsRow k (F (row_at (told_rows values rows) a) (row_at (told_rows values rows) b)) (values_of values row))
  two_parts a b F H r first second d e n h same = if_ok r h (λ row was values v.
      let was_so : IsRow (length second) (H (length second) (values_of values first) (values_of values second)) (values_of values row) = was values v in
      let left : values_of values first ≡ row_at (told_rows values rows) a = ap (values_of values) d ∙ sym (row_at_told values rows a) in
      let right : values_of values second ≡ row_at (told_rows values rows) b = ap (values_of values) e ∙ sym (row_at_told values rows b) in
      record {
        has = was_so.has ∙ n;
        values = λ p w. was_so.values p (omega arith) ∙ ap (λ i. H i (values_of values first) (values_of values second) p) n ∙ same (values_of values first) (values_of values second) p
            ∙ ap (λ x. F x (values_of values second) p) left ∙ ap (λ y. F (row_at (told_rows values rows) a) y p) right;
      })

  -- a row whose literals are those of other places of one part, or their negations
  pub mapped : (a : ℕ) (s : Bool) (to : ℕ → ℕ) (r : Result (List Literal) AllocError) (part : List Literal) → part ≡ lits_at rows a → ((p : ℕ) → p < k → to p < length part)
      → IfOk r (λ x. length x ≡ k) → ((p : ℕ) → p < k → IfOk r (λ x. lit_at x p ≡ signed_lit s (lit_at part (to p))))
      → IfOk r (λ row. (values : List Bool) → IsValuation g values → IsRow k (λ p. turned s (told (row_at (told_rows values rows) a) (to p))) (values_of values row))
  mapped a s to (Ok row) part e inside n same = λ values v. record {
    has = length_values values row ∙ n;
    values = λ p w. told_value values row p (omega arith) ∙ ap (value_of values) (same p w) ∙ signed_value values s (lit_at part (to p))
        ∙ ap (turned s) (sym (told_value values part (to p) (inside p w)) ∙ ap (λ bs. told bs (to p)) (ap (values_of values) e ∙ sym (row_at_told values rows a)));
  }
  mapped a s to (Err x) part e inside n same = tt

  pub mapped_belongs : (s : Bool) (to : ℕ → ℕ) (r : Result (List Literal) AllocError) (part : List Literal) → RowBelongs g part → ((p : ℕ) → p < k → to p < length part)
      → IfOk r (λ x. length x ≡ k) → ((p : ℕ) → p < k → IfOk r (λ x. lit_at x p ≡ signed_lit s (lit_at part (to p)))) → IfOk r (RowBelongs g)
  mapped_belongs s to (Ok row) part b inside n same = λ p w.
      let v : p < k = omega arith in
      subst (Belongs g) (sym (same p v)) (signed_belongs g s (lit_at part (to p)) (b (to p) (inside p v)))
  mapped_belongs s to (Err x) part b inside n same = tt

-- the literals of the next places of a lasso
pub next_literals : (r : Result (List Literal) AllocError) (part : List Literal) (l : ℕ) (x : Literal) → x ≡ lit_at part l → ((p : ℕ) → p + 1 < length part → IfOk r (λ row. lit_at row p ≡ lit_at part (p + 1))) → IfOk r (λ row. (p : ℕ) → p + 1 ≡ length part → lit_at row p ≡ x) → (p : ℕ) → p < length part → IfOk r (λ row. lit_at row p ≡ lit_at part (next_place (length part) l p))
next_literals (Ok row) part l x e s t p b = elim (cases_lt (p + 1) (length part)) [
  | inl more ↦ s p more ∙ ap (lit_at part) (sym (next_other (length part) l p more))
  | inr end ↦ let i : p + 1 ≡ length part = omega arith in t p i ∙ e ∙ ap (lit_at part) (sym (next_last (length part) l p i))
]
next_literals (Err y) part l x e s t p b = tt

-- one row more
module _ (rows : List (List Literal)) (row : List Literal) where
  pub pushed_rows_belong : (g : List Node) → RowsBelong g rows → RowBelongs g row → RowsBelong g (rows ++ row ∷ [])
  pushed_rows_belong g b h = λ a w. elim (cases_lt a (length rows)) [
    | inl before ↦ subst (RowBelongs g) (sym (get_or_append_left rows (row ∷ []) [] a before)) (b a before)
    | inr last ↦ subst (RowBelongs g) (sym (get_or_push rows row [] a (omega (arith, length_push rows row)))) h
  ]

  pub pushed_places : (n k : ℕ) → length rows ≡ n → ((i : ℕ) → i < n → length (lits_at rows i) ≡ k) → length row ≡ k → (i : ℕ) → i < n + 1 → length (lits_at (rows ++ row ∷ []) i) ≡ k
  pushed_places n k e each h i w = elim (cases_lt i n) [
    | inl before ↦ ap (λ (r : List Literal). length r) (get_or_append_left rows (row ∷ []) [] i (omega arith)) ∙ each i before
    | inr last ↦ ap (λ (r : List Literal). length r) (get_or_push rows row [] i (omega arith)) ∙ h
  ]

-- what a table of literals tells has a row for each atom too
pub covers_told : (values : List Bool) (table : List (List Literal)) (states : ℕ) (nodes : List NnfNode) → CoversLits table states nodes → Covers (told_rows values table) states nodes
covers_told values table states nodes c = record {
  states_each = λ a w.
      let h : length (told_rows values table) ≡ length table = length-map table (values_of values) in
      ap (λ (r : List Bool). length r) (row_at_told values table a) ∙ length_values values (lits_at table a) ∙ c.states_each a (omega arith);
  atoms = λ i w. subst (λ m. AtomWithin m (node_at nodes i)) (sym (length-map table (values_of values))) (c.atoms i w);
}

-- one sweep over tests that agree with others
pub ahead_other : (k : ℕ) (f g h i : ℕ → Bool) (row : List Bool) → ((q : ℕ) → q < k → f q ≡ h q) → ((q : ℕ) → q < k → g q ≡ i q) → IsRow k (ahead k f g false) row → IsRow k (ahead k h i false) row
ahead_other k f g h i row d e r = record { has = r.has; values = λ p w. r.values p w ∙ ahead_same k f g h i false p (omega arith) d e }

-- the literals of the next places of a path, which ends with the last one
pub path_next : (g : List Node) (rows : List (List Literal)) (k a : ℕ) (r : Result (List Literal) AllocError) (part : List Literal) (x : Literal) → part ≡ lits_at rows a → length part ≡ k + 1 → ((values : List Bool) → IsValuation g values → value_of values x ≡ false)
    → IfOk r (λ row. length row ≡ length part) → ((p : ℕ) → p + 1 < length part → IfOk r (λ row. lit_at row p ≡ lit_at part (p + 1))) → IfOk r (λ row. (p : ℕ) → p + 1 ≡ length part → lit_at row p ≡ x)
    → IfOk r (λ row. (values : List Bool) → IsValuation g values → IsRow (k + 1) (λ p. nat_lt p k && told (row_at (told_rows values rows) a) (p + 1)) (values_of values row))
path_next g rows k a (Ok row) part x e m z n s t = λ values v.
    let bs = values_of values part in
    let long : length bs ≡ k + 1 = length_values values part ∙ m in
    let same : bs ≡ row_at (told_rows values rows) a = ap (values_of values) e ∙ sym (row_at_told values rows a) in
    let all : IsRow (k + 1) (λ p. nat_lt p k && told bs (p + 1)) (values_of values row) = short_next bs k (Ok (values_of values row)) long
    (length_values values row ∙ n ∙ sym (length_values values part))
    (λ p w. told_value values row p (omega (arith, length_values values part)) ∙ ap (value_of values) (s p (omega (arith, length_values values part))) ∙ sym (told_value values part (p + 1) (omega (arith, length_values values part))))
    (λ p w. told_value values row p (omega (arith, length_values values part)) ∙ ap (value_of values) (t p (omega (arith, length_values values part))) ∙ z values v) in
    subst (λ (b : List Bool). IsRow (k + 1) (λ p. nat_lt p k && told b (p + 1)) (values_of values row)) same all
path_next g rows k a (Err y) part x e m z n s t = tt

pub path_next_belongs : (g : List Node) (r : Result (List Literal) AllocError) (part : List Literal) (x : Literal) → RowBelongs g part → Belongs g x → IfOk r (λ row. length row ≡ length part) → ((p : ℕ) → p + 1 < length part → IfOk r (λ row. lit_at row p ≡ lit_at part (p + 1))) → IfOk r (λ row. (p : ℕ) → p + 1 ≡ length part → lit_at row p ≡ x) → IfOk r (RowBelongs g)
path_next_belongs g (Ok row) part x b h n s t = λ p w. elim (cases_lt (p + 1) (length part)) [
  | inl more ↦ subst (Belongs g) (sym (s p more)) (b (p + 1) more)
  | inr end ↦ subst (Belongs g) (sym (t p (omega arith))) h
]
path_next_belongs g (Err y) part x b h n s t = tt

-- a row that is false at each place
pub false_row : (g : List Node) (n : ℕ) (r : Result (List Literal) AllocError) (x : Literal) → IfOk r (λ row. row ≡ replicate n x) → ((values : List Bool) → IsValuation g values → value_of values x ≡ false) → IfOk r (λ row. (values : List Bool) → IsValuation g values → IsRow n (λ p. false) (values_of values row))
false_row g n (Ok row) x e z = λ values v. record { has = length_values values row ∙ filled_length row n x e; values = λ p w. whole_told values row n x false p e (z values v) w }
false_row g n (Err y) x e z = tt

pub false_belongs : (g : List Node) (n : ℕ) (r : Result (List Literal) AllocError) (x : Literal) → IfOk r (λ row. row ≡ replicate n x) → Belongs g x → IfOk r (RowBelongs g)
false_belongs g n (Ok row) x e h = subst (RowBelongs g) (sym e) (filled_belongs g n x h)
false_belongs g n (Err y) x e h = tt
