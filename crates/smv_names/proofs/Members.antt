-- What a table tells of a name, and what the declarations make of it.
use Rattle.std.proofs.Common.{◌≡◌, ℕ, suc, ◌+◌, Bool, true, false, cond, List, [], ◌∷◌, ◌++◌, refl, ap, sym, ◌∙◌, subst, arith}
use Rattle.std.specs.Prelude.{Some, None, slice_get, filter_map}
use Rattle.std.specs.Map.{lookup}
use Rattle.std.specs.Str.{bytes_eq}
use Rattle.std.proofs.lemmas.Slice.Eq.{bytes_eq-Decides}
use Rattle.smv_tree.specs.declared.place.Place.{Place}
use Rattle.smv_tree.specs.Trees.{Tree}
use Rattle.smv_tree.specs.Models.{Part, variable, define, assign, constraint, property, plain, instance}
use Rattle.smv_meaning.specs.Names.{Target, to_variable, to_body, to_instance, member_of, or_else}
use Rattle.smv_meaning.specs.Definitions.{define_of}
use Rattle.smv_graph.proofs.Numbering.{bytes_eq-sym}
use Rattle.smv_names.specs.declared.declared.Declared.TheVariants.{Variable, Instance, Define}
use Rattle.smv_names.specs.Tables.{part_entries}
use Rattle.smv_names.specs.Members.{Tells}

module _ (path up : List (List ℕ)) (m : List ℕ) (whole : List Part) (other : Target) where
  -- these items stand in the whole list from this number on
  abbrev Stand : List Part → ℕ → Type 0
  Stand parts k = (d : ℕ) → slice_get parts d ≡ slice_get whole (k + d)

  -- and the defines among them from this number on
  abbrev Follow : List Part → ℕ → Type 0
  Follow parts r = (d : ℕ) → slice_get (filter_map (define_of up) parts) d ≡ slice_get (filter_map (define_of up) whole) (r + d)

  head : (part : Part) (parts : List Part) (k : ℕ) → Stand (part ∷ parts) k → slice_get whole k ≡ Some part
  head part parts k s = ap (slice_get whole) (omega arith) ∙ sym (s 0)

  rest : (part : Part) (parts : List Part) (k : ℕ) → Stand (part ∷ parts) k → Stand parts (k + 1)
  rest part parts k s d = s (suc d) ∙ ap (slice_get whole) (omega arith)

  same_rank : (parts : List Part) (r : ℕ) → Follow parts r → Follow parts (r + 0)
  same_rank parts r f d = f d ∙ ap (slice_get (filter_map (define_of up) whole)) (omega arith)

  next_rank : (n : List ℕ) (p : Place) (e : Tree) (parts : List Part) (r : ℕ) → Follow (define n p e ∷ parts) r → Follow parts (r + 1)
  next_rank n p e parts r f d = f (suc d) ∙ ap (slice_get (filter_map (define_of up) whole)) (omega arith)

  is_name : (n : List ℕ) → bytes_eq m n ≡ true → n ≡ m
  is_name n e = sym ((bytes_eq-Decides m n).0 e)

  pub members : (parts : List Part) (k r : ℕ) → Stand parts k → Follow parts r
      → Tells path up m whole other (lookup (bytes_eq m) (part_entries k r parts)) (member_of path up m parts other)
  members [] k r s f = refl
  members (variable kind n p (plain type q) ∷ parts) k r s f =
      subst (λ b. Tells path up m whole other (lookup (bytes_eq m) (part_entries k r (variable kind n p (plain type q) ∷ parts))) (or_else (cond b (Some (to_variable (path ++ n ∷ []))) None) (member_of path up m parts other)))
      (bytes_eq-sym m n) (by_test (bytes_eq m n) refl (members parts (k + 1) (r + 0) (rest (variable kind n p (plain type q)) parts k s) (same_rank parts r f)))
    where
      by_test : (b : Bool) → bytes_eq m n ≡ b
          → Tells path up m whole other (lookup (bytes_eq m) (part_entries (k + 1) (r + 0) parts)) (member_of path up m parts other)
          → Tells path up m whole other (cond b (Some (Variable k)) (lookup (bytes_eq m) (part_entries (k + 1) (r + 0) parts))) (or_else (cond b (Some (to_variable (path ++ n ∷ []))) None) (member_of path up m parts other))
      by_test true e deeper = record {
        kind = kind;
        place = p;
        type = type;
        at = q;
        item = head (variable kind n p (plain type q)) parts k s ∙ ap (λ x. Some (variable kind x p (plain type q))) (is_name n e);
        stands = ap (λ x. to_variable (path ++ x ∷ [])) (is_name n e);
      }
      by_test false e deeper = deeper
  members (variable kind n p (instance b q es) ∷ parts) k r s f =
      subst (λ t. Tells path up m whole other (lookup (bytes_eq m) (part_entries k r (variable kind n p (instance b q es) ∷ parts))) (or_else (cond t (Some (to_instance (n ∷ up))) None) (member_of path up m parts other)))
      (bytes_eq-sym m n) (by_test (bytes_eq m n) refl (members parts (k + 1) (r + 0) (rest (variable kind n p (instance b q es)) parts k s) (same_rank parts r f)))
    where
      by_test : (t : Bool) → bytes_eq m n ≡ t
          → Tells path up m whole other (lookup (bytes_eq m) (part_entries (k + 1) (r + 0) parts)) (member_of path up m parts other)
          → Tells path up m whole other (cond t (Some (Instance k)) (lookup (bytes_eq m) (part_entries (k + 1) (r + 0) parts))) (or_else (cond t (Some (to_instance (n ∷ up))) None) (member_of path up m parts other))
      by_test true e deeper = record {
        kind = kind;
        place = p;
        module_name = b;
        at = q;
        actuals = es;
        item = head (variable kind n p (instance b q es)) parts k s ∙ ap (λ x. Some (variable kind x p (instance b q es))) (is_name n e);
        stands = ap (λ x. to_instance (x ∷ up)) (is_name n e);
      }
      by_test false e deeper = deeper
  members (define n p e ∷ parts) k r s f =
      subst (λ t. Tells path up m whole other (lookup (bytes_eq m) (part_entries k r (define n p e ∷ parts))) (or_else (cond t (Some (to_body up e)) None) (member_of path up m parts other)))
      (bytes_eq-sym m n) (by_test (bytes_eq m n) refl (members parts (k + 1) (r + 1) (rest (define n p e) parts k s) (next_rank n p e parts r f)))
    where
      first : slice_get (filter_map (define_of up) whole) r ≡ Some (record { up = up; name = n; place = p; around = up; body = e })
      first = ap (slice_get (filter_map (define_of up) whole)) (omega arith) ∙ sym (f 0)

      by_test : (t : Bool) → bytes_eq m n ≡ t
          → Tells path up m whole other (lookup (bytes_eq m) (part_entries (k + 1) (r + 1) parts)) (member_of path up m parts other)
          → Tells path up m whole other (cond t (Some (Define k r)) (lookup (bytes_eq m) (part_entries (k + 1) (r + 1) parts))) (or_else (cond t (Some (to_body up e)) None) (member_of path up m parts other))
      by_test true h deeper = record {
        place = p;
        body = e;
        item = head (define n p e) parts k s ∙ ap (λ x. Some (define x p e)) (is_name n h);
        ranked = first ∙ ap (λ x. Some (record { up = up; name = x; place = p; around = up; body = e })) (is_name n h);
        stands = refl;
      }
      by_test false h deeper = deeper
  members (assign o n p e ∷ parts) k r s f = members parts (k + 1) (r + 0) (rest (assign o n p e) parts k s) (same_rank parts r f)
  members (constraint o p e ∷ parts) k r s f = members parts (k + 1) (r + 0) (rest (constraint o p e) parts k s) (same_rank parts r f)
  members (property o p g ∷ parts) k r s f = members parts (k + 1) (r + 0) (rest (property o p g) parts k s) (same_rank parts r f)

-- what the table of all items tells of a name
pub told : (path up : List (List ℕ)) (m : List ℕ) (parts : List Part) (other : Target)
    → Tells path up m parts other (lookup (bytes_eq m) (part_entries 0 0 parts)) (member_of path up m parts other)
told path up m parts other =
    members path up m parts other parts 0 0 (λ d. ap (slice_get parts) (omega arith)) (λ d. ap (slice_get (filter_map (define_of up) parts)) (omega arith))
