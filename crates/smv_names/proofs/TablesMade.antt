-- The tables of a program as they are made.
use Rattle.std.proofs.Common.{◌≡◌, ◌<◌, ◌≤◌, ◌+◌, ◌-◌, ◌==◌, ◌&&◌, ℕ, zero, suc, Bool, true, false, List, [], ◌∷◌, ◌++◌, length, map, take, get_or, refl, ap, sym, ◌∙◌, subst, inl, inr, arith, eq-eqb, eqb-true}
use Rattle.std.specs.Prelude.{◌⊎◌, Contains, Option, Some, None, if◌then◌else◌, slice_get, option_and_then}
use Rattle.std.specs.List.{AllZip}
use Rattle.std.specs.Map.{lookup}
use Rattle.std.specs.Str.{bytes_eq}
use Rattle.std.proofs.lemmas.Bool.{false≢true, cases_lt}
use Rattle.std.proofs.lemmas.List.{length-append}
use Rattle.std.proofs.lemmas.Option.{slice_get_within, get_or_from_slice_get}
use Rattle.std.proofs.lemmas.Slice.Zip.{all_zipped_more}
use Rattle.smv_tree.specs.declared.place.Place.{Place}
use Rattle.smv_tree.specs.declared.program.Kind.{Kind}
use Rattle.smv_tree.specs.Trees.{Tree}
use Rattle.smv_tree.specs.Models.{Body, Shape, variable, instance}
use Rattle.smv_meaning.specs.Instances.{Instance, instances}
use Rattle.smv_meaning.specs.Definitions.{outer}
use Rattle.smv_meaning.specs.Rows.{Row, IsNumber, IsRow, AreRows, IsMain, IsBehind}
use Rattle.smv_meaning.proofs.Lists.{contains_first, contains_later, slice_get-contained}
use Rattle.smv_meaning.proofs.RowsThere.{row_module, instance_around}
use Rattle.smv_names.specs.declared.declared.Declared.TheVariants as declared
use Rattle.smv_names.specs.declared.scopes.Scopes.{Scopes}
use Rattle.smv_names.specs.Tables.{part_entries}
use Rattle.smv_names.specs.Lookups.{declared_at, child_in}
use Rattle.smv_names.specs.Declaring.{item_key, declaration_of, IsEntered, AreEntered}
use Rattle.smv_names.specs.Whole.{Declares, IsWhole}
use Rattle.smv_names.specs.Ready.{IsModuleOf, AreScopes, AreChildren}
use Rattle.smv_names.proofs.Entering.{one_on}
use Rattle.smv_names.proofs.Resolving.{zip_at, declared_by}

pub zip_back : {A B : Type 0} (Q : A → B → Type 0) (xs : List A) (ys : List B) → AllZip Q xs ys → (k : ℕ) (y : B) → slice_get ys k ≡ Some y → (x : A) × (slice_get xs k ≡ Some x) × Q x y
zip_back Q [] [] h k y e = absurd (cc)
zip_back Q [] (y ∷ ys) h k z e = absurd h
zip_back Q (x ∷ xs) [] h k z e = absurd h
zip_back Q (x ∷ xs) (y ∷ ys) h zero z e = let same : y ≡ z = cc in (x, refl, subst (Q x) same h.0)
zip_back Q (x ∷ xs) (y ∷ ys) h (suc k) z e = zip_back Q xs ys h.1 k z e

pub zip_on : {X A B : Type 0} (R : A → B → Type 0) (g : X → A) (xs : List X) (i : ℕ) (x : X) (ys new : List B) (y : B) → i < length xs → x ≡ get_or xs i x
    → new ≡ ys ++ y ∷ [] → R (g x) y → AllZip R (map g (take i xs)) ys → AllZip R (map g (take (i + 1) xs)) new
zip_on R g xs i x ys new y l at e r h =
    subst (AllZip R (map g (take (i + 1) xs))) (sym e)
    (subst (λ zs. AllZip R zs (ys ++ y ∷ [])) (sym (one_on g xs i x l at)) (all_zipped_more R (map g (take i xs)) ys (g x) y h r))

pub map_on : {X Y : Type 0} (f : X → Y) (xs : List X) (n : ℕ) (x : X) (now new : List Y) → slice_get xs n ≡ Some x → now ≡ map f (take n xs) → new ≡ now ++ f x ∷ []
    → new ≡ map f (take (n + 1) xs)
map_on f xs n x now new at h e =
    e ∙ (ap (λ ys. ys ++ f x ∷ []) h ∙ sym (one_on f xs n x (slice_get_within xs n x at) (sym (get_or_from_slice_get xs n x x at))))

-- the modules of instances, by their rows
pub numbers_right : (program : List Body) (all : List Instance) (rows : List Row) → ((i : Instance) → Contains all i → Contains (instances program) i) → AllZip (IsRow program) all rows
    → AllZip (IsModuleOf program) all (map (λ (row : Row). row.module_number) rows)
numbers_right program [] [] f h = tt
numbers_right program [] (r ∷ rows) f h = absurd h
numbers_right program (i ∷ all) [] f h = absurd h
numbers_right program (i ∷ all) (r ∷ rows) f h =
    (row_module program i r (f i (contains_first i all)) h.0, numbers_right program all rows (λ j c. f j (contains_later i all j c)) h.1)

abbrev pair : ℕ → ℕ → Option (ℕ × ℕ)
pair a b = Some (a, b)

pair_parts : (a b n k : ℕ) → pair a b ≡ pair n k → (a ≡ n) × (b ≡ k)
pair_parts a b n k e = let inner : ◌≡◌ {A = ℕ × ℕ} (a, b) (n, k) = cc in (ap (λ (p : ℕ × ℕ). p.0) inner, ap (λ (p : ℕ × ℕ). p.1) inner)

both : (n a k b : ℕ) → ((n == a) && (k == b)) ≡ true → (n ≡ a) × (k ≡ b)
both n a k b e = by_test (n == a) refl e
  where
    by_test : (t : Bool) → (n == a) ≡ t → (t && (k == b)) ≡ true → (n ≡ a) × (k ≡ b)
    by_test true h g = (eqb-true n a h, eqb-true k b g)
    by_test false h g = absurd (false≢true g)

both_same : (n k : ℕ) → ((n == n) && (k == k)) ≡ true
both_same n k = ap (λ t. t && (k == k)) (eq-eqb n n refl) ∙ eq-eqb k k refl

module _ (s : Scopes) (rows : List Row) (c : ℕ) (row : Row) (old new : List ((ℕ × ℕ) × ℕ)) (at : slice_get rows c ≡ Some row) (h : AreEntered s rows c old) where
  last_row : (d : ℕ) (other : Row) → d < c + 1 → slice_get rows d ≡ Some other → (d < c) ⊎ (other ≡ row)
  last_row d other l e = by_order (cases_lt d c)
    where
      same : d ≡ c → other ≡ row
      same g = let both : Some other ≡ Some row = sym e ∙ (ap (slice_get rows) g ∙ at) in cc

      by_order : (d < c) ⊎ (c ≤ d) → (d < c) ⊎ (other ≡ row)
      by_order (inl g) = inl g
      by_order (inr g) = inr (same (omega arith))

  pub entered_on : IsEntered old (declaration_of s row) c new → AreEntered s rows (c + 1) new
  entered_on g = by_key (declaration_of s row) refl g
    where
      by_key : (o : Option (ℕ × ℕ)) → declaration_of s row ≡ o → IsEntered old o c new → AreEntered s rows (c + 1) new
      by_key None e put = record {
        sound = λ n k d f. h.sound n k d (sym (put n k) ∙ f);
        complete = λ n k d other l f q. elim (last_row d other l f) [
          | inl m ↦ (let o = h.complete n k d other m f q in (o.0, put n k ∙ o.1))
          | inr m ↦ absurd (let no : None ≡ pair n k = sym e ∙ (ap (declaration_of s) (sym m) ∙ q) in cc)
        ];
      }
      by_key (Some (a, b)) e put = record {
        sound = λ n k d f. by_sound n k d ((a == n) && (b == k)) refl (sym (put n k) ∙ f);
        complete = λ n k d other l f q. by_complete n k ((a == n) && (b == k)) refl (elim (last_row d other l f) [
          | inl m ↦ inl (h.complete n k d other m f q)
          | inr m ↦ inr (sym e ∙ (ap (declaration_of s) (sym m) ∙ q))
        ]);
      }
        where
          by_sound : (n k d : ℕ) (t : Bool) → ((a == n) && (b == k)) ≡ t → (if t then Some c else child_in old n k) ≡ Some d → (r : Row) × (slice_get rows d ≡ Some r) × (declaration_of s r ≡ pair n k)
          by_sound n k d true same f =
              let here : c ≡ d = cc in
              let parts = both a n b k same in
              let key : pair a b ≡ pair n k = ap (λ x. pair x b) parts.0 ∙ ap (pair n) parts.1 in
              (row, ap (slice_get rows) (sym here) ∙ at, e ∙ key)
          by_sound n k d false same f = h.sound n k d f

          by_complete : (n k : ℕ) (t : Bool) → ((a == n) && (b == k)) ≡ t → ((d : ℕ) × (child_in old n k ≡ Some d)) ⊎ (pair a b ≡ pair n k) → (d : ℕ) × (child_in new n k ≡ Some d)
          by_complete n k true same o = (c, put n k ∙ ap (λ t. if t then Some c else child_in old n k) same)
          by_complete n k false same (inl o) = (o.0, put n k ∙ (ap (λ t. if t then Some c else child_in old n k) same ∙ o.1))
          by_complete n k false same (inr o) =
              absurd
              (let first : a ≡ n = (pair_parts a b n k o).0 in
              let second : b ≡ k = (pair_parts a b n k o).1 in
              false≢true (sym same ∙ (ap (λ x. (x == n) && (b == k)) first ∙ (ap (λ y. (n == n) && (y == k)) second ∙ both_same n k))))

same_variable : (a b : Kind) (o m : List ℕ) (p q : Place) (s t : Shape) → Some (variable a o p s) ≡ Some (variable b m q t) → o ≡ m
same_variable a b o m p q s t e = cc

-- where an instance other than the main one is declared, by the tables
pub record IsDeclared (program : List Body) (s : Scopes) (i : Instance) (row : Row) (m : List ℕ) (around : List (List ℕ)) : Type 0 where
  pub parent : Instance
  pub there : slice_get (instances program) row.parent ≡ Some parent
  pub up : parent.up ≡ around
  pub item : ℕ
  pub declares : Declares parent i m item
  pub key : declaration_of s row ≡ pair row.parent item

last_of : {X : Type 0} (xs : List X) (x : X) → slice_get (xs ++ x ∷ []) (length (xs ++ x ∷ []) - 1) ≡ Some x
last_of {X} xs x = ap (slice_get (xs ++ x ∷ [])) (omega (arith, length-append xs (x ∷ []))) ∙ at_end xs
  where
    at_end : (ys : List X) → slice_get (ys ++ x ∷ []) (length ys) ≡ Some x
    at_end [] = refl
    at_end (y ∷ ys) = at_end ys

module _ (program : List Body) (s : Scopes) (are : AreScopes program s) (whole : IsWhole program) where
  name_last : (i : Instance) (row : Row) (m : List ℕ) (around : List (List ℕ)) → Contains (instances program) i → IsRow program i row → i.up ≡ m ∷ around → slice_get row.path (length row.path - 1) ≡ Some m
  name_last i row m around c r u = by_place (instance_around program i c)
    where
      by_place : IsMain i ⊎ ((j : Instance) × (n : List ℕ) × IsBehind program i j n) → slice_get row.path (length row.path - 1) ≡ Some m
      by_place (inl main) = absurd (let no : [] ≡ m ∷ around = sym main.up ∙ u in cc)
      by_place (inr (j, n, b)) =
          let ups : n ∷ j.up ≡ m ∷ around = sym b.up ∙ u in
          let same : n ≡ m = cc in
          ap (λ (p : List (List ℕ)). slice_get p (length p - 1)) (r.path ∙ b.path) ∙ (last_of j.path n ∙ ap Some same)

  pub declared_row : (i : Instance) (row : Row) (m : List ℕ) (around : List (List ℕ)) → Contains (instances program) i → IsRow program i row → i.up ≡ m ∷ around → IsDeclared program s i row m around
  declared_row i row m around c r u =
      let j = r.parent.instance in
      let up : j.up ≡ around = r.parent.of ∙ ap outer u in
      let given = whole.given j i m (slice_get-contained (instances program) row.parent j r.parent.there) c (u ∙ ap (λ x. m ∷ x) (sym up)) in
      record {
        parent = j;
        there = r.parent.there;
        up = up;
        item = given.0;
        declares = given.1;
        key = ap (option_and_then (λ x. option_and_then (item_key row.parent) (declared_at s row.parent x))) (name_last i row m around c r u)
            ∙ (ap (option_and_then (item_key row.parent)) (declared_by program s are row.parent j r.parent.there m ∙ given.1.named));
      }

  undeclared_row : (i : Instance) (row : Row) → Contains (instances program) i → IsRow program i row → i.up ≡ [] → declaration_of s row ≡ None
  undeclared_row i row c r u = by_place (instance_around program i c)
    where
      by_place : IsMain i ⊎ ((j : Instance) × (n : List ℕ) × IsBehind program i j n) → declaration_of s row ≡ None
      by_place (inl main) = ap (λ (p : List (List ℕ)). option_and_then (λ m. option_and_then (item_key row.parent) (declared_at s row.parent m)) (slice_get p (length p - 1))) (r.path ∙ main.path)
      by_place (inr (j, n, b)) = absurd (let no : [] ≡ n ∷ j.up = sym u ∙ b.up in cc)

  module _ (rows : List Row) (are_rows : AreRows program rows) where
    pub children_are : (children : List ((ℕ × ℕ) × ℕ)) → AreEntered s rows (length rows) children → AreChildren program (child_in children)
    children_are children h n k i m at named =
        let there = whole.there i m k (slice_get-contained (instances program) n i at) named in
        let j = there.1.instance in
        let row = zip_at (IsRow program) (instances program) rows are_rows there.0 j there.1.there in
        let cj = slice_get-contained (instances program) there.0 j there.1.there in
        let d = declared_row j row.0 m i.up cj row.2 there.1.of in
        let parent : row.0.parent ≡ n = whole.one row.0.parent n d.parent i d.there at d.up in
        let owner : d.parent ≡ i = (let e : Some d.parent ≡ Some i = sym d.there ∙ (ap (slice_get (instances program)) parent ∙ at) in cc) in
        let named' : lookup (bytes_eq m) (part_entries 0 0 i.body.parts) ≡ Some (declared.Instance d.item) = subst (λ x. lookup (bytes_eq m) (part_entries 0 0 x.body.parts) ≡ Some (declared.Instance d.item)) owner d.declares.named in
        let item : d.item ≡ k = (let e : Some (declared.Instance d.item) ≡ Some (declared.Instance k) = sym named' ∙ named in cc) in
        let key : declaration_of s row.0 ≡ pair n k = d.key ∙ (ap (λ x. pair x d.item) parent ∙ ap (pair n) item) in
        let found = h.complete n k there.0 row.0 (slice_get_within rows there.0 row.0 row.1) row.1 key in
        let told = h.sound n k found.0 found.1 in
        (found.0, found.1, number_of i m n k at d owner item found.0 told.0 told.1 told.2)
      where
        item_of : (i : Instance) (m : List ℕ) (k l : ℕ) (p j : Instance) → Declares p j m l → p ≡ i → l ≡ k → (kind : Kind) × (p q : Place) × (b : List ℕ) × (es : List Tree) × (slice_get i.body.parts k ≡ Some (variable kind m p (instance b q es)))
        item_of i m k l p j d same here =
            (d.kind, d.place, d.at, d.of, j.actuals, ap (λ (x : Instance). slice_get x.body.parts k) (sym same) ∙ (ap (slice_get p.body.parts) (sym here) ∙ d.item))

        number_of : (i : Instance) (m : List ℕ) (n k : ℕ) → slice_get (instances program) n ≡ Some i → {j : Instance} {r : Row} (d : IsDeclared program s j r m i.up) → d.parent ≡ i → d.item ≡ k
            → (c : ℕ) (row : Row) → slice_get rows c ≡ Some row → declaration_of s row ≡ pair n k → IsNumber program c (m ∷ i.up)
        number_of i m n k at {j} {r} d owner here c row e key =
            let back = zip_back (IsRow program) (instances program) rows are_rows c row e in
            by_up back.0 back.1 back.2 back.0.up refl
          where
            by_up : (x : Instance) → slice_get (instances program) c ≡ Some x → IsRow program x row → (u : List (List ℕ)) → x.up ≡ u → IsNumber program c (m ∷ i.up)
            by_up x there is [] u =
                absurd (let no : None ≡ pair n k = sym (undeclared_row x row (slice_get-contained (instances program) c x there) is u) ∙ key in cc)
            by_up x there is (o ∷ around) u =
                let f = declared_row x row o around (slice_get-contained (instances program) c x there) is u in
                let keys : pair row.parent f.item ≡ pair n k = sym f.key ∙ key in
                let parent : row.parent ≡ n = (pair_parts row.parent f.item n k keys).0 in
                let item : f.item ≡ k = (pair_parts row.parent f.item n k keys).1 in
                let owner' : f.parent ≡ i = (let g : Some f.parent ≡ Some i = sym f.there ∙ (ap (slice_get (instances program)) parent ∙ at) in cc) in
                let here' = item_of i o k f.item f.parent x f.declares owner' item in
                let own = item_of i m k d.item d.parent j d.declares owner here in
                let parts : Some (variable here'.0 o here'.1 (instance here'.3 here'.2 here'.4)) ≡ Some (variable own.0 m own.1 (instance own.3 own.2 own.4)) = sym here'.5 ∙ own.5 in
                let same : o ≡ m = same_variable here'.0 own.0 o m here'.1 own.1 (instance here'.3 here'.2 here'.4) (instance own.3 own.2 own.4) parts in
                record {
                  instance = x;
                  there = there;
                  of = u ∙ (ap (λ y. y ∷ around) same ∙ ap (λ y. m ∷ y) (sym f.up ∙ ap (λ (y : Instance). y.up) owner'));
                }
