-- Names of which an assignment is excluded, as parts are walked.
use Rattle.std.proofs.Common.{◌≡◌, ℕ, suc, zero, ◌+◌, ◌<◌, ◌≤◌, Bool, true, false, cond, List, [], ◌∷◌, ◌++◌, ◌||◌, ◌&&◌, length, map, take, refl, ap, sym, ◌∙◌, subst, arith, length-append, below_more}
use Rattle.std.specs.Prelude.{Option, Some, None, is_some, if◌then◌else◌, slice_get}
use Rattle.std.specs.Map.{lookup}
use Rattle.std.specs.List.{list_any}
use Rattle.std.specs.Option.{option_or}
use Rattle.std.specs.Str.{bytes_eq}
use Rattle.std.proofs.lemmas.Slice.Eq.{bytes_eq-Decides}
use Rattle.std.proofs.lemmas.List.{length-map}
use Rattle.std.proofs.lemmas.List.Folds.{list_any_more}
use Rattle.std.proofs.lemmas.Option.{slice_get_within, get_or_from_slice_get}
use Rattle.smv_tree.specs.declared.program.Moment.{Moment}
use Rattle.smv_tree.specs.declared.place.Place.{Place}
use Rattle.smv_tree.specs.Trees.{Tree}
use Rattle.smv_tree.specs.declared.program.Item.{Item}
use Rattle.smv_tree.specs.Models.{Part, part_of, variable, define, assign, constraint, property}
use Rattle.smv_typing.specs.Uses.{excludes}
use Rattle.smv_types.specs.declared.again.Excluded.{Excluded}
use Rattle.smv_types.specs.Assigning.{excludes_one, is_again}
use Rattle.smv_types.specs.Excluded.{is_excluded, is_again_by, AreAgain}
use Rattle.smv_graph.proofs.Numbering.{lookup-append, bytes_eq-sym}

or_false : (b : Bool) → b ≡ (b || false)
or_false true = refl
or_false false = refl

either : {V : Type 0} (o : Option V) (b : Bool) (v : V) → is_some (option_or o (cond b (Some v) None)) ≡ (is_some o || b)
either None true v = refl
either None false v = refl
either (Some x) b v = refl

-- one more name, unless it is there
pub inserted_name : (m n : List ℕ) (k : ℕ) (xs new : List (List ℕ × ℕ)) → new ≡ (if is_some (lookup (bytes_eq n) xs) then xs else xs ++ (n, k) ∷ [])
    → is_some (lookup (bytes_eq m) new) ≡ (is_some (lookup (bytes_eq m) xs) || bytes_eq n m)
inserted_name m n k xs new put = ap (λ ns. is_some (lookup (bytes_eq m) ns)) put ∙ by_there (lookup (bytes_eq n) xs) refl
  where
    kept : (v : ℕ) → lookup (bytes_eq n) xs ≡ Some v → (b : Bool) → bytes_eq n m ≡ b → is_some (lookup (bytes_eq m) xs) ≡ (is_some (lookup (bytes_eq m) xs) || b)
    kept v there true e =
        let had : is_some (lookup (bytes_eq m) xs) ≡ true = ap (λ q. is_some (lookup (bytes_eq q) xs)) (sym ((bytes_eq-Decides n m).0 e)) ∙ ap is_some there in
        had ∙ sym (ap (λ b. b || true) had)
    kept v there false e = or_false (is_some (lookup (bytes_eq m) xs))

    by_there : (o : Option ℕ) → lookup (bytes_eq n) xs ≡ o → is_some (lookup (bytes_eq m) (if is_some o then xs else xs ++ (n, k) ∷ [])) ≡ (is_some (lookup (bytes_eq m) xs) || bytes_eq n m)
    by_there None e =
        ap is_some (lookup-append (bytes_eq m) xs ((n, k) ∷ []))
        ∙ (either (lookup (bytes_eq m) xs) (bytes_eq m n) k ∙ ap (λ b. is_some (lookup (bytes_eq m) xs) || b) (bytes_eq-sym m n))
    by_there (Some v) e = kept v e (bytes_eq n m) refl

and_true : (b : Bool) → b ≡ (b && true)
and_true true = refl
and_true false = refl

-- an assignment excludes another of its name, where its moment excludes that one's
pub excluded_here : (k : Moment) (m : List ℕ) (part : Part) (l : Moment) (o n : List ℕ) (p : Place) (e : Tree) → part ≡ assign l o p e → n ≡ o → excludes l k ≡ true
    → bytes_eq n m ≡ excludes_one k m part
excluded_here k m part l o n p e is same ex =
    ap (λ x. bytes_eq x m) same ∙ (and_true (bytes_eq o m) ∙ (ap (λ b. bytes_eq o m && b) (sym ex) ∙ sym (ap (excludes_one k m) is)))

kept_at : {X : Type 0} (xs : List X) (y : X) (k : ℕ) → k < length xs → slice_get (xs ++ y ∷ []) k ≡ slice_get xs k
kept_at [] y k l = absurd (omega arith)
kept_at (x ∷ xs) y zero l = refl
kept_at (x ∷ xs) y (suc k) l = kept_at xs y k (omega arith)

last_at : {X : Type 0} (xs : List X) (y : X) → slice_get (xs ++ y ∷ []) (length xs) ≡ Some y
last_at [] y = refl
last_at (x ∷ xs) y = last_at xs y

-- the flags of the first parts, and the names that they exclude
pub record Walked (parts : List Part) (i : ℕ) (flags : List Bool) (e : Excluded) : Type 0 where
  pub counted : length flags ≡ i
  pub flagged : (k : ℕ) → k < i → (part : Part) → slice_get parts k ≡ Some part → slice_get flags k ≡ Some (is_again (take k parts) part)
  pub excluded : (m : Moment) (n : List ℕ) → is_excluded e m n ≡ list_any (excludes_one m n) (take i parts)

module _ (parts : List Part) (i : ℕ) (part : Part) (at : slice_get parts i ≡ Some part) (e : Excluded) where
  again_same : ((m : Moment) (n : List ℕ) → is_excluded e m n ≡ list_any (excludes_one m n) (take i parts)) → is_again_by e part ≡ is_again (take i parts) part
  again_same h = by_part part
    where
      by_part : (p : Part) → is_again_by e p ≡ is_again (take i parts) p
      by_part (variable k n q t) = refl
      by_part (define n q x) = refl
      by_part (assign m n q x) = h m n
      by_part (constraint s q x) = refl
      by_part (property n q f) = refl

  any_more : (f : Part → Bool) → list_any f (take (i + 1) parts) ≡ (list_any f (take i parts) || f part)
  any_more f = list_any_more f parts i part (slice_get_within parts i part at) ∙ ap (λ p. list_any f (take i parts) || f p) (get_or_from_slice_get parts i part part at)

  pub walked_on : (flags new : List Bool) (b : Bool) (next : Excluded) → Walked parts i flags e → b ≡ is_again_by e part → new ≡ flags ++ b ∷ []
      → ((m : Moment) (n : List ℕ) → is_excluded next m n ≡ (is_excluded e m n || excludes_one m n part)) → Walked parts (i + 1) new next
  walked_on flags new b next w same put more = record {
    counted = ap length put ∙ (length-append flags (b ∷ []) ∙ ap (λ k. k + 1) w.counted);
    flagged = below_more (λ k. (q : Part) → slice_get parts k ≡ Some q → slice_get new k ≡ Some (is_again (take k parts) q)) i (λ k l q h. before k l q h) here;
    excluded = λ m n. more m n ∙ (ap (λ x. x || excludes_one m n part) (w.excluded m n) ∙ sym (any_more (excludes_one m n)));
  }
    where
      before : (k : ℕ) → k < i → (q : Part) → slice_get parts k ≡ Some q → slice_get new k ≡ Some (is_again (take k parts) q)
      before k l q h = ap (λ xs. slice_get xs k) put ∙ (kept_at flags b k (subst (λ j. k < j) (sym w.counted) l) ∙ w.flagged k l q h)

      here : (q : Part) → slice_get parts i ≡ Some q → slice_get new i ≡ Some (is_again (take i parts) q)
      here q h =
          let own : part ≡ q = cc in
          ap (λ xs. slice_get xs i) put ∙ (ap (slice_get (flags ++ b ∷ [])) (sym w.counted) ∙ (last_at flags b
          ∙ ap Some (same ∙ (again_same w.excluded ∙ ap (is_again (take i parts)) own))))

pub none_walked : (parts : List Part) (flags : List Bool) (e : Excluded) → flags ≡ [] → ((m : Moment) (n : List ℕ) → is_excluded e m n ≡ false) → Walked parts 0 flags e
none_walked parts flags e empty unknown = record {
  counted = ap length empty;
  flagged = λ k l q h. absurd (omega arith);
  excluded = unknown;
}

pub all_walked : (xs ys : List Item) (i : ℕ) (flags : List Bool) (e : Excluded) → xs ≡ ys → length xs ≤ i → Walked (map part_of xs) i flags e → AreAgain (map part_of ys) flags
all_walked xs ys i flags e same all w k part h =
    let there : slice_get (map part_of xs) k ≡ Some part = ap (λ zs. slice_get (map part_of zs) k) same ∙ h in
    let within : k < length (map part_of xs) = slice_get_within (map part_of xs) k part there in
    w.flagged k (omega (arith, length-map xs part_of)) part there
    ∙ ap (λ zs. Some (is_again (take k (map part_of zs)) part)) same
