-- A sweep in breadth notes the least number of steps of each module.
use Rattle.std.proofs.Common.{◌≡◌, ◌+◌, ◌<◌, ◌≤◌, ℕ, zero, suc, Bool, true, cond, List, [], ◌∷◌, ◌++◌, length, refl, ap, sym, ◌∙◌, subst, arith, inl, inr, eqb, append_assoc}
use Rattle.std.specs.Prelude.{◌⊎◌, ◌↔◌, Contains, Option, Some, None, slice_get, is_some, IsSome, if◌then◌else◌}
use Rattle.std.specs.Option.{option_or}
use Rattle.std.specs.Map.{lookup, keys_of}
use Rattle.std.specs.List.{list_any, IsDistinct}
use Rattle.std.proofs.lemmas.Bool.{eqb-true, eq-eqb}
use Rattle.std.proofs.lemmas.List.{append-nil}
use Rattle.std.proofs.lemmas.List.Elements.{Contains-append_left, Contains-push, Contains-push_cases}
use Rattle.std.proofs.lemmas.Option.{slice_get_within}
use Rattle.std.proofs.lemmas.Map.Entries.{place_from_lookup, length-keys_of}
use Rattle.std.proofs.lemmas.Cmp.{nat_eq_equiv}
use Rattle.std.proofs.lemmas.Map.Views.{IsSome-lookup_from_Contains}
use Rattle.std.proofs.lemmas.Map.Steps.{length-le_from_distinct_below}
use Rattle.indexmap.proofs.CallerLemmas.{Contains-list_any}
use Rattle.smv_meaning.proofs.Lists.{contains_none, slice_get-contained}
use Rattle.smv_graph.specs.Graph.{Leads, row_of}
use Rattle.smv_graph.specs.Distances.{Steps, AreDistances, AreNoted}
use Rattle.smv_graph.proofs.Numbering.{lookup-append}
use Rattle.smv_graph.proofs.Arrows.{leads_within}

pub kept_lookup : (test : ℕ → Bool) (xs ys : List (ℕ × ℕ)) (d : ℕ) → lookup test xs ≡ Some d → lookup test (xs ++ ys) ≡ Some d
kept_lookup test xs ys d e = lookup-append test xs ys ∙ ap (λ o. option_or o (lookup test ys)) e

at_split : (xs ys : List (ℕ × ℕ)) (k : ℕ) (v : ℕ × ℕ) → slice_get (xs ++ ys) k ≡ Some v → (slice_get xs k ≡ Some v) ⊎ ((length xs ≤ k) × Contains ys v)
at_split [] ys k v e = inr (omega arith, slice_get-contained ys k v e)
at_split (x ∷ xs) ys zero v e = inl e
at_split (x ∷ xs) ys (suc k) v e = elim (at_split xs ys k v e) [ inl h ↦ inl h | inr (l, c) ↦ inr (omega arith, c) ]

-- rows that are noted one part after the other
pub none_noted : (old : List (ℕ × ℕ)) (distance : ℕ) → AreNoted old [] distance old
none_noted old distance = record { more = []; behind = sym (append-nil old); only = λ a d c. absurd (contains_none (a, d) c); noted = λ a c. absurd (contains_none (Some a) c) }

module _ (old mid : List (ℕ × ℕ)) (row : List (Option ℕ)) (distance : ℕ) (n : AreNoted old row distance mid) where
  only_longer : (x : Option ℕ) (a d : ℕ) → Contains n.more (a, d) → (d ≡ distance) × Contains (row ++ x ∷ []) (Some a)
  only_longer x a d c = let o = n.only a d c in (o.0, Contains-append_left row (x ∷ []) (Some a) o.1)

  pub nowhere_noted : AreNoted old (row ++ None ∷ []) distance mid
  nowhere_noted = record { more = n.more; behind = n.behind; only = only_longer None; noted = λ a c. before a (Contains-push_cases row None (Some a) c) }
    where
      before : (a : ℕ) → Contains row (Some a) ⊎ (None ≡ Some a) → (d : ℕ) × (lookup (eqb a) mid ≡ Some d)
      before a (inl c) = n.noted a c
      before a (inr e) = absurd (cc)

  pub one_noted : (new : List (ℕ × ℕ)) (v : ℕ) → new ≡ (if is_some (lookup (eqb v) mid) then mid else mid ++ (v, distance) ∷ []) → AreNoted old (row ++ Some v ∷ []) distance new
  one_noted new v e = by_there (lookup (eqb v) mid) refl e
    where
      by_there : (o : Option ℕ) → lookup (eqb v) mid ≡ o → new ≡ (if is_some o then mid else mid ++ (v, distance) ∷ []) → AreNoted old (row ++ Some v ∷ []) distance new
      by_there (Some d) h f = record { more = n.more; behind = f ∙ n.behind; only = only_longer (Some v); noted = λ a c. before a (Contains-push_cases row (Some v) (Some a) c) }
        where
          before : (a : ℕ) → Contains row (Some a) ⊎ (Some v ≡ Some a) → (x : ℕ) × (lookup (eqb a) new ≡ Some x)
          before a (inl c) = let r = n.noted a c in (r.0, ap (lookup (eqb a)) f ∙ r.1)
          before a (inr s) = let same : v ≡ a = cc in (d, ap (lookup (eqb a)) f ∙ (ap (λ j. lookup (eqb j) mid) (sym same) ∙ h))
      by_there None h f = record { more = n.more ++ (v, distance) ∷ []; behind = f ∙ (ap (λ l. l ++ (v, distance) ∷ []) n.behind ∙ append_assoc old n.more ((v, distance) ∷ [])); only = λ a d c. last a d (Contains-push_cases n.more (v, distance) (a, d) c); noted = λ a c. before a (Contains-push_cases row (Some v) (Some a) c) }
        where
          last : (a d : ℕ) → Contains n.more (a, d) ⊎ ◌≡◌ {A = ℕ × ℕ} (v, distance) (a, d) → (d ≡ distance) × Contains (row ++ Some v ∷ []) (Some a)
          last a d (inl c) = only_longer (Some v) a d c
          last a d (inr s) = (sym (ap (λ (p : ℕ × ℕ). p.1) s), subst (λ j. Contains (row ++ Some v ∷ []) (Some j)) (ap (λ (p : ℕ × ℕ). p.0) s) (Contains-push row (Some v)))

          itself : lookup (eqb v) new ≡ Some distance
          itself = ap (lookup (eqb v)) f ∙ (lookup-append (eqb v) mid ((v, distance) ∷ []) ∙ (ap (λ o. option_or o (lookup (eqb v) ((v, distance) ∷ []))) h ∙ ap (λ t. cond t (Some distance) None) (eq-eqb v v refl)))

          before : (a : ℕ) → Contains row (Some a) ⊎ (Some v ≡ Some a) → (x : ℕ) × (lookup (eqb a) new ≡ Some x)
          before a (inl c) = let r = n.noted a c in (r.0, ap (lookup (eqb a)) f ∙ kept_lookup (eqb a) mid ((v, distance) ∷ []) r.0 r.1)
          before a (inr s) = let same : v ≡ a = cc in (distance, subst (λ j. lookup (eqb j) new ≡ Some distance) same itself)

-- Modules that are noted with distances that do not fall along the list. Those before the next have been taken up:
-- what leads to them is noted. From the next on distances are at most one above any other that is still to come.
pub record IsSweep (graph : List (List (Option ℕ))) (target next : ℕ) (entries : List (ℕ × ℕ)) : Type 0 where
  pub begun : lookup (eqb target) entries ≡ Some 0
  pub sound : (k a d : ℕ) → slice_get entries k ≡ Some (a, d) → Steps (Leads graph) d a target
  pub done : (k a d b : ℕ) → k < next → slice_get entries k ≡ Some (a, d) → Leads graph b a → (e : ℕ) × (lookup (eqb b) entries ≡ Some e) × (e ≤ d + 1)
  pub sorted : (i j a d b e : ℕ) → i ≤ j → slice_get entries i ≡ Some (a, d) → slice_get entries j ≡ Some (b, e) → d ≤ e
  pub near : (i j a d b e : ℕ) → next ≤ i → slice_get entries i ≡ Some (a, d) → slice_get entries j ≡ Some (b, e) → e ≤ d + 1
  pub small : (k a d : ℕ) → slice_get entries k ≡ Some (a, d) → d ≤ k

same_pair : (a d b e : ℕ) → ◌≡◌ {A = Option (ℕ × ℕ)} (Some (a, d)) (Some (b, e)) → (a ≡ b) × (d ≡ e)
same_pair a d b e h = let s : ◌≡◌ {A = ℕ × ℕ} (a, d) (b, e) = cc in (ap (λ (p : ℕ × ℕ). p.0) s, ap (λ (p : ℕ × ℕ). p.1) s)

module _ (graph : List (List (Option ℕ))) (target : ℕ) where
  pub sweep_begun : (entries : List (ℕ × ℕ)) → entries ≡ (target, 0) ∷ [] → IsSweep graph target 0 entries
  sweep_begun entries e = subst (IsSweep graph target 0) (sym e) (record {
    begun = ap (λ t. cond t (Some 0) None) (eq-eqb target target refl);
    sound = λ k a d h. let s = only k a d h in subst (λ n. Steps (Leads graph) n a target) (sym s.1) (sym s.0);
    done = λ k a d b l. absurd (omega arith);
    sorted = λ i j a d b f l h g. let s = only i a d h in let z : d ≡ 0 = s.1 in omega (arith, z);
    near = λ i j a d b f l h g. let s = only j b f g in let z : f ≡ 0 = s.1 in omega (arith, z);
    small = λ k a d h. let s = only k a d h in let z : d ≡ 0 = s.1 in omega (arith, z);
  })
    where
      only : (k a d : ℕ) → slice_get {X = ℕ × ℕ} ((target, 0) ∷ []) k ≡ Some (a, d) → (target ≡ a) × (d ≡ 0)
      only zero a d h = let s = same_pair target 0 a d h in (s.0, sym s.1)
      only (suc k) a d h = absurd (cc)

  module _ (back : List (List (Option ℕ))) (mirrored : (a b : ℕ) → Leads back a b ↔ Leads graph b a) (next : ℕ) (entries later : List (ℕ × ℕ)) (y d : ℕ)
      (q : IsSweep graph target next entries) (at_next : slice_get entries next ≡ Some (y, d)) (new : AreNoted entries (row_of back y) (d + 1) later) where
    -- it was noted before, or it is new
    abbrev IsPlaced : ℕ → ℕ → ℕ → Type 0
    IsPlaced k a e = (slice_get entries k ≡ Some (a, e)) ⊎ ((length entries ≤ k) × (e ≡ d + 1) × Leads graph a y)

    placed : (k a e : ℕ) → slice_get later k ≡ Some (a, e) → IsPlaced k a e
    placed k a e h = elim (at_split entries new.more k (a, e) (ap (λ l. slice_get l k) (sym new.behind) ∙ h)) [
      | inl g ↦ inl g
      | inr (l, c) ↦ (let o = new.only a e c in inr (l, o.0, (mirrored y a).0 o.1))
    ]

    next_within : next < length entries
    next_within = slice_get_within entries next (y, d) at_next

    near_next : (j b e : ℕ) → slice_get entries j ≡ Some (b, e) → e ≤ d + 1
    near_next j b e h = q.near next j y d b e (omega arith) at_next h

    kept : (b e : ℕ) → lookup (eqb b) entries ≡ Some e → lookup (eqb b) later ≡ Some e
    kept b e h = ap (lookup (eqb b)) new.behind ∙ kept_lookup (eqb b) entries new.more e h

    sound : (k a e : ℕ) → slice_get later k ≡ Some (a, e) → Steps (Leads graph) e a target
    sound k a e h = elim (placed k a e h) [
      | inl g ↦ q.sound k a e g
      | inr (l, s, r) ↦ (let one : e ≡ suc d = omega (arith, s) in subst (λ n. Steps (Leads graph) n a target) (sym one) (y, r, q.sound next y d at_next))
    ]

    not_far : (b e : ℕ) → lookup (eqb b) later ≡ Some e → e ≤ d + 1
    not_far b e h =
        let p = place_from_lookup (eqb b) later e h in
        elim (placed p.0 p.1 e p.2) [ inl g ↦ near_next p.0 p.1 e g | inr (l, s, r) ↦ omega (arith, s) ]

    done : (k a e b : ℕ) → k < next + 1 → slice_get later k ≡ Some (a, e) → Leads graph b a → (f : ℕ) × (lookup (eqb b) later ≡ Some f) × (f ≤ e + 1)
    done k a e b l h r = elim (placed k a e h) [
      | inr (m, s, t) ↦ absurd (let w = next_within in omega (arith, l, m, w))
      | inl g ↦ by_place (cases k next l) g
    ]
      where
        cases : (i n : ℕ) → i < n + 1 → (i < n) ⊎ (i ≡ n)
        cases i n less = grind arith

        by_place : (k < next) ⊎ (k ≡ next) → slice_get entries k ≡ Some (a, e) → (f : ℕ) × (lookup (eqb b) later ≡ Some f) × (f ≤ e + 1)
        by_place (inl less) g = let o = q.done k a e b less g r in (o.0, kept b o.0 o.1, o.2)
        by_place (inr same) g =
            let s = same_pair y d a e (sym at_next ∙ (ap (slice_get entries) (sym same) ∙ g)) in
            let o = new.noted b ((mirrored y b).1 (subst (Leads graph b) (sym s.0) r)) in
            let f : o.0 ≤ d + 1 = not_far b o.0 o.1 in
            let one : d ≡ e = s.1 in
            (o.0, o.1, omega (arith, f, one))

    pub sweep_on : IsSweep graph target (next + 1) later
    sweep_on = record {
      begun = kept target 0 q.begun;
      sound = sound;
      done = done;
      sorted = λ i j a e b f l h g. order i j a e b f l (placed i a e h) (placed j b f g);
      near = λ i j a e b f l h g. close i j a e b f l (placed i a e h) (placed j b f g);
      small = λ k a e h. low k a e (placed k a e h);
    }
      where
        order : (i j a e b f : ℕ) → i ≤ j → IsPlaced i a e → IsPlaced j b f → e ≤ f
        order i j a e b f l (inl h) (inl g) = q.sorted i j a e b f l h g
        order i j a e b f l (inl h) (inr (m, s, r)) = let n = near_next i a e h in omega (arith, n, s)
        order i j a e b f l (inr (k, t, p)) (inl g) = let w = slice_get_within entries j (b, f) g in absurd (omega (arith, w, k, l))
        order i j a e b f l (inr (k, t, p)) (inr (m, s, r)) = omega (arith, t, s)

        close : (i j a e b f : ℕ) → next + 1 ≤ i → IsPlaced i a e → IsPlaced j b f → f ≤ e + 1
        close i j a e b f l (inl h) (inl g) = q.near i j a e b f (omega (arith, l)) h g
        close i j a e b f l (inl h) (inr (m, s, r)) = let n = q.sorted next i y d a e (omega (arith, l)) at_next h in omega (arith, n, s)
        close i j a e b f l (inr (k, t, p)) (inl g) = let n = near_next j b f g in omega (arith, n, t)
        close i j a e b f l (inr (k, t, p)) (inr (m, s, r)) = omega (arith, t, s)

        low : (k a e : ℕ) → IsPlaced k a e → e ≤ k
        low k a e (inl h) = q.small k a e h
        low k a e (inr (m, s, r)) = let n = q.small next y d at_next in let w = next_within in omega (arith, n, w, m, s)

  module _ (next : ℕ) (entries : List (ℕ × ℕ)) (q : IsSweep graph target next entries) where
    sound_lookup : (a d : ℕ) → lookup (eqb a) entries ≡ Some d → Steps (Leads graph) d a target
    sound_lookup a d h =
        let p = place_from_lookup (eqb a) entries d h in
        let same : a ≡ p.1 = eqb-true a p.1 p.3 in
        subst (λ b. Steps (Leads graph) d b target) (sym same) (q.sound p.0 p.1 d p.2)

    least : length entries ≤ next → (a n : ℕ) → Steps (Leads graph) n a target → (d : ℕ) × (lookup (eqb a) entries ≡ Some d) × (d ≤ n)
    least l a zero s = (0, ap (λ b. lookup (eqb b) entries) s ∙ q.begun, omega arith)
    least l a (suc n) (b, r, s) =
        let found = least l b n s in
        let p = place_from_lookup (eqb b) entries found.0 found.1 in
        let same : b ≡ p.1 = eqb-true b p.1 p.3 in
        let w = slice_get_within entries p.0 (p.1, found.0) p.2 in
        let o = q.done p.0 p.1 found.0 a (omega (arith, w, l)) p.2 (subst (Leads graph a) same r) in
        (o.0, o.1, let x = o.2 in let y = found.2 in omega (arith, x, y))

    pub sweep_done : length entries ≤ next → AreDistances graph target entries
    sweep_done l = record { sound = sound_lookup; least = least l }

    within : (d a : ℕ) → Steps (Leads graph) d a target → a < length graph + target + 1
    within zero a s = let same : a ≡ target = s in omega (arith, same)
    within (suc d) a (b, r, s) = let w = leads_within graph a b r in omega (arith, w)

    -- so no more are noted than there are modules, and the target
    pub sweep_short : IsDistinct eqb (keys_of entries) → length entries ≤ length graph + target + 1
    sweep_short distinct =
        let short = length-le_from_distinct_below (keys_of entries) (length graph + target + 1) distinct below in
        let same = length-keys_of entries in
        omega (arith, short, same)
      where
        below : (a : ℕ) → list_any (eqb a) (keys_of entries) ≡ true → a < length graph + target + 1
        below a h = by_found (lookup (eqb a) entries) refl (IsSome-lookup_from_Contains nat_eq_equiv a entries (Contains-list_any eqb eqb-true (keys_of entries) a h))
          where
            by_found : (o : Option ℕ) → lookup (eqb a) entries ≡ o → IsSome o → a < length graph + target + 1
            by_found None e s = absurd (cc)
            by_found (Some d) e s = within d a (sound_lookup a d e)
