-- What finitely many states settle is so on every lasso that begins with them.
use Rattle.std.proofs.Common.{◌≡◌, ℕ, ◌+◌, ◌-◌, ◌<◌, ◌≤◌, Bool, true, false, ◌⊎◌, ◌↔◌, inl, inr, ⊎_elim, sym, ap, subst, ◌∙◌, zero-add, arith}
use Rattle.std.specs.Prelude.{⊤}
use Rattle.std.proofs.lemmas.Bool.{cases_lt}
use Rattle.smv_tree.specs.Trees.{Tree}
use Rattle.smv_tree.specs.Models.{Claim, atom, no, after, always, some_time, both}
use Rattle.smv_tree.specs.declared.formula.FormOp.TheVariants as op
use Rattle.smv_meaning.specs.Places.{next_place, place, Until}
use Rattle.smv_meaning.specs.LassoTruth.{TrueAt}
use Rattle.smv_meaning.specs.SettledTruth.{Sometime, HoldsBefore, HoldsUpTo, Agree, Differ, Settled}
use Rattle.smv_meaning.proofs.Lassos.{place_below, place_add, place_step, place_straight, shortened}

-- a truth, or that it is none
abbrev pub Told : Bool → Type 0 → Type 0
Told true P = P
Told false P = ¬ P

-- two formulas that are settled the same way, or opposite ways
module _ (F G : Bool → ℕ → Type 0) {A B : Type 0} (p : ℕ) (f : (want : Bool) → F want p → Told want A) (g : (want : Bool) → G want p → Told want B) where
  agree_same : Agree F G p → (A × B) ⊎ ((¬ A) × (¬ B))
  agree_same = ⊎_elim (λ s. inl (f true s.0, g true s.1)) (λ s. inr (f false s.0, g false s.1))

  agree_apart : Agree F G p → ¬ ((A × (¬ B)) ⊎ ((¬ A) × B))
  agree_apart = ⊎_elim (λ s. ⊎_elim (λ d. d.1 (g true s.1)) (λ d. d.0 (f true s.0))) (λ s. ⊎_elim (λ d. f false s.0 d.0) (λ d. g false s.1 d.1))

  differ_apart : Differ F G p → (A × (¬ B)) ⊎ ((¬ A) × B)
  differ_apart = ⊎_elim (λ s. inl (f true s.0, g false s.1)) (λ s. inr (f false s.0, g true s.1))

  differ_same : Differ F G p → ¬ ((A × B) ⊎ ((¬ A) × (¬ B)))
  differ_same = ⊎_elim (λ s. ⊎_elim (λ d. g false s.1 d.1) (λ d. d.0 (f true s.0))) (λ s. ⊎_elim (λ d. f false s.0 d.0) (λ d. d.1 (g true s.1)))

module _ (k l m : ℕ) (h : l < k) where
  -- the place that a lasso comes to after so many steps from the first one
  abbrev come : ℕ → ℕ
  come = place k l 0

  come_below : (p : ℕ) → come p < k
  come_below p = place_below k l 0 p h (omega arith)

  come_on : (p q : ℕ) → p ≤ q → place k l (come p) (q - p) ≡ come q
  come_on p q w = let e : p + (q - p) ≡ q = omega arith in sym (place_add k l 0 p (q - p)) ∙ ap (place k l 0) e

  come_next : (p : ℕ) → come (p + 1) ≡ next_place k l (come p)
  come_next p = place_add k l 0 p 1 ∙ place_step k l (place k l 0 p)

  module _ (F G : ℕ → Type 0) where
    -- what comes before something on the states does so on the lasso
    reached : (p : ℕ) → HoldsBefore m (λ q. F (come q)) (λ q. G (come q)) p → Until k k l F G (come p)
    reached p r = shortened k l F G h (r.when - p) (come p) (r.when - p) (come_below p) (omega arith) (record {
      reached = subst G (sym (come_on p r.when r.from)) r.there;
      before = λ j i. let e : p + j - p ≡ j = omega arith in subst (λ n. F (place k l (come p) n)) e (subst F (sym (come_on p (p + j) (omega arith))) (r.before (p + j) (omega arith) (omega arith)));
    })

    -- what is false as long as something is not reached is not reached on the lasso
    never : (p : ℕ) → HoldsUpTo m (λ q. ¬ F (come q)) (λ q. ¬ G (come q)) p → ¬ Until k k l F G (come p)
    never p r u = elim (cases_lt (r.when - p) u.steps) [
      | inl late ↦ r.there (subst F (come_on p r.when r.from) (u.reaches.before (r.when - p) late))
      | inr soon ↦
          let e : p + u.steps - p ≡ u.steps = omega arith in
          r.up_to (p + u.steps) (omega arith) (omega arith) (subst G (come_on p (p + u.steps) (omega arith)) (subst (λ n. G (place k l (come p) n)) (sym e) u.reaches.reached))
    ]

    -- the same, given by what the parts of the two are
    reached_at : {A B : ℕ → Type 0} → ((q : ℕ) → q ≤ m → A q → F (come q)) → ((q : ℕ) → q ≤ m → B q → G (come q)) → (p : ℕ) → HoldsBefore m A B p → Until k k l F G (come p)
    reached_at f g p r = reached p (record {
      when = r.when;
      from = r.from;
      to = r.to;
      there = g r.when r.to r.there;
      before = λ q w i. f q (let t : r.when ≤ m = r.to in omega arith) (r.before q w i);
    })

    never_at : {A B : ℕ → Type 0} → ((q : ℕ) → q ≤ m → A q → ¬ F (come q)) → ((q : ℕ) → q ≤ m → B q → ¬ G (come q)) → (p : ℕ) → HoldsUpTo m A B p → ¬ Until k k l F G (come p)
    never_at f g p r = never p (record {
      when = r.when;
      from = r.from;
      to = r.to;
      there = f r.when r.to r.there;
      up_to = λ q w i. g q (let t : r.when ≤ m = r.to in omega arith) (r.up_to q w i);
    })

  some_reached : {A : ℕ → Type 0} (G : ℕ → Type 0) → ((q : ℕ) → q ≤ m → A q → G (come q)) → (p : ℕ) → Sometime m A p → Until k k l (λ _. ⊤) G (come p)
  some_reached G g p r = reached (λ _. ⊤) G p (record { when = r.when; from = r.from; to = r.to; there = g r.when r.to r.there; before = λ q w i. tt })

  module _ (seen holds : Tree → ℕ → Type 0) (begins : (e : Tree) (p : ℕ) → p ≤ m → seen e p ↔ holds e (come p)) where
    step : (f : Claim) (p : ℕ) → TrueAt k l holds f (come (p + 1)) ↔ TrueAt k l holds f (next_place k l (come p))
    step f p = (subst (TrueAt k l holds f) (come_next p), subst (TrueAt k l holds f) (sym (come_next p)))

    pub settled_so : (f : Claim) (want : Bool) (p : ℕ) → p ≤ m → Settled seen m f want p → Told want (TrueAt k l holds f (come p))
    settled_so (atom e) true p w s = (begins e p w).0 s
    settled_so (atom e) false p w s = λ x. s ((begins e p w).1 x)
    settled_so (no f) true p w s = settled_so f false p w s
    settled_so (no f) false p w s = λ n. n (settled_so f true p w s)
    settled_so (after f) true p w s = (step f p).0 (settled_so f true (p + 1) (omega arith) s.1)
    settled_so (after f) false p w s = λ x. settled_so f false (p + 1) (omega arith) s.1 ((step f p).1 x)
    settled_so (some_time f) true p w s = some_reached (TrueAt k l holds f) (settled_so f true) p s
    settled_so (some_time f) false p w s = absurd s
    settled_so (always f) true p w s = absurd s
    settled_so (always f) false p w s = λ n. n (some_reached (λ q. ¬ TrueAt k l holds f q) (settled_so f false) p s)
    settled_so (both op.And f g) true p w s = (settled_so f true p w s.0, settled_so g true p w s.1)
    settled_so (both op.And f g) false p w s = λ j. ⊎_elim (λ x. settled_so f false p w x j.0) (λ y. settled_so g false p w y j.1) s
    settled_so (both op.Or f g) true p w s = ⊎_elim (λ x. inl (settled_so f true p w x)) (λ y. inr (settled_so g true p w y)) s
    settled_so (both op.Or f g) false p w s = ⊎_elim (settled_so f false p w s.0) (settled_so g false p w s.1)
    settled_so (both op.Implies f g) true p w s = λ x. ⊎_elim (λ n. absurd (settled_so f false p w n x)) (λ y. settled_so g true p w y) s
    settled_so (both op.Implies f g) false p w s = λ i. settled_so g false p w s.1 (i (settled_so f true p w s.0))
    settled_so (both op.Xor f g) true p w s = differ_apart (Settled seen m f) (Settled seen m g) p (λ x. settled_so f x p w) (λ x. settled_so g x p w) s
    settled_so (both op.Xor f g) false p w s = agree_apart (Settled seen m f) (Settled seen m g) p (λ x. settled_so f x p w) (λ x. settled_so g x p w) s
    settled_so (both op.Xnor f g) true p w s = agree_same (Settled seen m f) (Settled seen m g) p (λ x. settled_so f x p w) (λ x. settled_so g x p w) s
    settled_so (both op.Xnor f g) false p w s = differ_same (Settled seen m f) (Settled seen m g) p (λ x. settled_so f x p w) (λ x. settled_so g x p w) s
    settled_so (both op.Iff f g) true p w s = agree_same (Settled seen m f) (Settled seen m g) p (λ x. settled_so f x p w) (λ x. settled_so g x p w) s
    settled_so (both op.Iff f g) false p w s = differ_same (Settled seen m f) (Settled seen m g) p (λ x. settled_so f x p w) (λ x. settled_so g x p w) s
    settled_so (both op.Until f g) true p w s = reached_at (TrueAt k l holds f) (TrueAt k l holds g) (settled_so f true) (settled_so g true) p s
    settled_so (both op.Until f g) false p w s = never_at (TrueAt k l holds f) (TrueAt k l holds g) (settled_so f false) (settled_so g false) p s
    settled_so (both op.Releases f g) true p w s =
        never_at (λ q. ¬ TrueAt k l holds f q) (λ q. ¬ TrueAt k l holds g q) (λ q c x n. n (settled_so f true q c x)) (λ q c x n. n (settled_so g true q c x)) p s
    settled_so (both op.Releases f g) false p w s =
        λ n. n (reached_at (λ q. ¬ TrueAt k l holds f q) (λ q. ¬ TrueAt k l holds g q) (settled_so f false) (settled_so g false) p s)

-- the states themselves, with a loop at the last one, are such a lasso: so no formula is settled both ways
pub settled_one_way : (m : ℕ) (seen : Tree → ℕ → Type 0) (f : Claim) (p : ℕ) → p ≤ m → Settled seen m f true p → ¬ Settled seen m f false p
settled_one_way m seen f p w t n =
    settled_so (m + 1) m m (omega arith) seen seen begins f false p w n (settled_so (m + 1) m m (omega arith) seen seen begins f true p w t)
  where
    begins : (e : Tree) (q : ℕ) → q ≤ m → seen e q ↔ seen e (place (m + 1) m 0 q)
    begins e q c =
        let s : place (m + 1) m 0 q ≡ q = place_straight (m + 1) m 0 q (omega arith) ∙ zero-add q in
        (subst (seen e) (sym s), subst (seen e) s)
