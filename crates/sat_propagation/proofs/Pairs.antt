-- A pair of watched literals, and the same with another in place of one.
use Rattle.std.proofs.Common.{◌≡◌, ◌≢◌, ℕ, ◌<◌, ◌≤◌, length, Bool, cond, ◌⊎◌, inl, inr, List, ◌∷◌, refl, ap, sym, subst, ◌∙◌, arith}
use Rattle.std.specs.Prelude.{Option, Some}
use Rattle.std.specs.List.{AllByRecursion}
use Rattle.std.proofs.lemmas.Bool.{cases_eq, eq-eqb, ne_eqb, le-ltb}
use Rattle.sat_log.specs.Literal.{Literal, negated}
use Rattle.sat_log.specs.Packing.{packed}
use Rattle.sat_log.specs.Clause.{Among, IsFalse, IsFalsified, HasDistinctVariables}
use Rattle.sat_log.proofs.LiteralLemmas.{packed_injective, All-among, All-from_among}
use Rattle.sat_watch.specs.Watched.{Pair, Watched, IsWatching, watchers, pair_at, after, HasWatch, changed}
use Rattle.sat_watch.proofs.Chains.{after_among}
use Rattle.sat_trail.specs.Trail.{literals, top, before, places}
use Rattle.sat_trail.proofs.Trails.{consistent}
use Rattle.sat_trail.proofs.Levels.{among_earlier}
use Rattle.sat_trail.proofs.Literals.{set_or_not}
use Rattle.sat_trail.proofs.Tables.{place_within}
use Rattle.sat_trail.specs.declared.trail.Entry.{Entry}
use Rattle.sat_propagation.specs.Watching.{MayWatch, Backs, KeepsPair, IsPart}

module _ (pair : Pair) (l to : Literal) (apart : pair.first ≢ pair.second) (has : HasWatch pair l) where
  -- the new one, or the old one that stays
  pub changed_has : (x : Literal) → HasWatch (changed pair l to) x → (x ≡ to) ⊎ (HasWatch pair x × (x ≢ l))
  changed_has x m = by_first (cases_eq (packed pair.first) (packed l))
    where
      by_first : (packed pair.first ≡ packed l) ⊎ (packed pair.first ≡ packed l → ⊥) → (x ≡ to) ⊎ (HasWatch pair x × (x ≢ l))
      by_first (inl same) =
          first_gone (packed_injective pair.first l same) (subst (λ (b : Bool). HasWatch (cond {A = Pair} b (record { first = to; second = pair.second }) (record { first = pair.first; second = to })) x) (eq-eqb (packed pair.first) (packed l) same) m)
        where
          first_gone : pair.first ≡ l → (to ≡ x) ⊎ (pair.second ≡ x) → (x ≡ to) ⊎ (HasWatch pair x × (x ≢ l))
          first_gone e (inl here) = inl (sym here)
          first_gone e (inr there) = inr (inr there, (λ y. apart (e ∙ sym (there ∙ y))))
      by_first (inr ne) =
          second_gone (subst (λ (b : Bool). HasWatch (cond {A = Pair} b (record { first = to; second = pair.second }) (record { first = pair.first; second = to })) x) (ne_eqb (packed pair.first) (packed l) ne) m)
        where
          second_gone : (pair.first ≡ x) ⊎ (to ≡ x) → (x ≡ to) ⊎ (HasWatch pair x × (x ≢ l))
          second_gone (inl here) = inr (inl here, (λ y. ne (ap packed (here ∙ y))))
          second_gone (inr there) = inl (sym there)

  -- they are still two
  pub changed_apart : ((x : Literal) → HasWatch pair x → x ≢ l → to ≢ x) → (changed pair l to).first ≢ (changed pair l to).second
  changed_apart other = by_first (cases_eq (packed pair.first) (packed l))
    where
      by_first : (packed pair.first ≡ packed l) ⊎ (packed pair.first ≡ packed l → ⊥) → (changed pair l to).first ≢ (changed pair l to).second
      by_first (inl same) =
          subst (λ (b : Bool). (cond {A = Pair} b (record { first = to; second = pair.second }) (record { first = pair.first; second = to })).first ≢ (cond {A = Pair} b (record { first = to; second = pair.second }) (record { first = pair.first; second = to })).second) (sym (eq-eqb (packed pair.first) (packed l) same))
          (other pair.second (inr refl) (λ e. apart (packed_injective pair.first l same ∙ sym e)))
      by_first (inr ne) =
          subst (λ (b : Bool). (cond {A = Pair} b (record { first = to; second = pair.second }) (record { first = pair.first; second = to })).first ≢ (cond {A = Pair} b (record { first = to; second = pair.second }) (record { first = pair.first; second = to })).second) (sym (ne_eqb (packed pair.first) (packed l) ne))
          (λ e. other pair.first (inl refl) (λ f. ne (ap packed f)) (sym e))

  -- where the old one is false and the new one isn't, the pair keeps what it did
  pub changed_keeps : (part entries : List Entry) → HasDistinctVariables (literals entries) → IsPart part entries → Among (literals entries) (negated l) → ¬ Among (literals entries) (negated to) → KeepsPair part entries pair → KeepsPair part entries (changed pair l to)
  changed_keeps part entries d inside false_ open_ keeps a b ha hb ne = by_watch (changed_has a ha)
    where
      by_watch : (a ≡ to) ⊎ (HasWatch pair a × (a ≢ l)) → Backs part entries a b
      by_watch (inl same) =
          record {
            earlier = (λ level most m. absurd (open_ (subst (λ (k : Literal). Among (literals entries) (negated k)) same (among_earlier level entries (negated a) m))));
            now = (λ m. absurd (open_ (subst (λ (k : Literal). Among (literals entries) (negated k)) same (inside (negated a) m))));
          }
      by_watch (inr old) =
          let k = keeps a l old.0 has old.1 in
          record {
            earlier = (λ level most m. absurd (consistent (literals entries) d l (among_earlier level entries l (k.earlier level most m)) false_));
            now = (λ m. absurd (consistent (literals entries) d l (k.now m) false_));
          }

-- one more literal becomes true in the open level
pub grown_keeps : (part entries : List Entry) (e : Entry) (pair : Pair) → e.level ≡ top entries → KeepsPair part entries pair → KeepsPair part (e ∷ entries) pair
grown_keeps part entries e pair level_is keeps a b ha hb ne =
    let k = keeps a b ha hb ne in
    record {
      earlier = (λ level most m.
          let same : before level (e ∷ entries) ≡ before level entries = ap (λ (b : Bool). cond b (e ∷ entries) (before level entries)) (le-ltb e.level level most) in
          subst (λ (es : List Entry). Among (literals es) b) (sym same) (k.earlier level (omega (arith, level_is)) (subst (λ (es : List Entry). Among (literals es) (negated a)) same m)));
      now = (λ m. inr (k.now m));
    }

-- where the clause may watch nothing else, all others are false
pub others_false : (set : List Literal) (one other : Literal) (c : List Literal) → Among set (negated one) → AllByRecursion (λ k. ¬ MayWatch set one other k) c → (k : Literal) → Among c k → k ≢ other → Among set (negated k)
others_false set one other c false_ closed k m ne = by_place (set_or_not set (negated k)) (cases_eq (packed k) (packed one))
  where
    by_place : Among set (negated k) ⊎ (¬ Among set (negated k)) → (packed k ≡ packed one) ⊎ (packed k ≡ packed one → ⊥) → Among set (negated k)
    by_place (inl n) place = n
    by_place (inr free) (inl same) = subst (λ (x : Literal). Among set (negated x)) (sym (packed_injective k one same)) false_
    by_place (inr free) (inr differs) =
        absurd (All-among (λ x. ¬ MayWatch set one other x) c k closed m (record { not_one = (λ e. differs (ap packed e)); not_other = ne; not_false = free }))

pub all_false : (set : List Literal) (one other : Literal) (c : List Literal) → Among set (negated one) → Among set (negated other) → AllByRecursion (λ k. ¬ MayWatch set one other k) c → IsFalsified set c
all_false set one other c one_false other_false closed = All-from_among (IsFalse set) c (λ k m. by_place k m (cases_eq (packed k) (packed other)))
  where
    by_place : (k : Literal) → Among c k → (packed k ≡ packed other) ⊎ (packed k ≡ packed other → ⊥) → Among set (negated k)
    by_place k m (inl same) = subst (λ (x : Literal). Among set (negated x)) (sym (packed_injective k other same)) other_false
    by_place k m (inr differs) = others_false set one other c one_false closed k m (λ e. differs (ap packed e))

-- one that stands in the list of a literal watches it
pub at_list : (n : ℕ) (w : Watched) (l : Literal) (before : Option ℕ) (c : ℕ) → places n ≤ length w.lists → l.var ≤ n → IsWatching w → after (watchers w l) before ≡ Some c → (c < length w.pairs) × HasWatch (pair_at w c) l
at_list n w l before c more up exact here =
    let place : packed l < length w.lists = omega (arith, place_within n l up) in
    (exact.lists l place).only c (after_among (watchers w l) before c here)
