-- Marked entries whose positions are known: what lies between two positions isn't marked.
use Rattle.std.proofs.Common.{◌≡◌, ℕ, zero, suc, ◌+◌, ◌-◌, ◌<◌, ◌≤◌, Bool, true, false, cond, ◌⊎◌, inl, inr, List, [], ◌∷◌, length, drop, get_or, set, refl, ap, sym, subst, ◌∙◌, arith}
use Rattle.std.specs.List.{Contains}
use Rattle.std.proofs.lemmas.Bool.{cases_eq, cases_lt, false≢true, false_from_ne_true}
use Rattle.std.proofs.lemmas.List.{drop-drop, length-drop}
use Rattle.std.proofs.lemmas.List.Elements.{All-contains, Contains-append_right}
use Rattle.std.proofs.lemmas.List.Sorted.{Contains-permutation, le_from_greatest}
use Rattle.std.proofs.Math.Seq.{drop-length}
use Rattle.std.specs.BinaryHeap.{IsUpperBound}
use Rattle.std.specs.List.Sorted.{IsPermutation}
use Rattle.std.specs.Ordering.{nat_cmp}
use Rattle.std.proofs.lemmas.List.Sums.{sum_by-set}
use Rattle.sat_log.specs.declared.line.LogLine.{LogLine}
use Rattle.sat_log.specs.Literal.{Literal}
use Rattle.sat_log.specs.Clause.{Among}
use Rattle.sat_trail.specs.Trail.{literals, bottom, IsPosition}
use Rattle.sat_analysis.specs.Analysis.{Analyzed, Walk, is_marked, IsMarked, IsUnmarked, marked_at, marked_count, AreAwaited, Awaits, IsAnalysis}
use Rattle.sat_analysis.proofs.Marks.{other_marked}
use Rattle.sat_analysis.proofs.Asserting.{count_unmarked}
use Rattle.sat_analysis.proofs.Walks.{step_skip, not_gone}
use Rattle.sat_analysis.proofs.Visits.{bottom_length}
use Rattle.sat_trail.specs.declared.trail.Entry.{Entry}

-- there are fewer marks, and no position less
pub awaited_by : (old new : List ℕ) (seen less : List Bool) (es : List Entry) → ((q : ℕ) → q < length es → Contains old q → Contains new q) → ((v : ℕ) → IsMarked less v → IsMarked seen v) → AreAwaited old seen es → AreAwaited new less es
awaited_by old new seen less [] keeps fewer a = tt
awaited_by old new seen less (e ∷ es) keeps fewer a =
    ((λ m. keeps (length es) (omega arith) (a.0 (fewer e.literal.var m))), awaited_by old new seen less es (λ q h. keeps q (omega arith)) fewer a.1)

pub awaited_drop : (positions : List ℕ) (seen : List Bool) (n : ℕ) (es : List Entry) → AreAwaited positions seen es → AreAwaited positions seen (drop n es)
awaited_drop positions seen zero es a = a
awaited_drop positions seen (suc n) [] a = tt
awaited_drop positions seen (suc n) (e ∷ es) a = awaited_drop positions seen n es a.1

pub position_drop : (v p n : ℕ) (es : List Entry) → IsPosition v p es → IsPosition v p (drop n es)
position_drop v p zero es at = at
position_drop v p (suc n) [] at = tt
position_drop v p (suc n) (e ∷ es) at = position_drop v p n es at.1

-- one variable more is marked, and its position is there
pub awaited_mark : (old new : List ℕ) (seen : List Bool) (v p : ℕ) (es : List Entry) → IsPosition v p es → ((q : ℕ) → Contains old q → Contains new q) → Contains new p → AreAwaited old seen es → AreAwaited new (set seen v true) es
awaited_mark old new seen v p [] at keeps here a = tt
awaited_mark old new seen v p (e ∷ es) at keeps here a =
    ((λ m. by_variable m (cases_eq e.literal.var v)), awaited_mark old new seen v p es at.1 keeps here a.1)
  where
    by_variable : IsMarked (set seen v true) e.literal.var → (e.literal.var ≡ v) ⊎ (e.literal.var ≡ v → ⊥) → Contains new (length es)
    by_variable m (inl same) = subst (Contains new) (at.0 same) here
    by_variable m (inr ne) = keeps (length es) (a.0 (sym (other_marked seen v e.literal.var true ne) ∙ m))

-- How many variables are marked.

pub count_more : (seen : List Bool) (v : ℕ) → v < length seen → is_marked seen v ≡ false → marked_count (set seen v true) ≡ marked_count seen + 1
count_more seen v h e =
    let more : marked_count (set seen v true) + cond {A = ℕ} (get_or seen v false) 1 0 ≡ marked_count seen + 1 = sum_by-set (λ (b : Bool). cond b 1 0) seen v true false h in
    let none : cond {A = ℕ} (get_or seen v false) 1 0 ≡ 0 = ap (λ b. cond {A = ℕ} b 1 0) e in
    omega arith

pub count_less : (seen : List Bool) (v : ℕ) → v < length seen → marked_count seen ≤ marked_count (set seen v false) + 1
count_less seen v h =
    let less : marked_count (set seen v false) + cond {A = ℕ} (get_or seen v false) 1 0 ≡ marked_count seen + 0 = sum_by-set (λ (b : Bool). cond b 1 0) seen v false false h in
    let one = at_most_one (get_or seen v false) in
    omega arith
  where
    at_most_one : (b : Bool) → cond {A = ℕ} b 1 0 ≤ 1
    at_most_one true = omega arith
    at_most_one false = omega arith

-- The way from one position to the next.

-- what stays so where an entry that isn't marked is passed over
pass : (positions : List ℕ) (seen : List Bool) (P : List Entry → Type 0) → ((e : Entry) (rest : List Entry) → is_marked seen e.literal.var ≡ false → P (e ∷ rest) → P rest) → (es : List Entry) (k : ℕ) → AreAwaited positions seen es → ((q : ℕ) → q < length es → Contains positions q → q < k) → k ≤ length es → P es → P (bottom k es)
pass positions seen P step [] k a below h p =
    let none : 0 - k ≡ 0 = omega arith in
    subst (λ n. P (drop n [])) (sym none) p
pass positions seen P step (e ∷ es) k a below h p =
    by_place (cases_lt (length es) k) (λ more unmarked. pass positions seen P step es k a.1 (λ q i. below q (omega arith)) more (step e es unmarked p))
  where
    by_place : (length es < k) ⊎ (k ≤ length es) → (k ≤ length es → is_marked seen e.literal.var ≡ false → P (bottom k es)) → P (bottom k (e ∷ es))
    by_place (inl last) rest =
        let none : length (e ∷ es) - k ≡ 0 = omega arith in
        subst (λ n. P (drop n (e ∷ es))) (sym none) p
    by_place (inr more) rest =
        let unmarked : is_marked seen e.literal.var ≡ false = false_from_ne_true (is_marked seen e.literal.var) (λ m. let q = below (length es) (omega arith) (a.0 m) in absurd (omega arith)) in
        let one : length (e ∷ es) - k ≡ suc (length es - k) = omega arith in
        subst (λ n. P (drop n (e ∷ es))) (sym one) (rest more unmarked)

-- an analysis between two positions, with the count of a level
pub pass_to : (log : List LogLine) (level count : ℕ) (positions : List ℕ) (a : Analyzed) (es : List Entry) (k : ℕ) → AreAwaited positions a.seen es → ((q : ℕ) → q < length es → Contains positions q → q < k) → k ≤ length es → IsAnalysis log es a → count ≡ marked_at level a.seen es → IsAnalysis log (bottom k es) a × (count ≡ marked_at level a.seen (bottom k es))
pass_to log level count positions a es k awaited below h state counted =
    pass positions a.seen (λ rest. IsAnalysis log rest a × (count ≡ marked_at level a.seen rest)) (λ e rest unmarked p. (step_skip log e rest a p.0 unmarked, p.1 ∙ count_unmarked level a.seen e rest unmarked)) es k awaited below h (state, counted)

-- A part of a part of the trail.
pub bottom_bottom : (k n : ℕ) (es : List Entry) → k ≤ n → n ≤ length es → bottom k (bottom n es) ≡ bottom k es
bottom_bottom k n es h m =
    let size : length (drop (length es - n) es) ≡ n = omega (arith, length-drop (length es - n) es) in
    let sum : (length es - n) + (length (drop (length es - n) es) - k) ≡ length es - k = omega arith in
    drop-drop (length (drop (length es - n) es) - k) (length es - n) es ∙ ap (λ (j : ℕ). drop j es) sum

abbrev IsNext : ℕ → ℕ → List ℕ → List ℕ → Type 0
IsNext limit i old new = (q : ℕ) → q < limit → Contains old q → (q ≡ i) ⊎ ((q < i) × Contains new q)

-- The next position of an analysis.
module _ (log : List LogLine) (level count : ℕ) (entries : List Entry) (limit : ℕ) (w : Walk) (inside : limit ≤ length entries) (awaits : Awaits w (bottom limit entries)) (state : IsAnalysis log (bottom limit entries) w.state) (counted : count ≡ marked_at level w.state.seen (bottom limit entries)) where
  size : length (bottom limit entries) ≡ limit
  size = bottom_length entries limit inside

  -- all between it and the limit is passed over
  pub to_next : (i : ℕ) (new : List ℕ) → i < limit → IsNext limit i w.positions new → IsAnalysis log (bottom (i + 1) entries) w.state × (count ≡ marked_at level w.state.seen (bottom (i + 1) entries))
  to_next i new below others =
      subst (λ (part : List Entry). IsAnalysis log part w.state × (count ≡ marked_at level w.state.seen part)) (bottom_bottom (i + 1) limit entries (omega arith) inside)
      (pass_to log level count w.positions w.state (bottom limit entries) (i + 1) awaits.marked (λ q h m. not_above q (others q (omega (arith, size)) m)) (omega (arith, size)) state counted)
    where
      not_above : (q : ℕ) → (q ≡ i) ⊎ ((q < i) × Contains new q) → q < i + 1
      not_above q (inl same) = omega arith
      not_above q (inr p) = let lower = p.0 in omega arith

  -- what comes before it is awaited
  pub next_awaited : (i : ℕ) (new : List ℕ) → i < limit → IsNext limit i w.positions new → AreAwaited new w.state.seen (bottom i entries)
  next_awaited i new below others =
      let part = bottom_bottom i limit entries (omega arith) inside in
      let short : length (bottom i entries) ≡ i = bottom_length entries i (omega arith) in
      subst (AreAwaited new w.state.seen) part
      (awaited_by w.positions new w.state.seen w.state.seen (bottom i (bottom limit entries)) (λ q h m. not_here q (subst (λ (es : List Entry). q < length es) part h) short (others q (let inner = subst (λ (es : List Entry). q < length es) part h in omega arith) m)) (λ v m. m) (awaited_drop w.positions w.state.seen (length (bottom limit entries) - i) (bottom limit entries) awaits.marked))
    where
      not_here : (q : ℕ) → q < length (bottom i entries) → length (bottom i entries) ≡ i → (q ≡ i) ⊎ ((q < i) × Contains new q) → Contains new q
      not_here q h short (inl same) = absurd (omega arith)
      not_here q h short (inr p) = p.1

  -- where there is none, nothing is left
  pub to_end : ((q : ℕ) → q < limit → ¬ Contains w.positions q) → IsAnalysis log [] w.state × (count ≡ 0)
  to_end none =
      let all : length (bottom limit entries) - 0 ≡ length (bottom limit entries) = omega arith in
      let empty : bottom 0 (bottom limit entries) ≡ [] = ap (λ (n : ℕ). drop n (bottom limit entries)) all ∙ drop-length (bottom limit entries) in
      subst (λ (part : List Entry). IsAnalysis log part w.state × (count ≡ marked_at level w.state.seen part)) empty
      (pass_to log level count w.positions w.state (bottom limit entries) 0 awaits.marked (λ q h m. absurd (none q (omega (arith, size)) m)) (omega arith) state counted)

-- Positions that are added and taken out.

pub contains_first : (x : ℕ) (xs : List ℕ) → Contains (x ∷ xs) x
contains_first x xs = (0, omega arith, refl)

contains_cases : (x q : ℕ) (xs : List ℕ) → Contains (x ∷ xs) q → (q ≡ x) ⊎ Contains xs q
contains_cases x q xs (zero, h, e) = inl (sym e)
contains_cases x q xs (suc k, h, e) = inr (k, omega arith, e)

pub popped : (old new : List ℕ) (x q : ℕ) → IsPermutation old (x ∷ new) → IsUpperBound nat_cmp x old → Contains old q → (q ≤ x) × ((q ≡ x) ⊎ Contains new q)
popped old new x q same greatest m =
    (All-contains (λ y. y ≤ x) old q (le_from_greatest x old greatest) m, contains_cases x q new (Contains-permutation old (x ∷ new) q same m))

pub pushed : (old new : List ℕ) (x : ℕ) → IsPermutation (x ∷ old) new → ((q : ℕ) → Contains old q → Contains new q) × Contains new x
pushed old new x same =
    ((λ q m. Contains-permutation (x ∷ old) new q same (Contains-append_right (x ∷ []) old q m)), Contains-permutation (x ∷ old) new x same (contains_first x old))

-- Where an analysis starts, and where a mark is taken away.

pub awaits_none : (w : Walk) (es : List Entry) → w.positions ≡ [] → IsUnmarked w.state.seen → Awaits w es
awaits_none w es none clear =
    record { marked = unmarked es; few = omega (arith, ap (λ (xs : List ℕ). length xs) none) }
  where
    unmarked : (part : List Entry) → AreAwaited w.positions w.state.seen part
    unmarked [] = tt
    unmarked (e ∷ part) =
        ((λ m. absurd (false≢true (sym (clear e.literal.var) ∙ m))), unmarked part)

pub unmarked_awaits : (w : Walk) (v : ℕ) (rest : List Entry) → v < length w.state.seen → AreAwaited w.positions w.state.seen rest → length w.positions < marked_count w.state.seen → Awaits (record { state = record { seen = set w.state.seen v false; lits = w.state.lits; hints = w.state.hints }; positions = w.positions }) rest
unmarked_awaits w v rest h a few =
    let less = count_less w.state.seen v h in
    record {
      marked = awaited_by w.positions w.positions w.state.seen (set w.state.seen v false) rest (λ q i m. m) (λ u m. (not_gone w.state.seen v u m).1) a;
      few = omega arith;
    }

-- The position of a variable that has a value is that of its entry.
pub position_at : (v p : ℕ) (entries : List Entry) (l : Literal) → IsPosition v p entries → Among (literals entries) l → l.var ≡ v → (p < length entries) × ((e : Entry) → bottom (p + 1) entries ≡ e ∷ bottom p entries → e.literal ≡ l)
position_at v p [] l at m same = absurd m
position_at v p (x ∷ entries) l at (inl first) same =
    let here : p ≡ length entries = at.0 (ap (λ (k : Literal). k.var) first ∙ same) in
    let none : length (x ∷ entries) - (p + 1) ≡ 0 = omega arith in
    (omega arith, (λ e parts. let whole : x ∷ entries ≡ e ∷ bottom p (x ∷ entries) = sym (ap (λ (n : ℕ). drop n (x ∷ entries)) none) ∙ parts in let one : x ≡ e = cc in ap (λ (f : Entry). f.literal) (sym one) ∙ first))
position_at v p (x ∷ entries) l at (inr m) same =
    let rest = position_at v p entries l at.1 m same in
    let below = rest.0 in
    let more : length (x ∷ entries) - (p + 1) ≡ suc (length entries - (p + 1)) = omega arith in
    let less : length (x ∷ entries) - p ≡ suc (length entries - p) = omega arith in
    (omega arith, (λ e parts. rest.1 e (sym (ap (λ (n : ℕ). drop n (x ∷ entries)) more) ∙ parts ∙ ap (λ (n : ℕ). e ∷ drop n (x ∷ entries)) less)))
