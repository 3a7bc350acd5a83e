-- The ring of two cells: its flat line, and from that its steps, a run and what holds in its states.
use Rattle.std.proofs.Common.{◌≡◌, ◌<◌, ℕ, zero, suc, Bool, true, false, not, List, [], ◌∷◌, ◌++◌, refl, ap, sym, ◌∙◌, subst, arith, lit<, inl, inr}
use Rattle.std.specs.Prelude.{Contains, Some, slice_get, if◌then◌else◌, ⊤}
use Rattle.std.specs.Str.{bytes_eq}
use Rattle.smv_tree.specs.declared.expr.Op1.TheVariants as op
use Rattle.smv_tree.specs.declared.program.Kind.TheVariants as kind
use Rattle.smv_tree.specs.declared.value.Ty.TheVariants as type
use Rattle.smv_tree.specs.declared.value.Value.{Value}
use Rattle.smv_tree.specs.declared.value.Value.TheVariants.{Truth}
use Rattle.smv_tree.specs.Trees.{Tree, truth, one}
use Rattle.smv_tree.specs.Models.{atom, always}
use Rattle.smv_meaning.specs.Instances.{Instance, Variable, variables}
use Rattle.smv_meaning.specs.Values.{Snapshot, variable_values}
use Rattle.smv_meaning.specs.Runs.{Holds, Takes, IsAllowed, IsStep, IsRun, IsFirst, at_state, nothing_else}
use Rattle.smv_meaning.specs.Definitions.{Definition, definitions, NamesOwn, NamesBehind}
use Rattle.smv_meaning.specs.Cycles.{IsAmong}
use Rattle.smv_meaning.specs.FlatTrees.{Flat, slot, def, eval}
use Rattle.smv_meaning.specs.FlatTrees as flat
use Rattle.smv_meaning.specs.FlatLines.{Fits, fits_name, fits_one, fits_truth, to_slot, to_def, IsLine, numbers_at}
use Rattle.smv_meaning.specs.Example.{here, a, b, p, v, off, path, cell, ring, showing, once_around, is_off, off_again_and_again, until_on}
use Rattle.smv_meaning.specs.Places.{next_place, place, Until}
use Rattle.smv_meaning.specs.LassoTruth.{TrueAt}
use Rattle.smv_meaning.specs.Counterexamples.{HoldsIn, IsCounterexample}
use Rattle.smv_meaning.specs.Marks.{any_loop}
use Rattle.smv_meaning.proofs.Lists.{contains_none, contains_cases, contains_only, slice_get-contained}
use Rattle.smv_meaning.proofs.Lassos.{place_below}
use Rattle.smv_meaning.proofs.FlatValues.{flat_values}

-- what holds of each of four holds of all elements of their list
each_of_four : {X : Type 0} (P : X → Type 0) (k l m n : X) → P k → P l → P m → P n → (x : X) → Contains (k ∷ l ∷ m ∷ n ∷ []) x → P x
each_of_four P k l m n pk pl pm pn x c = elim (contains_cases k (l ∷ m ∷ n ∷ []) x c) [
  | inl e ↦ subst P e pk
  | inr c ↦ elim (contains_cases l (m ∷ n ∷ []) x c) [
    | inl e ↦ subst P e pl
    | inr c ↦ elim (contains_cases m (n ∷ []) x c) [
      | inl e ↦ subst P e pm
      | inr c ↦ elim (contains_cases n [] x c) [ inl e ↦ subst P e pn | inr c ↦ absurd (contains_none x c) ]
    ]
  ]
]

abbrev not_v : Tree
not_v = one here op.Not (path (v ∷ []))

abbrev a_off : Definition
a_off = record { up = a ∷ []; name = off; place = here; around = a ∷ []; body = not_v }

abbrev b_off : Definition
b_off = record { up = b ∷ []; name = off; place = here; around = b ∷ []; body = not_v }

abbrev a_p : Definition
a_p = record { up = a ∷ []; name = p; place = here; around = []; body = path (b ∷ off ∷ []) }

abbrev b_p : Definition
b_p = record { up = b ∷ []; name = p; place = here; around = []; body = path (a ∷ v ∷ []) }

abbrev pub defs : List Definition
defs = a_off ∷ b_off ∷ b_p ∷ a_p ∷ []

abbrev pub bodies : List Flat
bodies = flat.one here op.Not (flat.name here (slot 0)) ∷ flat.one here op.Not (flat.name here (slot 1)) ∷ flat.name here (slot 0) ∷ flat.name here (def 1) ∷ []

abbrev v_of_a : Variable
v_of_a = record { path = a ∷ v ∷ []; kind = kind.State; type = type.Bool }

abbrev v_of_b : Variable
v_of_b = record { path = b ∷ v ∷ []; kind = kind.State; type = type.Bool }

abbrev cell_a : Instance
cell_a = record { path = a ∷ []; up = a ∷ []; body = cell; actuals = path (b ∷ off ∷ []) ∷ [] }

abbrev cell_b : Instance
cell_b = record { path = b ∷ []; up = b ∷ []; body = cell; actuals = path (a ∷ v ∷ []) ∷ [] }

behind_b : NamesBehind ring [] (b ∷ off ∷ []) b_off
behind_b = record { instance = cell_b; front = b ∷ []; at_front = refl; at_up = refl; last = refl; defined = refl }

abbrev index_of : Definition → ℕ
index_of d = if bytes_eq d.name off then (if bytes_eq (unwrapped d.up) a then 0 else 1) else (if bytes_eq (unwrapped d.up) b then 2 else 3)
  where
    unwrapped : List (List ℕ) → List ℕ
    unwrapped [] = []
    unwrapped (n ∷ ns) = n

numbered : (i : ℕ) (d : Definition) → slice_get defs i ≡ Some d → i ≡ index_of d
numbered zero d e = let same : a_off ≡ d = cc in ap index_of same
numbered (suc zero) d e = let same : b_off ≡ d = cc in ap index_of same
numbered (suc (suc zero)) d e = let same : b_p ≡ d = cc in ap index_of same
numbered (suc (suc (suc zero))) d e = let same : a_p ≡ d = cc in ap index_of same
numbered (suc (suc (suc (suc i)))) d e = absurd (contains_none d (slice_get-contained [] i d e))

pub line : IsLine ring defs bodies
line = record {
  lined = (
    fits_one here here op.Not (path (v ∷ [])) (flat.name here (slot 0)) (fits_name here here (v ∷ []) (slot 0) (to_slot 0 v_of_a refl refl)),
    (
      fits_one here here op.Not (path (v ∷ [])) (flat.name here (slot 1)) (fits_name here here (v ∷ []) (slot 1) (to_slot 1 v_of_b refl refl)),
      (
        fits_name here here (a ∷ v ∷ []) (slot 0) (to_slot 0 v_of_a refl refl),
        (
          fits_name here here (b ∷ off ∷ []) (def 1) (to_def 1 b_off refl (inr behind_b)),
          tt,
        ),
      ),
    ),
  );
  listed = record {
    once = λ i j d e f. numbered i d e ∙ sym (numbered j d f);
    complete = each_of_four (IsAmong ring defs) a_p a_off b_p b_off (inl (3, lit< tt, refl)) (inl (0, lit< tt, refl)) (inl (2, lit< tt, refl)) (inl (1, lit< tt, refl));
    nothing_else = each_of_four (Contains (definitions ring)) a_off b_off b_p a_p (1, lit< tt, refl) (3, lit< tt, refl) (2, lit< tt, refl) (0, lit< tt, refl);
  };
}

own_a : NamesOwn ring (a ∷ []) (p ∷ []) a_p
own_a = record { instance = cell_a; at_up = refl; alone = refl; defined = refl }

own_b : NamesOwn ring (b ∷ []) (p ∷ []) b_p
own_b = record { instance = cell_b; at_up = refl; alone = refl; defined = refl }

-- the variable of a cell takes the value of a flat expression
takes : (when m n : Snapshot) (i : Instance) (e : Tree) (f : Flat) (x : Value) → Fits ring defs i.up e f → x ∷ [] ≡ eval (numbers_at ring bodies m) (numbers_at ring bodies n) f → variable_values (variables ring) when (i.path ++ v ∷ []) ≡ x ∷ [] → Takes ring when m n i v e
takes when m n i e f x fits same stands = (x ∷ [], x, (flat_values ring defs bodies m n i.up e f (x ∷ []) line fits).1 same, stands, contains_only x)

pub steps : (x y : Bool) → IsStep ring (showing x y) [] (showing (not y) x)
steps x y = (
  tt,
  (λ e. absurd (cc), (λ e. absurd (cc), tt)),
  ((tt, (tt, tt)), ((tt, (tt, (tt, (of_a, tt)))), ((tt, (tt, (tt, (of_b, tt)))), tt))),
)
  where
    now : Snapshot
    now = record { state = showing x y; input = [] }

    later : Snapshot
    later = at_state (showing (not y) x)

    of_a : Takes ring later now later cell_a v (path (p ∷ []))
    of_a = takes later now later cell_a (path (p ∷ [])) (flat.name here (def 3)) (Truth (not y)) (fits_name here here (p ∷ []) (def 3) (to_def 3 a_p refl (inl own_a))) refl refl

    of_b : Takes ring later now later cell_b v (path (p ∷ []))
    of_b = takes later now later cell_b (path (p ∷ [])) (flat.name here (def 2)) (Truth x) (fits_name here here (p ∷ []) (def 2) (to_def 2 b_p refl (inl own_b))) refl refl

allowed : (x y : Bool) → IsAllowed ring (showing x y)
allowed x y = ((tt, (tt, tt)), ((tt, (tt, tt)), ((tt, (tt, (tt, (tt, tt)))), ((tt, (tt, (tt, (tt, tt)))), tt))))

first : IsFirst ring (showing false false)
first = ((tt, (tt, tt)), ((tt, (tt, (of cell_a refl, (tt, tt)))), ((tt, (tt, (of cell_b refl, (tt, tt)))), tt)))
  where
    now : Snapshot
    now = at_state (showing false false)

    of : (i : Instance) → variable_values (variables ring) now (i.path ++ v ∷ []) ≡ Truth false ∷ [] → Takes ring now now nothing_else i v (truth here false)
    of i stands = takes now now nothing_else i (truth here false) (flat.truth here false) (Truth false) (fits_truth here here false) refl stands

pub runs_around : IsRun ring once_around ([] ∷ [] ∷ [] ∷ [] ∷ [])
runs_around = (first, (allowed false false, steps false false, (allowed true false, steps true false, (allowed true true, steps true true, (allowed false true, steps false true, allowed false false)))))

fits_off : Fits ring defs [] is_off (flat.name here (def 1))
fits_off = fits_name here here (b ∷ off ∷ []) (def 1) (to_def 1 b_off refl (inr behind_b))

off_holds : (x : Bool) → Holds ring (at_state (showing x false)) nothing_else [] is_off
off_holds x = (flat_values ring defs bodies (at_state (showing x false)) nothing_else [] is_off (flat.name here (def 1)) (Truth true ∷ []) line fits_off).1 refl

on_is_not_off : (x : Bool) → Holds ring (at_state (showing x true)) nothing_else [] is_off → ⊥
on_is_not_off x h =
    let e : Truth true ∷ [] ≡ Truth false ∷ [] =
    (flat_values ring defs bodies (at_state (showing x true)) nothing_else [] is_off (flat.name here (def 1)) (Truth true ∷ []) line fits_off).0 h in
    absurd (cc)

pub refuted : IsCounterexample ring [] (always (atom is_off)) 2 any_loop until_on
refuted = record {
  is_run = (first, (allowed false false, steps false false, (allowed true false, steps true false, allowed true true)));
  has_length = refl;
  admitted = tt;
  refutes = record { when = 2; from = omega arith; to = omega arith; there = on_is_not_off true };
}

-- from each place of the lasso, b is off at some later one
off_ahead : (q : ℕ) → q < 4 → Until 4 4 0 (λ _. ⊤) (HoldsIn ring [] once_around is_off) q
unfolding place next_place
off_ahead zero h = record { steps = 0; within = omega arith; reaches = record { reached = off_holds false; before = λ j l. tt } }
off_ahead (suc zero) h = record { steps = 0; within = omega arith; reaches = record { reached = off_holds true; before = λ j l. tt } }
off_ahead (suc (suc zero)) h = record { steps = 2; within = omega arith; reaches = record { reached = off_holds false; before = λ j l. tt } }
off_ahead (suc (suc (suc zero))) h = record { steps = 1; within = omega arith; reaches = record { reached = off_holds false; before = λ j l. tt } }
off_ahead (suc (suc (suc (suc q)))) h = absurd (omega arith)

pub always_off_ahead : TrueAt 4 0 (HoldsIn ring [] once_around) off_again_and_again 0
always_off_ahead u = u.reaches.reached (off_ahead (place 4 0 0 u.steps) (place_below 4 0 0 u.steps (omega arith) (omega arith)))
