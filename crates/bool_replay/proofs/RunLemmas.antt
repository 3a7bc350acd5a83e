-- Where the replay of a plain model stops, and that it is a run where it does not stop.
use Rattle.std.proofs.Common.{◌≡◌, ◌+◌, ◌<◌, ℕ, Bool, true, false, cond, List, [], ◌∷◌, ◌++◌, map, length, refl, ap, sym, ◌∙◌, subst, arith}
use Rattle.std.specs.Prelude.{Option, Some, None}
use Rattle.std.specs.List.{AllByRecursion, list_all}
use Rattle.std.proofs.lemmas.Bool.{false≢true, and_parts}
use Rattle.std.proofs.lemmas.Option.{same_Some, none-some}
use Rattle.std.proofs.lemmas.List.{map-append, length-map}
use Rattle.smv_tree.specs.Trees.{Tree}
use Rattle.smv_tree.specs.Models.{Body, Part, variable, define, assign, constraint, property}
use Rattle.smv_tree.specs.declared.place.Place.{Place}
use Rattle.smv_tree.specs.declared.program.Kind.TheVariants as kind
use Rattle.smv_tree.specs.declared.program.Section.TheVariants as section
use Rattle.smv_tree.specs.declared.value.Value.{Value}
use Rattle.smv_tree.specs.declared.value.Value.TheVariants.{Truth}
use Rattle.smv_meaning.specs.Instances.{Instance, Variable}
use Rattle.smv_meaning.specs.Values.{state_variables, input_variables}
use Rattle.smv_meaning.specs.Runs.{AreLegal, AsksFirst, AsksEach, AsksStep, AllAsked, IsFirst, IsAllowed, Keeps, IsStep, IsPath, at_state}
use Rattle.bool_replay.specs.declared.verdict.Cause.{Cause}
use Rattle.bool_replay.specs.declared.verdict.Cause.TheVariants.{Init, Trans}
use Rattle.bool_replay.specs.Plain.{is_plain_part, names_of}
use Rattle.std.specs.Option.{option_or}
use Rattle.bool_replay.specs.Evaluation.{truth_of, init_cause, step_cause, first_init, first_step, at_number, stop_behind, stop_of}
use Rattle.bool_replay.specs.Replays.{FailsFirst, IsTrace, StopsAt}
use Rattle.bool_replay.proofs.MainLemmas.{PlainFacts, main_of, variable_named, the_instances, the_variables}
use Rattle.bool_replay.proofs.NamingLemmas.{named_states}
use Rattle.bool_replay.proofs.TruthLemmas.{holds_if_true, fails_if_false}

-- the states of truth values
abbrev pub valued : List (List Bool) → List (List Value)
valued states = map (map Truth) states

-- each state has a value for each name
abbrev pub AreFull : Body → List (List Bool) → Type 0
AreFull b states = AllByRecursion (λ s. length s ≡ length (names_of b.parts)) states

-- the first part of which something asked does not hold, or none
pub data Finds (asks : Part → Type 0) (cause : Part → Option Cause) (parts : List Part) : Option Cause → Type 0 where
  finds_none : AllByRecursion asks parts → Finds asks cause parts None
  finds : (c : Cause) (part : Part) → FailsFirst asks parts part → cause part ≡ Some c → Finds asks cause parts (Some c)

-- one more part in front
finds_more : (asks : Part → Type 0) (cause : Part → Option Cause) (part : Part) (parts : List Part) (rest : Option Cause)
    → (cause part ≡ None → asks part) → ((c : Cause) → cause part ≡ Some c → asks part → ⊥) → Finds asks cause parts rest → Finds asks cause (part ∷ parts) (option_or (cause part) rest)
finds_more asks cause part parts rest when_asked when_not found = by_cause (cause part) refl
  where
    after : (o : Option Cause) → asks part → Finds asks cause parts o → Finds asks cause (part ∷ parts) o
    after None a (finds_none all) = finds_none (a, all)
    after (Some c) a (finds _ q (before, others, e, holds, fails) is) = finds c q (part ∷ before, others, ap (λ ps. part ∷ ps) e, (a, holds), fails) is

    by_cause : (o : Option Cause) → cause part ≡ o → Finds asks cause (part ∷ parts) (option_or o rest)
    by_cause (Some c) h = finds c part ([], parts, refl, tt, when_not c h) h
    by_cause None h = after rest (when_asked h) found

-- a test that gives no cause is true, one that gives a cause is false
when_none : (t : Bool) (c : Cause) → cond t None (Some c) ≡ None → t ≡ true
when_none true c e = refl
when_none false c e = absurd (none-some c (sym e))

when_some : (t : Bool) (c d : Cause) → cond t None (Some c) ≡ Some d → t ≡ false
when_some true c d e = absurd (none-some d e)
when_some false c d e = refl

-- what a plain part asks of a first state, where it gives no cause or one
init_asked : (b : Body) → PlainFacts b → (s : List Bool) (part : Part) → length s ≡ length (names_of b.parts) → is_plain_part (names_of b.parts) part ≡ true → init_cause (names_of b.parts) s part ≡ None → AsksFirst (b ∷ []) (at_state (map Truth s)) (main_of b) part
init_asked b f s (constraint section.Init p e) h k n = holds_if_true b f s [] false e h (λ z. absurd (false≢true z)) k (when_none (truth_of (names_of b.parts) s [] e) (Init p) n)
init_asked b f s (constraint section.Invar p e) h k n = tt
init_asked b f s (constraint section.Trans p e) h k n = tt
init_asked b f s (variable k_ n_ p t) h k n = tt
init_asked b f s (define n_ p x) h k n = tt
init_asked b f s (assign m n_ p x) h k n = absurd (false≢true k)
init_asked b f s (property n_ p x) h k n = tt

init_broken : (b : Body) → PlainFacts b → (s : List Bool) (part : Part) → length s ≡ length (names_of b.parts) → is_plain_part (names_of b.parts) part ≡ true → (c : Cause) → init_cause (names_of b.parts) s part ≡ Some c → AsksFirst (b ∷ []) (at_state (map Truth s)) (main_of b) part → ⊥
init_broken b f s (constraint section.Init p e) h k c n = fails_if_false b f s [] false e h (λ z. absurd (false≢true z)) k (when_some (truth_of (names_of b.parts) s [] e) (Init p) c n)
init_broken b f s (constraint section.Invar p e) h k c n = absurd (none-some c n)
init_broken b f s (constraint section.Trans p e) h k c n = absurd (none-some c n)
init_broken b f s (variable k_ n_ p t) h k c n = absurd (none-some c n)
init_broken b f s (define n_ p x) h k c n = absurd (none-some c n)
init_broken b f s (assign m n_ p x) h k c n = absurd (none-some c n)
init_broken b f s (property n_ p x) h k c n = absurd (none-some c n)

-- what it asks of a step
step_asked : (b : Body) → PlainFacts b → (s t : List Bool) (part : Part) → length s ≡ length (names_of b.parts) → length t ≡ length (names_of b.parts) → is_plain_part (names_of b.parts) part ≡ true → step_cause (names_of b.parts) s t part ≡ None → AsksStep (b ∷ []) (at_state (map Truth s)) (at_state (map Truth t)) (main_of b) part
step_asked b f s t (constraint section.Trans p e) h g k n = holds_if_true b f s t true e h (λ _. g) k (when_none (truth_of (names_of b.parts) s t e) (Trans p) n)
step_asked b f s t (constraint section.Init p e) h g k n = tt
step_asked b f s t (constraint section.Invar p e) h g k n = tt
step_asked b f s t (variable k_ n_ p x) h g k n = tt
step_asked b f s t (define n_ p x) h g k n = tt
step_asked b f s t (assign m n_ p x) h g k n = absurd (false≢true k)
step_asked b f s t (property n_ p x) h g k n = tt

step_broken : (b : Body) → PlainFacts b → (s t : List Bool) (part : Part) → length s ≡ length (names_of b.parts) → length t ≡ length (names_of b.parts) → is_plain_part (names_of b.parts) part ≡ true → (c : Cause) → step_cause (names_of b.parts) s t part ≡ Some c → AsksStep (b ∷ []) (at_state (map Truth s)) (at_state (map Truth t)) (main_of b) part → ⊥
step_broken b f s t (constraint section.Trans p e) h g k c n = fails_if_false b f s t true e h (λ _. g) k (when_some (truth_of (names_of b.parts) s t e) (Trans p) c n)
step_broken b f s t (constraint section.Init p e) h g k c n = absurd (none-some c n)
step_broken b f s t (constraint section.Invar p e) h g k c n = absurd (none-some c n)
step_broken b f s t (variable k_ n_ p x) h g k c n = absurd (none-some c n)
step_broken b f s t (define n_ p x) h g k c n = absurd (none-some c n)
step_broken b f s t (assign m n_ p x) h g k c n = absurd (none-some c n)
step_broken b f s t (property n_ p x) h g k c n = absurd (none-some c n)

inits_found : (b : Body) → PlainFacts b → (s : List Bool) (parts : List Part) → length s ≡ length (names_of b.parts) → list_all (is_plain_part (names_of b.parts)) parts ≡ true → Finds (AsksFirst (b ∷ []) (at_state (map Truth s)) (main_of b)) (init_cause (names_of b.parts) s) parts (first_init (names_of b.parts) s parts)
inits_found b f s [] h k = finds_none tt
inits_found b f s (part ∷ parts) h k =
    let p = and_parts (is_plain_part (names_of b.parts) part) (list_all (is_plain_part (names_of b.parts)) parts) k in
    finds_more _ _ part parts (first_init (names_of b.parts) s parts) (init_asked b f s part h p.0) (init_broken b f s part h p.0) (inits_found b f s parts h p.1)

steps_found : (b : Body) → PlainFacts b → (s t : List Bool) (parts : List Part) → length s ≡ length (names_of b.parts) → length t ≡ length (names_of b.parts) → list_all (is_plain_part (names_of b.parts)) parts ≡ true → Finds (AsksStep (b ∷ []) (at_state (map Truth s)) (at_state (map Truth t)) (main_of b)) (step_cause (names_of b.parts) s t) parts (first_step (names_of b.parts) s t parts)
steps_found b f s t [] h g k = finds_none tt
steps_found b f s t (part ∷ parts) h g k =
    let p = and_parts (is_plain_part (names_of b.parts) part) (list_all (is_plain_part (names_of b.parts)) parts) k in
    finds_more _ _ part parts (first_step (names_of b.parts) s t parts) (step_asked b f s t part h g p.0) (step_broken b f s t part h g p.0) (steps_found b f s t parts h g p.1)

-- a plain part asks nothing of each state
each_asked : (b : Body) (s : List Bool) (part : Part) → is_plain_part (names_of b.parts) part ≡ true → AsksEach (b ∷ []) (at_state (map Truth s)) (main_of b) part
each_asked b s (constraint section.Invar p e) k = absurd (false≢true k)
each_asked b s (constraint section.Init p e) k = tt
each_asked b s (constraint section.Trans p e) k = tt
each_asked b s (variable k_ n_ p t) k = tt
each_asked b s (define n_ p x) k = tt
each_asked b s (assign m n_ p x) k = absurd (false≢true k)
each_asked b s (property n_ p x) k = tt

all_each : (b : Body) (s : List Bool) (parts : List Part) → list_all (is_plain_part (names_of b.parts)) parts ≡ true → AllByRecursion (AsksEach (b ∷ []) (at_state (map Truth s)) (main_of b)) parts
all_each b s [] k = tt
all_each b s (part ∷ parts) k =
    let p = and_parts (is_plain_part (names_of b.parts) part) (list_all (is_plain_part (names_of b.parts)) parts) k in
    (each_asked b s part p.0, all_each b s parts p.1)

-- what is asked of the one instance is asked of all
asked_of_main : (b : Body) → PlainFacts b → (asks : Instance → Part → Type 0) → AllByRecursion (asks (main_of b)) b.parts → AllAsked asks (b ∷ [])
asked_of_main b f asks h = subst (AllByRecursion (λ i. AllByRecursion (asks i) i.body.parts)) (sym (the_instances b f)) (h, tt)

legal_named : (names : List (List ℕ)) (s : List Bool) → length s ≡ length names → AreLegal (map variable_named names) (map Truth s)
legal_named [] [] h = tt
legal_named [] (x ∷ s) h = absurd (omega arith)
legal_named (n ∷ names) [] h = absurd (omega arith)
legal_named (n ∷ names) (x ∷ s) h = (tt, legal_named names s (omega arith))

-- a full state is allowed
allowed : (b : Body) → PlainFacts b → (s : List Bool) → length s ≡ length (names_of b.parts) → IsAllowed (b ∷ []) (map Truth s)
allowed b f s h = (
  subst (λ vs. AreLegal vs (map Truth s)) (sym (ap state_variables (the_variables b f) ∙ named_states (names_of b.parts))) (legal_named (names_of b.parts) s h),
  asked_of_main b f (AsksEach (b ∷ []) (at_state (map Truth s))) (all_each b s b.parts f.plain_parts),
)

named_inputs : (names : List (List ℕ)) → input_variables (map variable_named names) ≡ []
named_inputs [] = refl
named_inputs (n ∷ names) = named_inputs names

kept_named : (b : Body) (s t : List Bool) (all : List Variable) (names : List (List ℕ)) → AllByRecursion (Keeps (at_state (map Truth s)) (at_state (map Truth t)) all) (map variable_named names)
kept_named b s t all [] = tt
kept_named b s t all (n ∷ names) = (λ e. absurd (not_frozen e), kept_named b s t all names)
  where
    not_frozen : kind.State ≡ kind.Frozen → ⊥
    not_frozen e = cc

-- a step of which all that is asked holds
stepped : (b : Body) → PlainFacts b → (s t : List Bool) → AllByRecursion (AsksStep (b ∷ []) (at_state (map Truth s)) (at_state (map Truth t)) (main_of b)) b.parts → IsStep (b ∷ []) (map Truth s) [] (map Truth t)
stepped b f s t h = (
  subst (λ vs. AreLegal vs []) (sym (ap input_variables (the_variables b f) ∙ named_inputs (names_of b.parts))) tt,
  subst (λ vs. AllByRecursion (Keeps (at_state (map Truth s)) (at_state (map Truth t)) vs) vs) (sym (the_variables b f)) (kept_named b s t (map variable_named (names_of b.parts)) (names_of b.parts)),
  asked_of_main b f (AsksStep (b ∷ []) (at_state (map Truth s)) (at_state (map Truth t))) h,
)

-- a cause is that of a constraint
init_cause_is : (names : List (List ℕ)) (s : List Bool) (part : Part) (c : Cause) → init_cause names s part ≡ Some c → (p : Place) × (e : Tree) × (part ≡ constraint section.Init p e) × (c ≡ Init p)
init_cause_is names s (constraint section.Init p e) c h = (p, e, refl, by_test (truth_of names s [] e) h)
  where
    by_test : (t : Bool) → cond t None (Some (Init p)) ≡ Some c → c ≡ Init p
    by_test true k = absurd (none-some c k)
    by_test false k = sym (same_Some _ _ k)
init_cause_is names s (constraint section.Invar p e) c h = absurd (none-some c h)
init_cause_is names s (constraint section.Trans p e) c h = absurd (none-some c h)
init_cause_is names s (variable k n p t) c h = absurd (none-some c h)
init_cause_is names s (define n p x) c h = absurd (none-some c h)
init_cause_is names s (assign m n p x) c h = absurd (none-some c h)
init_cause_is names s (property n p x) c h = absurd (none-some c h)

step_cause_is : (names : List (List ℕ)) (s t : List Bool) (part : Part) (c : Cause) → step_cause names s t part ≡ Some c → (p : Place) × (e : Tree) × (part ≡ constraint section.Trans p e) × (c ≡ Trans p)
step_cause_is names s t (constraint section.Trans p e) c h = (p, e, refl, by_test (truth_of names s t e) h)
  where
    by_test : (v : Bool) → cond v None (Some (Trans p)) ≡ Some c → c ≡ Trans p
    by_test true k = absurd (none-some c k)
    by_test false k = sym (same_Some _ _ k)
step_cause_is names s t (constraint section.Init p e) c h = absurd (none-some c h)
step_cause_is names s t (constraint section.Invar p e) c h = absurd (none-some c h)
step_cause_is names s t (variable k n p x) c h = absurd (none-some c h)
step_cause_is names s t (define n p x) c h = absurd (none-some c h)
step_cause_is names s t (assign m n p x) c h = absurd (none-some c h)
step_cause_is names s t (property n p x) c h = absurd (none-some c h)

-- a path through states of truth values
abbrev pub IsPathOf : Body → List (List Bool) → Type 0
IsPathOf b [] = ⊥
IsPathOf b (s ∷ states) = IsPath (b ∷ []) (map Truth s) (valued states) (map (λ _. []) (valued states))

-- the constraint on a step that fails first
abbrev pub StepFails : Body → List Bool → List Bool → Cause → Type 0
StepFails b s t c = (p : Place) × (e : Tree) × (c ≡ Trans p) × FailsFirst (AsksStep (b ∷ []) (at_state (map Truth s)) (at_state (map Truth t)) (main_of b)) b.parts (constraint section.Trans p e)

-- the states from one on are a path up to a step that fails
pub record Breaks (b : Body) (n : ℕ) (states : List (List Bool)) (k : ℕ) (c : Cause) : Type 0 where
  pub front : List (List Bool)
  pub s : List Bool
  pub t : List Bool
  pub rest : List (List Bool)
  pub split : states ≡ (front ++ s ∷ []) ++ t ∷ rest
  pub number : k ≡ n + length front + 1
  pub path : IsPathOf b (front ++ s ∷ [])
  pub fails : StepFails b s t c

-- what the states behind one are: a path, or a path up to a step that fails
abbrev pub Behind : Body → ℕ → List (List Bool) → Option (ℕ × Cause) → Type 0
Behind b n states None = IsPathOf b states
Behind b n states (Some stop) = Breaks b n states stop.0 stop.1

first_same : (x y : List Bool) (xs ys : List (List Bool)) → x ∷ xs ≡ y ∷ ys → x ≡ y
first_same x y xs ys e = cc

-- a step in front of a path that breaks
breaks_later : (b : Body) → PlainFacts b → (n : ℕ) (s t : List Bool) (states : List (List Bool)) (k : ℕ) (c : Cause) → IsAllowed (b ∷ []) (map Truth s) → IsStep (b ∷ []) (map Truth s) [] (map Truth t) → Breaks b (n + 1) (t ∷ states) k c → Breaks b n (s ∷ t ∷ states) k c
breaks_later b f n s t states k c a st r =
    record {
      front = s ∷ r.front;
      s = r.s;
      t = r.t;
      rest = r.rest;
      split = ap (λ xs. s ∷ xs) r.split;
      number = omega (arith, r.number);
      path = longer r.front r.split r.path;
      fails = r.fails;
    }
  where
    longer : (front : List (List Bool)) → t ∷ states ≡ (front ++ r.s ∷ []) ++ r.t ∷ r.rest → IsPathOf b (front ++ r.s ∷ []) → IsPathOf b (s ∷ (front ++ r.s ∷ []))
    longer [] e p = (a, subst (λ x. IsStep (b ∷ []) (map Truth s) [] (map Truth x)) (first_same t r.s states (r.t ∷ r.rest) e) st, p)
    longer (x ∷ front) e p = (a, subst (λ y. IsStep (b ∷ []) (map Truth s) [] (map Truth y)) (first_same t x states ((front ++ r.s ∷ []) ++ r.t ∷ r.rest) e) st, p)

pub behind_is : (b : Body) → PlainFacts b → (n : ℕ) (s : List Bool) (states : List (List Bool)) → AreFull b (s ∷ states) → Behind b n (s ∷ states) (stop_behind (names_of b.parts) b.parts n s states)
behind_is b f n s [] full = allowed b f s full.0
behind_is b f n s (t ∷ states) full =
    by_cause (first_step (names_of b.parts) s t b.parts) (steps_found b f s t b.parts full.0 full.1.0 f.plain_parts) (stop_behind (names_of b.parts) b.parts (n + 1) t states) (behind_is b f (n + 1) t states full.1)
  where
    names : List (List ℕ)
    names = names_of b.parts

    onwards : (o : Option (ℕ × Cause)) → IsStep (b ∷ []) (map Truth s) [] (map Truth t) → Behind b (n + 1) (t ∷ states) o → Behind b n (s ∷ t ∷ states) o
    onwards None st p = (allowed b f s full.0, st, p)
    onwards (Some stop) st p = breaks_later b f n s t states stop.0 stop.1 (allowed b f s full.0) st p

    by_cause : (o : Option Cause) → Finds (AsksStep (b ∷ []) (at_state (map Truth s)) (at_state (map Truth t)) (main_of b)) (step_cause names s t) b.parts o → (rest : Option (ℕ × Cause)) → Behind b (n + 1) (t ∷ states) rest → Behind b n (s ∷ t ∷ states) (option_or (at_number (n + 1) o) rest)
    by_cause None (finds_none all) rest p = onwards rest (stepped b f s t all) p
    by_cause (Some c) (finds _ part bad is) rest p =
        let q = step_cause_is names s t part c is in
        record {
          front = [];
          s = s;
          t = t;
          rest = states;
          split = refl;
          number = omega arith;
          path = allowed b f s full.0;
          fails = (q.0, q.1, q.3, subst (FailsFirst (AsksStep (b ∷ []) (at_state (map Truth s)) (at_state (map Truth t)) (main_of b)) b.parts) q.2 bad);
        }

-- what is said of a whole trace
abbrev pub Judged : Body → List (List Bool) → Option (ℕ × Cause) → Type 0
Judged b states None = IsTrace (b ∷ []) (valued states)
Judged b states (Some stop) = StopsAt (b ∷ []) (valued states) stop.0 stop.1

pub judged : (b : Body) → PlainFacts b → (states : List (List Bool)) → 0 < length states → AreFull b states → Judged b states (stop_of (names_of b.parts) b.parts states)
judged b f [] h full = absurd (omega arith)
judged b f (s ∷ states) h full =
    by_cause (first_init (names_of b.parts) s b.parts) (inits_found b f s b.parts full.0 f.plain_parts) (stop_behind (names_of b.parts) b.parts 1 s states) (behind_is b f 1 s states full)
  where
    onwards : (o : Option (ℕ × Cause)) → IsFirst (b ∷ []) (map Truth s) → Behind b 1 (s ∷ states) o → Judged b (s ∷ states) o
    onwards None first p = (first, p)
    onwards (Some (k, Init q)) first r = absurd (never r.fails.2)
      where
        never : Init q ≡ Trans r.fails.0 → ⊥
        never e = cc
    onwards (Some (k, Trans q)) first r = (
      main_of b,
      valued r.front,
      map Truth r.s,
      map Truth r.t,
      valued r.rest,
      r.fails.1,
      the_instances b f,
      ap valued r.split ∙ (map-append (map Truth) (r.front ++ r.s ∷ []) (r.t ∷ r.rest) ∙ ap (λ xs. xs ++ map Truth r.t ∷ valued r.rest) (map-append (map Truth) r.front (r.s ∷ []))),
      omega (arith, r.number, length-map {A = List Bool} {B = List Value}),
      traced r.front r.s r.t r.rest r.split r.path,
      subst (λ (p : Place). FailsFirst (AsksStep (b ∷ []) (at_state (map Truth r.s)) (at_state (map Truth r.t)) (main_of b)) b.parts (constraint section.Trans p r.fails.1)) (sym (same_place q r.fails.0 r.fails.2)) r.fails.3,
    )
      where
        same_place : (p o : Place) → Trans p ≡ Trans o → p ≡ o
        same_place p o e = cc

        traced : (front : List (List Bool)) (u t : List Bool) (rest : List (List Bool)) → s ∷ states ≡ (front ++ u ∷ []) ++ t ∷ rest → IsPathOf b (front ++ u ∷ []) → IsTrace (b ∷ []) (valued front ++ map Truth u ∷ [])
        traced [] u t rest e p = (subst (λ x. IsFirst (b ∷ []) (map Truth x)) (first_same s u states (t ∷ rest) e) first, p)
        traced (x ∷ front) u t rest e p = (
          subst (λ y. IsFirst (b ∷ []) (map Truth y)) (first_same s x states ((front ++ u ∷ []) ++ t ∷ rest) e) first,
          subst (λ ys. IsPath (b ∷ []) (map Truth x) ys (map (λ _. []) ys)) (map-append (map Truth) front (u ∷ [])) p,
        )

    by_cause : (o : Option Cause) → Finds (AsksFirst (b ∷ []) (at_state (map Truth s)) (main_of b)) (init_cause (names_of b.parts) s) b.parts o → (rest : Option (ℕ × Cause)) → Behind b 1 (s ∷ states) rest → Judged b (s ∷ states) (option_or (at_number 1 o) rest)
    by_cause None (finds_none all) rest p = onwards rest (asked_of_main b f (AsksFirst (b ∷ []) (at_state (map Truth s))) all) p
    by_cause (Some c) (finds _ part bad is) rest p =
        let q = init_cause_is (names_of b.parts) s part c is in
        subst (λ x. StopsAt (b ∷ []) (valued (s ∷ states)) 1 x) (sym q.3)
        (main_of b, map Truth s, valued states, q.1, the_instances b f, refl, refl, subst (FailsFirst (AsksFirst (b ∷ []) (at_state (map Truth s)) (main_of b)) b.parts) q.2 bad)
