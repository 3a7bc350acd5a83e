-- What a search has gained so far.
use Rattle.std.proofs.Common.{◌≡◌, ◌≢◌, ◌⊎◌, inl, inr, ℕ, Bool, cond, ◌+◌, ◌-◌, ◌*◌, ◌^◌, ◌<◌, ◌≤◌, List, [], ◌∷◌, ◌++◌, length, drop, refl, ap, sym, subst, ◌∙◌, append_assoc, mul_comm, arith}
use Rattle.std.specs.Prelude.{None, Some, Result, Ok, Err, IsErr, slice_get, option_to_list}
use Rattle.std.specs.List.{AllByRecursion}
use Rattle.std.proofs.lemmas.List.{length_push, length-append, drop_at, append-nil}
use Rattle.std.proofs.lemmas.Nat.{mul-add-lt}
use Rattle.sat_log.specs.Literal.{Literal}
use Rattle.std.proofs.lemmas.Bool.{ne_eqb, cases_lt}
use Rattle.sat_log.specs.Clauses.{Satisfies}
use Rattle.sat_log.specs.Accepted.{given, originals, line_at, IsLog}
use Rattle.sat_log.specs.Learned.{learned, AllFresh, conflict_clauses}
use Rattle.sat_log.specs.declared.line.LineKind.{LineKind}
use Rattle.sat_log.specs.declared.line.LineKind.TheVariants.{Original, Conflict, Final}
use Rattle.sat_log.specs.declared.line.LogLine.{LogLine}
use Rattle.sat_log.proofs.ListLemmas.{All-append}
use Rattle.sat_core.specs.Gained.{gained, conflicts, IsLonger, HasNoOriginal, HasNoFinal, IsNeededAndDrawn, AreLearned, IsRefusal}
use Rattle.sat_core.specs.Gains.{Outcome, Refuted, OutOfMemory, outcome, EndsAs, Gains}
use Rattle.sat_core.specs.Assignment.{HasNoSolution}
use Rattle.sat_core.specs.Verdicts.{IsBelow, IsWithin, IfNo}
use Rattle.sat_core.specs.declared.verdict.Verdict.{Verdict}
use Rattle.sat_core.specs.declared.verdict.Verdict.TheVariants.{Yes, No, Spent}
use Rattle.sat_core.specs.Search.{Searched, AddsLearned, AddsFinal, StepsTo, MayStep, GoesOn}
use Rattle.sat_core.specs.declared.search.Step.{Step}
use Rattle.sat_core.specs.declared.search.Step.TheVariants.{Learned, Decided}
use Rattle.sat_core.specs.declared.budget.Budget.{Budget}
use Rattle.sat_core.specs.declared.budget.Budget.TheVariants.{Unset, Of}

-- all of the lines are conflict lines
abbrev pub AreConflicts : List LogLine → Type 0
AreConflicts lines = AllByRecursion (λ line. line.kind ≡ Conflict) lines

-- From the start the log gained conflict lines that are learned, and nothing else.
pub record HasLearned (start log : List LogLine) : Type 0 where
  pub longer : IsLonger start log
  pub learned_is : AreLearned start (gained start log)
  pub conflict : AreConflicts (gained start log)

pub gained_none : (start : List LogLine) → gained start start ≡ []
gained_none start = ap (drop (length start)) (sym (append-nil start)) ∙ drop_at start [] (length start) refl

pub learned_none : (start : List LogLine) → HasLearned start start
learned_none start =
    let none = gained_none start in
    record {
      longer = sym (ap (λ (g : List LogLine). start ++ g) none ∙ append-nil start);
      learned_is = subst (AreLearned start) (sym none) tt;
      conflict = subst AreConflicts (sym none) tt;
    }

-- one line more
pub gained_push : (start log new : List LogLine) (line : LogLine) → IsLonger start log → new ≡ log ++ line ∷ [] → gained start new ≡ gained start log ++ line ∷ []
gained_push start log new line longer same =
    let parts : new ≡ start ++ (gained start log ++ line ∷ []) = same ∙ ap (λ (l : List LogLine). l ++ line ∷ []) longer ∙ append_assoc start (gained start log) (line ∷ []) in
    ap (drop (length start)) parts ∙ drop_at start (gained start log ++ line ∷ []) (length start) refl

pub longer_push : (start log new : List LogLine) (line : LogLine) → IsLonger start log → new ≡ log ++ line ∷ [] → IsLonger start new
longer_push start log new line longer same =
    same ∙ ap (λ (l : List LogLine). l ++ line ∷ []) longer ∙ append_assoc start (gained start log) (line ∷ []) ∙ ap (λ (g : List LogLine). start ++ g) (sym (gained_push start log new line longer same))

learned_push : (before lines : List LogLine) (line : LogLine) → AreLearned before lines → IsNeededAndDrawn (before ++ lines) line → AreLearned before (lines ++ line ∷ [])
learned_push before [] line h l = (subst (λ (b : List LogLine). IsNeededAndDrawn b line) (append-nil before) l, tt)
learned_push before (x ∷ lines) line h l =
    (h.0, learned_push (before ++ x ∷ []) lines line h.1 (subst (λ (b : List LogLine). IsNeededAndDrawn b line) (sym (append_assoc before (x ∷ []) lines)) l))

pub are_learned_push : (start log new : List LogLine) (line : LogLine) → IsLonger start log → AreLearned start (gained start log) → new ≡ log ++ line ∷ [] → IsNeededAndDrawn log line → AreLearned start (gained start new)
are_learned_push start log new line longer h same l =
    subst (AreLearned start) (sym (gained_push start log new line longer same)) (learned_push start (gained start log) line h (subst (λ (b : List LogLine). IsNeededAndDrawn b line) longer l))

-- a learned clause more
pub learned_more : (start log new : List LogLine) → HasLearned start log → AddsLearned log new → HasLearned start new
learned_more start log new h a =
    record {
      longer = longer_push start log new a.line h.longer a.same;
      learned_is = are_learned_push start log new a.line h.longer h.learned_is a.same (record { needed = (λ _. a.needed); drawn = (λ _. a.drawn) });
      conflict = subst AreConflicts (sym (gained_push start log new a.line h.longer a.same)) (All-append (λ (line : LogLine). line.kind ≡ Conflict) (gained start log) (a.line ∷ []) h.conflict (a.kind, tt));
    }

-- How many conflict lines.

conflict_one : (kind : LineKind) (lits : List Literal) → kind ≡ Conflict → length (option_to_list (learned kind lits)) ≡ 1
conflict_one kind lits e = ap (λ (k : LineKind). length (option_to_list (learned k lits))) e

pub all_conflicts : (lines : List LogLine) → AreConflicts lines → conflicts lines ≡ length lines
all_conflicts [] h = refl
all_conflicts (line ∷ lines) h =
    let one = conflict_one line.kind line.lits h.0 in
    let rest = all_conflicts lines h.1 in
    omega (arith, length-append (option_to_list (learned line.kind line.lits)) (conflict_clauses lines))

-- a final line is none
conflicts_final : (lines : List LogLine) (line : LogLine) → line.kind ≡ Final → conflicts (lines ++ line ∷ []) ≡ conflicts lines
conflicts_final [] line e =
    ap (λ (k : LineKind). length (option_to_list (learned k line.lits) ++ [])) e
conflicts_final (x ∷ lines) line e =
    let rest = conflicts_final lines line e in
    omega (arith, length-append (option_to_list (learned x.kind x.lits)) (conflict_clauses (lines ++ line ∷ [])), length-append (option_to_list (learned x.kind x.lits)) (conflict_clauses lines))

pub final_counts : (start log new : List LogLine) (line : LogLine) → IsLonger start log → new ≡ log ++ line ∷ [] → line.kind ≡ Final → conflicts (gained start new) ≡ conflicts (gained start log)
final_counts start log new line longer same kind =
    ap conflicts (gained_push start log new line longer same) ∙ conflicts_final (gained start log) line kind

pub gained_length : (start log : List LogLine) → IsLonger start log → length (gained start log) ≡ length log - length start
gained_length start log h =
    let sum : length log ≡ length start + length (gained start log) = ap length h ∙ length-append start (gained start log) in
    omega arith

kind_apart : (kind other : LineKind) → kind ≡ Conflict → kind ≡ other → other ≢ Conflict → ⊥
kind_apart kind other e f ne = ne (sym f ∙ e)

pub none_original : (lines : List LogLine) → AreConflicts lines → HasNoOriginal lines
none_original [] h = tt
none_original (line ∷ lines) h = ((λ e. absurd (kind_apart line.kind Original h.0 e (λ same. cc))), none_original lines h.1)

pub none_final : (lines : List LogLine) → AreConflicts lines → HasNoFinal lines
none_final [] h = tt
none_final (line ∷ lines) h = ((λ e. absurd (kind_apart line.kind Final h.0 e (λ same. cc))), none_final lines h.1)

-- The measure of a search: first by the clauses that can still be learned, then by the literals that can still become true.
abbrev pub left : ℕ → ℕ → ℕ → ℕ → ℕ
left few learned_count places made = (few - learned_count) * (places + 1) + (places - made)

pub left_learned : (few count places made made' : ℕ) → count + 1 ≤ few → left few (count + 1) places made' < left few count places made
left_learned few count places made made' h =
    let less = mul-add-lt (few - (count + 1)) (places + 1) (places - made') (few - count) (omega arith) (omega arith) in
    omega (arith, mul_comm (places + 1) (few - count))

pub left_decided : (few count places made made' : ℕ) → made < made' → made' ≤ places → left few count places made' < left few count places made
left_decided few count places made made' h k = omega arith

-- A final line at the end.

last_line : (log : List LogLine) (line : LogLine) → slice_get (log ++ line ∷ []) (length log) ≡ Some line
last_line [] line = refl
last_line (x ∷ log) line = last_line log line

pub line_of_id : (log new : List LogLine) (line : LogLine) (id : ℕ) → new ≡ log ++ line ∷ [] → id ≡ length new → line_at new id ≡ Some line
line_of_id log new line id same last =
    let sum : length new ≡ length log + 1 = ap length same ∙ length_push log line in
    let place : id - 1 ≡ length log = omega arith in
    ap (λ (b : Bool). cond b None (slice_get new (id - 1))) (ne_eqb id 0 (λ zero. absurd (omega arith))) ∙ ap (slice_get new) place ∙ ap (λ (l : List LogLine). slice_get l (length log)) same ∙ last_line log line

pub refusal : (start log new : List LogLine) (want : List Literal) (id : ℕ) → IsLonger start log → HasNoFinal (gained start log) → id ≡ length new → AddsFinal want log new → IsRefusal start new want id
refusal start log new want id longer none last a =
    let sum : length new ≡ length log + 1 = ap length a.same ∙ length_push log a.line in
    let more : length log ≡ length start + length (gained start log) = ap length longer ∙ length-append start (gained start log) in
    record {
      line = a.line;
      stands = line_of_id log new a.line id a.same last;
      last = last;
      is_gained = omega arith;
      final = a.kind;
      literals = a.literals_are;
      others = gained start log;
      gained_are = gained_push start log new a.line longer a.same;
      no_other = none;
    }

given_final : (kind : LineKind) (lits : List Literal) → kind ≡ Final → option_to_list (given kind lits) ++ [] ≡ []
given_final kind lits e = ap (λ (k : LineKind). option_to_list (given k lits) ++ []) e

originals_final : (log : List LogLine) (line : LogLine) → line.kind ≡ Final → originals (log ++ line ∷ []) ≡ originals log
originals_final [] line e = given_final line.kind line.lits e
originals_final (x ∷ log) line e = ap (λ (cs : List (List Literal)). option_to_list (given x.kind x.lits) ++ cs) (originals_final log line e)

pub refuted_by : (log new : List LogLine) (want : List Literal) → HasNoSolution log want → AddsFinal want log new → HasNoSolution new want
refuted_by log new want none a v true_ wanted =
    none v (subst (Satisfies v) (ap originals a.same ∙ originals_final log a.line a.kind) true_) wanted

pub final_learned : (start log new : List LogLine) (want : List Literal) → HasLearned start log → AddsFinal want log new → AreLearned start (gained start new)
final_learned start log new want h a =
    are_learned_push start log new a.line h.longer h.learned_is a.same (record { needed = (λ e. absurd (kind_apart a.line.kind Final e a.kind (λ same. cc))); drawn = (λ e. absurd (kind_apart a.line.kind Final e a.kind (λ same. cc))) })

pub final_no_original : (start log new : List LogLine) (want : List Literal) → HasLearned start log → AddsFinal want log new → HasNoOriginal (gained start new)
final_no_original start log new want h a =
    subst HasNoOriginal (sym (gained_push start log new a.line h.longer a.same)) (All-append (λ (line : LogLine). line.kind ≢ Original) (gained start log) (a.line ∷ []) (none_original (gained start log) h.conflict) ((λ e. let same : Original ≡ Final = sym e ∙ a.kind in cc), tt))

-- A step that goes on.

pub step_gains : (start : List LogLine) (want : List Literal) (old new : Searched) (step : Step) → (step ≡ Learned) ⊎ (step ≡ Decided) → HasLearned start old.log → StepsTo want old new step → HasLearned start new.log
step_gains start want old new step (inl e) h s =
    learned_more start old.log new.log h (subst (λ (x : Step). StepsTo want old new x) e s)
step_gains start want old new step (inr e) h s =
    subst (HasLearned start) (sym (subst (λ (x : Step). StepsTo want old new x) e s).0) h

-- and all clauses stay attached
pub goes_on : (want : List Literal) (asked : ℕ) (new : Searched) (step : Step) → (step ≡ Learned) ⊎ (step ≡ Decided) → GoesOn want asked new step → MayStep want asked new
goes_on want asked new step (inl e) s = subst (GoesOn want asked new) e s
goes_on want asked new step (inr e) s = subst (GoesOn want asked new) e s

pub step_left : (start : List LogLine) (want : List Literal) (old new : Searched) (step : Step) (few : ℕ) → (step ≡ Learned) ⊎ (step ≡ Decided) → HasLearned start old.log → StepsTo want old new step → conflicts (gained start new.log) ≤ few → left few (conflicts (gained start new.log)) new.variables (length new.entries) < left few (conflicts (gained start old.log)) new.variables (length old.entries)
step_left start want old new step few (inl e) h s most =
    let a : AddsLearned old.log new.log = subst (λ (x : Step). StepsTo want old new x) e s in
    let one : conflicts (gained start new.log) ≡ conflicts (gained start old.log) + 1 =
    all_conflicts (gained start new.log) (learned_more start old.log new.log h a).conflict ∙ ap length (gained_push start old.log new.log a.line h.longer a.same) ∙ length_push (gained start old.log) a.line ∙ ap (λ (n : ℕ). n + 1) (sym (all_conflicts (gained start old.log) h.conflict)) in
    subst (λ (n : ℕ). left few n new.variables (length new.entries) < left few (conflicts (gained start old.log)) new.variables (length old.entries)) (sym one) (left_learned few (conflicts (gained start old.log)) new.variables (length old.entries) (length new.entries) (omega arith))
step_left start want old new step few (inr e) h s most =
    let d = subst (λ (x : Step). StepsTo want old new x) e s in
    subst (λ (l : List LogLine). left few (conflicts (gained start l)) new.variables (length new.entries) < left few (conflicts (gained start old.log)) new.variables (length old.entries)) (sym d.0) (left_decided few (conflicts (gained start old.log)) new.variables (length old.entries) (length new.entries) d.1 d.2)

pub step_within : (start : List LogLine) (want : List Literal) (old new : Searched) (step : Step) (budget : Budget) → (step ≡ Learned) ⊎ (step ≡ Decided) → HasLearned start old.log → StepsTo want old new step → IsBelow budget (conflicts (gained start old.log)) → IsWithin budget (conflicts (gained start new.log))
step_within start want old new step budget which h s below = by_budget budget below (at_most which s)
  where
    at_most : (step ≡ Learned) ⊎ (step ≡ Decided) → StepsTo want old new step → conflicts (gained start new.log) ≤ conflicts (gained start old.log) + 1
    at_most (inl e) s =
        let a : AddsLearned old.log new.log = subst (λ (x : Step). StepsTo want old new x) e s in
        let one : conflicts (gained start new.log) ≡ conflicts (gained start old.log) + 1 =
        all_conflicts (gained start new.log) (learned_more start old.log new.log h a).conflict ∙ ap length (gained_push start old.log new.log a.line h.longer a.same) ∙ length_push (gained start old.log) a.line ∙ ap (λ (n : ℕ). n + 1) (sym (all_conflicts (gained start old.log) h.conflict)) in
        omega arith
    at_most (inr e) s =
        let d = subst (λ (x : Step). StepsTo want old new x) e s in
        let same = ap (λ (l : List LogLine). conflicts (gained start l)) d.0 in
        omega arith

    by_budget : (b : Budget) → IsBelow b (conflicts (gained start old.log)) → conflicts (gained start new.log) ≤ conflicts (gained start old.log) + 1 → IsWithin b (conflicts (gained start new.log))
    by_budget Unset below most = tt
    by_budget (Of n) below most = omega arith

pub within_none : (budget : Budget) → IsWithin budget 0
within_none Unset = tt
within_none (Of n) = omega arith

-- a budget is spent where it allows no more
pub is_spent : (budget : Budget) (n : ℕ) → IsWithin budget n → ¬ IsBelow budget n → budget ≡ Of n
is_spent Unset n within over = absurd (over tt)
is_spent (Of most) n within over = ap Of (by_order (cases_lt n most))
  where
    by_order : (n < most) ⊎ (most ≤ n) → most ≡ n
    by_order (inl below) = absurd (over below)
    by_order (inr past) = omega arith

-- What is gained, whatever the search comes to.

module _ (n : ℕ) (budget : Budget) (want : List Literal) (start : List LogLine) where
  -- a log that learned lines alone
  pub gains_learned : (log new : List LogLine) (end : Outcome) → new ≡ log → HasLearned start log → IsLog new → AllFresh start (gained start new) → conflicts (gained start new) < 3 ^ n → EndsAs budget want start new end → Gains n budget want start new end
  gains_learned log new end same h is_log fresh few ends =
      let learned = subst (HasLearned start) (sym same) h in
      record {
        longer = learned.longer;
        is_log = is_log;
        learned = learned.learned_is;
        fresh = fresh;
        few = few;
        ends = ends;
      }

  pub has_no_final : (log new : List LogLine) → new ≡ log → HasLearned start log → HasNoFinal (gained start new)
  has_no_final log new same h =
      none_final (gained start new) (subst (HasLearned start) (sym same) h).conflict

  -- a final line more
  pub gains_final : (log new : List LogLine) (id : ℕ) → HasLearned start log → id ≡ length new → AddsFinal want log new → IsLog new → AllFresh start (gained start new) → conflicts (gained start new) < 3 ^ n → IsBelow budget (conflicts (gained start log)) → Gains n budget want start new (Refuted id)
  gains_final log new id h last a is_log fresh few below =
      record {
        longer = longer_push start log new a.line h.longer a.same;
        is_log = is_log;
        learned = final_learned start log new want h a;
        fresh = fresh;
        few = few;
        ends = (refusal start log new want id h.longer (none_final (gained start log) h.conflict) last a, subst (IsBelow budget) (sym (final_counts start log new a.line h.longer a.same a.kind)) below);
      }

-- where a call has no answer, memory was refused
pub outcome_err : {E : Type 0} (P : Outcome → Type 0) (r : Result Verdict E) → IsErr r → P OutOfMemory → P (outcome r)
outcome_err P (Ok v) e h = absurd cc
outcome_err P (Err x) e h = h

-- what is gained, over an equal log
pub gains_same : {E : Type 0} (r : Result Verdict E) (n m : ℕ) (budget : Budget) (want : List Literal) (start old new : List LogLine) → new ≡ old → m ≡ n → Gains n budget want start old (outcome r) → Gains m budget want start new (outcome r)
gains_same r n m budget want start old new same variables h =
    subst (λ (k : ℕ). Gains k budget want start new (outcome r)) (sym variables) (subst (λ (l : List LogLine). Gains n budget want start l (outcome r)) (sym same) h)

-- what holds of a refusal, over an equal log
pub if_no : {E : Type 0} (r : Result Verdict E) (old new : List LogLine) (want : List Literal) → new ≡ old → IfNo r (λ _. HasNoSolution old want) → IfNo r (λ _. HasNoSolution new want)
if_no (Ok (Yes bits)) old new want same h = tt
if_no (Ok (No id)) old new want same h = subst (λ (l : List LogLine). HasNoSolution l want) (sym same) h
if_no (Ok (Spent n)) old new want same h = tt
if_no (Err e) old new want same h = tt
