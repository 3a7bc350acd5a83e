-- Fresh conflict lines over n variables are fewer than 3 ^ n.
use Rattle.std.proofs.Common.{◌≡◌, ◌≤◌, ◌<◌, ◌+◌, ◌*◌, ◌^◌, ℕ, zero, suc, Bool, true, false, cond, eqb, inl, inr, List, [], ◌∷◌, ◌++◌, map, length, refl, sym, ap, subst, ◌∙◌, append_assoc, ◌⊎◌, ◌-◌, ⊎_elim, arith}
use Rattle.std.specs.Prelude.{Option, None, Some, option_to_list, slice_get}
use Rattle.std.specs.Option.{option_and_then}
use Rattle.std.specs.List.{AllByRecursion, IsDistinct, list_any}
use Rattle.std.proofs.Math.Nat.{pow-suc}
use Rattle.std.proofs.lemmas.Bool.{eqb-true, ne_eqb, or_cases, cases_eq}
use Rattle.std.proofs.lemmas.List.{append-nil, length-map}
use Rattle.std.proofs.lemmas.Map.Steps.{length-le_from_distinct_below}
use Rattle.sat_log.specs.Literal.{Literal, negated}
use Rattle.sat_log.specs.Clause.{Among, HasDistinctVariables, AreLiterals}
use Rattle.sat_log.specs.Learned.{Subsumes, IsFresh, IsFreshOfKind, AllFresh, learned, conflict_clauses}
use Rattle.sat_log.specs.Checking.{is_set, IsUpTo, AreUpTo}
use Rattle.sat_log.specs.Accepted.{hinted, clause_at, Refutes, IsOfKind, AreLines, IsLog}
use Rattle.sat_log.specs.Clauses.{clauses}
use Rattle.sat_log.proofs.Decided.{among_from_set, set_from_among, unset_from}
use Rattle.sat_log.proofs.Implied.{clauses-append}
use Rattle.sat_log.proofs.ListLemmas.{All-front, All-back}
use Rattle.sat_log.proofs.LogLemmas.{lines_front}
use Rattle.sat_log.proofs.LiteralLemmas.{literal_of, All-among, All-from_among}
use Rattle.sat_log.specs.declared.line.LineKind.{LineKind}
use Rattle.sat_log.specs.declared.line.LineKind.TheVariants.{Original, Conflict, Final}
use Rattle.sat_log.specs.declared.line.LogLine.{LogLine}

-- A variable's choice in a clause: absent, positive or negative.

pick : Bool → Bool → ℕ
pick positive negative = cond positive 1 (cond negative 2 0)

choice : List Literal → ℕ → ℕ
choice c v = pick (is_set c (literal_of v false)) (is_set c (literal_of v true))

pick_lt : (p n : Bool) → pick p n < 3
unfolding pick
pick_lt true n = omega arith
pick_lt false true = omega arith
pick_lt false false = omega arith

pick_positive : (p n : Bool) → pick p n ≡ 1 → p ≡ true
unfolding pick
pick_positive true n e = refl
pick_positive false true e = absurd (omega arith)
pick_positive false false e = absurd (omega arith)

pick_negative : (p n : Bool) → pick p n ≡ 2 → n ≡ true
unfolding pick
pick_negative true n e = absurd (omega arith)
pick_negative false true e = refl
pick_negative false false e = absurd (omega arith)

chosen_positive : (c : List Literal) (v : ℕ) → Among c (literal_of v false) → choice c v ≡ 1
unfolding pick choice
chosen_positive c v m = rw (set_from_among c (literal_of v false) m)

chosen_negative : (c : List Literal) (v : ℕ) → ¬ Among c (literal_of v false) → Among c (literal_of v true) → choice c v ≡ 2
unfolding pick choice
chosen_negative c v other m = rw (unset_from c (literal_of v false) other, set_from_among c (literal_of v true) m)

-- a variable of a clause stands in it with one sign
one_sign : (c : List Literal) (v : ℕ) → HasDistinctVariables c → Among c (literal_of v true) → ¬ Among c (literal_of v false)
one_sign [] v d m m' = m
one_sign (x ∷ c) v d (inl e) (inl e') =
    let both : literal_of v true ≡ literal_of v false = sym e ∙ e' in
    let signs : true ≡ false = ap (λ (l : Literal). l.negative) both in
    absurd cc
one_sign (x ∷ c) v d (inl e) (inr m') = All-among (λ k. ¬ (k.var ≡ x.var)) c (literal_of v false) d.0 m' (sym (ap (λ (l : Literal). l.var) e))
one_sign (x ∷ c) v d (inr m) (inl e') = All-among (λ k. ¬ (k.var ≡ x.var)) c (literal_of v true) d.0 m (sym (ap (λ (l : Literal). l.var) e'))
one_sign (x ∷ c) v d (inr m) (inr m') = one_sign c v d.1 m m'

same_choice_among : (c d : List Literal) (v : ℕ) (s : Bool) → HasDistinctVariables c → choice c v ≡ choice d v → Among c (literal_of v s) → Among d (literal_of v s)
unfolding choice
same_choice_among c d v false distinct e m =
    among_from_set d (literal_of v false) (pick_positive _ _ (sym e ∙ chosen_positive c v m))
same_choice_among c d v true distinct e m =
    among_from_set d (literal_of v true) (pick_negative _ _ (sym e ∙ chosen_negative c v (one_sign c v distinct m) m))

-- The choices of the variables from 1 to n, as the digits of one number.

code : List Literal → ℕ → ℕ
code c zero = 0
code c (suc n) = 3 * code c n + choice c (suc n)

code_lt : (c : List Literal) (n : ℕ) → code c n < 3 ^ n
unfolding code choice
code_lt c zero = omega arith
code_lt c (suc n) =
    let below = code_lt c n in
    let digit : choice c (suc n) < 3 = pick_lt _ _ in
    omega (arith, pow-suc 3 n)

same_choices : (c d : List Literal) (n v : ℕ) → code c n ≡ code d n → 1 ≤ v → v ≤ n → choice c v ≡ choice d v
unfolding code choice
same_choices c d zero v e first last = absurd (omega arith)
same_choices c d (suc n) v e first last =
    let digit : choice c (suc n) < 3 = pick_lt _ _ in
    let digit' : choice d (suc n) < 3 = pick_lt _ _ in
    let here : choice c (suc n) ≡ choice d (suc n) = omega arith in
    let rest : code c n ≡ code d n = omega arith in
    ⊎_elim
    (λ at. subst (λ k. choice c k ≡ choice d k) (sym at) here)
    (λ apart. same_choices c d n v rest first (omega (arith, apart)))
    (cases_eq v (suc n))

-- a clause over the variables from 1 to n, without a variable twice
abbrev IsChoice : ℕ → List Literal → Type 0
IsChoice n c = HasDistinctVariables c × AllByRecursion (λ l. (1 ≤ l.var) × (l.var ≤ n)) c

same_code_within : (c d : List Literal) (n : ℕ) → IsChoice n c → code c n ≡ code d n → Subsumes c d
same_code_within c d n h e =
    All-from_among (Among d) c (λ l m. (
    let range = All-among (λ k. (1 ≤ k.var) × (k.var ≤ n)) c l h.1 m in
    same_choice_among c d l.var l.negative h.0 (same_choices c d n l.var e range.0 range.1) m
    ))

-- A clause that stands before others is within none that is fresh over them.

IsKept : List Literal → List LogLine → Type 0
IsKept c log = (d : List Literal) → IsFresh (clauses log) d → ¬ Subsumes c d

fresh_split : (cs ds : List (List Literal)) (d : List Literal) → IsFresh (cs ++ ds) d → IsFresh cs d × IsFresh ds d
fresh_split [] ds d h = (tt, h)
fresh_split (c ∷ cs) ds d h = let rest = fresh_split cs ds d h.1 in ((h.0, rest.0), rest.1)

fresh_before : (log : List LogLine) (line : LogLine) (d : List Literal) → IsFresh (clauses (log ++ line ∷ [])) d → IsFresh (clauses log) d × IsFresh (clauses (line ∷ [])) d
fresh_before log line d h = fresh_split (clauses log) (clauses (line ∷ [])) d (subst (λ cs. IsFresh cs d) (clauses-append log (line ∷ [])) h)

kept_more : (c : List Literal) (log : List LogLine) (line : LogLine) → IsKept c log → IsKept c (log ++ line ∷ [])
unfolding IsKept
kept_more c log line kept d h = kept d (fresh_before log line d h).0

kept_last : (log : List LogLine) (line : LogLine) → line.kind ≡ Conflict → IsKept line.lits (log ++ line ∷ [])
unfolding IsKept
kept_last log line kind d h =
    let last = subst (λ k. IsFresh (option_to_list (hinted k line.lits) ++ []) d) kind (fresh_before log line d h).1 in
    last.0

apart_codes : (n : ℕ) (c : List Literal) → IsChoice n c → (log gained : List LogLine) → IsKept c log → AllFresh log gained → AllByRecursion (λ m. eqb (code c n) m ≡ false) (map (λ d. code d n) (conflict_clauses gained))
unfolding IsKept
apart_codes n c h log [] kept f = tt
apart_codes n c h log (line ∷ gained) kept f = by_kind line.kind f.0 (apart_codes n c h (log ++ line ∷ []) gained (kept_more c log line kept) f.1)
  where
    by_kind : (kind : LineKind) → IsFreshOfKind kind log line.lits → AllByRecursion (λ m. eqb (code c n) m ≡ false) (map (λ d. code d n) (conflict_clauses gained)) → AllByRecursion (λ m. eqb (code c n) m ≡ false) (map (λ d. code d n) (option_to_list (learned kind line.lits) ++ conflict_clauses gained))
    by_kind Original f rest = rest
    by_kind Conflict f rest = (ne_eqb _ _ (λ e. kept line.lits f (same_code_within c line.lits n h e)), rest)
    by_kind Final f rest = rest

distinct_codes : (n : ℕ) (log gained : List LogLine) → AllByRecursion (IsChoice n) (conflict_clauses gained) → AllFresh log gained → IsDistinct eqb (map (λ d. code d n) (conflict_clauses gained))
unfolding IsDistinct
distinct_codes n log [] h f = tt
distinct_codes n log (line ∷ gained) h f = by_kind line.kind refl h (λ rest. distinct_codes n (log ++ line ∷ []) gained rest f.1)
  where
    by_kind : (kind : LineKind) → line.kind ≡ kind → AllByRecursion (IsChoice n) (option_to_list (learned kind line.lits) ++ conflict_clauses gained)
        → (AllByRecursion (IsChoice n) (conflict_clauses gained) → IsDistinct eqb (map (λ d. code d n) (conflict_clauses gained)))
        → IsDistinct eqb (map (λ d. code d n) (option_to_list (learned kind line.lits) ++ conflict_clauses gained))
    by_kind Original e h rest = rest h
    by_kind Conflict e h rest = (apart_codes n line.lits h.0 (log ++ line ∷ []) gained (kept_last log line e) f.1, rest h.1)
    by_kind Final e h rest = rest h

codes_below : (n : ℕ) (cs : List (List Literal)) (q : ℕ) → list_any (eqb q) (map (λ d. code d n) cs) ≡ true → q < 3 ^ n
codes_below n [] q e = cc
codes_below n (c ∷ cs) q e =
    ⊎_elim
    (λ same. let at : q ≡ code c n = eqb-true q (code c n) same in omega (arith, code_lt c n))
    (λ more. codes_below n cs q more)
    (or_cases _ _ e)

-- The conflict lines of a log are such clauses.

gained_lines : (start before gained : List LogLine) → AreLines start (before ++ gained) → AreLines (start ++ before) gained
gained_lines start [] gained h = subst (λ log. AreLines log gained) (sym (append-nil start)) h
gained_lines start (line ∷ before) gained h =
    subst (λ log. AreLines log gained) (append_assoc start (line ∷ []) before) (gained_lines (start ++ line ∷ []) before gained h.1)

in_range : (n : ℕ) (c : List Literal) → AreLiterals c → IsUpTo n c → AllByRecursion (λ l. (1 ≤ l.var) × (l.var ≤ n)) c
in_range n [] a u = tt
in_range n (l ∷ c) a u = ((a.0.0, u.0), in_range n c a.1 u.1)

lines_choices : (n : ℕ) (before gained : List LogLine) → AreLines before gained → AreUpTo n gained → AllByRecursion (IsChoice n) (conflict_clauses gained)
lines_choices n before [] h u = tt
lines_choices n before (line ∷ gained) h u =
    by_kind line.kind h.0.1 (in_range n line.lits h.0.0 u.0) (lines_choices n (before ++ line ∷ []) gained h.1 u.1)
  where
    by_kind : (kind : LineKind) → IsOfKind kind before line → AllByRecursion (λ l. (1 ≤ l.var) × (l.var ≤ n)) line.lits
        → AllByRecursion (IsChoice n) (conflict_clauses gained) → AllByRecursion (IsChoice n) (option_to_list (learned kind line.lits) ++ conflict_clauses gained)
    by_kind Original k r rest = rest
    by_kind Conflict k r rest = ((k.distinct, r), rest)
    by_kind Final k r rest = rest

-- A clause that stands before the gained lines is one choice more.

few_after : (n : ℕ) (c : List Literal) (before gained : List LogLine) → IsChoice n c → IsKept c before → AllByRecursion (IsChoice n) (conflict_clauses gained) → AllFresh before gained → length (conflict_clauses gained) < 3 ^ n
unfolding IsDistinct
few_after n c before gained h kept choices fresh =
    let codes : List ℕ = map (λ d. code d n) (conflict_clauses gained) in
    let distinct : IsDistinct eqb (code c n ∷ codes) = (apart_codes n c h before gained kept fresh, distinct_codes n before gained choices fresh) in
    let few : length (code c n ∷ codes) ≤ 3 ^ n = length-le_from_distinct_below (code c n ∷ codes) (3 ^ n) distinct (codes_below n (c ∷ conflict_clauses gained)) in
    let same : length codes ≡ length (conflict_clauses gained) = length-map (conflict_clauses gained) (λ d. code d n) in
    omega arith

kept_first : (c : List Literal) (cs : List (List Literal)) (log : List LogLine) → clauses log ≡ c ∷ cs → IsKept c log
unfolding IsKept
kept_first c cs log first d h = let all = subst (λ ds. IsFresh ds d) first h in all.0

-- the first clause of a log
first_choice : (n : ℕ) (start log : List LogLine) (c : List Literal) (cs : List (List Literal)) → AreLines start log → AreUpTo n log → clauses log ≡ c ∷ cs → IsChoice n c
first_choice n start [] c cs h u first = absurd cc
first_choice n start (line ∷ log) c cs h u first =
    by_kind line.kind h.0.1 (in_range n line.lits h.0.0 u.0) first (first_choice n (start ++ line ∷ []) log c cs h.1 u.1)
  where
    by_kind : (kind : LineKind) → IsOfKind kind start line → AllByRecursion (λ l. (1 ≤ l.var) × (l.var ≤ n)) line.lits
        → option_to_list (hinted kind line.lits) ++ clauses log ≡ c ∷ cs → (clauses log ≡ c ∷ cs → IsChoice n c) → IsChoice n c
    by_kind Original k r first rest = let same : line.lits ≡ c = cc in subst (IsChoice n) same (k.distinct, r)
    by_kind Conflict k r first rest = let same : line.lits ≡ c = cc in subst (IsChoice n) same (k.distinct, r)
    by_kind Final k r first rest = rest first

-- Without a clause no line is accepted.

none_hinted : (log : List LogLine) (k : ℕ) (c : List Literal) → clauses log ≡ [] → option_and_then (λ (line : LogLine). hinted line.kind line.lits) (slice_get log k) ≡ Some c → ⊥
none_hinted [] k c none e = absurd cc
none_hinted (line ∷ log) zero c none e = by_clause (hinted line.kind line.lits) none e
  where
    by_clause : (o : Option (List Literal)) → option_to_list o ++ clauses log ≡ [] → o ≡ Some c → ⊥
    by_clause None none e = absurd cc
    by_clause (Some d) none e = absurd cc
none_hinted (line ∷ log) (suc k) c none e = none_hinted log k c (by_clause (hinted line.kind line.lits) none) e
  where
    by_clause : (o : Option (List Literal)) → option_to_list o ++ clauses log ≡ [] → clauses log ≡ []
    by_clause None none = none
    by_clause (Some d) none = absurd cc

none_named : (log : List LogLine) (id : ℕ) (c : List Literal) → clauses log ≡ [] → clause_at log id ≡ Some c → ⊥
none_named log id c none e = by_zero (eqb id 0) e
  where
    by_zero : (b : Bool) → option_and_then (λ (line : LogLine). hinted line.kind line.lits) (cond b None (slice_get log (id - 1))) ≡ Some c → ⊥
    by_zero true e = absurd cc
    by_zero false e = none_hinted log (id - 1) c none e

none_refuted : (log : List LogLine) (set : List Literal) (hints : List ℕ) → clauses log ≡ [] → Refutes log set hints → ⊥
none_refuted log set [] none r = r
none_refuted log set (id ∷ []) none r = none_named log id r.0 none r.1
none_refuted log set (id ∷ next ∷ ids) none r = none_named log id r.0 none r.2

-- before the lines there is no clause, or one that is a choice and stays
abbrev HasChoice : ℕ → List LogLine → Type 0
HasChoice n before = (clauses before ≡ []) ⊎ ((c : List Literal) × IsChoice n c × IsKept c before)

kept_original : (log : List LogLine) (line : LogLine) → line.kind ≡ Original → IsKept line.lits (log ++ line ∷ [])
unfolding IsKept
kept_original log line kind d h =
    let last = subst (λ k. IsFresh (option_to_list (hinted k line.lits) ++ []) d) kind (fresh_before log line d h).1 in
    last.0

some_choice : (n : ℕ) → 0 < 3 ^ n
some_choice zero = omega arith
some_choice (suc n) = omega (arith, pow-suc 3 n, some_choice n)

few_lines : (n : ℕ) (before gained : List LogLine) → HasChoice n before → AreLines before gained → AreUpTo n gained → AllFresh before gained → length (conflict_clauses gained) < 3 ^ n
few_lines n before [] known lines up_to fresh = some_choice n
few_lines n before (line ∷ gained) (inr some) lines up_to fresh =
    few_after n some.0 before (line ∷ gained) some.1 some.2 (lines_choices n before (line ∷ gained) lines up_to) fresh
few_lines n before (line ∷ gained) (inl none) lines up_to fresh =
    by_kind line.kind refl lines.0.1 (λ known. few_lines n (before ++ line ∷ []) gained known lines.1 up_to.1 fresh.1)
  where
    by_kind : (kind : LineKind) → line.kind ≡ kind → IsOfKind kind before line → (HasChoice n (before ++ line ∷ []) → length (conflict_clauses gained) < 3 ^ n) → length (option_to_list (learned kind line.lits) ++ conflict_clauses gained) < 3 ^ n
    by_kind Original same k rest =
        rest (inr (line.lits, (k.distinct, in_range n line.lits lines.0.0 up_to.0), kept_original before line same))
    by_kind Conflict same k rest = absurd (none_refuted before (map negated line.lits) line.hints none k.refuted)
    by_kind Final same k rest =
        rest (inl (clauses-append before (line ∷ []) ∙ ap (λ (cs : List (List Literal)). cs ++ clauses (line ∷ [])) none ∙ ap (λ (kind : LineKind). option_to_list (hinted kind line.lits) ++ []) same))

-- Fresh conflict lines are fewer than the choices: a clause from which the first of them follows has a choice too.
pub few_fresh : (n : ℕ) (before gained : List LogLine) → IsLog (before ++ gained) → AreUpTo n (before ++ gained) → AllFresh before gained → length (conflict_clauses gained) < 3 ^ n
few_fresh n before gained log up_to fresh =
    let old_lines : AreLines [] before = lines_front [] before gained log.lines in
    few_lines n before gained (by_clauses (clauses before) refl old_lines) (gained_lines [] before gained log.lines) (All-back (λ line. IsUpTo n line.lits) before gained up_to) fresh
  where
    by_clauses : (cs : List (List Literal)) → clauses before ≡ cs → AreLines [] before → HasChoice n before
    by_clauses [] same lines = inl same
    by_clauses (c ∷ cs) same lines = inr (c, first_choice n [] before c cs lines (All-front (λ line. IsUpTo n line.lits) before gained up_to) same, kept_first c cs before same)
