-- What a visit of an entry leaves.
use Rattle.std.proofs.Common.{◌≡◌, ℕ, ◌+◌, ◌-◌, ◌≤◌, Bool, true, false, cond, eqb, ◌&&◌, inl, inr, List, [], ◌∷◌, ◌++◌, length, take, set, refl, ap, sym, subst, ◌∙◌, arith}
use Rattle.std.specs.Prelude.{Option, None, Some}
use Rattle.std.specs.List.{AllByRecursion}
use Rattle.std.proofs.lemmas.List.{take-append-drop, length-drop, set-get_or}
use Rattle.sat_log.specs.Literal.{Literal, negated}
use Rattle.sat_log.specs.Clause.{Among}
use Rattle.sat_log.specs.Accepted.{IsLog}
use Rattle.sat_log.specs.declared.line.LogLine.{LogLine}
use Rattle.sat_log.proofs.ListLemmas.{All-back}
use Rattle.sat_trail.specs.Trail.{literals, bottom}
use Rattle.sat_trail.specs.Units.{HasCause, IsTrail, IsReason}
use Rattle.sat_analysis.specs.Analysis.{Analyzed, is_marked, IsMarked, marked_at, MarksOthers, AreFalseIn, IsAnalysis}
use Rattle.sat_trail.proofs.Logs.{named_distinct}
use Rattle.sat_trail.proofs.Trails.{consistent}
use Rattle.sat_analysis.proofs.Walks.{step_skip, step_keep, step_resolve}
use Rattle.sat_trail.proofs.Levels.{trail_distinct, trail_back, among_below}
use Rattle.sat_trail.specs.declared.trail.Entry.{Entry}

pub parts_of : (entries : List Entry) (i : ℕ) (e : Entry) → bottom (i + 1) entries ≡ e ∷ bottom i entries → entries ≡ take (length entries - (i + 1)) entries ++ e ∷ bottom i entries
parts_of entries i e h =
    sym (take-append-drop (length entries - (i + 1)) entries) ∙ ap (λ (back : List Entry). take (length entries - (i + 1)) entries ++ back) h

pub bottom_length : (entries : List Entry) (i : ℕ) → i ≤ length entries → length (bottom i entries) ≡ i
bottom_length entries i h = omega (arith, length-drop (length entries - i) entries)

pub marked_at_most : (level : ℕ) (seen : List Bool) (entries : List Entry) → marked_at level seen entries ≤ length entries
marked_at_most level seen [] = omega arith
marked_at_most level seen (e ∷ entries) =
    let rest = marked_at_most level seen entries in
    let one = at_most_one (eqb e.level level && is_marked seen e.literal.var) in
    omega arith
  where
    at_most_one : (b : Bool) → cond {A = ℕ} b 1 0 ≤ 1
    at_most_one true = omega arith
    at_most_one false = omega arith

-- a state by its parts
pub analyzed_is : (x : Analyzed) (lits : List Literal) (hints : List ℕ) → x.lits ≡ lits → x.hints ≡ hints → x ≡ record { seen = x.seen; lits = lits; hints = hints }
analyzed_is x lits hints l h =
    ap (λ (ls : List Literal). record { seen = x.seen; lits = ls; hints = x.hints }) l ∙ ap (λ (hs : List ℕ). record { seen = x.seen; lits = lits; hints = hs }) h

-- a state without the mark of a variable
pub unmarked_at : (x a : Analyzed) (v w : ℕ) → x ≡ record { seen = set a.seen v false; lits = a.lits; hints = a.hints } → v ≡ w → x ≡ record { seen = set a.seen w false; lits = a.lits; hints = a.hints }
unmarked_at x a v w e same = e ∙ ap (λ (u : ℕ). record { seen = set a.seen u false; lits = a.lits; hints = a.hints }) same

-- An entry in its trail.
module _ (log : List LogLine) (entries : List Entry) (i : ℕ) (e : Entry) (t : IsTrail log entries) (here : bottom (i + 1) entries ≡ e ∷ bottom i entries) where
  pub trail_at : IsTrail log (e ∷ bottom i entries)
  trail_at =
      trail_back log (take (length entries - (i + 1)) entries) (e ∷ bottom i entries) (subst (IsTrail log) (parts_of entries i e here) t)

  pub in_whole : (l : Literal) → Among (literals (e ∷ bottom i entries)) l → Among (literals entries) l
  in_whole l m =
      subst (λ (es : List Entry). Among (literals es) l) (sym (parts_of entries i e here)) (among_below (take (length entries - (i + 1)) entries) (e ∷ bottom i entries) l m)

  -- the clause by which it was implied
  pub reason_at : (id : ℕ) → e.reason ≡ Some id → IsReason log (literals (bottom i entries)) id e.literal
  reason_at id same = by_reason e.reason trail_at.0.cause same
    where
      by_reason : (reason : Option ℕ) → HasCause log (bottom i entries) e.literal e.level reason → reason ≡ Some id → IsReason log (literals (bottom i entries)) id e.literal
      by_reason None c n = absurd cc
      by_reason (Some j) c n =
          let index : j ≡ id = cc in
          subst (λ (k : ℕ). IsReason log (literals (bottom i entries)) k e.literal) index c.1

  pub others_false_at : (id : ℕ) (r : IsReason log (literals (bottom i entries)) id e.literal) → AreFalseIn (literals entries) r.clause (literals (bottom i entries))
  others_false_at id r l stands other =
      r.implies.others_false l stands (λ same. other (subst (Among (literals entries)) (sym same) (in_whole e.literal (inl refl))))

  -- what holds of each entry holds of this one
  pub All-at_entry : (P : Entry → Type 0) → AllByRecursion P entries → P e
  All-at_entry P h = (All-back P (take (length entries - (i + 1)) entries) (e ∷ bottom i entries) (subst (AllByRecursion P) (parts_of entries i e here) h)).0

module _ (log : List LogLine) (entries : List Entry) (i : ℕ) (e : Entry) (a : Analyzed) (is_log : IsLog log) (t : IsTrail log entries) (here : bottom (i + 1) entries ≡ e ∷ bottom i entries) (state : IsAnalysis log (bottom (i + 1) entries) a) where
  pub tail_trail : IsTrail log (e ∷ bottom i entries)
  tail_trail = trail_at log entries i e t here

  state_here : IsAnalysis log (e ∷ bottom i entries) a
  state_here = subst (λ (rest : List Entry). IsAnalysis log rest a) here state

  pub visit_skip : is_marked a.seen e.literal.var ≡ false → IsAnalysis log (bottom i entries) (record { seen = set a.seen e.literal.var false; lits = a.lits; hints = a.hints })
  visit_skip unmarked =
      let same : set a.seen e.literal.var false ≡ a.seen = ap (set a.seen e.literal.var) (sym unmarked) ∙ set-get_or a.seen e.literal.var false in
      subst (λ (seen : List Bool). IsAnalysis log (bottom i entries) (record { seen = seen; lits = a.lits; hints = a.hints })) (sym same) (step_skip log e (bottom i entries) a state_here unmarked)

  pub visit_keep : IsMarked a.seen e.literal.var → IsAnalysis log (bottom i entries) (record { seen = set a.seen e.literal.var false; lits = a.lits ++ negated e.literal ∷ []; hints = a.hints })
  visit_keep marked = step_keep log e (bottom i entries) a state_here tail_trail.0.fresh marked

  pub visit_resolve : (id : ℕ) (seen : List Bool) (r : IsReason log (literals (bottom i entries)) id e.literal) → IsMarked a.seen e.literal.var → length seen ≡ length a.seen → MarksOthers (literals entries) r.clause (set a.seen e.literal.var false) seen → IsAnalysis log (bottom i entries) (record { seen = seen; lits = a.lits; hints = id ∷ a.hints })
  visit_resolve id seen r marked size marks =
      step_resolve log e (bottom i entries) a (literals entries) r.clause id seen r.named (named_distinct log id r.clause is_log r.named) (trail_distinct log (bottom i entries) tail_trail.1) tail_trail.0.fresh r.implies (in_whole log entries i e t here e.literal (inl refl)) (λ k m true_. consistent (literals entries) (trail_distinct log entries t) k true_ (in_whole log entries i e t here (negated k) (inr m))) marks state_here marked size
