-- What a log gains where originals are added before a search.
use Rattle.std.proofs.Common.{◌≡◌, ◌≢◌, ◌<◌, ◌^◌, ℕ, zero, suc, List, [], ◌∷◌, ◌++◌, length, drop, refl, sym, ap, subst, ◌∙◌, append_assoc, length-append, arith}
use Rattle.std.proofs.Math.Nat.{pow-suc}
use Rattle.std.specs.Prelude.{option_to_list}
use Rattle.std.specs.List.{AllByRecursion}
use Rattle.std.proofs.Math.Seq.{drop-append_seam}
use Rattle.std.proofs.lemmas.List.{append-nil}
use Rattle.sat_log.specs.Literal.{Literal}
use Rattle.sat_log.specs.Accepted.{IsLog}
use Rattle.sat_log.specs.Learned.{IsFreshOfKind, AllFresh, learned, conflict_clauses}
use Rattle.sat_log.specs.declared.line.LineKind.{LineKind}
use Rattle.sat_log.specs.declared.line.LineKind.TheVariants.{Original, Conflict, Final}
use Rattle.sat_log.specs.declared.line.LogLine.{LogLine}
use Rattle.sat_core.specs.Gained.{gained, IsLonger, conflicts, HasNoFinal, IsNeededAndDrawn, AreLearned, IsRefusal}
use Rattle.sat_core.specs.Gains.{Outcome, Satisfied, Refuted, OutOfBudget, OutOfMemory, EndsAs, Gains}
use Rattle.sat_core.specs.Verdicts.{IsBelow, IsWithin}
use Rattle.sat_core.specs.declared.budget.Budget.{Budget}
use Rattle.sat_core.proofs.Runs.{gained_none, within_none}
use Rattle.sat_link.specs.Contents.{AddsOriginals}

original_not : (k other : LineKind) → k ≡ Original → Original ≢ other → k ≢ other
original_not k other e apart e' = apart (sym e ∙ e')

original_apart : Original ≢ Conflict
original_apart e = cc

original_apart' : Original ≢ Final
original_apart' e = cc

-- originals are gained first, and then what the search gains
gained_after : (old mid new : List LogLine) (adds : AddsOriginals old mid) → IsLonger mid new → gained old new ≡ adds.added ++ gained mid new
gained_after old mid new adds longer =
    ap (drop (length old)) (longer ∙ ap (λ ls. ls ++ gained mid new) adds.longer ∙ append_assoc old adds.added (gained mid new))
    ∙ drop-append_seam old (adds.added ++ gained mid new)

learned_original : (before : List LogLine) (line : LogLine) → line.kind ≡ Original → IsNeededAndDrawn before line
learned_original before line e = record {
  needed = λ conflict. absurd (original_not line.kind Conflict e original_apart conflict);
  drawn = λ conflict. absurd (original_not line.kind Conflict e original_apart conflict);
}

are_learned : (before added more : List LogLine) → AllByRecursion (λ line. line.kind ≡ Original) added → AreLearned (before ++ added) more → AreLearned before (added ++ more)
are_learned before [] more h l = subst (λ ls. AreLearned ls more) (append-nil before) l
are_learned before (line ∷ added) more h l =
    (learned_original before line h.0, are_learned (before ++ line ∷ []) added more h.1 (subst (λ ls. AreLearned ls more) (sym (append_assoc before (line ∷ []) added)) l))

learned_after : (old mid new : List LogLine) → AddsOriginals old mid → IsLonger mid new → AreLearned mid (gained mid new) → AreLearned old (gained old new)
learned_after old mid new adds longer l =
    subst (AreLearned old) (sym (gained_after old mid new adds longer))
    (are_learned old adds.added (gained mid new) adds.all_originals (subst (λ ls. AreLearned ls (gained mid new)) adds.longer l))

are_fresh : (before added more : List LogLine) → AllByRecursion (λ line. line.kind ≡ Original) added → AllFresh (before ++ added) more → AllFresh before (added ++ more)
are_fresh before [] more h f = subst (λ ls. AllFresh ls more) (append-nil before) f
are_fresh before (line ∷ added) more h f =
    (subst (λ k. IsFreshOfKind k before line.lits) (sym h.0) tt, are_fresh (before ++ line ∷ []) added more h.1 (subst (λ ls. AllFresh ls more) (sym (append_assoc before (line ∷ []) added)) f))

fresh_after : (old mid new : List LogLine) → AddsOriginals old mid → IsLonger mid new → AllFresh mid (gained mid new) → AllFresh old (gained old new)
fresh_after old mid new adds longer f =
    subst (AllFresh old) (sym (gained_after old mid new adds longer))
    (are_fresh old adds.added (gained mid new) adds.all_originals (subst (λ ls. AllFresh ls (gained mid new)) adds.longer f))

longer_after : (old mid new : List LogLine) → AddsOriginals old mid → IsLonger mid new → IsLonger old new
longer_after old mid new adds longer =
    longer ∙ ap (λ ls. ls ++ gained mid new) adds.longer ∙ append_assoc old adds.added (gained mid new)
    ∙ ap (λ ls. old ++ ls) (sym (gained_after old mid new adds longer))

no_conflicts : (added more : List LogLine) → AllByRecursion (λ line. line.kind ≡ Original) added → conflicts (added ++ more) ≡ conflicts more
no_conflicts [] more h = refl
no_conflicts (line ∷ added) more h =
    ap (λ k. length (option_to_list (learned k line.lits) ++ conflict_clauses (added ++ more))) h.0 ∙ no_conflicts added more h.1

conflicts_after : (old mid new : List LogLine) → AddsOriginals old mid → IsLonger mid new → conflicts (gained mid new) ≡ conflicts (gained old new)
conflicts_after old mid new adds longer =
    sym (ap conflicts (gained_after old mid new adds longer) ∙ no_conflicts adds.added (gained mid new) adds.all_originals)

no_final : (added more : List LogLine) → AllByRecursion (λ line. line.kind ≡ Original) added → HasNoFinal more → HasNoFinal (added ++ more)
no_final [] more h n = n
no_final (line ∷ added) more h n = (original_not line.kind Final h.0 original_apart', no_final added more h.1 n)

no_final_after : (old mid new : List LogLine) → AddsOriginals old mid → IsLonger mid new → HasNoFinal (gained mid new) → HasNoFinal (gained old new)
no_final_after old mid new adds longer n =
    subst HasNoFinal (sym (gained_after old mid new adds longer)) (no_final adds.added (gained mid new) adds.all_originals n)

-- What a search ends with, it ends with after originals.

refusal_after : (old mid new : List LogLine) (want : List Literal) (id : ℕ) → AddsOriginals old mid → IsLonger mid new → IsRefusal mid new want id → IsRefusal old new want id
refusal_after old mid new want id adds longer r = record {
  line = r.line;
  stands = r.stands;
  last = r.last;
  is_gained = omega (arith, r.is_gained, ap length adds.longer, length-append old adds.added);
  final = r.final;
  literals = r.literals;
  others = adds.added ++ r.others;
  gained_are = gained_after old mid new adds longer ∙ ap (λ ls. adds.added ++ ls) r.gained_are ∙ sym (append_assoc adds.added r.others (r.line ∷ []));
  no_other = no_final adds.added r.others adds.all_originals r.no_other;
}

ends_after : (budget : Budget) (want : List Literal) (old mid new : List LogLine) (end : Outcome) → AddsOriginals old mid → IsLonger mid new → EndsAs budget want mid new end → EndsAs budget want old new end
ends_after budget want old mid new Satisfied adds longer h =
    (no_final_after old mid new adds longer h.0, subst (IsBelow budget) (conflicts_after old mid new adds longer) h.1)
ends_after budget want old mid new (Refuted id) adds longer h =
    (refusal_after old mid new want id adds longer h.0, subst (IsBelow budget) (conflicts_after old mid new adds longer) h.1)
ends_after budget want old mid new (OutOfBudget n) adds longer h =
    (no_final_after old mid new adds longer h.0, h.1, sym (conflicts_after old mid new adds longer) ∙ h.2)
ends_after budget want old mid new OutOfMemory adds longer h =
    (no_final_after old mid new adds longer h.0, subst (IsWithin budget) (conflicts_after old mid new adds longer) h.1)

pub gains_after : (variables : ℕ) (budget : Budget) (want : List Literal) (old mid new : List LogLine) (end : Outcome) → AddsOriginals old mid → Gains variables budget want mid new end → Gains variables budget want old new end
gains_after variables budget want old mid new end adds g = record {
  longer = longer_after old mid new adds g.longer;
  is_log = g.is_log;
  learned = learned_after old mid new adds g.longer g.learned;
  fresh = fresh_after old mid new adds g.longer g.fresh;
  few = subst (λ n. n < 3 ^ variables) (conflicts_after old mid new adds g.longer) g.few;
  ends = ends_after budget want old mid new end adds g.longer g.ends;
}

-- Memory was refused before the search.

power_positive : (n : ℕ) → 0 < 3 ^ n
power_positive zero = omega arith
power_positive (suc n) = omega (arith, pow-suc 3 n, power_positive n)

gains_none : (variables : ℕ) (budget : Budget) (want : List Literal) (log : List LogLine) → IsLog log → Gains variables budget want log log OutOfMemory
gains_none variables budget want log h =
    let none = sym (gained_none log) in
    record {
      longer = sym (append-nil log) ∙ ap (λ ls. log ++ ls) none;
      is_log = h;
      learned = subst (AreLearned log) none tt;
      fresh = subst (AllFresh log) none tt;
      few = subst (λ ls. conflicts ls < 3 ^ variables) none (power_positive variables);
      ends = (subst HasNoFinal none tt, subst (λ ls. IsWithin budget (conflicts ls)) none (within_none budget));
    }

pub gains_only : (variables : ℕ) (budget : Budget) (want : List Literal) (old mid : List LogLine) → AddsOriginals old mid → IsLog mid → Gains variables budget want old mid OutOfMemory
gains_only variables budget want old mid adds h =
    gains_after variables budget want old mid mid OutOfMemory adds (gains_none variables budget want mid h)
