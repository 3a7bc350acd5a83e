-- A solver between two questions.
use Rattle.std.proofs.Common.{◌≡◌, List, [], ◌∷◌, ◌++◌, length, map, refl, sym, subst, append_assoc}
use Rattle.std.specs.Prelude.{Result, Ok, Err, OnOk, OnErr}
use Rattle.std.proofs.lemmas.List.{append-nil, drop_at}
use Rattle.sat_log.specs.Literal.{Literal}
use Rattle.sat_log.specs.Lines.{original}
use Rattle.sat_log.specs.Learned.{AllFresh}
use Rattle.sat_log.specs.declared.line.LogLine.{LogLine}
use Rattle.sat_core.specs.Gained.{gained, IsLonger, IsNeededAndDrawn, AreLearned}
use Rattle.sat_core.specs.Search.{Searched, IsAtRest}

-- lines that were learned over some, and more lines that were over both
pub learned_append : (before lines more : List LogLine) → AreLearned before lines → AreLearned (before ++ lines) more → AreLearned before (lines ++ more)
learned_append before [] more h k = subst (λ b. AreLearned b more) (append-nil before) k
learned_append before (x ∷ lines) more h k =
    (h.0, learned_append (before ++ x ∷ []) lines more h.1 (subst (λ b. AreLearned b more) (sym (append_assoc before (x ∷ []) lines)) k))

original_learned : (before : List LogLine) (c : List Literal) → IsNeededAndDrawn before (original c)
original_learned before c = record { needed = (λ e. absurd cc); drawn = (λ e. absurd cc) }

-- of originals nothing is asked
pub originals_learned : (before : List LogLine) (cs : List (List Literal)) → AreLearned before (map original cs)
originals_learned before [] = tt
originals_learned before (c ∷ cs) = (original_learned before c, originals_learned (before ++ original c ∷ []) cs)

-- some originals more, or none
pub rest_added : {A E : Type 0} (r : Result A E) (old new : Searched) (cs : List (List Literal))
    → OnOk r (new ≡ record { variables = old.variables; log = old.log ++ map original cs; entries = old.entries; attached = old.attached; looked = old.looked }) → OnErr r (new ≡ old) → IsAtRest old → IsAtRest new
rest_added (Ok x) old new cs ok err h =
    subst IsAtRest (sym ok) (record { level = h.level; learned = learned_append [] old.log (map original cs) h.learned (originals_learned old.log cs) })
rest_added (Err x) old new cs ok err h = subst IsAtRest (sym err) h

-- what a search learned more
pub learned_longer : (old new : List LogLine) → AreLearned [] old → IsLonger old new → AreLearned old (gained old new) → AreLearned [] new
learned_longer old new h longer l =
    subst (AreLearned []) (sym longer) (learned_append [] old (gained old new) h l)

-- all of a log is gained from nothing
gained_all : (log : List LogLine) → gained [] log ≡ log
gained_all log = drop_at [] log (length {A = LogLine} []) refl

pub all_fresh_from : ((old new : List LogLine) → AreLearned old (gained old new) → AllFresh old (gained old new)) → (log : List LogLine) → AreLearned [] log → AllFresh [] log
all_fresh_from fresh log h =
    subst (AllFresh []) (gained_all log) (fresh [] log (subst (AreLearned []) (sym (gained_all log)) h))
