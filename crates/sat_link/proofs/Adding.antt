-- Originals are added to a log.
use Rattle.std.proofs.Common.{◌≡◌, ◌≤◌, suc, List, [], ◌∷◌, ◌++◌, length, map, refl, sym, ap, subst, ◌∙◌, append_assoc, arith}
use Rattle.std.specs.Prelude.{option_to_list}
use Rattle.std.specs.List.{AllByRecursion}
use Rattle.std.proofs.lemmas.List.{append-nil}
use Rattle.sat_log.specs.Literal.{Literal}
use Rattle.sat_log.proofs.ListLemmas.{All-append}
use Rattle.sat_log.proofs.LogLemmas.{log_push}
use Rattle.sat_log.specs.Clause.{AreLiterals}
use Rattle.sat_log.specs.Accepted.{given, originals, IsLog}
use Rattle.sat_log.specs.Lines.{original, AreProper}
use Rattle.sat_log.specs.declared.line.LineKind.{LineKind}
use Rattle.sat_log.specs.declared.line.LineKind.TheVariants.{Original, Conflict, Final}
use Rattle.sat_log.specs.declared.line.LogLine.{LogLine}
use Rattle.sat_link.specs.Contents.{AddsOriginals}

-- The originals of a log that grows.

pub originals-append : (log lines : List LogLine) → originals (log ++ lines) ≡ originals log ++ originals lines
originals-append [] lines = refl
originals-append (line ∷ log) lines =
    ap (λ cs. option_to_list (given line.kind line.lits) ++ cs) (originals-append log lines) ∙ sym (append_assoc (option_to_list (given line.kind line.lits)) (originals log) (originals lines))

-- originals that were added are just those clauses
originals-original : (cs : List (List Literal)) → originals (map original cs) ≡ cs
originals-original [] = refl
originals-original (c ∷ cs) = ap (λ ds. c ∷ ds) (originals-original cs)

pub originals-added : (log : List LogLine) (cs : List (List Literal)) → originals (log ++ map original cs) ≡ originals log ++ cs
originals-added log cs = originals-append log (map original cs) ∙ ap (λ ds. originals log ++ ds) (originals-original cs)

-- proper clauses may be added to a log
pub log-added : (log : List LogLine) (cs : List (List Literal)) → IsLog log → AreProper cs → AllByRecursion AreLiterals cs → IsLog (log ++ map original cs)
log-added log [] h proper literals = subst IsLog (sym (append-nil log)) h
log-added log (c ∷ cs) h proper literals =
    let next : IsLog (log ++ original c ∷ []) = log_push log (original c) h (literals.0, record { nonempty = proper.0.0; distinct = proper.0.1; unhinted = refl }) in
    subst IsLog (append_assoc log (original c ∷ []) (map original cs)) (log-added (log ++ original c ∷ []) cs next proper.1 literals.1)

pub AddsOriginals-refl : (log : List LogLine) → AddsOriginals log log
AddsOriginals-refl log = record { added = []; longer = sym (append-nil log); all_originals = tt }

pub AddsOriginals-trans : (a b c : List LogLine) → AddsOriginals a b → AddsOriginals b c → AddsOriginals a c
AddsOriginals-trans a b c first second = record {
  added = first.added ++ second.added;
  longer = second.longer ∙ ap (λ ls. ls ++ second.added) first.longer ∙ append_assoc a first.added second.added;
  all_originals = All-append (λ line. line.kind ≡ Original) first.added second.added first.all_originals second.all_originals;
}

-- they are no more than the lines
pub originals-le : (log : List LogLine) → length (originals log) ≤ length log
originals-le [] = omega arith
originals-le (line ∷ log) = by line.kind (originals-le log)
  where
    by : (kind : LineKind) → length (originals log) ≤ length log → length (option_to_list (given kind line.lits) ++ originals log) ≤ suc (length log)
    by Original h = omega (arith, h)
    by Conflict h = omega (arith, h)
    by Final h = omega (arith, h)
