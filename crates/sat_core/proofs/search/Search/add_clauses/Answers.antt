use Rattle.std.proofs.Common.{◌≡◌, ◌++◌, List, map, ap, sym, subst, ◌∙◌, Result, Ok, Err, OnOk}
use Rattle.std.specs.Prelude.{OnErr}
use Rattle.std.specs.List.{AllByRecursion}
use Rattle.sat_log.specs.Checking.{IsUpTo}
use Rattle.sat_log.specs.Lines.{original}
use Rattle.sat_log.specs.declared.line.LogLine.{LogLine}
use Rattle.sat_trail.specs.Trail.{top}
use Rattle.sat_core.specs.Search.{Searched, KeepsSearch}
use Rattle.sat_core.specs.Attached.{KeepsAttached}
use Rattle.sat_core.proofs.Attaching.{attached_lines}
use Rattle.sat_core.proofs.Searches.{keeps_originals}
use Rattle.sat_core.proofs.search.Search.add_clauses.Goals as goal

by_result : {A E : Type 0} (P : List LogLine → Type 0) (r : Result A E) (old new more : List LogLine) → OnOk r (new ≡ old ++ more) → OnErr r (new ≡ old) → P old → P (old ++ more) → P new
by_result P (Ok x) old new more ok err p q = subst P (sym ok) q
by_result P (Err x) old new more ok err p q = subst P (sym err) p

pub invariant_of-self : goal.invariant_of-self
invariant_of-self c =
    let s = c.self.inside in
    let none = ap (λ (v : Searched). top v.entries) c.self.view_is ∙ c.requires.level in
    let up = subst (λ (v : Searched). AllByRecursion (IsUpTo v.variables) c.args.clauses.now) (sym c.self.view_is) c.requires.exist in
    by_result (λ log. KeepsSearch log s.trail s.analysis.state × KeepsAttached log s.trail s.propagation s.attached s.false_clause) c.add_originals.result s.log c.add_originals.new.self (map original c.args.clauses.now) c.add_originals.ensures.ok c.add_originals.ensures.err c.self.invariant (keeps_originals s.log s.trail s.analysis.state c.args.clauses.now c.self.invariant.0 none up, attached_lines s.log s.trail s.propagation s.attached s.false_clause (map original c.args.clauses.now) c.self.invariant.1)
