use Rattle.std.proofs.Common.{◌≡◌, ℕ, ◌+◌, ◌≤◌, List, ◌∷◌, [], ◌++◌, length, get_or, ap, sym, subst, ◌∙◌}
use Rattle.std.proofs.lemmas.Bool.{eqb-true}
use Rattle.std.proofs.lemmas.List.{append_cancel_left}
use Rattle.std.specs.List.{AllByRecursion}
use Rattle.sat_log.specs.Literal.{Literal}
use Rattle.sat_log.specs.Accepted.{Accepts}
use Rattle.sat_log.specs.declared.line.LineKind.TheVariants.{Conflict}
use Rattle.sat_log.specs.declared.line.LogLine.{LogLine}
use Rattle.sat_watch.specs.Watched.{HasPlace}
use Rattle.sat_trail.specs.Trail.{Trailed, top, before}
use Rattle.sat_propagation.specs.Watching.{IsReady}
use Rattle.sat_core.specs.Attached.{KeepsAttached, WatchesTwo}
use Rattle.sat_core.specs.Search.{Searched, KeepsSearch, AskedFirst, AddsLearned, HasAsserted}
use Rattle.sat_core.proofs.Attaching.{all_places}
use Rattle.sat_core.proofs.Asserted.{kept_watches}
use Rattle.sat_core.proofs.Learned.{line_some, line_up_to, first_up_to, learned_unset, learned_keeps, learned_asserted, learned_asked, learned_clauses}
use Rattle.sat_core.proofs.Learning.{drawn_up_to, line_accepted, keeps_marks, adds_learned}
use Rattle.sat_core.proofs.search.Search.learn.Goals as goal
use Rattle.sat_core.proofs.search.Search.learn.Goals.{After-backjump}

-- the trail after the jump
jumped : (c : After-backjump) → c.backjump.new.trail.entries ≡ before (c.jump_level-level.result + 1) c.self.inside.trail.entries
jumped c = c.backjump.ensures.entries ∙ ap (λ (t : Trailed). before (c.jump_level-level.result + 1) t.entries) c.prefer.ensures

as_many : (c : After-backjump) → c.backjump.new.trail.variables ≡ c.self.inside.trail.variables
as_many c = c.backjump.ensures.variables ∙ ap (λ (t : Trailed). t.variables) c.prefer.ensures

pub jump_level-level-requires : goal.jump_level-level-requires
jump_level-level-requires c =
    let s = c.self.inside in
    drawn_up_to s.trail.variables s.log c.analyze.new.self.state c.self.invariant.0.exist c.analyze.ensures.state

pub watch_two-requires-clause-places : goal.watch_two-requires-clause-places
watch_two-requires-clause-places c =
    let s = c.self.inside in
    subst (AllByRecursion (HasPlace s.propagation.watched)) (sym c.as_slice-2.ensures)
    (all_places s.trail.variables s.propagation.watched c.in_ok-line.line.lits (line_up_to s.trail c.analyze.new.self.state c.in_ok-line.line c.in_ok-line.ensures s.log s.trail.variables c.self.invariant.0.exist c.analyze.ensures.state) c.self.invariant.1.ready.lists)

pub append-requires-clause-accepted : goal.append-requires-clause-accepted
append-requires-clause-accepted c =
    let s = c.self.inside in
    let above = subst (λ (v : Searched). 1 ≤ top v.entries) (sym c.self.view_is) c.requires.above in
    subst (Accepts s.log) (sym c.in_ok-line.ensures) (line_accepted s.log s.trail.entries c.analyze.new.self.state c.self.invariant.0.trail_is c.self.invariant.0.quiet above c.analyze.ensures.state Conflict)

pub invariant_of-self-in_err-watcher : goal.invariant_of-self-in_err-watcher
invariant_of-self-in_err-watcher c =
    let s = c.self.inside in
    (keeps_marks s.log s.trail s.analysis.state c.analyze.new.self.state c.self.invariant.0 c.analyze.ensures.state c.analyze.ensures.size, subst (λ p. KeepsAttached s.log s.trail p s.attached s.false_clause) (sym c.in_err-watcher.ensures.err) c.self.invariant.1)

pub invariant_of-self-in_err-id : goal.invariant_of-self-in_err-id
invariant_of-self-in_err-id c =
    let s = c.self.inside in
    let p = c.watch_two.new.propagation in
    let watches = subst (λ (l : List Literal). WatchesTwo s.propagation p l c.in_ok-watcher.watcher) c.as_slice-2.ensures c.in_ok-watcher.ensures.ok in
    subst (λ log. KeepsSearch log s.trail c.analyze.new.self.state × KeepsAttached log s.trail p s.attached s.false_clause) (sym c.in_err-id.ensures.err) (
      keeps_marks s.log s.trail s.analysis.state c.analyze.new.self.state c.self.invariant.0 c.analyze.ensures.state c.analyze.ensures.size,
      kept_watches s.log s.trail s.propagation p s.attached s.false_clause c.in_ok-line.line.lits c.in_ok-watcher.watcher watches c.self.invariant.1,
    )

pub imply-requires-clause-exists : goal.imply-requires-clause-exists
imply-requires-clause-exists c =
    let s = c.self.inside in
    let a = c.analyze.new.self.state in
    let line = c.in_ok-line.line in
    let l = c.index-as_slice-0.result in
    let first : l ≡ get_or line.lits 0 l = subst (λ (ls : List Literal). l ≡ get_or ls 0 l) c.as_slice.ensures c.index-as_slice-0.is in
    subst (λ (n : ℕ). l.var ≤ n) (sym (as_many (goal.at.imply-requires-clause-exists c).After-backjump))
    (first_up_to s.trail.variables line.lits l (line_some s.trail a line c.in_ok-line.ensures c.analyze.ensures.asserting) first (line_up_to s.trail a line c.in_ok-line.ensures s.log s.trail.variables c.self.invariant.0.exist c.analyze.ensures.state))

pub imply-requires-clause-unset : goal.imply-requires-clause-unset
imply-requires-clause-unset c =
    let s = c.self.inside in
    let line = c.in_ok-line.line in
    let l = c.index-as_slice-0.result in
    let first : l ≡ get_or line.lits 0 l = subst (λ (ls : List Literal). l ≡ get_or ls 0 l) c.as_slice.ensures c.index-as_slice-0.is in
    let above = subst (λ (v : Searched). 1 ≤ top v.entries) (sym c.self.view_is) c.requires.above in
    learned_unset s.log c.append.new.log s.trail c.backjump.new.trail s.analysis.state c.analyze.new.self.state c.jump_level-level.result c.in_ok-id.id line l
    c.self.invariant.0 above c.analyze.ensures.state c.analyze.ensures.asserting c.analyze.ensures.size c.in_ok-line.ensures c.jump_level-level.ensures first c.in_ok-id.ensures.ok c.in_ok-id.ensures.id (jumped (goal.at.imply-requires-clause-unset c).After-backjump) (as_many (goal.at.imply-requires-clause-unset c).After-backjump)

pub invariant_of-self-2 : goal.invariant_of-self-2
invariant_of-self-2 c =
    let s = c.self.inside in
    let line = c.in_ok-line.line in
    let l = c.index-as_slice-0.result in
    let p = c.watch_two.new.propagation in
    let log = c.append.new.log in
    let id = c.in_ok-id.id in
    let jump = c.jump_level-level.result in
    let a = c.analyze.new.self.state in
    let back = c.backjump.new.trail in
    let first : l ≡ get_or line.lits 0 l = subst (λ (ls : List Literal). l ≡ get_or ls 0 l) c.as_slice.ensures c.index-as_slice-0.is in
    let above = subst (λ (v : Searched). 1 ≤ top v.entries) (sym c.self.view_is) c.requires.above in
    let whole : s.attached ≡ length s.log = subst (λ (v : Searched). v.attached ≡ length v.log) (sym c.self.view_is) c.requires.attached in
    let watches = subst (λ (ls : List Literal). WatchesTwo s.propagation p ls c.in_ok-watcher.watcher) c.as_slice-2.ensures c.in_ok-watcher.ensures.ok in (
      learned_keeps s.log log s.trail back s.analysis.state a jump id line l c.self.invariant.0 above c.analyze.ensures.state c.analyze.ensures.asserting c.analyze.ensures.size c.in_ok-line.ensures c.jump_level-level.ensures first c.in_ok-id.ensures.ok c.in_ok-id.ensures.id (jumped (goal.at.invariant_of-self-2 c).After-backjump) (as_many (goal.at.invariant_of-self-2 c).After-backjump)
          c.imply.new.self c.imply.ensures.variables c.imply.ensures.entries,
      learned_clauses s.log log s.trail back s.analysis.state a jump id line l c.self.invariant.0 above c.analyze.ensures.state c.analyze.ensures.asserting c.analyze.ensures.size c.in_ok-line.ensures c.jump_level-level.ensures first c.in_ok-id.ensures.ok c.in_ok-id.ensures.id (jumped (goal.at.invariant_of-self-2 c).After-backjump) (as_many (goal.at.invariant_of-self-2 c).After-backjump)
          c.imply.new.self c.imply.ensures.variables c.imply.ensures.entries
          s.propagation p c.backjump.new.self c.serve.new.propagation s.attached s.false_clause c.in_ok-watcher.watcher c.self.invariant.1 whole watches c.backjump.ensures.watched c.backjump.ensures.lines (λ r. c.backjump.ensures.ready log (subst (λ (t : Trailed). IsReady log t p) (sym c.prefer.ensures) r)) _ (λ e. sym c.len-binary.ensures ∙ eqb-true c.len-binary.result 2 e) c.serve.ensures,
    )

pub returns-clause-ok : goal.returns-clause-ok
returns-clause-ok c =
    let s = c.self.inside in
    let above = subst (λ (v : Searched). 1 ≤ top v.entries) (sym c.self.view_is) c.requires.above in
    let grown = c.in_ok-id.ensures.ok ∙ ap (λ (line : LogLine). s.log ++ line ∷ []) c.in_ok-line.ensures in
    subst (λ (v : Searched). AddsLearned v.log c.append.new.log) c.self.view_is (subst (AddsLearned s.log) (sym grown) (adds_learned s.log s.trail.entries c.analyze.new.self.state c.self.invariant.0.trail_is c.self.invariant.0.quiet above c.analyze.ensures.state c.analyze.ensures.asserting))

pub returns-clause-asked : goal.returns-clause-asked
returns-clause-asked c want asked =
    let s = c.self.inside in
    let line = c.in_ok-line.line in
    let l = c.index-as_slice-0.result in
    let first : l ≡ get_or line.lits 0 l = subst (λ (ls : List Literal). l ≡ get_or ls 0 l) c.as_slice.ensures c.index-as_slice-0.is in
    let above = subst (λ (v : Searched). 1 ≤ top v.entries) (sym c.self.view_is) c.requires.above in
    learned_asked s.log c.append.new.log s.trail c.backjump.new.trail s.analysis.state c.analyze.new.self.state c.jump_level-level.result c.in_ok-id.id line l
    c.self.invariant.0 above c.analyze.ensures.state c.analyze.ensures.asserting c.analyze.ensures.size c.in_ok-line.ensures c.jump_level-level.ensures first c.in_ok-id.ensures.ok c.in_ok-id.ensures.id (jumped (goal.at.returns-clause-asked c).After-backjump) (as_many (goal.at.returns-clause-asked c).After-backjump)
    c.imply.new.self c.imply.ensures.variables c.imply.ensures.entries want (subst (λ (v : Searched). AskedFirst want v.entries) (sym c.self.view_is) asked)

pub returns-clause-jump : goal.returns-clause-jump
returns-clause-jump c other same =
    let s = c.self.inside in
    let line = c.in_ok-line.line in
    let l = c.index-as_slice-0.result in
    let first : l ≡ get_or line.lits 0 l = subst (λ (ls : List Literal). l ≡ get_or ls 0 l) c.as_slice.ensures c.index-as_slice-0.is in
    let above = subst (λ (v : Searched). 1 ≤ top v.entries) (sym c.self.view_is) c.requires.above in
    let grown : s.log ++ other ∷ [] ≡ s.log ++ line ∷ [] = ap (λ (v : Searched). v.log ++ other ∷ []) c.self.view_is ∙ sym same ∙ c.in_ok-id.ensures.ok in
    let lines : other ∷ [] ≡ line ∷ [] = append_cancel_left s.log (other ∷ []) (line ∷ []) grown in
    let one : other ≡ line = cc in
    subst (λ (x : LogLine). HasAsserted c.imply.new.self.entries x.lits (length c.append.new.log)) (sym one)
    (subst (HasAsserted c.imply.new.self.entries line.lits) c.in_ok-id.ensures.id
    (learned_asserted s.log c.append.new.log s.trail c.backjump.new.trail s.analysis.state c.analyze.new.self.state c.jump_level-level.result c.in_ok-id.id line l
    c.self.invariant.0 above c.analyze.ensures.state c.analyze.ensures.asserting c.analyze.ensures.size c.in_ok-line.ensures c.jump_level-level.ensures first c.in_ok-id.ensures.ok c.in_ok-id.ensures.id (jumped (goal.at.returns-clause-jump c).After-backjump) (as_many (goal.at.returns-clause-jump c).After-backjump)
    c.imply.new.self c.imply.ensures.variables c.imply.ensures.entries))
