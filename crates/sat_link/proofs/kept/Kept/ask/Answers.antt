use Rattle.std.proofs.Common.{◌≤◌, length, ap, sym, subst, ◌∙◌, Ok}
use Rattle.std.specs.declared.alloc.AllocError.{AllocError}
use Rattle.sat_log.specs.Clause.{HasDistinctVariables}
use Rattle.sat_log.specs.Checking.{IsUpTo}
use Rattle.sat_log.specs.Accepted.{originals}
use Rattle.sat_core.specs.Assignment.{HasNoSolution as HasNoAssignment}
use Rattle.sat_core.specs.Gains.{Gains, outcome as outcome_found, OutOfMemory}
use Rattle.sat_link.specs.Encoding.{all_encoded, definitions}
use Rattle.sat_link.specs.Definitional.{IsWhole}
use Rattle.sat_link.specs.Answers.{HasNoSolution}
use Rattle.sat_link.proofs.Growing.{defined_definitional, searched_definitional}
use Rattle.sat_link.proofs.Gaining.{gains_after, gains_only}
use Rattle.sat_link.proofs.Answering.{distinct_encoded, up_to_encoded, whole_originals, no_solution, valued, yes_told, no_told, gains_told, gains_stopped, if_ok}
use Rattle.sat_link.proofs.kept.Kept.ask.Goals as goal

-- Memory was refused before the search.

pub returns-in_err-define_all-clause-gains : goal.returns-in_err-define_all-clause-gains
returns-in_err-define_all-clause-gains c =
    let new = c.define_all.new.self in
    gains_stopped new.variables c.args.budget (all_encoded c.args.want.now) c.args.self.now.log new.log _ c.from_residual.result c.from_residual.ensures.1
    (gains_only new.variables c.args.budget (all_encoded c.args.want.now) c.args.self.now.log new.log c.define_all.ensures.towards.log c.define_all.ensures.kept.is_log)

pub returns-in_err-define_all-clause-definitional : goal.returns-in_err-define_all-clause-definitional
returns-in_err-define_all-clause-definitional c = defined_definitional c.define_all.new.self c.args.g.now c.define_all.ensures.kept c.define_all.ensures.towards.prefix

pub returns-in_err-want-clause-gains : goal.returns-in_err-want-clause-gains
returns-in_err-want-clause-gains c =
    let new = c.define_all.new.self in
    gains_stopped new.variables c.args.budget (all_encoded c.args.want.now) c.args.self.now.log new.log _ c.from_residual-in_err-want.result c.from_residual-in_err-want.ensures.1
    (gains_only new.variables c.args.budget (all_encoded c.args.want.now) c.args.self.now.log new.log c.define_all.ensures.towards.log c.define_all.ensures.kept.is_log)

pub returns-in_err-want-clause-definitional : goal.returns-in_err-want-clause-definitional
returns-in_err-want-clause-definitional c = defined_definitional c.define_all.new.self c.args.g.now c.define_all.ensures.kept c.define_all.ensures.towards.prefix

-- What is wanted, over variables.

pub search-requires-clause-distinct : goal.search-requires-clause-distinct
search-requires-clause-distinct c = subst HasDistinctVariables (sym c.in_ok-want.ensures) (distinct_encoded c.args.want.now c.requires.distinct)

pub search-requires-clause-exist : goal.search-requires-clause-exist
search-requires-clause-exist c =
    subst (IsUpTo (length c.define_all.new.self.nodes)) (sym c.in_ok-want.ensures)
    (up_to_encoded (length c.define_all.new.self.nodes) c.args.want.now (rw c.in_ok-define_all.ensures.nodes c.requires.exist))

-- After the search.

pub returns-in_err-found-clause-gains : goal.returns-in_err-found-clause-gains
returns-in_err-found-clause-gains c =
    let new = c.search.new.self in
    let mid = c.define_all.new.self in
    gains_stopped new.variables c.args.budget (all_encoded c.args.want.now) c.args.self.now.log new.log _ c.from_residual-in_err-found.result c.from_residual-in_err-found.ensures.1
    (gains_after new.variables c.args.budget (all_encoded c.args.want.now) c.args.self.now.log mid.log new.log OutOfMemory c.define_all.ensures.towards.log
    (subst (λ want. Gains new.variables c.args.budget want mid.log new.log OutOfMemory) c.in_ok-want.ensures c.in_err-found.ensures.gains))

pub returns-in_err-found-clause-definitional : goal.returns-in_err-found-clause-definitional
returns-in_err-found-clause-definitional c = searched_definitional c.define_all.new.self c.search.new.self c.args.g.now c.search.ensures.kept c.search.ensures.nodes c.define_all.ensures.towards.prefix

pub answer-requires : goal.answer-requires
answer-requires c =
    let new = c.search.new.self in
    let all = c.in_ok-define_all.ensures.nodes in
    let enough = subst (λ ns. length ns ≤ new.variables) (c.search.ensures.nodes ∙ all) c.search.ensures.kept.enough in
    valued c.args.g.now new.log c.in_ok-want.want new.variables c.in_ok-found.found (whole_originals c.args.g.now c.search.new.self.log c.define_all.ensures.well_formed (c.search.ensures.kept.clauses ∙ ap definitions (c.search.ensures.nodes ∙ c.in_ok-define_all.ensures.nodes))) enough c.in_ok-found.ensures.yes

pub returns-clause-yes : goal.returns-clause-yes
returns-clause-yes c =
    let new = c.search.new.self in
    yes_told c.args.g.now new.log c.args.want.now c.in_ok-want.want new.variables c.in_ok-found.found c.answer.result c.requires.exist c.in_ok-want.ensures c.answer.ensures c.in_ok-found.ensures.yes

pub returns-clause-refuted : goal.returns-clause-refuted
returns-clause-refuted c =
    let log = c.search.new.self.log in
    no_told c.args.g.now c.in_ok-found.found c.answer.result (HasNoAssignment log c.in_ok-want.want) (HasNoSolution c.args.g.now c.args.want.now)
    (λ none. no_solution c.args.g.now log c.args.want.now (searched_definitional c.define_all.new.self c.search.new.self c.args.g.now c.search.ensures.kept c.search.ensures.nodes c.define_all.ensures.towards.prefix) (subst (HasNoAssignment log) c.in_ok-want.ensures none)) c.answer.ensures c.in_ok-found.ensures.refuted

pub returns-clause-gains : goal.returns-clause-gains
returns-clause-gains c =
    let new = c.search.new.self in
    let mid = c.define_all.new.self in
    let end = outcome_found {E = AllocError} (Ok c.in_ok-found.found) in
    gains_told c.args.g.now new.variables c.args.budget (all_encoded c.args.want.now) c.args.self.now.log new.log c.in_ok-found.found c.answer.result c.answer.ensures
    (gains_after new.variables c.args.budget (all_encoded c.args.want.now) c.args.self.now.log mid.log new.log end c.define_all.ensures.towards.log
    (subst (λ want. Gains new.variables c.args.budget want mid.log new.log end) c.in_ok-want.ensures c.in_ok-found.ensures.gains))

pub returns-clause-definitional : goal.returns-clause-definitional
returns-clause-definitional c = searched_definitional c.define_all.new.self c.search.new.self c.args.g.now c.search.ensures.kept c.search.ensures.nodes c.define_all.ensures.towards.prefix

pub returns-clause-whole : goal.returns-clause-whole
returns-clause-whole c =
    if_ok c.answer.result (IsWhole c.args.g.now (originals c.search.new.self.log)) (whole_originals c.args.g.now c.search.new.self.log c.define_all.ensures.well_formed (c.search.ensures.kept.clauses ∙ ap definitions (c.search.ensures.nodes ∙ c.in_ok-define_all.ensures.nodes)))
