use Rattle.std.proofs.Common.{◌≡◌, List, sym, subst, ◌∙◌, refl}
use Rattle.sat_log.specs.Accepted.{IsLog}
use Rattle.sat_log.specs.Clauses.{clauses}
use Rattle.sat_log.specs.Checking.{AreUpTo}
use Rattle.sat_log.specs.declared.line.LogLine.{LogLine}
use Rattle.sat_trail.specs.Trail.{literals, AreAllSet}
use Rattle.sat_trail.specs.Units.{AreQuiet}
use Rattle.sat_core.specs.Search.{AreAmong, AskedFirst}
use Rattle.sat_trail.specs.declared.trail.Entry.{Entry}
use Rattle.sat_core.proofs.Steps.{solution}
use Rattle.sat_core.proofs.search.Search.step.Goals as goal

pub returns-in_err-refute-in-Some-clause-asked : goal.returns-in_err-refute-in-Some-clause-asked
returns-in_err-refute-in-Some-clause-asked c = subst (AskedFirst c.args.want.now) (sym c.refute.ensures.entries) (c.propagate.ensures.asked c.args.want.now c.requires.asked)

pub returns-in_err-learn-in-Some-2-clause-asked : goal.returns-in_err-learn-in-Some-2-clause-asked
returns-in_err-learn-in-Some-2-clause-asked c = c.learn.ensures.asked c.args.want.now (c.propagate.ensures.asked c.args.want.now c.requires.asked)

pub decide-requires-clause-asked : goal.decide-requires-clause-asked
decide-requires-clause-asked c = c.propagate.ensures.asked c.args.want.now c.requires.asked

pub returns-in_ok-refute-in-Some-clause-asked : goal.returns-in_ok-refute-in-Some-clause-asked
returns-in_ok-refute-in-Some-clause-asked c = subst (AskedFirst c.args.want.now) (sym c.refute.ensures.entries) (c.propagate.ensures.asked c.args.want.now c.requires.asked)

pub returns-in_ok-learn-in-Some-2-clause-asked : goal.returns-in_ok-learn-in-Some-2-clause-asked
returns-in_ok-learn-in-Some-2-clause-asked c = c.learn.ensures.asked c.args.want.now (c.propagate.ensures.asked c.args.want.now c.requires.asked)

pub returns-in_ok-values-in-Complete-clause-step : goal.returns-in_ok-values-in-Complete-clause-step
returns-in_ok-values-in-Complete-clause-step c =
    let new = c.decide.new.self in
    let bits = c.in_ok-values-in-Complete.field-0 in
    let entries : new.entries ≡ c.propagate.new.self.entries = c.in-Complete.ensures.same (λ e. cc) in
    let log : new.log ≡ c.propagate.new.self.log = c.decide.ensures.log in
    let is_log = subst IsLog (sym log) c.propagate.ensures.is_log in
    let exist = subst (λ (l : List LogLine). AreUpTo new.variables l) (sym log) (subst (λ n. AreUpTo n c.propagate.new.self.log) (sym c.decide.ensures.variables) c.propagate.ensures.exist) in
    let quiet = subst (λ (l : List LogLine). AreQuiet (literals new.entries) (clauses l)) (sym log) (subst (λ (es : List Entry). AreQuiet (literals es) (clauses c.propagate.new.self.log)) (sym entries) c.in-None.ensures.quiet) in
    let all = subst (λ n. AreAllSet n (literals new.entries)) (sym c.decide.ensures.variables) (subst (λ (es : List Entry). AreAllSet c.propagate.new.self.variables (literals es)) (sym entries) (c.in-Complete.ensures.complete refl)) in
    let wanted = subst (λ (es : List Entry). AreAmong (literals es) c.args.want.now) (sym entries) c.in-Complete.ensures.decided in
    (log ∙ c.propagate.ensures.log, solution new.variables new.log c.args.want.now new.entries bits is_log exist quiet all wanted c.in_ok-values-in-Complete.ensures.one_each c.in_ok-values-in-Complete.ensures.true_)
