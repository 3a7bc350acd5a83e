use Rattle.std.proofs.Common.{◌≡◌, ◌<◌, ◌-◌, ◌^◌, List, length, refl, ap, sym, subst, ◌∙◌, arith}
use Rattle.std.proofs.lemmas.Bool.{iff_false}
use Rattle.sat_log.specs.declared.line.LogLine.{LogLine}
use Rattle.sat_log.specs.Accepted.{IsLog}
use Rattle.sat_log.specs.Checking.{AreUpTo}
use Rattle.sat_core.specs.Gained.{gained, conflicts, HasNoOriginal}
use Rattle.sat_core.specs.Gains.{Satisfied, OutOfBudget, OutOfMemory, Gains}
use Rattle.sat_core.specs.Verdicts.{IsBelow, IsWithin}
use Rattle.sat_core.specs.Search.{AddsFinal, StepsTo}
use Rattle.sat_core.specs.declared.search.Step.{Step}
use Rattle.sat_core.proofs.Runs.{HasLearned, learned_none, within_none, left, all_conflicts, gained_length, none_original, refuted_by, final_no_original, goes_on, step_gains, step_left, step_within, gains_learned, has_no_final, gains_final, longer_push, final_learned, outcome_err, is_spent}
use Rattle.sat_core.proofs.search.Search.run.Goals as goal
use Rattle.sat_core.proofs.search.Search.run.Goals.{In-No, In-Yes, After-attach}

-- the final line
refused : (c : In-No) → (c.in-No.id ≡ length c.step-step.new.self.log) × AddsFinal c.args.want.now c.loop-budget.self.log c.step-step.new.self.log
refused c = subst (λ (s : Step). StepsTo c.args.want.now c.loop-budget.self c.step-step.new.self s) c.in-No.is c.in_ok-step.ensures.step

pub returns-in-No-clause-refuted : goal.returns-in-No-clause-refuted
returns-in-No-clause-refuted c =
    let a = (refused (goal.at.returns-in-No-clause-refuted c).In-No).1 in
    refuted_by c.loop-budget.self.log c.step-step.new.self.log c.args.want.now (c.final_line_refutes.ensures c.args.want.now c.loop-budget.self.log a.line c.loop-budget.invariant.is_log a.accepted a.literals_are) a

pub returns-in-No-clause-gains : goal.returns-in-No-clause-gains
returns-in-No-clause-gains c =
    let r = refused (goal.at.returns-in-No-clause-gains c).In-No in
    let h = c.loop-budget.invariant.gains in
    let start = c.args.self.now.log in
    let new = c.step-step.new.self in
    let n = new.variables in
    let longer = longer_push start c.loop-budget.self.log new.log r.1.line h.longer r.1.same in
    let learned = final_learned start c.loop-budget.self.log new.log c.args.want.now h r.1 in
    let fresh = c.learned_lines_are_fresh.ensures start new.log learned in
    let few = c.learned_lines_are_few.ensures n start new.log c.lines-lines.ensures.log c.lines-lines.ensures.exist longer learned in
    gains_final n c.args.budget c.args.want.now start c.loop-budget.self.log new.log c.in-No.id h r.0 r.1 c.lines-lines.ensures.log fresh few (subst (IsBelow c.args.budget) c.loop-budget.invariant.count (c.allows.ensures.0 c.loop-budget-test.true))

pub returns-in-No-clause-no_original : goal.returns-in-No-clause-no_original
returns-in-No-clause-no_original c =
    final_no_original c.args.self.now.log c.loop-budget.self.log c.step-step.new.self.log c.args.want.now c.loop-budget.invariant.gains (refused (goal.at.returns-in-No-clause-no_original c).In-No).1

-- what a log of learned lines gained
pub returns-clause-gains : goal.returns-clause-gains
returns-clause-gains c =
    let h = c.loop-budget.invariant.gains in
    let start = c.args.self.now.log in
    let new = c.loop-budget.self in
    let n = new.variables in
    let fresh = c.learned_lines_are_fresh.ensures start new.log h.learned_is in
    let few = c.learned_lines_are_few.ensures n start new.log c.loop-budget.invariant.is_log c.loop-budget.invariant.exist h.longer h.learned_is in
    let all = is_spent c.args.budget c.loop-budget.learned c.loop-budget.invariant.within (λ below. iff_false c.allows.ensures c.loop-budget-test.false below) in
    gains_learned n c.args.budget c.args.want.now start new.log new.log (OutOfBudget c.loop-budget.learned) refl h c.loop-budget.invariant.is_log fresh few (has_no_final n c.args.budget c.args.want.now start new.log new.log refl h, all, sym c.loop-budget.invariant.count)

pub returns-in_err-step-clause-gains : goal.returns-in_err-step-clause-gains
returns-in_err-step-clause-gains c =
    let same = c.in_err-step.ensures.err in
    let h = c.loop-budget.invariant.gains in
    let start = c.args.self.now.log in
    let new = c.step-step.new.self in
    let n = new.variables in
    let learned = subst (HasLearned start) (sym same) h in
    let fresh = c.learned_lines_are_fresh.ensures start new.log learned.learned_is in
    let few = c.learned_lines_are_few.ensures n start new.log c.lines-lines.ensures.log c.lines-lines.ensures.exist learned.longer learned.learned_is in
    let within = subst (IsWithin c.args.budget) (c.loop-budget.invariant.count ∙ ap (λ (l : List LogLine). conflicts (gained start l)) (sym same)) c.loop-budget.invariant.within in
    outcome_err (Gains n c.args.budget c.args.want.now start new.log) c.from_residual-in_err-step.result c.from_residual-in_err-step.ensures.0 (gains_learned n c.args.budget c.args.want.now start c.loop-budget.self.log new.log OutOfMemory same h c.lines-lines.ensures.log fresh few (has_no_final n c.args.budget c.args.want.now start c.loop-budget.self.log new.log same h, within))

pub returns-clause-no_original : goal.returns-clause-no_original
returns-clause-no_original c = none_original (gained c.args.self.now.log c.loop-budget.self.log) c.loop-budget.invariant.gains.conflict

pub returns-in_err-step-clause-no_original : goal.returns-in_err-step-clause-no_original
returns-in_err-step-clause-no_original c =
    subst (λ (l : List LogLine). HasNoOriginal (gained c.args.self.now.log l)) (sym c.in_err-step.ensures.err) (none_original (gained c.args.self.now.log c.loop-budget.self.log) c.loop-budget.invariant.gains.conflict)

-- the log at an answer under which all is true
same_log : (c : In-Yes) → c.step-step.new.self.log ≡ c.loop-budget.self.log
same_log c = (subst (λ (s : Step). StepsTo c.args.want.now c.loop-budget.self c.step-step.new.self s) c.in-Yes.is c.in_ok-step.ensures.step).0

pub returns-in-Yes-clause-no_original : goal.returns-in-Yes-clause-no_original
returns-in-Yes-clause-no_original c =
    subst (λ (l : List LogLine). HasNoOriginal (gained c.args.self.now.log l)) (sym (same_log (goal.at.returns-in-Yes-clause-no_original c).In-Yes)) (none_original (gained c.args.self.now.log c.loop-budget.self.log) c.loop-budget.invariant.gains.conflict)

pub returns-in-Yes-clause-gains : goal.returns-in-Yes-clause-gains
returns-in-Yes-clause-gains c =
    let same = same_log (goal.at.returns-in-Yes-clause-gains c).In-Yes in
    let h = c.loop-budget.invariant.gains in
    let start = c.args.self.now.log in
    let new = c.step-step.new.self in
    let n = new.variables in
    let learned = subst (HasLearned start) (sym same) h in
    let fresh = c.learned_lines_are_fresh.ensures start new.log learned.learned_is in
    let few = c.learned_lines_are_few.ensures n start new.log c.lines-lines.ensures.log c.lines-lines.ensures.exist learned.longer learned.learned_is in
    let below = subst (IsBelow c.args.budget) c.loop-budget.invariant.count (c.allows.ensures.0 c.loop-budget-test.true) in
    gains_learned n c.args.budget c.args.want.now start c.loop-budget.self.log new.log Satisfied same h c.lines-lines.ensures.log fresh few (has_no_final n c.args.budget c.args.want.now start c.loop-budget.self.log new.log same h, subst (λ (l : List LogLine). IsBelow c.args.budget (conflicts (gained start l))) (sym same) below)

pub loop-budget-preserved : goal.loop-budget-preserved
loop-budget-preserved c =
    let h = step_gains c.args.self.now.log c.args.want.now c.loop-budget.self c.step-step.new.self c.in_ok-step.field-0 c.in-Learned.is c.loop-budget.invariant.gains c.in_ok-step.ensures.step in
    let start = c.args.self.now.log in
    let new = c.step-step.new.self.log in
    let count : c.lines-lines.result - c.lines-start.result ≡ conflicts (gained start new) =
    omega (arith, c.lines-lines.ensures.count, c.lines-start.ensures.count, ap length c.reset.ensures.log, all_conflicts (gained start new) h.conflict, gained_length start new h.longer) in
    let below = subst (IsBelow c.args.budget) c.loop-budget.invariant.count (c.allows.ensures.0 c.loop-budget-test.true) in
    record {
      gains = h;
      count = count;
      within = subst (IsWithin c.args.budget) (sym count) (step_within start c.args.want.now c.loop-budget.self c.step-step.new.self c.in_ok-step.field-0 c.args.budget c.in-Learned.is c.loop-budget.invariant.gains c.in_ok-step.ensures.step below);
      asked = c.step-step.ensures.asked;
      is_log = c.lines-lines.ensures.log;
      exist = c.lines-lines.ensures.exist;
      variables = c.step-step.ensures.variables ∙ c.loop-budget.invariant.variables;
      may = goes_on c.args.want.now c.step-step.new.asked c.step-step.new.self c.in_ok-step.field-0 c.in-Learned.is c.in_ok-step.ensures.goes_on;
    }

pub loop-budget-smaller : goal.loop-budget-smaller
loop-budget-smaller c =
    let h = step_gains c.args.self.now.log c.args.want.now c.loop-budget.self c.step-step.new.self c.in_ok-step.field-0 c.in-Learned.is c.loop-budget.invariant.gains c.in_ok-step.ensures.step in
    let start = c.args.self.now.log in
    let new = c.step-step.new.self in
    let same : new.variables ≡ c.args.self.now.variables = c.step-step.ensures.variables ∙ c.loop-budget.invariant.variables in
    let few = c.learned_lines_are_few.ensures new.variables start new.log c.lines-lines.ensures.log c.lines-lines.ensures.exist h.longer h.learned_is in
    let less = step_left start c.args.want.now c.loop-budget.self new c.in_ok-step.field-0 (3 ^ new.variables) c.in-Learned.is c.loop-budget.invariant.gains c.in_ok-step.ensures.step (omega (arith, few)) in
    subst (λ n. left (3 ^ n) (conflicts (gained start new.log)) n (length new.entries) < left (3 ^ n) (conflicts (gained start c.loop-budget.self.log)) n (length c.loop-budget.self.entries)) same less

-- the log after the call that attaches is the one before the question
start_is : (c : After-attach) → c.attach.new.self.log ≡ c.args.self.now.log
start_is c = c.attach.ensures.log ∙ c.reset.ensures.log

pub loop-budget-init : goal.loop-budget-init
loop-budget-init c =
    let start = c.args.self.now.log in
    let same = start_is (goal.at.loop-budget-init c).After-attach in
    let h = subst (HasLearned start) (sym same) (learned_none start) in
    let none : 0 ≡ conflicts (gained start c.attach.new.self.log) =
    sym (all_conflicts (gained start c.attach.new.self.log) h.conflict ∙ gained_length start c.attach.new.self.log h.longer ∙ omega (arith, ap length same)) in
    record {
      gains = h;
      count = none;
      within = within_none c.args.budget;
      asked = c.attach.ensures.asked c.args.want.now (c.reset.ensures.asked c.args.want.now);
      is_log = subst IsLog (sym c.attach.ensures.log) c.lines-start.ensures.log;
      exist = rw (c.attach.ensures.log, c.attach.ensures.variables) c.lines-start.ensures.exist;
      variables = c.attach.ensures.variables ∙ c.reset.ensures.variables;
      may = (c.in_ok-attach.ensures.ok, tt);
    }

pub returns-in_err-attach-clause-no_original : goal.returns-in_err-attach-clause-no_original
returns-in_err-attach-clause-no_original c =
    let start = c.args.self.now.log in
    let same = start_is (goal.at.returns-in_err-attach-clause-no_original c).After-attach in
    subst (λ (l : List LogLine). HasNoOriginal (gained start l)) (sym same) (none_original (gained start start) (learned_none start).conflict)

pub returns-in_err-attach-clause-gains : goal.returns-in_err-attach-clause-gains
returns-in_err-attach-clause-gains c =
    let start = c.args.self.now.log in
    let same = start_is (goal.at.returns-in_err-attach-clause-gains c).After-attach in
    let new = c.attach.new.self in
    let n = new.variables in
    let learned = learned_none start in
    let is_log = subst IsLog (sym c.attach.ensures.log) c.lines-start.ensures.log in
    let exist : AreUpTo n new.log = rw (c.attach.ensures.log, c.attach.ensures.variables) c.lines-start.ensures.exist in
    let h = subst (HasLearned start) (sym same) learned in
    let fresh = c.learned_lines_are_fresh.ensures start new.log h.learned_is in
    let few = c.learned_lines_are_few.ensures n start new.log is_log exist h.longer h.learned_is in
    let none : 0 ≡ conflicts (gained start start) = sym (all_conflicts (gained start start) learned.conflict ∙ gained_length start start learned.longer ∙ omega arith) in
    let within = subst (IsWithin c.args.budget) (none ∙ ap (λ (l : List LogLine). conflicts (gained start l)) (sym same)) (within_none c.args.budget) in
    outcome_err (Gains n c.args.budget c.args.want.now start new.log) c.from_residual.result c.from_residual.ensures.0 (gains_learned n c.args.budget c.args.want.now start start new.log OutOfMemory same learned is_log fresh few (has_no_final n c.args.budget c.args.want.now start start new.log same learned, within))
