use Rattle.std.proofs.Common.{ℕ, List, sym, subst, rules, arith}
use Rattle.shell_lang.specs.Grouped.{GoesOn}
use Rattle.shell_lang.proofs.Splitting.{goes_on-none, goes_on-further, over_right, over_only, failed_right, failed_only}
use Rattle.shell_lang.proofs.split.split_line.Goals as goal

pub loop-builder-init : goal.loop-builder-init
loop-builder-init c = (
  omega arith,
  subst (λ (b : List ℕ). GoesOn c.args.line.now c.new-builder.result b) (sym c.as_slice-bytes.ensures) (goes_on-none c.args.line.now c.new-builder.result c.new-builder.ensures),
)

pub returns-in_err-mark-clause-right : goal.returns-in_err-mark-clause-right
returns-in_err-mark-clause-right c =
    failed_right c.args.line.now c.loop-builder.builder c.split_at.result.1.now c.in_err-mark.field-0.0 c.from_residual.result (search rules) c.in_err-mark.ensures (rw c.split_at.ensures.back c.loop-builder.invariant.1)

pub returns-in_err-mark-clause-only : goal.returns-in_err-mark-clause-only
returns-in_err-mark-clause-only c =
    failed_only c.args.line.now c.loop-builder.builder c.split_at.result.1.now c.in_err-mark.field-0.0 c.from_residual.result (search rules) c.in_err-mark.ensures (rw c.split_at.ensures.back c.loop-builder.invariant.1)

pub loop-builder-preserved : goal.loop-builder-preserved
loop-builder-preserved c =
    let first = rw c.in-Some.is at c.in_ok-mark.ensures in
    (omega (arith, first.0.1), goes_on-further c.args.line.now c.as_slice-bytes.result.now c.split_at.result.1.now c.loop-builder.at c.in-Some.len c.loop-builder.builder c.add.new.self c.in-Some.mark c.split_at.ensures.back first.0 c.in_ok-add-in-Some.ensures c.loop-builder.invariant.1)

pub returns-in-None-clause-right : goal.returns-in-None-clause-right
returns-in-None-clause-right c =
    over_right c.args.line.now c.loop-builder.builder c.split_at.result.1.now c.in_ok-finish-in-None.field-0 (rw c.in-None.is at c.in_ok-mark.ensures) (rw c.split_at.ensures.back c.loop-builder.invariant.1) c.in_ok-finish-in-None.ensures

pub returns-in-None-clause-only : goal.returns-in-None-clause-only
returns-in-None-clause-only c =
    over_only c.args.line.now c.loop-builder.builder c.split_at.result.1.now c.in_ok-finish-in-None.field-0 (rw c.in-None.is at c.in_ok-mark.ensures) (rw c.split_at.ensures.back c.loop-builder.invariant.1) c.in_ok-finish-in-None.ensures
