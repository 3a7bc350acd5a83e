use Rattle.std.proofs.Common.{rules, arith, inl}
use Rattle.cmd_table.proofs.Reading.{leads-more, wrong-right, wrong-only, over-right, over-only}
use Rattle.cmd_table.proofs.read.read_words.Goals as goal

pub returns-in_err-at-clause-right : goal.returns-in_err-at-clause-right
returns-in_err-at-clause-right c =
    wrong-right c.args.opts.now c.args.most c.args.raw c.args.words.now c.split_at.result.1.now c.loop-at.at c.index-words-at.result c.loop-at.given c.in_err-at.field-0.0 c.from_residual-in_err-at.result c.loop-at-test.true c.index-words-at.is c.split_at.ensures.back (search rules) c.in_err-at.ensures.next c.loop-at.invariant.2

pub returns-in_err-at-clause-only : goal.returns-in_err-at-clause-only
returns-in_err-at-clause-only c =
    wrong-only c.args.opts.now c.args.most c.args.raw c.args.words.now c.split_at.result.1.now c.loop-at.at c.index-words-at.result c.loop-at.given c.in_err-at.field-0.0 c.from_residual-in_err-at.result c.loop-at-test.true c.index-words-at.is c.split_at.ensures.back (search rules) c.in_err-at.ensures.next c.loop-at.invariant.2

pub loop-at-preserved : goal.loop-at-preserved
loop-at-preserved c = (
  omega (arith, c.in_ok-at.ensures.next.1),
  c.in_ok-at.ensures.places,
  leads-more c.args.opts.now c.args.most c.args.raw c.args.words.now c.split_at.result.1.now c.loop-at.at c.in_ok-at.field-0 c.index-words-at.result c.loop-at.given c.read_next.new.given c.loop-at-test.true c.index-words-at.is c.split_at.ensures.back c.in_ok-at.ensures.next.0 c.loop-at.invariant.2,
)

pub returns-clause-right : goal.returns-clause-right
returns-clause-right c =
    inl (over-right c.args.opts.now c.args.most c.args.raw c.args.words.now c.loop-at.at c.loop-at.given c.loop-at-test.false c.loop-at.invariant.2)

pub returns-clause-only : goal.returns-clause-only
returns-clause-only c =
    over-only c.args.opts.now c.args.most c.args.raw c.args.words.now c.loop-at.at c.loop-at.given c.loop-at-test.false c.loop-at.invariant.2
