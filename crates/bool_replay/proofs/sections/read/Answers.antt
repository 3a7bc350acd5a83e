use Rattle.std.proofs.Common.{◌+◌, arith}
use Rattle.bool_replay.specs.SectionViews.{progress_of}
use Rattle.bool_replay.specs.TraceTexts.{add_lines, begun, content}
use Rattle.bool_replay.proofs.ReadingLemmas.{line_more}
use Rattle.bool_replay.proofs.sections.read.Goals as goal

pub loop-rest-preserved : goal.loop-rest-preserved
loop-rest-preserved c =
    let i = c.loop-rest.invariant in
    let all = add_lines c.args.names.now (content c.args.text.now) begun in
    let same = line_more c.args.names.now (c.loop-rest.number + 1) c.loop-rest.rest.now c.first_line.result.0.now c.first_line.result.1.now (progress_of c.loop-rest.reading) (progress_of c.in-Some.more) all c.first_line.ensures.lines i.same (rw c.in-Some.is at c.in_ok-more.ensures.progress) in
    let counted = rw c.in-Some.is at c.in_ok-more.ensures.count in
    let shorter = c.first_line.ensures.shorter in
    record { count = omega arith; fits = omega (arith, shorter, i.fits); same = same }
