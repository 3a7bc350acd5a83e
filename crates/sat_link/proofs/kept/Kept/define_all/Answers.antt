use Rattle.std.proofs.Common.{◌<◌, length, ap, ◌∙◌, arith}
use Rattle.std.proofs.lemmas.List.{length_push}
use Rattle.sat_link.proofs.Growing.{towards_next, towards_stopped, towards_start}
use Rattle.sat_link.proofs.kept.Kept.define_all.Goals as goal

pub loop-n-init : goal.loop-n-init
loop-n-init c = record {
  count = omega (arith, c.nodes-n.ensures.count);
  within = omega (arith, c.nodes-n.ensures.count, c.requires.longer);
  towards = towards_start c.args.g.now c.args.self.now c.requires;
  variables = omega (arith, c.nodes-n.ensures.count, c.nodes-n.ensures.kept.enough);
  kept = c.nodes-n.ensures.kept;
}

pub returns-in_err-define_next-clause-towards : goal.returns-in_err-define_next-clause-towards
returns-in_err-define_next-clause-towards c =
    towards_stopped c.args.g.now c.args.self.now c.loop-n.self c.define_next.new.self c.loop-n.invariant.towards c.in_err-define_next.ensures.err (omega (arith, c.define_next.ensures.no_fewer)) (omega (arith, c.loop-n.invariant.variables, c.loop-n.invariant.count, c.nodes-n-end.ensures.count, c.define_next.ensures.no_more)) c.define_next.ensures.log

pub loop-n-preserved : goal.loop-n-preserved
loop-n-preserved c =
    let g = c.args.g.now in
    let loop = c.loop-n.invariant in
    let below : c.loop-n.n < length g = omega (arith, c.nodes-n-end.ensures.count) in
    record {
      count = ap length c.in_ok-define_next.ensures.ok ∙ length_push c.loop-n.self.nodes c.node.result ∙ omega (arith, loop.count);
      within = omega arith;
      towards = towards_next g c.args.self.now c.loop-n.self c.define_next.new.self c.loop-n.n c.node.result loop.towards loop.count below c.node.ensures.node c.in_ok-define_next.ensures.ok c.in_ok-define_next.ensures.variables c.define_next.ensures.log;
      variables = omega (arith, loop.variables, loop.count, c.in_ok-define_next.ensures.variables, ap length c.in_ok-define_next.ensures.ok ∙ length_push c.loop-n.self.nodes c.node.result);
      kept = c.define_next.ensures.kept;
    }
