use Rattle.std.proofs.Common.{◌≡◌, ◌<◌, ◌+◌, max, ◌^◌, ◌++◌, length, map, ap, ◌∙◌, arith}
use Rattle.sat_log.specs.Lines.{original}
use Rattle.sat_link.specs.Encoding.{clauses_of}
use Rattle.sat_link.specs.Contents.{KeepsClauses}
use Rattle.sat_link.proofs.Keeping.{keeps_defined}
use Rattle.sat_link.proofs.kept.Kept.define_next.Goals as goal

kept : (c : goal.After-unwrap) → KeepsClauses c.push.new.self.items c.define.new.solver
kept c =
    let k = c.self.inside in
    let stands = rw (← c.self.view_is) at c.requires in
    let pushed = rw c.unwrap.ensures at c.push.ensures.items in
    let count : c.len-n.result ≡ length k.nodes.items = omega (arith, ap length c.in_ok-reserve.ensures.items, c.reserve.new.self.ok.0) in
    let fits : length k.nodes.items + 1 < 2 ^ 63 = omega (arith, k.nodes.ok.0) in
    let variables : c.define.new.solver.variables ≡ max k.solver.variables (length k.nodes.items + 1) = omega (arith, c.in_ok-define.ensures.variables) in
    let added = c.in_ok-define.ensures.ok ∙ ap (λ n. k.solver.log ++ map original (clauses_of n c.args.node)) count in
    keeps_defined k.nodes.items c.push.new.self.items c.args.node k.solver c.define.new.solver c.self.invariant stands fits
    (rw c.in_ok-reserve.ensures.items at pushed) variables added

pub invariant_of-self-2 : goal.invariant_of-self-2
invariant_of-self-2 c = kept c

pub returns-clause-kept : goal.returns-clause-kept
returns-clause-kept c = let k = kept c in record { enough = k.variables; spare = k.spare; is_log = k.is_log; clauses = k.clauses }
