use Rattle.std.proofs.Common.{◌≡◌, ◌<◌, ◌≤◌, length, get_or, subst, sym, ◌∙◌, arith, reverse}
use Rattle.std.proofs.lemmas.List.{get_or_default}
use Rattle.sat_trail.specs.Trail.{Trailed, IsPosition}
use Rattle.sat_trail.proofs.Trails.{positions_of}
use Rattle.sat_trail.proofs.trail.Trail.position.Goals as goal

pub returns : goal.returns
returns c =
    let t = c.self.inside in
    let exists : c.args.var ≤ t.variables = subst (λ (v : Trailed). c.args.var ≤ v.variables) (sym c.self.view_is) c.requires in
    let size = c.self.invariant.positions_size in
    let inside : c.args.var < length t.positions.items = omega arith in
    let read : c.index.result.now ≡ get_or t.positions.items c.args.var 0 =
    c.index.ensures ∙ get_or_default t.positions.items c.args.var c.index.result.now 0 inside in
    subst (λ (v : Trailed). IsPosition c.args.var c.index.result.now v.entries) c.self.view_is (positions_of t.levels.items t.reasons.items t.positions.items (reverse t.trail.items) c.args.var c.index.result.now read c.self.invariant.positioned)
