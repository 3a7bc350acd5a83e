use Rattle.std.proofs.Common.{arith, sym, ◌∙◌}
use Rattle.sat_log.proofs.MarkLemmas.{far_place, found_at, not_found}
use Rattle.sat_log.proofs.marks.place.Goals as goal

pub returns-in-Some : goal.returns-in-Some
returns-in-Some c =
    omega (arith, far_place c.args.room c.args.far.now.keys c.args.variable c.if-variable-room.false, found_at _ c.args.far.now.keys c.in-Some.behind (sym c.get_index_of.ensures.index ∙ c.in-Some.is))

pub returns-in-None : goal.returns-in-None
returns-in-None c =
    omega (arith, far_place c.args.room c.args.far.now.keys c.args.variable c.if-variable-room.false, not_found _ c.args.far.now.keys (sym c.get_index_of.ensures.index ∙ c.in-None.is))
