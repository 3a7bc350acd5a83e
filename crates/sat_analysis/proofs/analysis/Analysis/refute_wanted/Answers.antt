use Rattle.std.proofs.Common.{◌≡◌, ◌≢◌, inl, ap, sym, subst, ◌∙◌, refl}
use Rattle.std.specs.Prelude.{None}
use Rattle.sat_log.specs.Literal.{negated}
use Rattle.sat_log.specs.Clause.{Among}
use Rattle.sat_log.proofs.LiteralLemmas.{negated-negated}
use Rattle.sat_analysis.proofs.Awaited.{position_at}
use Rattle.sat_analysis.proofs.Visits.{trail_at, in_whole, reason_at, All-at_entry}
use Rattle.sat_analysis.proofs.analysis.Analysis.refute_wanted.Goals as goal
use Rattle.sat_analysis.proofs.analysis.Analysis.refute_wanted.Goals.{After-entry-entry}

pub entry-entry-requires : goal.entry-entry-requires
entry-entry-requires c =
    (position_at c.var.result c.position-position.result c.args.trail.now.entries (negated c.args.wanted) c.position-position.ensures c.requires.false_ (sym c.var.ensures.value)).0

pub refute_from-requires-clause-implied : goal.refute_from-requires-clause-implied
refute_from-requires-clause-implied c =
    reason_at c.args.log.now c.args.trail.now.entries c.position-position.result c.entry-entry.result c.requires.trail c.entry-entry.ensures.entry c.in-Some.reason c.in-Some.is

pub refute_from-requires-clause-true_ : goal.refute_from-requires-clause-true_
refute_from-requires-clause-true_ c =
    in_whole c.args.log.now c.args.trail.now.entries c.position-position.result c.entry-entry.result c.requires.trail c.entry-entry.ensures.entry c.entry-entry.result.literal (inl refl)

pub refute_from-requires-clause-apart : goal.refute_from-requires-clause-apart
refute_from-requires-clause-apart c =
    (trail_at c.args.log.now c.args.trail.now.entries c.position-position.result c.entry-entry.result c.requires.trail c.entry-entry.ensures.entry).0.fresh

-- the entry that was found is that of the negation
found : (c : After-entry-entry) → c.entry-entry.result.literal ≡ negated c.args.wanted
found c =
    (position_at c.var.result c.position-position.result c.args.trail.now.entries (negated c.args.wanted) c.position-position.ensures c.requires.false_ (sym c.var.ensures.value)).1 c.entry-entry.result c.entry-entry.ensures.entry

pub returns-in-Some-clause-kept : goal.returns-in-Some-clause-kept
returns-in-Some-clause-kept c want decided m =
    let same = found (goal.at.returns-in-Some-clause-kept c).After-entry-entry in
    c.refute_from.ensures.kept want decided (subst (Among want) (sym (ap negated same ∙ negated-negated c.args.wanted)) m)

impossible : (c : After-entry-entry) → c.entry-entry.result.reason ≡ None → ⊥
impossible c decided =
    All-at_entry c.args.log.now c.args.trail.now.entries c.position-position.result c.entry-entry.result c.requires.trail c.entry-entry.ensures.entry (λ e. e.reason ≡ None → e.literal ≢ negated c.args.wanted) c.requires.implied decided (found c)

pub returns-in-None-clause-state : goal.returns-in-None-clause-state
returns-in-None-clause-state c =
    absurd (impossible (goal.at.returns-in-None-clause-state c).After-entry-entry c.in-None.is)

pub returns-in-None-clause-kept : goal.returns-in-None-clause-kept
returns-in-None-clause-kept c =
    absurd (impossible (goal.at.returns-in-None-clause-kept c).After-entry-entry c.in-None.is)
