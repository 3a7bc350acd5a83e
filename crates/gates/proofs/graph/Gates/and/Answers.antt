use Rattle.std.proofs.Common.{◌≡◌, Option, None, Some, sym, ◌∙◌, subst}
use Rattle.gates.specs.Sharing.{earlier, later}
use Rattle.gates.proofs.Growth.{AddsConjunctions-refl, AddsConjunctions-one}
use Rattle.gates.proofs.Meaning.{Means, conjunction_means, conjunction-Grows, Stands-joined, Means-joined}
use Rattle.gates.proofs.graph.Gates.and.Goals as goal

pub returns-in-Some-clause-meaning : goal.returns-in-Some-clause-meaning
returns-in-Some-clause-meaning c values v =
    let m = conjunction_means c.args.self.now values c.args.a c.args.b c.find.ensures.well_formed v in
    let P : Option _ → Type 0 = λ r. Means values c.args.a c.args.b r in
    subst P (sym c.in-Some.ensures.value) m

pub returns-in-Some-clause-known : goal.returns-in-Some-clause-known
returns-in-Some-clause-known c before l grows h =
    let e : Some c.in-Some.known ≡ Some l = c.in-Some.ensures.value ∙ conjunction-Grows grows c.args.a c.args.b l h in
    cc

pub returns-in-None-clause-known : goal.returns-in-None-clause-known
returns-in-None-clause-known c before l grows h =
    let e : None ≡ Some l = c.in-None.ensures.value ∙ conjunction-Grows grows c.args.a c.args.b l h in
    absurd cc

pub returns-in-None-clause-same : goal.returns-in-None-clause-same
returns-in-None-clause-same c before l grows h =
    let e : None ≡ Some l = c.in-None.ensures.value ∙ conjunction-Grows grows c.args.a c.args.b l h in
    absurd cc

pub returns-in-None-clause-stands : goal.returns-in-None-clause-stands
returns-in-None-clause-stands c =
    Stands-joined c.args.self.now c.join.new.self c.args.a c.args.b c.join.result (sym c.in-None.ensures.value) c.join.ensures.added c.join.ensures.literal

pub returns-in-None-clause-meaning : goal.returns-in-None-clause-meaning
returns-in-None-clause-meaning c =
    Means-joined c.args.self.now c.join.new.self c.args.a c.args.b c.join.result (sym c.in-None.ensures.value) c.join.ensures.added c.join.ensures.literal c.join.ensures.well_formed

pub returns-in-Some-clause-conjunctions : goal.returns-in-Some-clause-conjunctions
returns-in-Some-clause-conjunctions c = AddsConjunctions-refl c.args.self.now

pub returns-in-None-clause-conjunctions : goal.returns-in-None-clause-conjunctions
returns-in-None-clause-conjunctions c =
    AddsConjunctions-one c.args.self.now c.join.new.self (earlier c.args.a c.args.b) (later c.args.a c.args.b) c.join.result c.join.ensures.added c.join.ensures.err
