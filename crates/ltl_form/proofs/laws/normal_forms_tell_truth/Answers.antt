use Rattle.std.proofs.Common.{◌+◌, true, false}
use Rattle.std.proofs.lemmas.Bool.Decides.{Decides-like}
use Rattle.ltl_form.specs.Normal.{normal}
use Rattle.ltl_form.proofs.Normals.{normal_true, normal_settled}
use Rattle.ltl_form.proofs.Truth.{lasso_told, short_told}
use Rattle.ltl_form.proofs.laws.normal_forms_tell_truth.Goals as goal

pub returns-clause-plain : goal.returns-clause-plain
returns-clause-plain g c = λ names nodes table k l p b f h w covers each told_so s t.
    let same = normal_true k l g.A.Atoms.holds h each false f p w in
    Decides-like b same.0 same.1 (lasso_told names g.A.Atoms.holds table nodes (k + 1) covers k l h told_so p b w t (normal false f) s)

pub returns-clause-negated : goal.returns-clause-negated
returns-clause-negated g c = λ names nodes table k l p b f h w covers each told_so s t.
    let same = normal_true k l g.A.Atoms.holds h each true f p w in
    Decides-like b same.0 same.1 (lasso_told names g.A.Atoms.holds table nodes (k + 1) covers k l h told_so p b w t (normal true f) s)

pub returns-clause-path : goal.returns-clause-path
returns-clause-path g c = λ names nodes table k p negated b f w covers told_so s t.
    let same = normal_settled k g.A.Atoms.holds negated f p in
    Decides-like b same.0 same.1 (short_told names g.A.Atoms.holds table nodes (k + 1) covers k told_so p b w t (normal negated f) s)
