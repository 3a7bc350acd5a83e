use Rattle.std.proofs.Common.{◌≡◌, ℕ, ◌+◌, ◌++◌, ◌∷◌, [], ◌&&◌, List, sym, ap, subst, ◌∙◌, length, arith}
use Rattle.std.proofs.lemmas.List.{length_push}
use Rattle.gates.specs.Literal.{Literal}
use Rattle.gates.specs.Valuation.{value_of, values_of}
use Rattle.gates.proofs.Growth.{Grows-trans, AddsConjunctions-trans}
use Rattle.gates.proofs.Meaning.{IsValuation-Grows}
use Rattle.ltl_form.specs.Rows.{told, turned, IsRow}
use Rattle.ltl_bmc.specs.Circuits.{RowBelongs}
use Rattle.ltl_bmc.proofs.Rowwise.{told_value, pushed_row, belongs_on, pushed_belongs}
use Rattle.ltl_bmc.proofs.sweeps.join_rows.Goals as goal

pub loop-p-preserved : goal.loop-p-preserved
loop-p-preserved c =
    let d = c.args.dual in
    let p = c.loop-p.p in
    let x = c.in_ok-joined.joined in
    let row = c.loop-p.row in
    let pushed : c.push.new.self ≡ row ++ x ∷ [] = c.in_ok-push.ensures in
    record {
      places = ap (λ (r : List Literal). length r) pushed ∙ length_push row x ∙ ap (λ (i : ℕ). i + 1) c.loop-p.invariant.places;
      values = λ values v.
          let f = told (values_of values c.args.first.now) in
          let g = told (values_of values c.args.second.now) in
          let first : value_of values c.get.result ≡ f p = ap (value_of values) c.get.ensures ∙ sym (told_value values c.args.first.now p (omega arith)) in
          let second : value_of values c.get-in-loop-p.result ≡ g p = ap (value_of values) c.get-in-loop-p.ensures ∙ sym (told_value values c.args.second.now p (omega arith)) in
          let joined : value_of values x ≡ turned d (turned d (f p) && turned d (g p)) = c.in_ok-joined.ensures.meaning values v ∙ (λ i. turned d (turned d (first i) && turned d (second i))) in
          subst (λ (r : List Literal). IsRow (p + 1) (λ q. turned d (turned d (f q) && turned d (g q))) (values_of values r)) (sym pushed)
          (pushed_row values p (λ q. turned d (turned d (f q) && turned d (g q))) row x (c.loop-p.invariant.values values (IsValuation-Grows c.in_ok-joined.ensures.grows v)) joined);
      belongs = subst (RowBelongs c.join.new.g) (sym pushed) (pushed_belongs c.join.new.g row x (belongs_on row c.in_ok-joined.ensures.grows c.loop-p.invariant.belongs) c.in_ok-joined.ensures.belongs);
      grows = Grows-trans c.loop-p.invariant.grows c.in_ok-joined.ensures.grows;
      conjunctions = AddsConjunctions-trans c.loop-p.invariant.conjunctions c.in_ok-joined.ensures.conjunctions;
    }
