use Rattle.std.proofs.Common.{◌≡◌, ◌+◌, ◌-◌, ◌≤◌, ◌||◌, ◌&&◌, Bool, List, refl, sym, ap, subst, ◌∙◌, length, arith}
use Rattle.std.specs.Prelude.{slice_set}
use Rattle.std.proofs.lemmas.List.{length-set, map-set}
use Rattle.gates.specs.Literal.{Literal}
use Rattle.gates.specs.Valuation.{value_of, values_of, IsValuation}
use Rattle.gates.proofs.Growth.{Grows-refl, Grows-trans, AddsConjunctions-refl, AddsConjunctions-trans}
use Rattle.gates.proofs.Meaning.{IsValuation-Grows}
use Rattle.ltl_form.specs.Rows.{told, turned, ahead_turned}
use Rattle.ltl_form.proofs.Rowwise.{sweep_begins, sweep_steps, written}
use Rattle.ltl_bmc.specs.Circuits.{RowBelongs}
use Rattle.ltl_bmc.proofs.Rowwise.{told_value, length_values, belongs_on, set_belongs}
use Rattle.ltl_bmc.proofs.sweeps.sweep.Goals as goal

pub loop-p-init : goal.loop-p-init
loop-p-init c =
    let k = length c.args.row.now in
    let e : c.len-p.result ≡ k = c.len-p.ensures in
    record {
      places = refl;
      within = omega arith;
      above = omega arith;
      found = λ values v. subst (λ n. value_of values c.args.after ≡ ahead_turned c.args.dual k (told (values_of values c.args.first.now)) (told (values_of values c.args.second.now)) (value_of values c.args.after) n) (sym e)
          (sweep_begins c.args.dual k (told (values_of values c.args.first.now)) (told (values_of values c.args.second.now)) (value_of values c.args.after));
      values = λ values v q a b. absurd (omega arith);
      belongs = c.requires.row;
      found_belongs = c.requires.after;
      grows = Grows-refl c.args.g.now;
      conjunctions = AddsConjunctions-refl c.args.g.now;
    }

pub loop-p-preserved : goal.loop-p-preserved
loop-p-preserved c =
    let k = length c.args.row.now in
    let d = c.args.dual in
    let p = c.loop-p.p - 1 in
    let x = c.in_ok-value.value in
    let row = c.loop-p.row in
    let e : c.loop-p.p ≡ p + 1 = omega arith in
    let within : c.loop-p.p ≤ k = c.loop-p.invariant.within in
    let places : length row ≡ k = c.loop-p.invariant.places in
    let set : c.set.new.self ≡ slice_set row p x = c.set.ensures in
    let now : (values : List Bool) → IsValuation c.step.new.g values → value_of values x ≡ ahead_turned d k (told (values_of values c.args.first.now)) (told (values_of values c.args.second.now)) (value_of values c.args.after) p = λ values v.
    let f = told (values_of values c.args.first.now) in
    let g = told (values_of values c.args.second.now) in
    let first : value_of values c.get.result ≡ f p = ap (value_of values) c.get.ensures ∙ sym (told_value values c.args.first.now p (omega arith)) in
    let second : value_of values c.get-in-loop-p.result ≡ g p = ap (value_of values) c.get-in-loop-p.ensures ∙ sym (told_value values c.args.second.now p (omega arith)) in
    let found : value_of values c.loop-p.value ≡ ahead_turned d k f g (value_of values c.args.after) (p + 1) =
    subst (λ n. value_of values c.loop-p.value ≡ ahead_turned d k f g (value_of values c.args.after) n) e (c.loop-p.invariant.found values (IsValuation-Grows c.in_ok-value.ensures.grows v)) in
    let step : value_of values x ≡ turned d (turned d (g p) || (turned d (f p) && turned d (value_of values c.loop-p.value))) =
    c.in_ok-value.ensures.meaning values v ∙ (λ i. turned d (turned d (second i) || (turned d (first i) && turned d (value_of values c.loop-p.value)))) in
    step ∙ sweep_steps d k f g (value_of values c.args.after) p (value_of values c.loop-p.value) (omega arith) found in
    record {
      places = ap (λ (r : List Literal). length r) set ∙ length-set row p x ∙ places;
      within = omega arith;
      above = omega arith;
      found = now;
      values = λ values v q a b.
          let value = ahead_turned d k (told (values_of values c.args.first.now)) (told (values_of values c.args.second.now)) (value_of values c.args.after) in
          subst (λ (r : List Literal). told (values_of values r) q ≡ value q) (sym set)
          (subst (λ (bs : List Bool). told bs q ≡ value q) (sym (map-set (value_of values) row p x))
          (written k (values_of values row) p (value_of values x) value (omega (arith, length_values values row)) (now values v)
          (λ n s t. c.loop-p.invariant.values values (IsValuation-Grows c.in_ok-value.ensures.grows v) n (omega arith) t) q a b));
      belongs = subst (RowBelongs c.step.new.g) (sym set) (set_belongs c.step.new.g row p x (omega arith) (belongs_on row c.in_ok-value.ensures.grows c.loop-p.invariant.belongs) c.in_ok-value.ensures.belongs);
      found_belongs = c.in_ok-value.ensures.belongs;
      grows = Grows-trans c.loop-p.invariant.grows c.in_ok-value.ensures.grows;
      conjunctions = AddsConjunctions-trans c.loop-p.invariant.conjunctions c.in_ok-value.ensures.conjunctions;
    }
