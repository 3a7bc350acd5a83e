use Rattle.std.proofs.Common.{◌≡◌, ◌+◌, ◌-◌, ◌≤◌, ◌||◌, ◌&&◌, Bool, List, refl, sym, ap, subst, ◌∙◌, length, arith}
use Rattle.std.specs.Prelude.{slice_set}
use Rattle.std.proofs.lemmas.List.{length-set}
use Rattle.ltl_form.specs.Rows.{told, turned, ahead_turned}
use Rattle.ltl_form.proofs.Rowwise.{sweep_begins, sweep_steps, written}
use Rattle.ltl_form.proofs.row.sweep.Goals as goal

pub loop-p-init : goal.loop-p-init
loop-p-init c =
    let e : c.len-p.result ≡ length c.args.row.now = c.len-p.ensures in
    record {
      places = refl;
      within = omega arith;
      above = omega arith;
      found = subst (λ n. c.args.after ≡ ahead_turned c.args.dual (length c.args.row.now) (told c.args.first.now) (told c.args.second.now) c.args.after n) (sym e)
          (sweep_begins c.args.dual (length c.args.row.now) (told c.args.first.now) (told c.args.second.now) c.args.after);
      values = λ q a b. absurd (omega arith);
    }

pub loop-p-preserved : goal.loop-p-preserved
loop-p-preserved c =
    let k = length c.args.row.now in
    let p = c.loop-p.p - 1 in
    let value = ahead_turned c.args.dual k (told c.args.first.now) (told c.args.second.now) c.args.after in
    let e : c.loop-p.p ≡ p + 1 = omega arith in
    let within : c.loop-p.p ≤ k = c.loop-p.invariant.within in
    let places : length c.loop-p.row ≡ k = c.loop-p.invariant.places in
    let found : c.loop-p.value ≡ value (p + 1) = subst (λ n. c.loop-p.value ≡ value n) e c.loop-p.invariant.found in
    let first : c.get.result ≡ told c.args.first.now p = c.get.ensures in
    let second : c.get-in-loop-p.result ≡ told c.args.second.now p = c.get-in-loop-p.ensures in
    let step : c.step-value.result ≡ turned c.args.dual (turned c.args.dual (told c.args.second.now p) || (turned c.args.dual (told c.args.first.now p) && turned c.args.dual c.loop-p.value)) = rw (sym first, sym second) c.step-value.ensures in
    let now : c.step-value.result ≡ value p = step ∙ sweep_steps c.args.dual k (told c.args.first.now) (told c.args.second.now) c.args.after p c.loop-p.value (omega arith) found in
    let set : c.set.new.self ≡ slice_set c.loop-p.row p c.step-value.result = c.set.ensures in
    record {
      places = ap (λ (r : List Bool). length r) set ∙ length-set c.loop-p.row p c.step-value.result ∙ places;
      within = omega arith;
      above = omega arith;
      found = now;
      values = λ q a b. subst (λ r. told r q ≡ value q) (sym set)
          (written k c.loop-p.row p c.step-value.result value (omega arith) now (λ n s t. c.loop-p.invariant.values n (omega arith) t) q a b);
    }
