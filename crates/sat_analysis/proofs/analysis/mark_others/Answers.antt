use Rattle.std.proofs.Common.{◌≡◌, ◌+◌, ◌<◌, ◌≤◌, ℕ, Bool, true, length, set, length-set, ◌-◌, cond, eqb, ap, sym, subst, ◌∙◌, false, arith}
use Rattle.std.specs.Prelude.{Result, Ok, Err, OnOk}
use Rattle.std.specs.Result.{IsOk}
use Rattle.std.specs.BinaryHeap.{heap_items, heap_len, heap_capacity}
use Rattle.std.proofs.lemmas.List.Sums.{count_by-le-length}
use Rattle.std.specs.List.{AllByRecursion}
use Rattle.std.proofs.lemmas.Bool.{iff_false, eq-eqb, ne_eqb, false≢true}
use Rattle.sat_log.specs.Clause.{Among}
use Rattle.sat_log.proofs.LiteralLemmas.{All-among}
use Rattle.sat_trail.specs.Trail.{literals, bottom, IsPosition}
use Rattle.sat_analysis.specs.Analysis.{is_marked, IsMarked, marked_count}
use Rattle.sat_analysis.proofs.Awaited.{awaited_mark, position_drop, count_more, pushed}
use Rattle.sat_analysis.proofs.Marks.{marks_same, marks_one, marked_more_in}
use Rattle.sat_trail.proofs.Literals.{stands_at}
use Rattle.sat_analysis.proofs.analysis.mark_others.Goals as goal
use Rattle.sat_analysis.proofs.analysis.mark_others.Goals.{then-is_true-via-then-is_true, then-is_true-via-else-is_true+then-seen-var, then-level_of-level, else-level_of-level}

pub loop-literal-preserved-then-is_true : goal.loop-literal-preserved-then-is_true
loop-literal-preserved-then-is_true c =
    let true_ = literals c.args.trail.now.entries in
    let x = c.literal-item.result in
    let known : ¬ Among true_ x → IsMarked c.loop-literal.seen x.var = elim c.then-is_true.branch [
      | then-is_true-via-then-is_true w ↦ (λ other. absurd (other (c.is_true.ensures.0 w.if-is_true.true)))
      | then-is_true-via-else-is_true+then-seen-var w ↦ (λ other. subst (IsMarked c.loop-literal.seen) c.var-var.ensures.value w.if-seen-var.true)
    ] in
    record {
      marks = marks_same true_ c.args.clause.now c.args.seen.now c.loop-literal.seen c.loop-literal.literal-index x (omega arith) c.literal-item.is c.loop-literal.invariant.marks known;
      count = c.loop-literal.invariant.count;
      awaited = c.loop-literal.invariant.awaited;
      few = c.loop-literal.invariant.few;
      heap = c.loop-literal.invariant.heap;
      room = c.loop-literal.invariant.room;
      bound = omega arith;
    }

on_ok : {T E : Type 0} (r : Result T E) (P : Type 0) → IsOk r → OnOk r P → P
on_ok (Ok x) P h p = p
on_ok (Err e) P h p = absurd (false≢true h)

at_most_one : (b : Bool) → cond {A = ℕ} b 1 0 ≤ 1
at_most_one true = omega arith
at_most_one false = omega arith

pub loop-literal-preserved : goal.loop-literal-preserved
loop-literal-preserved c =
    let entries = c.args.trail.now.entries in
    let true_ = literals entries in
    let x = c.literal-item.result in
    let seen = c.loop-literal.seen in
    let stands : Among c.args.clause.now x = stands_at c.args.clause.now c.loop-literal.literal-index x (omega arith) c.literal-item.is in
    let exists : x.var ≤ c.args.trail.now.variables = All-among (λ k. k.var ≤ c.args.trail.now.variables) c.args.clause.now x c.requires.exist stands in
    let bound : x.var < length seen = omega (arith, c.loop-literal.auto.seen, c.requires.size) in
    let other = iff_false c.is_true.ensures c.if-is_true.false in
    let marks = marks_one true_ c.args.clause.now c.args.seen.now seen c.loop-literal.literal-index x (omega arith) c.literal-item.is c.loop-literal.invariant.marks other bound in
    let one : c.loop-literal.found + cond {A = ℕ} (eqb c.level_of.result c.args.level) 1 0 ≡ c.if-level_of-level.found = elim c.if-level_of-level.branch [
      | then-level_of-level w ↦ ap (λ (b : Bool). c.loop-literal.found + cond {A = ℕ} b 1 0) (eq-eqb c.level_of.result c.args.level w.if-level_of-level.true) ∙ sym w.found-is
      | else-level_of-level w ↦ ap (λ (b : Bool). c.loop-literal.found + cond {A = ℕ} b 1 0) (ne_eqb c.level_of.result c.args.level w.if-level_of-level.false) ∙ omega (arith, w.found-is)
    ] in
    let most : cond {A = ℕ} (eqb c.level_of.result c.args.level) 1 0 ≤ 1 = at_most_one (eqb c.level_of.result c.args.level) in
    let free : is_marked seen x.var ≡ false = ap (is_marked seen) (sym c.var-var.ensures.value) ∙ c.if-seen-var.false in
    let levels = subst (λ (v : ℕ). AllByRecursion (λ e. e.literal.var ≡ v → c.level_of.result ≡ e.level) entries) c.var-var.ensures.value c.level_of.ensures in
    let at = subst (λ (v : ℕ). IsPosition v c.position.result entries) c.var-var.ensures.value c.position.ensures in
    let counts = count_more seen x.var bound free in
    let most : marked_count seen < marked_count (set seen x.var true) = omega arith in
    let bounded : marked_count (set seen x.var true) ≤ length (set seen x.var true) = count_by-le-length (λ b. b) (set seen x.var true) in
    let room : heap_len c.loop-literal.positions < heap_capacity c.loop-literal.positions = omega (arith, length-set seen x.var true, c.loop-literal.invariant.few, c.loop-literal.invariant.room, c.requires.room, c.loop-literal.auto.seen) in
    let ok = c.push-added.ensures.succeeds room in
    let more = pushed (heap_items c.loop-literal.positions) (heap_items c.push-added.new.self) c.position.result (on_ok c.push-added.result _ ok c.push-added.ensures.permutation) in
    let len : heap_len c.push-added.new.self ≡ heap_len c.loop-literal.positions + 1 = on_ok c.push-added.result _ ok c.push-added.ensures.len in
    rw c.var-var.ensures.value (record {
      marks = marks;
      count = (λ i false_in.
          let more = marked_more_in c.args.level c.level_of.result i seen entries x c.requires.distinct bound free levels (false_in x stands other) in
          let so_far = c.loop-literal.invariant.count i false_in in
          omega arith);
      awaited = (λ i a. awaited_mark (heap_items c.loop-literal.positions) (heap_items c.push-added.new.self) seen x.var c.position.result (bottom i entries) (position_drop x.var c.position.result (length entries - i) entries at) more.0 more.1 (c.loop-literal.invariant.awaited i a));
      few = omega (arith, counts, c.loop-literal.invariant.few, len);
      heap = (λ h. on_ok c.push-added.result _ ok c.push-added.ensures.heap_order (c.loop-literal.invariant.heap h));
      room = omega (arith, c.loop-literal.invariant.room, c.push-added.ensures.capacity);
      bound = omega arith;
    })
