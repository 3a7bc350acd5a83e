use Rattle.std.proofs.Common.{◌≡◌, ◌<◌, ◌≤◌, ◌-◌, ◌∷◌, [], ℕ, List, false, length, take, drop, refl, sym, ◌∙◌, ap, subst, arith, rules}
use Rattle.std.proofs.lemmas.Result.{err_from_is_err_and}
use Rattle.smv_tree.specs.Trees as tree
use Rattle.smv_tree.specs.declared.expr.Expr.TheFolds.{the_lemmas}
use Rattle.smv_reader.specs.Halts.{Reads}
use Rattle.smv_rules.specs.Expressions.{applied, expr, level, more_branches, more_operands, nested, operands, prefixed, primary, primary_from}
use Rattle.smv_rules.specs.Keys.{path, primary_of, word}
use Rattle.smv_rules.specs.Running.{run}
use Rattle.smv_rules.proofs.Meeting.{done_read, then_read}
use Rattle.smv_rules.specs.Sorts.{an_expression, some_branches, some_operands}
use Rattle.smv_expression_reader.specs.Climbing.{infix_at, next_level}
use Rattle.smv_reader.specs.Views.{branches_of, expression_of, found, opener_of, opening_of, operands_of}
use Rattle.smv_reader.specs.declared.opening.Opener.{Opener}
use Rattle.smv_reader.specs.declared.opening.Opening.{Opening}
use Rattle.smv_expression_reader.proofs.Levels.{closed_less, closes_goes, closes_halts, none_left, none_waits, none_yet, out_of_reach, resumed_less, resumes_goes, resumes_halts, waits_goes, waits_halts, waits_less}
use Rattle.smv_reader.proofs.Loops.{loop_fails}
use Rattle.smv_reader.proofs.Parts.{left_within}
use Rattle.smv_expression_reader.proofs.Turning.{front_first, infix_less, prefix_less, infix_level, primary_at, prefixed_halts, prefixed_read, primary_halts, primary_read}
use Rattle.smv_expression_reader.proofs.expression.+expression.Goals as goal

pub begun-returns-in-SelfPath : goal.begun-returns-in-SelfPath
begun-returns-in-SelfPath t c =
    let P : Opening → Type 0 = λ o. Reads found c.path.result (run c.args.reader.room (primary_from (opening_of o) c.args.place) c.args.tokens.now) in
    subst P (sym c.in-SelfPath.is) (rw c.as_slice.ensures at c.path.ensures)

-- nothing waits yet
pub level-turns-init : goal.level-turns-init
level-turns-init t c = none_yet _ _ _ _ c.new-waiting.ensures.items c.in_ok-reached.ensures.value

-- no operator of a level within reach is next
pub level-returns-in_default : goal.level-returns-in_default
level-returns-in_default t c =
    let none = none_left _ _ _ c.in_default.ensures.items c.in_default.ensures.rest c.in_default.ensures.cases.0 in
    none_waits _ _ _ _ _ (found (c.turns.left, c.turns.rest)) _ none c.next_level-next.ensures (out_of_reach _ _ _ c.then-next-reached.either) c.turns.invariant

pub level-returns-in_err-left : goal.level-returns-in_err-left
level-returns-in_err-left t c =
    let p = err_from_is_err_and c.from_residual-in_err-left.result c.from_residual-in_err-left.ensures.1 in
    rw (p.1, p.2) (resumes_halts _ _ _ _ _ _ _ c.in-Some.outer (found (c.turns.left, c.turns.rest)) _ c.in-Some.ensures.items c.next_level-next.ensures (out_of_reach _ _ _ c.then-next-reached.either) c.in_err-left.ensures c.turns.invariant)

pub level-turns-smaller-then-next-reached : goal.level-turns-smaller-then-next-reached
level-turns-smaller-then-next-reached t c = resumed_less _ _ _ c.in-Some.outer (found (c.turns.left, c.turns.rest)) (found (c.in_ok-left.field-0-0, c.in_ok-left.field-0-1)) c.in-Some.ensures.items c.in_ok-left.ensures

pub level-turns-preserved-then-next-reached : goal.level-turns-preserved-then-next-reached
level-turns-preserved-then-next-reached t c = resumes_goes _ _ _ _ _ _ c.in-Some.outer (found (c.turns.left, c.turns.rest)) (found (c.in_ok-left.field-0-0, c.in_ok-left.field-0-1)) _ c.in-Some.ensures.items c.next_level-next.ensures (out_of_reach _ _ _ c.then-next-reached.either) c.in_ok-left.ensures c.turns.invariant

-- an operator that is none between operands
pub level-returns-in_err-reached-2 : goal.level-returns-in_err-reached-2
level-returns-in_err-reached-2 t c =
    let p = err_from_is_err_and c.from_residual-in_err-reached-2.result c.from_residual-in_err-reached-2.ensures.1 in
    rw (p.1, p.2) (closes_halts _ _ _ _ _ _ _ _ _ c.in_default-infix_at.ensures.value c.next_level-next.ensures c.if-next-reached.false c.if-wanted-next.false c.in_err-reached-2.ensures c.turns.invariant)

pub level-turns-smaller-in_default-infix_at : goal.level-turns-smaller-in_default-infix_at
level-turns-smaller-in_default-infix_at t c = omega (arith, closed_less _ _ _ _ _ c.in_ok-reached-2.ensures)

pub level-turns-preserved-in_default-infix_at : goal.level-turns-preserved-in_default-infix_at
level-turns-preserved-in_default-infix_at t c = closes_goes _ _ _ _ _ _ _ _ _ _ c.in_default-infix_at.ensures.value c.next_level-next.ensures c.if-next-reached.false c.if-wanted-next.false c.in_ok-reached-2.ensures c.turns.invariant

-- an operator between operands
pub level-returns-in_err-reached-3 : goal.level-returns-in_err-reached-3
level-returns-in_err-reached-3 t c =
    let p = err_from_is_err_and c.from_residual-in_err-reached-3.result c.from_residual-in_err-reached-3.ensures.1 in
    rw (p.1, p.2) (waits_halts _ _ _ _ _ _ _ _ _ _ _ _ _ c.in-Some-infix_at.ensures.value c.next_level-next.ensures c.if-next-reached.false c.if-wanted-next.false c.in_err-reached-3.ensures.value c.turns.invariant)

pub level-turns-smaller : goal.level-turns-smaller
level-turns-smaller t c =
    let fewer = infix_less _ _ _ _ _ (sym c.in-Some-infix_at.ensures.value) in
    waits_less _ _ _ _ _ _ c.in_ok-push.ensures.items fewer c.in_ok-reached-3.ensures.behind

pub level-turns-preserved : goal.level-turns-preserved
level-turns-preserved t c = waits_goes _ _ _ _ _ _ _ _ _ (found (c.in_ok-reached-3.field-0-1, c.in_ok-reached-3.field-0-2)) _ _ _ c.in_ok-push.ensures.items refl refl c.in-Some-infix_at.ensures.value c.next_level-next.ensures c.if-next-reached.false c.if-wanted-next.false c.in_ok-reached-3.ensures.value c.turns.invariant

pub more_branches-returns-in_err-behind : goal.more_branches-returns-in_err-behind
more_branches-returns-in_err-behind t c =
    let p = err_from_is_err_and c.from_residual.result c.from_residual.ensures.1 in
    rw (p.1, p.2) (loop_fails _ _ some_branches (more_branches _) _ _ c.in_err-behind.ensures c.branches.invariant)

pub more_operands-returns-in_err-behind : goal.more_operands-returns-in_err-behind
more_operands-returns-in_err-behind t c =
    let p = err_from_is_err_and c.from_residual.result c.from_residual.ensures.1 in
    rw (p.1, p.2) (loop_fails _ _ some_operands (more_operands _) _ _ c.in_err-behind.ensures c.operands.invariant)

pub nested-returns-in-Next : goal.nested-returns-in-Next
nested-returns-in-Next t c =
    let P : Opener → Type 0 = λ o. Reads found c.next_value.result (run c.args.reader.room (nested (opener_of o) c.args.place) c.args.tokens.now) in
    subst P (sym c.in-Next.is) c.next_value.ensures

pub nested-returns-in-Function : goal.nested-returns-in-Function
nested-returns-in-Function t c =
    let P : Opener → Type 0 = λ o. Reads found c.function.result (run c.args.reader.room (nested (opener_of o) c.args.place) c.args.tokens.now) in
    subst P (sym c.in-Function.is) c.function.ensures

-- the first operand
pub operand-returns-in_err-part : goal.operand-returns-in_err-part
operand-returns-in_err-part t c =
    let p = err_from_is_err_and c.from_residual.result c.from_residual.ensures.1 in
    rw (p.1, p.2) (record { value = primary_halts _ _ _ _ (sym c.in_default.ensures.value) c.in_err-part.ensures; behind = tt })

pub operand-returns-in_default : goal.operand-returns-in_default
operand-returns-in_default t c = record {
  value = primary_read _ _ _ _ _ (sym c.in_default.ensures.value) c.in_ok-part.ensures;
  behind = left_within _ an_expression primary _ _ _ c.in_ok-part.ensures;
}

pub operand-returns-in_err-part-2 : goal.operand-returns-in_err-part-2
operand-returns-in_err-part-2 t c =
    let p = err_from_is_err_and c.from_residual-in_err-part-2.result c.from_residual-in_err-part-2.ensures.1 in
    rw (p.1, p.2) (record { value = prefixed_halts _ _ _ _ _ _ _ _ c.requires.least (sym c.in-Some.ensures.value) c.in_err-part-2.ensures; behind = tt })

pub operand-returns : goal.operand-returns
operand-returns t c =
    let fewer = prefix_less _ _ _ _ _ _ (sym c.in-Some.ensures.value) in
    let within = left_within _ an_expression (prefixed c.in-Some.place c.in-Some.op c.in-Some.own) _ _ _ c.in_ok-part-2.ensures in
    record {
      value = prefixed_read _ _ _ _ _ _ _ _ _ c.requires.least (sym c.in-Some.ensures.value) c.in_ok-part-2.ensures;
      behind = omega (arith, fewer, within);
    }

pub operands-returns : goal.operands-returns
operands-returns t c =
    let e = then_read _ _ _ expr (λ a. more_operands (record { trees = a.tree ∷ []; depth = a.depth })) _ _ _ c.in_ok-part.ensures in
    rw e (rw c.in_ok-first.ensures at c.more_operands.ensures)

pub primary-returns-in-Name : goal.primary-returns-in-Name
primary-returns-in-Name t c =
    let front = front_first c.args.tokens.now c.first-item.result (omega arith) c.first-item.is in
    rw (primary_at _ _ _ _ (path c.in-Name.name) front (ap primary_of c.in-Name.is)) (rw c.as_slice.ensures.bytes at c.path.ensures)

pub primary-returns-in-Word : goal.primary-returns-in-Word
primary-returns-in-Word t c =
    let front = front_first c.args.tokens.now c.first-item.result (omega arith) c.first-item.is in
    let read : expression_of c.single.result ≡ record { tree = tree.word c.first-item.result.place c.in-Word.word; depth = 1; bare = false } = search (rules, the_lemmas, c.single.ensures) in
    primary_at _ _ _ _ (word c.in-Word.word) front (ap primary_of c.in-Word.is) ∙ rw (← read) (done_read c.args.reader.room an_expression (expression_of c.single.result) (take (length c.args.tokens.now - 1) (drop 1 c.args.tokens.now)))
