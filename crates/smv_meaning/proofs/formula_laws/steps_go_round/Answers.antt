use Rattle.std.proofs.Common.{◌∙◌, arith, ◌-◌}
use Rattle.smv_meaning.proofs.Lassos.{place_step, next_last, place_straight, place_below, place_add, comes_round}
use Rattle.smv_meaning.proofs.formula_laws.steps_go_round.Goals as goal

pub returns-clause-straight : goal.returns-clause-straight
returns-clause-straight c = λ k l p h. place_straight k l p 1 h

pub returns-clause-back : goal.returns-clause-back
returns-clause-back c = λ k l h. place_step k l (k - 1) ∙ next_last k l (k - 1) (omega arith)

pub returns-clause-within : goal.returns-clause-within
returns-clause-within c = λ k l p n h b. place_below k l p n h b

pub returns-clause-in_turn : goal.returns-clause-in_turn
returns-clause-in_turn c = place_add

pub returns-clause-round : goal.returns-clause-round
returns-clause-round c = comes_round
