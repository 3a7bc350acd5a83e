use Rattle.smv_meaning.proofs.ExampleLemmas.{steps, runs_around, always_off_ahead, refuted}
use Rattle.smv_meaning.proofs.example.ring_goes_around.Goals as goal

pub returns-clause-step : goal.returns-clause-step
returns-clause-step c = steps

pub returns-clause-run : goal.returns-clause-run
returns-clause-run c = runs_around

pub returns-clause-lasso : goal.returns-clause-lasso
returns-clause-lasso c = always_off_ahead

pub returns-clause-path : goal.returns-clause-path
returns-clause-path c = refuted
