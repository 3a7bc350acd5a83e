use Rattle.smv_token.proofs.Scanning.{goes, no_piece, turn}
use Rattle.smv_token.proofs.token.scan.Goals as goal

pub loop-rest-preserved : goal.loop-rest-preserved
loop-rest-preserved c = record {
  tokens = turn _ _ _ _ _ _ _ _ _ _ c.in-Ok.ensures.kind c.in-Ok.ensures.fits c.split_at.ensures.front c.split_at.ensures.back c.in_ok-push_token-in-Ok.ensures c.after_all-place.ensures c.loop-rest.invariant.tokens;
  place = goes _ _ _ _ _ _ _ c.split_at.ensures.front c.split_at.ensures.back c.after_all-place.ensures c.loop-rest.invariant.place;
}

pub returns-in-Err-clause-tokens : goal.returns-in-Err-clause-tokens
returns-in-Err-clause-tokens c = no_piece _ _ _ _ _ _ c.in-Err.ensures.kind c.loop-rest-test.ensures c.in_ok-push_cut_name-in-Err.ensures c.loop-rest.invariant.tokens
