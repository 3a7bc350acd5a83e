use Rattle.std.proofs.Common.{◌≡◌, fold, length}
use Rattle.smv_token.specs.Tokens.{after, start, tokens_from, with_front}
use Rattle.smv_token.proofs.token.scan.Given as goal

abbrev pub invariant-loop-rest : goal.invariant-loop-rest
invariant-loop-rest l = record {
  tokens : with_front l.tokens.items (tokens_from l.place 0 l.rest) ≡ tokens_from start 0 l.bytes;
  place : fold after l.place l.rest ≡ fold after start l.bytes;
}

abbrev pub decreases-loop-rest : goal.decreases-loop-rest
decreases-loop-rest l = length l.rest
