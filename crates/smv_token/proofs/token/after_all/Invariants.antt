use Rattle.std.proofs.Common.{◌≡◌, drop, fold}
use Rattle.smv_token.specs.Tokens.{after}
use Rattle.smv_token.proofs.token.after_all.Given as goal

abbrev pub invariant-loop-byte : goal.invariant-loop-byte
invariant-loop-byte l = fold after l.place (drop l.byte-index l.bytes) ≡ fold after l.initial.place l.bytes
