use Rattle.std.proofs.Common.{refl, arith}
use Rattle.shell.specs.Sound.{IsSilent}
use Rattle.shell.proofs.run.run_sound.Goals as goal

-- a count that is 0 for ever
silent : IsSilent 0 0
silent = record { same = refl; could = omega arith }

pub returns-clause-status : goal.returns-clause-status
returns-clause-status g c = c.sound_sessions_end_well.ensures c.args.words.now _ _ _ c.args.input.now c.run_shell.ensures.session record { out = silent; err = silent } silent refl
