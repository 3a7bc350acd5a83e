use Rattle.std.proofs.Common.{◌<◌, ◌^◌, refl, arith}
use Rattle.smv_tree.proofs.Words.{fits_wide}
use Rattle.smv_tree.proofs.value.fits.Goals as goal

pub returns-else-width-lt128 : goal.returns-else-width-lt128
returns-else-width-lt128 c = let range : c.args.bits < 2 ^ 128 = omega arith in (λ t. fits_wide c.args.bits c.args.width range (omega arith), λ l. refl)
