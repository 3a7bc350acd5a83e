use Rattle.std.proofs.Common.{◌≤◌, ◌∙◌, ℤ, pos, negsuc, arith, length, ap, FitsSigned, w64}
use Rattle.std.specs.Fmt.{signed_decimal}
use Rattle.std.proofs.Math.Facts.{to_z-of_z}
use Rattle.std.proofs.lemmas.Fmt.{decimal_nonempty}
use Rattle.smv_modules.proofs.names.number_name.Goals as goal

some_text : (z : ℤ) → FitsSigned w64 z → 1 ≤ length (signed_decimal z)
some_text (pos n) h = decimal_nonempty n (omega arith)
some_text (negsuc n) h = omega arith

pub from_vec-requires : goal.from_vec-requires
from_vec-requires c =
    let fit = c.ranges.number in
    let same = ap length (c.in_ok-text.ensures.items ∙ c.as_bytes.ensures.value) in
    let text = ap length c.format.ensures.text in
    let read = ap (λ z. length (signed_decimal z)) (to_z-of_z {w = w64} {z = c.args.number} fit) in
    let some = some_text c.args.number fit in
    (omega (arith, some, text, same, read), omega (arith, c.format.ensures.short, same))
