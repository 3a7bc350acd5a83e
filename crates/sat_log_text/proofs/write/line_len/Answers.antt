use Rattle.std.proofs.Common.{◌≡◌, ◌∷◌, ◌+◌, length, min, decimal, ap, sym, ◌∙◌, arith}
use Rattle.std.specs.List.{flat_map}
use Rattle.sat_log.specs.Literal.{Literal}
use Rattle.sat_log_text.specs.LogText.{literal_word, spaced, hint_words}
use Rattle.sat_log_text.proofs.TextLemmas.{length-line}
use Rattle.sat_log_text.proofs.write.line_len.Goals as goal

pub returns : goal.returns
returns c =
    let line = c.args.line.now in
    let literals = ap (λ xs. length (flat_map (λ (l : Literal). 32 ∷ literal_word l) xs)) c.as_slice.ensures in
    let hints = ap (λ h. length (spaced (hint_words line.kind h))) c.as_slice-2.ensures in
    let sum : c.saturating_add-2.result ≡ min (length (decimal c.args.id) + 5 + length (flat_map (λ (l : Literal). 32 ∷ literal_word l) line.lits) + length (spaced (hint_words line.kind line.hints))) 18446744073709551615 = omega (arith, literals, hints) in
    sum ∙ ap (λ n. min n 18446744073709551615) (sym (length-line c.args.id line))
