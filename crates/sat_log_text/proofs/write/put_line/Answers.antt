use Rattle.std.proofs.Common.{◌++◌, ◌∷◌, ap, decimal, sym}
use Rattle.std.specs.List.{flat_map}
use Rattle.outside.proofs.WriteLemmas.{writes_as, writes_returned, writes_stopped, writes_then}
use Rattle.sat_log.specs.Literal.{Literal}
use Rattle.sat_log_text.specs.LogText.{literal_word, spaced, hint_words}
use Rattle.sat_log_text.proofs.TextLemmas.{line_pieces}
use Rattle.sat_log_text.proofs.write.put_line.Goals as goal

pub returns-in_err-put_numbered : goal.returns-in_err-put_numbered
returns-in_err-put_numbered g c =
    let id = writes_as (ap (λ t. decimal c.args.id ++ t) c.letter.ensures) c.in_err-put_numbered.ensures in
    writes_returned _ c.from_residual.result c.from_residual.ensures.1 (writes_as (sym (line_pieces c.args.id c.args.line.now)) (writes_stopped _ (writes_stopped _ (writes_stopped _ (writes_stopped _ id)))))

pub returns-in_err-put_literals : goal.returns-in_err-put_literals
returns-in_err-put_literals g c =
    let id = writes_as (ap (λ t. decimal c.args.id ++ t) c.letter.ensures) c.in_ok-put_numbered.ensures in
    let literals = writes_as (ap (flat_map (λ (l : Literal). 32 ∷ literal_word l)) c.as_slice.ensures) c.in_err-put_literals.ensures in
    writes_returned _ c.from_residual-in_err-put_literals.result c.from_residual-in_err-put_literals.ensures.1 (writes_as (sym (line_pieces c.args.id c.args.line.now)) (writes_stopped _ (writes_stopped _ (writes_stopped _ (writes_then id literals)))))

pub returns-in_err-put_all : goal.returns-in_err-put_all
returns-in_err-put_all g c =
    let id = writes_as (ap (λ t. decimal c.args.id ++ t) c.letter.ensures) c.in_ok-put_numbered.ensures in
    let literals = writes_as (ap (flat_map (λ (l : Literal). 32 ∷ literal_word l)) c.as_slice.ensures) c.in_ok-put_literals.ensures in
    writes_returned _ c.from_residual-in_err-put_all.result c.from_residual-in_err-put_all.ensures.1 (writes_as (sym (line_pieces c.args.id c.args.line.now)) (writes_stopped _ (writes_stopped _ (writes_then (writes_then id literals) c.in_err-put_all.ensures))))

pub returns-in_err-put_hints : goal.returns-in_err-put_hints
returns-in_err-put_hints g c =
    let id = writes_as (ap (λ t. decimal c.args.id ++ t) c.letter.ensures) c.in_ok-put_numbered.ensures in
    let literals = writes_as (ap (flat_map (λ (l : Literal). 32 ∷ literal_word l)) c.as_slice.ensures) c.in_ok-put_literals.ensures in
    let hints = writes_as (ap (λ h. spaced (hint_words c.args.line.now.kind h)) c.as_slice-2.ensures) c.in_err-put_hints.ensures in
    writes_returned _ c.from_residual-in_err-put_hints.result c.from_residual-in_err-put_hints.ensures.1 (writes_as (sym (line_pieces c.args.id c.args.line.now)) (writes_stopped _ (writes_then (writes_then (writes_then id literals) c.in_ok-put_all.ensures) hints)))

pub returns : goal.returns
returns g c =
    let id = writes_as (ap (λ t. decimal c.args.id ++ t) c.letter.ensures) c.in_ok-put_numbered.ensures in
    let literals = writes_as (ap (flat_map (λ (l : Literal). 32 ∷ literal_word l)) c.as_slice.ensures) c.in_ok-put_literals.ensures in
    let hints = writes_as (ap (λ h. spaced (hint_words c.args.line.now.kind h)) c.as_slice-2.ensures) c.in_ok-put_hints.ensures in
    writes_as (sym (line_pieces c.args.id c.args.line.now)) (writes_then (writes_then (writes_then (writes_then id literals) c.in_ok-put_all.ensures) hints) c.put_all-2.ensures)
