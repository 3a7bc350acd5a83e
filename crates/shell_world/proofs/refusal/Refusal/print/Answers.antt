use Rattle.std.proofs.Common.{◌≡◌, ◌++◌, ℕ, List, ap, ◌∙◌}
use Rattle.std.specs.Prelude.{codes, decimal}
use Rattle.outside.proofs.WriteLemmas.{writes_as, writes_returned, writes_stopped, writes_then}
use Rattle.shell_world.specs.Texts.{refusal_said}
use Rattle.shell_world.proofs.refusal.Refusal.print.Goals as goal

-- the line, by what its number is
line_of : (n m : ℕ) (s : List ℕ) → n ≡ m → codes "error " ++ decimal n ++ codes ": " ++ s ++ codes "\n" ≡ codes "error " ++ decimal m ++ codes ": " ++ s ++ codes "\n"
line_of n m s e = ap (λ k. codes "error " ++ decimal k ++ codes ": " ++ s ++ codes "\n") e

pub returns-in_err-put_numbered : goal.returns-in_err-put_numbered
returns-in_err-put_numbered g c =
    writes_returned _ c.from_residual.result c.from_residual.ensures.1 (writes_as (line_of _ _ (refusal_said c.args.self.now) (c.from.ensures ∙ c.number.ensures)) (writes_stopped (codes "\n") (writes_stopped (refusal_said c.args.self.now) c.in_err-put_numbered.ensures)))

pub returns-in_err-print_text : goal.returns-in_err-print_text
returns-in_err-print_text g c =
    writes_returned _ c.from_residual-in_err-print_text.result c.from_residual-in_err-print_text.ensures.1 (writes_as (line_of _ _ (refusal_said c.args.self.now) (c.from.ensures ∙ c.number.ensures)) (writes_stopped (codes "\n") (writes_then c.in_ok-put_numbered.ensures c.in_err-print_text.ensures)))

pub returns : goal.returns
returns g c =
    writes_as (line_of _ _ (refusal_said c.args.self.now) (c.from.ensures ∙ c.number.ensures)) (writes_then (writes_then c.in_ok-put_numbered.ensures c.in_ok-print_text.ensures) c.put_all.ensures)
