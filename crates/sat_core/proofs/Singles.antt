-- Clauses that have one literal at most.
use Rattle.std.proofs.Common.{◌≡◌, ◌≢◌, ℕ, ◌<◌, inl, inr, List, [], ◌∷◌, length, get_or, refl, sym, ◌∙◌, arith}
use Rattle.std.specs.Prelude.{Some}
use Rattle.sat_log.specs.Literal.{Literal}
use Rattle.sat_log.specs.Clause.{Among}
use Rattle.sat_log.specs.Accepted.{clause_at}
use Rattle.sat_log.specs.declared.line.LogLine.{LogLine}
use Rattle.sat_trail.specs.Units.{IsReason}

module _ (set c : List Literal) (l : Literal) (short : length c < 2) (first : l ≡ get_or c 0 l) where
  pub one_stands : length c ≢ 0 → Among c l
  one_stands some = by_list c some first
    where
      by_list : (d : List Literal) → length d ≢ 0 → l ≡ get_or d 0 l → Among d l
      by_list [] ne e = absurd (ne refl)
      by_list (a ∷ d) ne e = inl (sym e)

  pub one_reason : (log : List LogLine) (id : ℕ) → length c ≢ 0 → clause_at log id ≡ Some c → IsReason log set id l
  one_reason log id some named =
      record {
        clause = c;
        named = named;
        implies = record { stands = one_stands some; others_false = (λ k m ne. absurd (ne (only c short first k m))) };
      }
    where
      only : (d : List Literal) → length d < 2 → l ≡ get_or d 0 l → (k : Literal) → Among d k → k ≡ l
      only [] h e k m = absurd m
      only (a ∷ []) h e k (inl same) = sym (e ∙ same)
      only (a ∷ []) h e k (inr m) = absurd m
      only (a ∷ b ∷ d) h e k m = absurd (omega (arith, h))
