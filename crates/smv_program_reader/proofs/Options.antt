-- What stands behind a mark that was left out.
use Rattle.std.proofs.Common.{◌≡◌, ℕ, Bool, true, false, List, [], ◌∷◌, Option, Some, None, Ok, Err, ap}
use Rattle.smv_tree.specs.declared.place.Place.{Place}
use Rattle.smv_token.specs.declared.mark.Mark.{Mark}
use Rattle.smv_token.specs.declared.token.Token.{Token}
use Rattle.smv_rules.specs.Reading.{Got}
use Rattle.smv_rules.specs.Expressions.{optional}
use Rattle.smv_rules.specs.Keys.{sees}
use Rattle.smv_rules.specs.Keys as key
use Rattle.smv_rules.specs.Rules.{Rule, may}
use Rattle.smv_rules.specs.Running.{if_seen, run}
use Rattle.smv_rules.specs.Sorts.{Sort}

abbrev rest_of : Got Bool → List Token
rest_of (Ok x) = x.1
rest_of (Err e) = []

abbrev flag_of : Got Bool → Bool
flag_of (Ok x) = x.0
flag_of (Err e) = false

pub option_left : (n : ℕ) (s : Sort) (m : Mark) (f : Place → Rule s) (r : Rule s) (ts us : List Token) → run n (optional m) ts ≡ Ok (false, us) → run n (may s (key.mark m) f r) ts ≡ run n r us
unfolding run
option_left n s m f r [] us e = ap (run n r) (ap rest_of e)
option_left n s m f r (t ∷ ts) us e = by_seen (sees (key.mark m) t ts) e where
  by_seen : (o : Option Place) → if_seen {X = Got Bool} o (λ p. Ok (true, ts)) (Ok (false, t ∷ ts)) ≡ Ok (false, us) → if_seen o (λ p. run n (f p) ts) (run n r (t ∷ ts)) ≡ run n r us
  by_seen (Some p) h = let apart : true ≡ false = ap flag_of h in absurd (cc)
  by_seen None h = ap (run n r) (ap rest_of h)
