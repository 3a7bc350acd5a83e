-- Which brackets open a group that holds a word that formulas alone have.
use Rattle.std.specs.Prelude.{◌≡◌, ◌<◌, ◌++◌, get_or, ◌+◌, ◌-◌, ℕ, Bool, false, List, [], ◌∷◌, length, Option, Some, None, nat_le}
use Rattle.smv_token.specs.declared.token.Token.{Token}
use Rattle.smv_grammar.specs.Formulas.{Role, closes, holds_temporal, opens, plain, role, temporal}

-- How many brackets that are open before the tokens close before the next word that formulas alone have,
-- if there is one: the tokens are looked at from the end.
abbrev pub closers_on : Role → Option ℕ → Option ℕ
closers_on temporal n = Some 0
closers_on opens None = None
closers_on opens (Some n) = Some (n - 1)
closers_on closes None = None
closers_on closes (Some n) = Some (n + 1)
closers_on plain n = n

unfoldable pub closers : List Token → Option ℕ
closers [] = None
closers (t ∷ ts) = closers_on (role t) (closers ts)

-- whether not more brackets than so many close before one
abbrev pub closes_late : Option ℕ → ℕ → Bool
closes_late None n = false
closes_late (Some k) n = nat_le k n

-- For each number of tokens up to all, whether the last so many begin a group that holds such a word.
unfoldable pub group_flags : List Token → List Bool
group_flags [] = holds_temporal 0 [] ∷ []
group_flags (t ∷ ts) = group_flags ts ++ holds_temporal 0 (t ∷ ts) ∷ []

-- The flags tell it of each rest of the tokens.
pub record Flagged (flags : List Bool) (ts : List Token) : Type 0 where
  pub tells : (us vs : List Token) → ts ≡ us ++ vs → (length vs < length flags) × (get_or flags (length vs) false ≡ holds_temporal 0 vs)
