-- The words that options are given.
use Rattle.std.specs.Prelude.{◌≡◌, ℕ, true, List, Option, Some}
use Rattle.cmd_table.specs.declared.table.Opt.{Opt}
use Rattle.cmd_table.specs.Options.{fits, takes_at, value_at}

-- each option that is given has a word that it takes, so a number is in its range
abbrev pub AllFit : List Opt → List (Option (List ℕ)) → Type 0
AllFit opts values =
    (place : ℕ) (text : List ℕ) → value_at values place ≡ Some text → fits (takes_at opts place) text ≡ true
