-- How words are read one after another. These are steps of the proof that they are read as `Reads` says; no public
-- clause cites them.
use Rattle.std.specs.Prelude.{◌≡◌, ◌⊎◌, ◌≤◌, ℕ, Bool, nat_lt, List, [], ◌∷◌, length, drop, Option, Some, None, Result, MatchResult, alloc_error, if◌then◌else◌}
use Rattle.cmd_table.specs.declared.fault.OptFault.{OptFault}
use Rattle.cmd_table.specs.declared.fault.OptFault.TheVariants.{Unknown, NoArgument, Repeated, Many, NoMemory}
use Rattle.cmd_table.specs.declared.fault.OptFault.TheVariants as faults
use Rattle.cmd_table.specs.declared.given.Given.{Given}
use Rattle.cmd_table.specs.declared.table.Opt.{Opt}
use Rattle.cmd_table.specs.declared.table.Takes.{Takes}
use Rattle.cmd_table.specs.declared.table.Takes.TheVariants.{Nothing, Word}
use Rattle.cmd_table.specs.declared.table.Takes.TheVariants as takes
use Rattle.cmd_table.specs.Options.{place_of, takes_at, is_given, with_option, with_free, is_closed, fits, begins_with_dash}

-- what the next words mean: there is none; one is wrong; or what is given then, and the words that are left
pub data Next : Type 0 where
  over : Next
  wrong : OptFault → Next
  goes : Given → List (List ℕ) → Next

-- the word after an option that takes one
abbrev pub with_word : Given → ℕ → List ℕ → List (List ℕ) → Takes → Next
with_word given place word [] taken = wrong (NoArgument word)
with_word given place word (text ∷ words) taken =
    if fits taken text then goes (with_option given place text) words else wrong (faults.Number text)

-- what an option takes
abbrev pub with_argument : Given → ℕ → List ℕ → List (List ℕ) → Takes → Next
with_argument given place word words Nothing = goes (with_option given place []) words
with_argument given place word words Word = with_word given place word words Word
with_argument given place word words (takes.Number least most) =
    with_word given place word words (takes.Number least most)

-- an option's word: it may be given once
abbrev pub next_option : List Opt → Given → ℕ → List ℕ → List (List ℕ) → Next
next_option opts given place word words =
    if is_given given place then wrong (Repeated word)
    else with_argument given place word words (takes_at opts place)

-- a free word: there may be so many
abbrev pub next_free : ℕ → Given → List ℕ → List (List ℕ) → Next
next_free most given word words =
    if nat_lt (length given.rest) most then goes (with_free given word) words else wrong (Many word)

-- a word that is no option's
abbrev pub next_other : ℕ → Given → List ℕ → List (List ℕ) → Next
next_other most given word words =
    if begins_with_dash word then wrong (Unknown word) else next_free most given word words

-- a word that may be an option's
abbrev pub next_open : List Opt → ℕ → Given → List ℕ → List (List ℕ) → Option ℕ → Next
next_open opts most given word words None = next_other most given word words
next_open opts most given word words (Some place) = next_option opts given place word words

-- what the next words mean
abbrev pub next : List Opt → ℕ → Bool → Given → List (List ℕ) → Next
next opts most raw given [] = over
next opts most raw given (word ∷ words) =
    if is_closed raw given then next_free most given word words
    else next_open opts most given word words (place_of opts word)

-- a word was read, and so many of those after it; or it is wrong, or memory was refused
abbrev pub Goes : Next → Given → List (List ℕ) → Result ℕ OptFault → Type 0
Goes next given words result =
    MatchResult result
    (λ taken. (next ≡ goes given (drop taken words)) × (taken ≤ length words))
    (λ fault. (next ≡ wrong fault) ⊎ (fault ≡ NoMemory alloc_error))

-- nothing is wrong, or the fault was found, or memory was refused
abbrev pub Finds : Option OptFault → Result (Unit {0}) OptFault → Type 0
Finds expected result =
    MatchResult result (λ _. expected ≡ None) (λ fault. (expected ≡ Some fault) ⊎ (fault ≡ NoMemory alloc_error))
