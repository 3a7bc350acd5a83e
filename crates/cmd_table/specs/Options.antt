-- What the options and the free words of a command are.
use Rattle.std.specs.Prelude.{◌≡◌, ℕ, ℤ, pos, ◌/◌, ◌%◌, ◌^◌, ◌==◌, ◌&&◌, ◌||◌, Bool, true, false, not, nat_lt, int_le, List, [], ◌∷◌, ◌++◌, length, Option, Some, None, is_some, is_none, option_map, option_and_then, position, slice_get, slice_set, replicate, Result, Ok, Err, if◌then◌else◌}
use Rattle.std.specs.Option.{option_map_or, option_or}
use Rattle.std.specs.List.{find, range_with_len}
use Rattle.std.specs.Str.{bytes_eq}
use Rattle.outside.specs.Number.{number_of}
use Rattle.cmd_table.specs.declared.fault.OptFault.{OptFault}
use Rattle.cmd_table.specs.declared.fault.OptFault.TheVariants.{Unknown, NoArgument, Repeated, Excluded, Many, Required}
use Rattle.cmd_table.specs.declared.fault.OptFault.TheVariants as faults
use Rattle.cmd_table.specs.declared.given.Given.{Given}
use Rattle.cmd_table.specs.Words.{text_of_free, text_of_word}
use Rattle.cmd_table.specs.declared.table.Opt.{Opt}
use Rattle.cmd_table.specs.declared.table.Table.{Table}
use Rattle.cmd_table.specs.declared.table.Takes.{Takes}
use Rattle.cmd_table.specs.declared.table.Takes.TheVariants.{Nothing, Word}
use Rattle.cmd_table.specs.declared.table.Takes.TheVariants as takes

-- the word of an option, by its place in the table, if it is given
abbrev pub value_at : List (Option (List ℕ)) → ℕ → Option (List ℕ)
value_at values place = option_map_or (λ value. value) (slice_get values place) None

-- the place of the option that has this word
abbrev pub place_of : List Opt → List ℕ → Option ℕ
place_of opts word = position (λ opt. bytes_eq (text_of_word opt.word) word) opts

-- an option by its place: its word, what it takes
abbrev pub word_at : List Opt → ℕ → List ℕ
word_at opts place = option_map_or (λ opt. text_of_word opt.word) (slice_get opts place) []

abbrev pub takes_at : List Opt → ℕ → Takes
takes_at opts place = option_map_or (λ opt. opt.takes) (slice_get opts place) Nothing

-- the option at this place is given
abbrev pub is_given : Given → ℕ → Bool
is_given given place = is_some (value_at given.values place)

-- nothing is given yet
abbrev pub nothing : ℕ → Given
nothing count = record { values = replicate count None; rest = [] }

-- the option at this place is given its word
abbrev pub with_option : Given → ℕ → List ℕ → Given
with_option given place text = record { values = slice_set given.values place (Some text); rest = given.rest }

-- one more free word
abbrev pub with_free : Given → List ℕ → Given
with_free given word = record { values = given.values; rest = given.rest ++ word ∷ [] }

-- each further word is free as it stands: after the first free word of a raw table
abbrev pub is_closed : Bool → Given → Bool
is_closed raw given = raw && nat_lt 0 (length given.rest)

-- the text is a number from the first to the last
abbrev pub in_range : ℤ → ℤ → List ℕ → Bool
in_range least most text = option_map_or (λ n. int_le least (pos n) && int_le (pos n) most) (number_of text) false

-- an option takes the word: a number has to be in its range
abbrev pub fits : Takes → List ℕ → Bool
fits Nothing text = true
fits Word text = true
fits (takes.Number least most) text = in_range least most text

-- an option takes a word
abbrev pub takes_word : Takes → Bool
takes_word Nothing = false
takes_word Word = true
takes_word (takes.Number least most) = true

-- the word begins with `-`
abbrev pub begins_with_dash : List ℕ → Bool
begins_with_dash [] = false
begins_with_dash (first ∷ rest) = first == 45

-- the place of the option that a word gives, after what is given so far
abbrev pub option_of : List Opt → Bool → Given → List ℕ → Option ℕ
option_of opts raw given word = if is_closed raw given then None else place_of opts word

-- a word that begins with `-` and is no option's
abbrev pub is_unknown : List Opt → Bool → Given → List ℕ → Bool
is_unknown opts raw given word =
    not (is_closed raw given) && (is_none (place_of opts word) && begins_with_dash word)

-- any other word that gives no option
abbrev pub is_free : List Opt → Bool → Given → List ℕ → Bool
is_free opts raw given word = is_none (option_of opts raw given word) && not (is_unknown opts raw given word)

-- after what is given so far, words are read from left to right, and end with what is given in all or
-- with the refusal of the first wrong one
pub data Reads (opts : List Opt) (most : ℕ) (raw : Bool) : Given → List (List ℕ) → Result Given OptFault → Type 0 where
  -- no word is left
  ends : (given : Given) → Reads opts most raw given [] (Ok given)
  -- an option that takes nothing
  takes_none : (given : Given) (word : List ℕ) (words : List (List ℕ)) (place : ℕ) (end : Result Given OptFault) → option_of opts raw given word ≡ Some place → is_given given place ≡ false → takes_word (takes_at opts place) ≡ false → Reads opts most raw (with_option given place []) words end → Reads opts most raw given (word ∷ words) end
  -- an option and the word that it takes
  takes_one : (given : Given) (word text : List ℕ) (words : List (List ℕ)) (place : ℕ) (end : Result Given OptFault) → option_of opts raw given word ≡ Some place → is_given given place ≡ false → takes_word (takes_at opts place) ≡ true → fits (takes_at opts place) text ≡ true → Reads opts most raw (with_option given place text) words end → Reads opts most raw given (word ∷ text ∷ words) end
  -- a free word
  stands_free : (given : Given) (word : List ℕ) (words : List (List ℕ)) (end : Result Given OptFault) → is_free opts raw given word ≡ true → nat_lt (length given.rest) most ≡ true → Reads opts most raw (with_free given word) words end → Reads opts most raw given (word ∷ words) end
  -- no option has the word
  unknown : (given : Given) (word : List ℕ) (words : List (List ℕ)) → is_unknown opts raw given word ≡ true → Reads opts most raw given (word ∷ words) (Err (Unknown word))
  -- an option is given twice
  repeated : (given : Given) (word : List ℕ) (words : List (List ℕ)) (place : ℕ) → option_of opts raw given word ≡ Some place → is_given given place ≡ true → Reads opts most raw given (word ∷ words) (Err (Repeated word))
  -- an option takes a word, and none is left
  no_argument : (given : Given) (word : List ℕ) (place : ℕ) → option_of opts raw given word ≡ Some place → is_given given place ≡ false → takes_word (takes_at opts place) ≡ true → Reads opts most raw given (word ∷ []) (Err (NoArgument word))
  -- an option takes a number, and no number of its range follows
  no_number : (given : Given) (word text : List ℕ) (words : List (List ℕ)) (place : ℕ) → option_of opts raw given word ≡ Some place → is_given given place ≡ false → takes_word (takes_at opts place) ≡ true → fits (takes_at opts place) text ≡ false → Reads opts most raw given (word ∷ text ∷ words) (Err (faults.Number text))
  -- a free word beyond the most
  too_many : (given : Given) (word : List ℕ) (words : List (List ℕ)) → is_free opts raw given word ≡ true → nat_lt (length given.rest) most ≡ false → Reads opts most raw given (word ∷ words) (Err (Many word))

-- the first place below the count that passes the test
abbrev pub first_place : (ℕ → Bool) → ℕ → Option ℕ
first_place test count = find test (range_with_len 0 count)

-- bit `place` of a mask
abbrev pub has_bit : ℕ → ℕ → Bool
has_bit mask place = nat_lt place 32 && (mask / 2 ^ place) % 2 == 1

-- one of two options names the other
abbrev pub excludes_at : List Opt → ℕ → ℕ
excludes_at opts place = option_map_or (λ opt. opt.excludes) (slice_get opts place) 0

abbrev pub exclude : List Opt → ℕ → ℕ → Bool
exclude opts i j = has_bit (excludes_at opts i) j || has_bit (excludes_at opts j) i

-- the first option after i that is given and that i excludes, where i is given
abbrev pub partner_of : List Opt → Given → ℕ → Option ℕ
partner_of opts given i =
    first_place (λ j. is_given given i && nat_lt i j && is_given given j && exclude opts i j) (length opts)

-- the first option that is given beside one that it excludes
abbrev pub first_excluding : List Opt → Given → Option ℕ
first_excluding opts given = first_place (λ i. is_some (partner_of opts given i)) (length opts)

-- the first option that is given and beside which no free word may stand
abbrev pub first_alone : List Opt → ℕ → Given → Option ℕ
first_alone opts alone given = first_place (λ i. is_given given i && has_bit alone i) (length opts)

-- the first option that must be given and is not
abbrev pub is_required : List Opt → ℕ → Bool
is_required opts place = option_map_or (λ opt. opt.required) (slice_get opts place) false

abbrev pub first_missing : List Opt → Given → Option ℕ
first_missing opts given = first_place (λ i. is_required opts i && not (is_given given i)) (length opts)

-- the pair of options that exclude each other, in the table's order
abbrev pub excluded_pair : List Opt → Given → Option OptFault
excluded_pair opts given =
    option_and_then (λ i. option_map (λ j. Excluded (word_at opts i) (word_at opts j)) (partner_of opts given i)) (first_excluding opts given)

-- the option and the first free word that may not stand beside it
abbrev pub excluded_free : List Opt → ℕ → Given → Option OptFault
excluded_free opts alone given =
    option_and_then (λ word. option_map (λ i. Excluded (word_at opts i) word) (first_alone opts alone given)) (slice_get given.rest 0)

-- what is missing: an option, or else a free word
abbrev pub missing_of : List Opt → ℕ → List ℕ → Given → Option OptFault
missing_of opts least free given =
    option_or (option_map (λ i. Required (word_at opts i)) (first_missing opts given)) (if nat_lt (length given.rest) least then Some (Required free) else None)

-- what is wrong with what is given in all: two options, then an option and a free word, then what is missing
abbrev pub fault_among : List Opt → ℕ → ℕ → List ℕ → Given → Option OptFault
fault_among opts least alone free given =
    option_or (excluded_pair opts given) (option_or (excluded_free opts alone given) (missing_of opts least free given))

-- the answer to what is given in all
abbrev pub checked : {N : ℕ} → Table N → Given → Result Given OptFault
checked table given =
    option_map_or (λ fault. Err fault) (fault_among table.opts table.least table.alone (text_of_free table.free) given) (Ok given)

-- the answer to what the words gave, or to the first wrong one
abbrev pub ended : {N : ℕ} → Table N → Result Given OptFault → Result Given OptFault
ended table (Err fault) = Err fault
ended table (Ok given) = checked table given

-- the words of a command give this answer by its table
abbrev pub Options : {N : ℕ} → Table N → List (List ℕ) → Result Given OptFault → Type 0
Options table words answer =
    (end : Result Given OptFault) × Reads table.opts table.most table.raw (nothing (length table.opts)) words end
    × (ended table end ≡ answer)
