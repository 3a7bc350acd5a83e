-- The tokens of a text, and where each begins.
use Rattle.std.specs.Prelude.{◌++◌, ◌+◌, ◌-◌, ◌^◌, ◌&&◌, ◌||◌, ◌==◌, ℕ, zero, suc, Bool, not, List, [], ◌∷◌, length, take, drop, min, Option, Some, None, Result, Ok, Err, if◌then◌else◌, nat_eq, nat_le, codes}
use Rattle.std.specs.List.{prefix_len, starts_with}
use Rattle.smv_tree.specs.declared.place.Place.{Place}
use Rattle.smv_token.specs.declared.left_out.LeftOut.{LeftOut}
use Rattle.smv_token.specs.declared.mark.Mark.{Mark}
use Rattle.smv_token.specs.declared.number.Base.{Base}
use Rattle.smv_token.specs.declared.token.Flaw.{Flaw}
use Rattle.smv_token.specs.declared.token.Flaw.TheVariants as flaw
use Rattle.smv_token.specs.declared.token.Token.{Token}
use Rattle.smv_token.specs.declared.token.Lexeme.TheVariants as lexeme
use Rattle.smv_token.specs.declared.token.Piece.{Piece}
use Rattle.smv_token.specs.declared.token.Piece.TheVariants as piece
use Rattle.smv_token.specs.LeftOut.{left_out}
use Rattle.smv_token.specs.Marks.{symbol_at, text, word_of}
use Rattle.smv_token.specs.Numbers.{at_most, is_decimal, is_digit_in, radix_of, value_after, width_of, word_head}

-- blank, tab, carriage return and line feed
abbrev pub is_blank : ℕ → Bool
is_blank b = b == 32 || b == 9 || b == 13 || b == 10

-- a letter or `_`
abbrev pub begins_name : ℕ → Bool
begins_name b = (nat_le 65 b && nat_le b 90) || (nat_le 97 b && nat_le b 122) || b == 95

-- what may follow in a name: letters, digits, `_`, `$`, `#` and `-`
abbrev pub continues_name : ℕ → Bool
continues_name b = begins_name b || (nat_le 48 b && nat_le b 57) || b == 36 || b == 35 || b == 45

-- what is not the end of a line
abbrev pub is_in_line : ℕ → Bool
is_in_line b = not (b == 10)

abbrev pub named_within : ℕ → Result Piece Flaw
named_within n = if nat_le n 255 then Ok piece.Name else Err flaw.LongName

abbrev pub kept_or_left : Option Mark → Option LeftOut → ℕ → Result Piece Flaw
kept_or_left (Some m) o n = Ok (piece.Mark m)
kept_or_left None (Some w) n = Err (flaw.LeftOut w)
kept_or_left None None n = named_within n

abbrev pub with_len : ℕ → Result Piece Flaw → Result (ℕ × Piece) Flaw
with_len n (Ok k) = Ok (n, k)
with_len n (Err f) = Err f

-- A longest run of name bytes is a reserved word, a left-out word, or a name of at most 255 bytes.
unfoldable pub run_kind : List ℕ → Result Piece Flaw
run_kind run = kept_or_left (word_of run) (left_out run) (length run)

abbrev pub word_within : Bool → ℕ → Option ℕ → Result Piece Flaw
word_within signed width None = Err flaw.BadWord
word_within signed width (Some n) = Ok (piece.Word (record { signed = signed; width = width; bits = n }))

abbrev pub word_of_width : Bool → Base → List ℕ → Option ℕ → Result Piece Flaw
word_of_width signed b digits None = Err flaw.BadWord
word_of_width signed b digits (Some width) = if width == 0 then Err flaw.BadWord else word_within signed width (at_most (2 ^ width - 1) (value_after (radix_of b) 0 digits))

-- a digit of the base, or `_`
abbrev pub goes_on : Base → ℕ → Bool
goes_on b c = is_digit_in (radix_of b) c || c == 95

-- What stands behind the `_` of a word constant: its first digit, and digits and `_` as far as they go.
unfoldable pub digits_at : Bool → Base → ℕ → List ℕ → List ℕ → Result (ℕ × Piece) Flaw
digits_at signed b len width [] = Err flaw.BadWord
digits_at signed b len width (c ∷ cs) =
    if is_digit_in (radix_of b) c then with_len (len + prefix_len (goes_on b) (c ∷ cs)) (word_of_width signed b (take (prefix_len (goes_on b) (c ∷ cs)) (c ∷ cs)) (width_of b width (take (prefix_len (goes_on b) (c ∷ cs)) (c ∷ cs))))
    else Err flaw.BadWord

-- what stands behind the width of a word constant
abbrev pub line_at : Bool → Base → ℕ → List ℕ → List ℕ → Result (ℕ × Piece) Flaw
line_at signed b len width [] = Err flaw.BadWord
line_at signed b len width (c ∷ cs) = if c == 95 then digits_at signed b (len + 1) width cs else Err flaw.BadWord

-- A word constant behind its head of a length: a decimal width or none, `_`, and digits.
unfoldable pub word_at : Bool → Base → ℕ → List ℕ → Result (ℕ × Piece) Flaw
word_at signed b len bs = line_at signed b (len + prefix_len is_decimal bs) (take (prefix_len is_decimal bs) bs) (drop (prefix_len is_decimal bs) bs)

abbrev pub number_within : ℕ → Option ℕ → Result (ℕ × Piece) Flaw
number_within len None = Err flaw.NumberRange
number_within len (Some n) = Ok (len, piece.Number n)

-- a decimal number below 2 ^ 63
unfoldable pub number_at : List ℕ → Result (ℕ × Piece) Flaw
number_at bs = number_within (prefix_len is_decimal bs) (at_most 9223372036854775807 (value_after 10 0 (take (prefix_len is_decimal bs) bs)))

abbrev pub word_or_number : List ℕ → Option (Bool × Base × ℕ) → Result (ℕ × Piece) Flaw
word_or_number bs None = number_at bs
word_or_number bs (Some h) = word_at h.0 h.1 h.2 (drop h.2 bs)

-- what begins with a digit
unfoldable pub digit_piece : List ℕ → Result (ℕ × Piece) Flaw
digit_piece bs = word_or_number bs (if starts_with nat_eq bs (codes "0") then word_head (drop 1 bs) else None)

abbrev pub symbol_or_none : Option Mark → Result (ℕ × Piece) Flaw
symbol_or_none (Some m) = Ok (length (text m), piece.Mark m)
symbol_or_none None = Err flaw.BadByte

-- The length and the kind of what a text begins with: a blank, a comment to the end of its line, a
-- word or a name, a number or a word constant, or the longest symbol. `/--` begins nothing.
unfoldable pub piece_at : List ℕ → Result (ℕ × Piece) Flaw
piece_at [] = Err flaw.BadByte
piece_at (b ∷ bs) =
    if is_blank b then Ok (1, piece.Gap)
    else (if starts_with nat_eq (b ∷ bs) (codes "--") then Ok (prefix_len is_in_line (b ∷ bs), piece.Gap)
    else (if starts_with nat_eq (b ∷ bs) (codes "/--") then Err flaw.BadByte
    else (if begins_name b then with_len (prefix_len continues_name (b ∷ bs)) (run_kind (take (prefix_len continues_name (b ∷ bs)) (b ∷ bs)))
    else (if is_decimal b then digit_piece (b ∷ bs)
    else symbol_or_none (symbol_at (b ∷ bs))))))

-- the place of the first byte
abbrev pub start : Place
start = record { line = 1; column = 1 }

-- the place after a byte: the next column, or the next line's first; it stands still at 2 ^ 32 - 1
abbrev pub after : Place → ℕ → Place
after p b = if b == 10 then record { line = min (p.line + 1) 4294967295; column = 1 } else record { line = p.line; column = min (p.column + 1) 4294967295 }

-- the token of a piece with these bytes, if it is one
unfoldable pub token_of : Place → Piece → List ℕ → List Token
token_of p piece.Gap bytes = []
token_of p (piece.Mark m) bytes = record { place = p; lexeme = lexeme.Mark m } ∷ []
token_of p (piece.Number n) bytes = record { place = p; lexeme = lexeme.Number n } ∷ []
token_of p (piece.Word w) bytes = record { place = p; lexeme = lexeme.Word w } ∷ []
token_of p piece.Name bytes = record { place = p; lexeme = lexeme.Name bytes } ∷ []

-- The tokens of a text up to its end or to what is no token, with the place and the kind of that.
pub record Scanned : Type 0 where
  pub tokens : List Token
  pub stop : Option (Place × Flaw)

abbrev pub with_front : List Token → Scanned → Scanned
with_front front s = record { tokens = front ++ s.tokens; stop = s.stop }

-- A name that is too long stands as a token too, by its first 255 bytes: what is wrong at its place for
-- another reason goes before its length.
abbrev pub cut_name : Place → List ℕ → Flaw → List Token
cut_name p bs flaw.LongName = token_of p piece.Name (take 255 bs)
cut_name p bs f = []

abbrev pub stopped : Place → List ℕ → Flaw → Scanned
stopped p bs f = record { tokens = cut_name p bs f; stop = Some (p, f) }

-- the token of a piece, and those after it
abbrev pub joined : Place → List ℕ → (ℕ → Scanned) → Result (ℕ × Piece) Flaw → Scanned
joined p bs more (Ok k) = with_front (token_of p k.1 (take k.0 bs)) (more (k.0 - 1))
joined p bs more (Err f) = stopped p bs f

-- The tokens of a text that begins at a place, where so many bytes still belong to the piece before.
unfoldable pub tokens_from : Place → ℕ → List ℕ → Scanned
tokens_from p n [] = record { tokens = []; stop = None }
tokens_from p (suc n) (b ∷ bs) = tokens_from (after p b) n bs
tokens_from p zero (b ∷ bs) = joined p (b ∷ bs) (λ n. tokens_from (after p b) n bs) (piece_at (b ∷ bs))

-- the tokens of a text
abbrev pub scanned : List ℕ → Scanned
scanned bytes = tokens_from start 0 bytes

abbrev pub if_whole : Scanned → Option (List Token)
if_whole s = elim s.stop [ None ↦ Some s.tokens | Some f ↦ None ]

-- the tokens of a text where all of it is tokens
abbrev pub tokens_of : List ℕ → Option (List Token)
tokens_of bytes = if_whole (scanned bytes)
