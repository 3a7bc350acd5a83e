-- Marks, names, numbers and word constants that are written are read back, and so is all that is printed.
use Rattle.std.proofs.Common.{◌≡◌, ℕ, Bool, true, false, nat_eq, ◌||◌, ◌&&◌, List, [], ◌∷◌, ◌++◌, ◌+◌, length, take, Ok, refl, sym, ap, ◌∙◌, arith, ◌<◌, ◌≤◌, ◌-◌, ◌*◌, ◌^◌, zero, suc, get_or, Option, Some, None, subst, append_assoc, length-append, decimal, fold}
use Rattle.std.specs.List.{list_all, prefix_len}
use Rattle.std.proofs.lemmas.Bool.{eq-eqb, le-leb, ne_eqb}
use Rattle.std.proofs.Math.Seq.{take-append_seam, drop-append_seam}
use Rattle.smv_token.specs.declared.mark.Mark.{Mark}
use Rattle.smv_token.specs.declared.mark.Mark.TheVariants as marks
use Rattle.smv_token.specs.declared.token.Lexeme.TheVariants as lexeme
use Rattle.smv_token.specs.declared.token.Piece.TheVariants as piece
use Rattle.smv_token.specs.LeftOut as left_out
use Rattle.smv_token.specs.Marks.{symbol_at, symbols, text, word_of, words}
use Rattle.smv_printing.proofs.ScannedTokens.{OwnName, first_is, OwnWord, greatest, Scannable}
use Rattle.smv_token.specs.Tokens.{begins_name, continues_name, piece_at, run_kind, with_len, digit_piece, digits_at, goes_on, number_at, word_at, word_of_width, after, if_whole, start, token_of, tokens_from, with_front, tokens_of}
use Rattle.std.specs.Char.{digit_value}
use Rattle.std.specs.Str.Parse.{AllDigits, digits_value_after}
use Rattle.std.proofs.lemmas.Bool.Decides.{nat_tests}
use Rattle.std.proofs.lemmas.Fmt.{decimal_digit, decimal_is_IsNumeral_wide, first_decimal}
use Rattle.std.proofs.lemmas.Str.{digit_value_digit}
use Rattle.std.proofs.lemmas.Str.Parse.{digit_from_value}
use Rattle.std.proofs.Math.Pow.{pow_mono}
use Rattle.smv_tree.specs.Word.{Word}
use Rattle.smv_token.specs.declared.number.Base.TheVariants as base
use Rattle.smv_token.specs.declared.token.Piece.{Piece}
use Rattle.smv_token.specs.Numbers.{at_most, digit_of, is_decimal, is_digit_in, value_after, width_of, word_head}
use Rattle.smv_printing.specs.Printing.{word_text, word_head as constant_head, Ink, blank, lexeme_text, text_of, token}
use Rattle.smv_tree.specs.declared.place.Place.{Place}
use Rattle.smv_token.specs.declared.token.Lexeme.{Lexeme}
use Rattle.smv_token.specs.declared.token.Token.{Token}
use Rattle.smv_token.proofs.Scanning.{after_piece}
use Rattle.std.specs.Prelude.{◌==◌, if◌then◌else◌, map}

abbrev pub lexemes : List Token → List Lexeme
lexemes ts = map (λ t. t.lexeme) ts

-- what is printed, without its blanks
abbrev pub inked : List Ink → List Lexeme
inked [] = []
inked (blank ∷ is) = inked is
inked (token l ∷ is) = l ∷ inked is

-- the tokens, wherever they stand, are what is printed
abbrev pub Laid : List Token → List Ink → Type 0
Laid ts is = (lexemes ts ≡ inked is)

-- whether a byte behind a symbol makes it a longer one, or may begin a longer one or a comment
abbrev pub lengthens : Mark → ℕ → Bool
lengthens marks.Bang b = b == 61
lengthens marks.Colon b = b == 58 || b == 61
lengthens marks.Dot b = b == 46
lengthens marks.Greater b = b == 61 || b == 62
lengthens marks.Less b = b == 45 || b == 60 || b == 61
lengthens marks.Minus b = b == 45 || b == 62
lengthens marks.Slash b = b == 45
lengthens m b = false

-- whether a byte behind a token may belong to it
abbrev pub runs_on : Lexeme → ℕ → Bool
runs_on (lexeme.Mark m) b = if first_is begins_name (text m) then continues_name b else lengthens m b
runs_on t b = continues_name b

-- the byte, if there is one, ends what the test says bytes go on with
abbrev pub Stops : (ℕ → Bool) → Option ℕ → Type 0
Stops p None = Unit {0}
Stops p (Some b) = (p b ≡ false)

abbrev pub first_of : List ℕ → Option ℕ
first_of [] = None
first_of (b ∷ bs) = Some b

-- the first byte of what is printed, where this byte follows
abbrev pub first_byte : List Ink → Option ℕ → Option ℕ
first_byte [] next = next
first_byte (blank ∷ is) next = Some 32
first_byte (token t ∷ is) next = first_of (lexeme_text t)

-- A token that some text has, and what follows ends it.
pub record Stands (t : Lexeme) (next : Option ℕ) : Type 0 where
  pub scannable : Scannable t
  pub stops : Stops (runs_on t) next

-- Some text has each token, and what follows ends it, where this byte follows all of them.
abbrev pub WellParted : List Ink → Option ℕ → Type 0
WellParted [] next = Unit {0}
WellParted (blank ∷ is) next = WellParted is next
WellParted (token t ∷ is) next = Stands t (first_byte is next) × WellParted is next

-- The text of what is printed is all tokens, and these are read in it.
pub record ReadBack (is : List Ink) : Type 0 where
  pub tokens : List Token
  pub scanned : tokens_of (text_of is) ≡ Some tokens
  pub laid : Laid tokens is

pub either_not : (a b : Bool) → a || b ≡ false → (a ≡ false) × (b ≡ false)
either_not true b e = absurd (cc)
either_not false b e = (refl, e)

pub both_are : (a b : Bool) → a && b ≡ true → (a ≡ true) × (b ≡ true)
both_are true b e = (refl, e)
both_are false b e = absurd (cc)

-- bytes that a test tells apart are different
pub apart : (p : ℕ → Bool) (b c : ℕ) → p b ≡ true → p c ≡ false → nat_eq b c ≡ false
apart p b c h k = ne_eqb b c (λ same. absurd (let e = ap p same in cc))

pub apart_from : (p : ℕ → Bool) (b c : ℕ) → p b ≡ true → p c ≡ false → nat_eq c b ≡ false
apart_from p b c h k = ne_eqb c b (λ same. absurd (let e = ap p same in cc))

turned : (a b : ℕ) → nat_eq a b ≡ false → nat_eq b a ≡ false
turned a b e = ne_eqb b a (λ same. absurd (let k = eq-eqb a b (sym same) in cc))

-- all bytes of a run are taken, and no more
pub whole_run : (p : ℕ → Bool) (run rest : List ℕ) → list_all p run ≡ true → Stops p (first_of rest) → prefix_len p (run ++ rest) ≡ length run
whole_run p [] [] h s = refl
whole_run p [] (b ∷ bs) h s = rw s refl
whole_run p (b ∷ bs) rest h s = let k = both_are (p b) (list_all p bs) h in let e = whole_run p bs rest k.1 s in rw (k.0, e) (omega arith)

-- a run of the bytes of names, up to what ends it
pub run_read : (run rest : List ℕ) → first_is begins_name run ≡ true → list_all continues_name run ≡ true → Stops continues_name (first_of rest) → piece_at (run ++ rest) ≡ with_len (length run) (run_kind run)
unfolding piece_at
run_read [] rest h all s = absurd (cc)
run_read (b ∷ bs) rest h all s =
    let k = both_are (continues_name b) (list_all continues_name bs) all in
    let m = whole_run continues_name bs rest k.1 s in
    let n : 1 + prefix_len continues_name (bs ++ rest) ≡ length (b ∷ bs) = rw m (omega arith) in
    let e32 = apart begins_name b 32 h refl in
    let e9 = apart begins_name b 9 h refl in
    let e13 = apart begins_name b 13 h refl in
    let e10 = apart begins_name b 10 h refl in
    let e45 = apart_from begins_name b 45 h refl in
    let e47 = apart_from begins_name b 47 h refl in
    rw (e32, e9, e13, e10, e45, e47, h) (ap (λ i. with_len i (run_kind (take i (b ∷ (bs ++ rest))))) n ∙ ap (λ r. with_len (length (b ∷ bs)) (run_kind r)) (take-append_seam (b ∷ bs) rest))

-- a name, up to what ends it
pub name_read : (n rest : List ℕ) → OwnName n → Stops continues_name (first_of rest) → piece_at (n ++ rest) ≡ Ok (length n, piece.Name)
unfolding run_kind
name_read n rest h s =
    let l = le-leb (length n) 255 h.short in
    let u = h.unreserved in
    let k = h.kept in
    run_read n rest h.begins h.continues s ∙ rw (u, k, l) refl

-- A mark, up to what ends it. What is no symbol is a word.
pub mark_read : (m : Mark) (rest : List ℕ) → Stops (runs_on (lexeme.Mark m)) (first_of rest) → piece_at (text m ++ rest) ≡ Ok (length (text m), piece.Mark m)
unfolding left_out.left_out left_out.text left_out.words piece_at run_kind symbol_at symbols text word_of words
mark_read marks.Bang [] h = refl
mark_read marks.Bang (b ∷ rest) h = rw (turned b 61 h) refl
mark_read marks.Colon [] h = refl
mark_read marks.Colon (b ∷ rest) h = let k = either_not (nat_eq b 58) (nat_eq b 61) h in rw (turned b 61 k.1, turned b 58 k.0) refl
mark_read marks.Dot [] h = refl
mark_read marks.Dot (b ∷ rest) h = rw (turned b 46 h) refl
mark_read marks.Greater [] h = refl
mark_read marks.Greater (b ∷ rest) h = let k = either_not (nat_eq b 61) (nat_eq b 62) h in rw (turned b 61 k.0, turned b 62 k.1) refl
mark_read marks.Less [] h = refl
mark_read marks.Less (b ∷ rest) h =
    let k = either_not (nat_eq b 45 || nat_eq b 60) (nat_eq b 61) h in
    let l = either_not (nat_eq b 45) (nat_eq b 60) k.0 in
    rw (turned b 45 l.0, turned b 61 k.1, turned b 60 l.1) refl
mark_read marks.Minus [] h = refl
mark_read marks.Minus (b ∷ rest) h = let k = either_not (nat_eq b 45) (nat_eq b 62) h in rw (turned b 45 k.0, turned b 62 k.1) refl
mark_read marks.Slash [] h = refl
mark_read marks.Slash (b ∷ rest) h = rw (turned b 45 h) refl
mark_read marks.Iff rest h = refl
mark_read marks.Arrow rest h = refl
mark_read marks.Becomes rest h = refl
mark_read marks.Concat rest h = refl
mark_read marks.Dots rest h = refl
mark_read marks.Differs rest h = refl
mark_read marks.AtMost rest h = refl
mark_read marks.AtLeast rest h = refl
mark_read marks.ShiftLeft rest h = refl
mark_read marks.ShiftRight rest h = refl
mark_read marks.OpenRound rest h = refl
mark_read marks.CloseRound rest h = refl
mark_read marks.OpenCurly rest h = refl
mark_read marks.CloseCurly rest h = refl
mark_read marks.OpenSquare rest h = refl
mark_read marks.CloseSquare rest h = refl
mark_read marks.Comma rest h = refl
mark_read marks.Semicolon rest h = refl
mark_read marks.Ampersand rest h = refl
mark_read marks.Bar rest h = refl
mark_read marks.Equals rest h = refl
mark_read marks.Plus rest h = refl
mark_read marks.Star rest h = refl
mark_read marks.Question rest h = refl
mark_read m rest h = run_read (text m) rest refl refl h

digit_between : (c : ℕ) → 48 ≤ c → c ≤ 57 → is_decimal c ≡ true
digit_between c h k = rw (le-leb 48 c h, le-leb c 57 k) refl

-- The digits write the number.
pub record Writes (n : ℕ) (ds : List ℕ) : Type 0 where
  pub first : first_is is_decimal ds ≡ true
  pub all : list_all is_decimal ds ≡ true
  pub value : value_after 10 0 ds ≡ n

all_decimal : (ds : List ℕ) → AllDigits 10 ds → list_all is_decimal ds ≡ true
all_decimal [] h = refl
all_decimal (c ∷ cs) h = let r = digit_from_value c h.0 in rw (digit_between c r.0 r.1) (all_decimal cs h.1)

same_value : (n : ℕ) (ds : List ℕ) → AllDigits 10 ds → value_after 10 n ds ≡ digits_value_after 10 n ds
same_value n [] h = refl
same_value n (c ∷ cs) h =
    let r = digit_from_value c h.0 in
    let v = digit_value_digit c r in
    let d = digit_between c r.0 r.1 in
    let e : c - 48 ≡ digit_value c = omega (arith, r, v) in
    let m : nat_eq c 95 ≡ false = ne_eqb c 95 (λ same. absurd (omega (arith, r, same))) in
    let f : digit_of c ≡ c - 48 = rw d refl in
    rw m (ap (λ k. value_after 10 (n * 10 + k) cs) (f ∙ e) ∙ same_value (n * 10 + digit_value c) cs h.1)

first_decimal_of : (ds : List ℕ) → 0 < length ds → list_all is_decimal ds ≡ true → first_is is_decimal ds ≡ true
first_decimal_of [] h e = absurd (omega arith)
first_decimal_of (c ∷ cs) h e = (both_are (is_decimal c) (list_all is_decimal cs) e).0

pub decimal_writes : (n : ℕ) → n < 10 ^ 64 → Writes n (decimal n)
decimal_writes n h =
    let k = decimal_is_IsNumeral_wide n h in
    let a = all_decimal (decimal n) k.0.1 in
    record { first = first_decimal_of (decimal n) k.0.0 a; all = a; value = same_value 0 (decimal n) k.0.1 ∙ k.1 }

-- what goes on with no name goes on with no number
no_digit : (c : ℕ) → continues_name c ≡ false → is_decimal c ≡ false
no_digit c h = grind (arith, nat_tests)

no_word_digit : (c : ℕ) → continues_name c ≡ false → goes_on base.Decimal c ≡ false
no_word_digit c h = grind (arith, nat_tests)

word_digit : (c : ℕ) → is_decimal c ≡ true → is_digit_in 10 c ≡ true
word_digit c h = grind (arith, nat_tests)

no_letter : (c : ℕ) → is_decimal c ≡ true → begins_name c ≡ false
no_letter c h = grind (arith, nat_tests)

stops_number : (next : Option ℕ) → Stops continues_name next → Stops is_decimal next
stops_number None s = s
stops_number (Some c) s = no_digit c s

stops_word : (next : Option ℕ) → Stops continues_name next → Stops (goes_on base.Decimal) next
stops_word None s = s
stops_word (Some c) s = no_word_digit c s

-- what begins with a digit
digit_front : (ds rest : List ℕ) → first_is is_decimal ds ≡ true → piece_at (ds ++ rest) ≡ digit_piece (ds ++ rest)
unfolding piece_at
digit_front [] rest h = absurd (cc)
digit_front (b ∷ bs) rest h =
    let e32 = apart is_decimal b 32 h refl in
    let e9 = apart is_decimal b 9 h refl in
    let e13 = apart is_decimal b 13 h refl in
    let e10 = apart is_decimal b 10 h refl in
    let e45 = apart_from is_decimal b 45 h refl in
    let e47 = apart_from is_decimal b 47 h refl in
    let l = no_letter b h in
    rw (e32, e9, e13, e10, e45, e47, l, h) refl

at_most_it : (limit n : ℕ) → n ≤ limit → at_most limit n ≡ Some n
at_most_it limit n h = rw (le-leb n limit h) refl

digits_read : (n : ℕ) (ds rest : List ℕ) → Writes n ds → n ≤ greatest → Stops continues_name (first_of rest) → number_at (ds ++ rest) ≡ Ok (length ds, piece.Number n)
unfolding number_at
digits_read n ds rest w h s =
    let p = whole_run is_decimal ds rest w.all (stops_number (first_of rest) s) in
    let t = take-append_seam ds rest in
    let v = w.value in
    let m = at_most_it greatest n h in
    rw (p, t, v, m) refl

-- behind a `0`
no_head : (rest : List ℕ) → Stops continues_name (first_of rest) → word_head rest ≡ None
unfolding word_head
no_head [] s = refl
no_head (c ∷ cs) s = grind (arith, nat_tests)

zero_at : (rest : List ℕ) → Stops continues_name (first_of rest) → digit_piece (48 ∷ rest) ≡ number_at (48 ∷ rest)
unfolding digit_piece
zero_at rest s = let h = no_head rest s in rw h refl

no_head_at : (n : ℕ) (ds rest : List ℕ) → ds ≡ decimal n → n ≤ greatest → first_is is_decimal ds ≡ true → Stops continues_name (first_of rest) → digit_piece (ds ++ rest) ≡ number_at (ds ++ rest)
unfolding digit_piece
no_head_at n [] rest e h f s = absurd (cc)
no_head_at zero (b ∷ bs) rest e h f s = subst (λ x. digit_piece (x ++ rest) ≡ number_at (x ++ rest)) (sym (e ∙ decimal_digit 0 (omega arith))) (zero_at rest s)
no_head_at (suc n) (b ∷ bs) rest e h f s =
    let k = first_decimal (suc n) (omega arith) (omega arith) in
    let l : 48 < b = subst (λ x. 48 < get_or x 0 0) (sym e) k in
    let m : nat_eq 48 b ≡ false = ne_eqb 48 b (λ same. absurd (omega arith)) in
    rw m refl

pub number_read : (n : ℕ) (rest : List ℕ) → n ≤ greatest → Stops continues_name (first_of rest) → piece_at (decimal n ++ rest) ≡ Ok (length (decimal n), piece.Number n)
number_read n rest h s =
    let w = decimal_writes n (omega arith) in
    digit_front (decimal n) rest w.first ∙ no_head_at n (decimal n) rest refl h w.first s ∙ digits_read n (decimal n) rest w h s

all_word_digits : (ds : List ℕ) → list_all is_decimal ds ≡ true → list_all (goes_on base.Decimal) ds ≡ true
all_word_digits [] h = refl
all_word_digits (c ∷ cs) h =
    let k = both_are (is_decimal c) (list_all is_decimal cs) h in
    let d = word_digit c k.0 in
    rw d (all_word_digits cs k.1)

abbrev constant_of : Bool → ℕ → ℕ → Piece
constant_of s width bits = piece.Word (record { signed = s; width = width; bits = bits })

digits_begin : (s : Bool) (len : ℕ) (dw bs : List ℕ) → first_is (is_digit_in 10) bs ≡ true → digits_at s base.Decimal len dw bs ≡ with_len (len + prefix_len (goes_on base.Decimal) bs) (word_of_width s base.Decimal (take (prefix_len (goes_on base.Decimal) bs) bs) (width_of base.Decimal dw (take (prefix_len (goes_on base.Decimal) bs) bs)))
unfolding digits_at
digits_begin s len dw [] h = absurd (cc)
digits_begin s len dw (c ∷ cs) h = rw h refl

first_digit : (ds rest : List ℕ) → first_is is_decimal ds ≡ true → first_is (is_digit_in 10) (ds ++ rest) ≡ true
first_digit [] rest h = absurd (cc)
first_digit (c ∷ cs) rest h = word_digit c h

width_known : (width : ℕ) (dw digits : List ℕ) → Writes width dw → width ≤ 128 → width_of base.Decimal dw digits ≡ Some width
unfolding width_of
width_known width [] digits w h = let f = w.first in absurd (cc)
width_known width (d ∷ ds) digits w h = let v = w.value in rw v (at_most_it 128 width h)

-- the bits of a word constant, up to what ends it
bits_read : (s : Bool) (len width bits : ℕ) (dw db rest : List ℕ) → Writes width dw → Writes bits db → 1 ≤ width → width ≤ 128 → bits < 2 ^ width → Stops continues_name (first_of rest) → digits_at s base.Decimal len dw (db ++ rest) ≡ Ok (len + length db, constant_of s width bits)
bits_read s len width bits dw db rest ww wb one small fits e =
    let p = whole_run (goes_on base.Decimal) db rest (all_word_digits db wb.all) (stops_word (first_of rest) e) in
    let t = take-append_seam db rest in
    let k = width_known width dw db ww small in
    let u = wb.value in
    let z : nat_eq width 0 ≡ false = ne_eqb width 0 (λ same. absurd (omega arith)) in
    let b = at_most_it (2 ^ width - 1) bits (omega arith) in
    digits_begin s len dw (db ++ rest) (first_digit db rest wb.first) ∙ rw (p, t, k, z, u, b) refl

word_back : (s : Bool) (width bits : ℕ) (dw db rest : List ℕ) → Writes width dw → Writes bits db → 1 ≤ width → width ≤ 128 → bits < 2 ^ width → Stops continues_name (first_of rest) → word_at s base.Decimal 3 (dw ++ (95 ∷ (db ++ rest))) ≡ Ok (3 + length dw + 1 + length db, constant_of s width bits)
unfolding word_at
word_back s width bits dw db rest ww wb one small fits e =
    let p = whole_run is_decimal dw (95 ∷ (db ++ rest)) ww.all refl in
    let t = take-append_seam dw (95 ∷ (db ++ rest)) in
    let d = drop-append_seam dw (95 ∷ (db ++ rest)) in
    rw (p, t, d) (bits_read s (3 + length dw + 1) width bits dw db rest ww wb one small fits e)

word_head_read : (s : Bool) (bs : List ℕ) → piece_at (constant_head s ++ bs) ≡ word_at s base.Decimal 3 bs
unfolding piece_at digit_piece word_head
word_head_read true bs = refl
word_head_read false bs = refl

pub head_length : (s : Bool) → length (constant_head s) ≡ 3
head_length true = refl
head_length false = refl

pub word_read : (w : Word) (rest : List ℕ) → OwnWord w → Stops continues_name (first_of rest) → piece_at (word_text w ++ rest) ≡ Ok (length (word_text w), piece.Word w)
word_read w rest o s =
    let m = pow_mono o.narrow in
    let f = o.fits in
    let n = o.narrow in
    let dw = decimal w.width in
    let db = decimal w.bits in
    let e : word_text w ++ rest ≡ constant_head w.signed ++ (dw ++ (95 ∷ (db ++ rest))) = simp append_assoc in
    let a = length-append (constant_head w.signed) (dw ++ (95 ∷ db)) in
    let b = length-append dw (95 ∷ db) in
    let h = head_length w.signed in
    let l : 3 + length dw + 1 + length db ≡ length (word_text w) = omega (arith, a, b, h) in
    ap piece_at e ∙ word_head_read w.signed (dw ++ (95 ∷ (db ++ rest))) ∙ word_back w.signed w.width w.bits dw db rest (decimal_writes w.width (omega arith)) (decimal_writes w.bits (omega arith)) o.some o.narrow o.fits s ∙ ap (λ i. Ok (i, piece.Word w)) l

-- A token that is written before a text is read back, and the text is left.
record Read (t : Lexeme) (rest : List ℕ) : Type 0 where
  some : 1 ≤ length (lexeme_text t)
  piece : Piece
  is : piece_at (lexeme_text t ++ rest) ≡ Ok (length (lexeme_text t), piece)
  gives : (p : Place) → token_of p piece (lexeme_text t) ≡ record { place = p; lexeme = t } ∷ []

mark_some : (m : Mark) → 1 ≤ length (text m)
unfolding text
mark_some marks.Iff = omega arith
mark_some m = omega arith

first_some : (p : ℕ → Bool) (bs : List ℕ) → first_is p bs ≡ true → 1 ≤ length bs
first_some p [] h = absurd (cc)
first_some p (b ∷ bs) h = omega arith

word_some : (w : Word) → 1 ≤ length (word_text w)
word_some w =
    let n = length-append (constant_head w.signed) (decimal w.width ++ (95 ∷ decimal w.bits)) in
    let h = head_length w.signed in
    omega (arith, n, h)

token_back : (t : Lexeme) (rest : List ℕ) → Stands t (first_of rest) → Read t rest
unfolding token_of
token_back (lexeme.Mark m) rest h = record { some = mark_some m; piece = piece.Mark m; is = mark_read m rest h.stops; gives = λ p. refl }
token_back (lexeme.Name n) rest h = let o = h.scannable in record { some = first_some begins_name n o.begins; piece = piece.Name; is = name_read n rest o h.stops; gives = λ p. refl }
token_back (lexeme.Number n) rest h = record { some = first_some is_decimal (decimal n) (decimal_writes n (let l = h.scannable in omega (arith, l))).first; piece = piece.Number n; is = number_read n rest h.scannable h.stops; gives = λ p. refl }
token_back (lexeme.Word w) rest h = record { some = word_some w; piece = piece.Word w; is = word_read w rest h.scannable h.stops; gives = λ p. refl }

-- one token, and what is read behind it
token_step : (p : Place) (t : Lexeme) (rest : List ℕ) → Stands t (first_of rest) → tokens_from p 0 (lexeme_text t ++ rest) ≡ with_front (record { place = p; lexeme = t } ∷ []) (tokens_from (fold after p (lexeme_text t)) 0 rest)
token_step p t rest h =
    let r = token_back t rest h in
    let bs = lexeme_text t in
    let f = take-append_seam bs rest in
    let d = drop-append_seam bs rest in
    let g = r.gives p in
    let n = length-append bs rest in
    after_piece p (bs ++ rest) (length bs, r.piece) r.is r.some (omega (arith, n)) ∙ rw (f, d, g) refl

blank_step : (p : Place) (rest : List ℕ) → tokens_from p 0 (32 ∷ rest) ≡ tokens_from (after p 32) 0 rest
unfolding piece_at tokens_from token_of
blank_step p rest = refl

record FromPlace (p : Place) (is : List Ink) : Type 0 where
  tokens : List Token
  scanned : tokens_from p 0 (text_of is) ≡ record { tokens = tokens; stop = None }
  laid : Laid tokens is

some_first : (bs rest : List ℕ) → 1 ≤ length bs → first_of (bs ++ rest) ≡ first_of bs
some_first [] rest h = absurd (omega arith)
some_first (b ∷ bs) rest h = refl

printed_some : (t : Lexeme) → Scannable t → 1 ≤ length (lexeme_text t)
printed_some t h = let r = token_back t [] (record { scannable = h; stops = tt }) in r.some

first_printed : (is : List Ink) → WellParted is None → first_of (text_of is) ≡ first_byte is None
first_printed [] h = refl
first_printed (blank ∷ is) h = refl
first_printed (token t ∷ is) h = some_first (lexeme_text t) (text_of is) (printed_some t h.0.scannable)

from_place : (p : Place) (is : List Ink) → WellParted is None → FromPlace p is
unfolding tokens_from
from_place p [] h = record { tokens = []; scanned = refl; laid = refl }
from_place p (blank ∷ is) h =
    let r = from_place (after p 32) is h in
    record { tokens = r.tokens; scanned = blank_step p (text_of is) ∙ r.scanned; laid = r.laid }
from_place p (token t ∷ is) h =
    let r = from_place (fold after p (lexeme_text t)) is h.1 in
    let t' : Token = record { place = p; lexeme = t } in
    record {
      tokens = t' ∷ r.tokens;
      scanned = token_step p t (text_of is) (subst (Stands t) (sym (first_printed is h.1)) h.0) ∙ ap (with_front (t' ∷ [])) r.scanned;
      laid = ap (λ l. t ∷ l) r.laid;
    }

-- tokens that are parted well are read back
pub read_back : (is : List Ink) → WellParted is None → ReadBack is
read_back is h = let r = from_place start is h in record { tokens = r.tokens; scanned = ap if_whole r.scanned; laid = r.laid }
