-- The lexemes that texts have, the trees and formulas that texts can spell, and that a text's tokens are such.
use Rattle.std.specs.Prelude.{◌≡◌, ◌<◌, ◌≤◌, ◌^◌, ℕ, suc, ℤ, pos, negsuc, Bool, true, false, List, [], ◌∷◌, None, length}
use Rattle.std.specs.List.{list_all, prefix_len, starts_with}
use Rattle.smv_tree.specs.Models.{Claim, atom, no, after, always, some_time, both}
use Rattle.smv_tree.specs.Trees.{Tree, Trees, Arms, truth, number, word, name, span, set, cases, choice, one, two, select, next, widen, const, count, no_trees, tree, no_arms, arm}
use Rattle.smv_tree.specs.Word.{Word}
use Rattle.smv_token.specs.declared.token.Lexeme.{Lexeme}
use Rattle.smv_token.specs.declared.token.Lexeme.TheVariants as lexeme
use Rattle.smv_token.specs.declared.token.Token.{Token}
use Rattle.smv_token.specs.LeftOut.{left_out}
use Rattle.smv_token.specs.Marks.{word_of, symbol_at}
use Rattle.smv_printing.specs.Printing.{path_head}
use Rattle.smv_token.specs.Tokens.{begins_name, continues_name, Scanned, after as place_after, digit_piece, digits_at, goes_on, is_blank, is_in_line, joined, kept_or_left, line_at, number_at, number_within, piece_at, run_kind, scanned, start, symbol_or_none, token_of, tokens_from, with_len, word_at, word_of_width, word_or_number, word_within}
use Rattle.std.proofs.Common.{◌-◌, ◌+◌, if◌then◌else◌, zero, cond, nat_eq, nat_le, ◌==◌, ◌++◌, take, drop, Option, Some, Result, Ok, Err, refl, subst, arith, codes}
use Rattle.std.proofs.lemmas.Bool.{leb-true}
use Rattle.std.proofs.Math.Nat.{one-le-pow}
use Rattle.smv_tree.specs.declared.place.Place.{Place}
use Rattle.smv_token.specs.declared.left_out.LeftOut.{LeftOut}
use Rattle.smv_token.specs.declared.mark.Mark.{Mark}
use Rattle.smv_token.specs.declared.number.Base.{Base}
use Rattle.smv_token.specs.declared.number.Base.TheVariants as base
use Rattle.smv_token.specs.declared.token.Flaw.{Flaw}
use Rattle.smv_token.specs.declared.token.Flaw.TheVariants as flaw
use Rattle.smv_token.specs.declared.token.Piece.{Piece}
use Rattle.smv_token.specs.declared.token.Piece.TheVariants as piece
use Rattle.smv_token.specs.Numbers.{at_most, is_decimal, is_digit_in, radix_of, value_after, width_of, word_head}

-- the test holds of the first byte
abbrev pub first_is : (ℕ → Bool) → List ℕ → Bool
first_is p [] = false
first_is p (b ∷ bs) = p b

-- A name: 1 to 255 bytes, all of them as names begin and go on, and no word of the language.
pub record OwnName (n : List ℕ) : Type 0 where
  pub begins : first_is begins_name n ≡ true
  pub continues : list_all continues_name n ≡ true
  pub short : length n ≤ 255
  pub unreserved : word_of n ≡ None
  pub kept : left_out n ≡ None

-- A word constant: 1 to 128 bits, and none above them.
pub record OwnWord (w : Word) : Type 0 where
  pub some : 1 ≤ w.width
  pub narrow : w.width ≤ 128
  pub fits : w.bits < 2 ^ w.width

-- the greatest number that a token has
abbrev pub greatest : ℕ
greatest = 9223372036854775807

-- some text has this lexeme
abbrev pub Scannable : Lexeme → Type 0
Scannable (lexeme.Mark m) = Unit {0}
Scannable (lexeme.Name n) = OwnName n
Scannable (lexeme.Number n) = n ≤ greatest
Scannable (lexeme.Word w) = OwnWord w

-- the greatest width, and the greatest place of a bit
abbrev pub widest : ℕ
widest = 4294967295

-- a number with a sign or not
abbrev pub Signed : ℤ → Type 0
Signed (pos n) = n ≤ greatest
Signed (negsuc n) = suc n ≤ greatest

-- names behind dots
abbrev pub OwnNames : List (List ℕ) → Type 0
OwnNames [] = Unit {0}
OwnNames (n ∷ ns) = OwnName n × OwnNames ns

-- a path begins with a name or `self`
abbrev pub OwnPath : List (List ℕ) → Type 0
OwnPath [] = ⊥
OwnPath (n ∷ ns) = Scannable (path_head n) × OwnNames ns

abbrev pub SomeTrees : Trees → Type 0
SomeTrees no_trees = ⊥
SomeTrees (tree x xs) = Unit {0}

abbrev pub SomeArms : Arms → Type 0
SomeArms no_arms = ⊥
SomeArms (arm c v bs) = Unit {0}

unfoldable mutual
  -- each name, number and word of an expression is that of a token, and no list of parts is empty
  pub Scannables : Tree → Type 0
  Scannables (truth p b) = Unit {0}
  Scannables (number p n) = n ≤ greatest
  Scannables (word p w) = OwnWord w
  Scannables (name p ns) = OwnPath ns
  Scannables (span p low high) = Signed low × Signed high
  Scannables (set p es) = SomeTrees es × EachScannable es
  Scannables (cases p bs) = SomeArms bs × ArmsScannable bs
  Scannables (choice p c a b) = Scannables c × Scannables a × Scannables b
  Scannables (one p o a) = Scannables a
  Scannables (two p o a b) = Scannables a × Scannables b
  Scannables (select p a high low) = Scannables a × (high ≤ widest) × (low ≤ widest)
  Scannables (next p a) = Scannables a
  Scannables (widen p resize a n) = Scannables a × (n ≤ widest)
  Scannables (const p signed v n) = Signed v × (n ≤ widest)
  Scannables (count p es) = SomeTrees es × EachScannable es

  -- that of each expression
  pub EachScannable : Trees → Type 0
  EachScannable no_trees = Unit {0}
  EachScannable (tree x xs) = Scannables x × EachScannable xs

  -- that of each branch
  pub ArmsScannable : Arms → Type 0
  ArmsScannable no_arms = Unit {0}
  ArmsScannable (arm c v bs) = Scannables c × Scannables v × ArmsScannable bs

-- that of each atom of a formula
unfoldable pub ClaimScannable : Claim → Type 0
ClaimScannable (atom x) = Scannables x
ClaimScannable (no a) = ClaimScannable a
ClaimScannable (after a) = ClaimScannable a
ClaimScannable (always a) = ClaimScannable a
ClaimScannable (some_time a) = ClaimScannable a
ClaimScannable (both o a b) = ClaimScannable a × ClaimScannable b

-- the lexeme of each token is one that texts have
abbrev pub AllScannable : List Token → Type 0
AllScannable [] = Unit {0}
AllScannable (t ∷ ts) = Scannable t.lexeme × AllScannable ts

-- what is known of a piece at the front of a text
abbrev Fitting : List ℕ → ℕ × Piece → Type 0
Fitting bs (n, piece.Gap) = Unit {0}
Fitting bs (n, piece.Mark m) = Unit {0}
Fitting bs (n, piece.Name) = OwnName (take n bs)
Fitting bs (n, piece.Number m) = m ≤ greatest
Fitting bs (n, piece.Word w) = OwnWord w

abbrev Good : List ℕ → Result (ℕ × Piece) Flaw → Type 0
Good bs (Ok k) = Fitting bs k
Good bs (Err f) = Unit {0}

by_test : {X : Type 0} (P : X → Type 0) (b : Bool) (x y : X) → (b ≡ true → P x) → (b ≡ false → P y) → P (if b then x else y)
by_test P true x y f g = f refl
by_test P false x y f g = g refl

all_taken : (p : ℕ → Bool) (bs : List ℕ) → list_all p (take (prefix_len p bs) bs) ≡ true
all_taken p [] = refl
all_taken p (b ∷ bs) = by (all_taken p bs) (p b) refl where
  by : list_all p (take (prefix_len p bs) bs) ≡ true → (x : Bool) → p b ≡ x → list_all p (take (cond x (1 + prefix_len p bs) 0) (b ∷ bs)) ≡ true
  by k false e = refl
  by k true e =
      let n : 1 + prefix_len p bs ≡ suc (prefix_len p bs) = omega arith in
      rw n (rw (e, k) refl)

begins_too : (b : ℕ) → begins_name b ≡ true → continues_name b ≡ true
begins_too b h = rw h refl

first_taken : (p : ℕ → Bool) (b : ℕ) (bs : List ℕ) → p b ≡ true → begins_name b ≡ true → first_is begins_name (take (prefix_len p (b ∷ bs)) (b ∷ bs)) ≡ true
first_taken p b bs e h =
    let n : 1 + prefix_len p bs ≡ suc (prefix_len p bs) = omega arith in
    rw (e, n) h

name_good : (bs run : List ℕ) (n : ℕ) → run ≡ take n bs → first_is begins_name run ≡ true → list_all continues_name run ≡ true → Good bs (with_len n (run_kind run))
unfolding run_kind
name_good bs run n e f a = by (word_of run) (left_out run) refl refl where
  by : (m : Option Mark) (o : Option LeftOut) → word_of run ≡ m → left_out run ≡ o → Good bs (with_len n (kept_or_left m o (length run)))
  by (Some m) o u k = tt
  by None (Some w) u k = tt
  by None None u k = by_test (λ r. Good bs (with_len n r)) (nat_le (length run) 255) (Ok piece.Name) _ (λ l. subst OwnName e (record { begins = f; continues = a; short = leb-true (length run) 255 l; unreserved = u; kept = k })) (λ l. tt)

number_good : (bs cs : List ℕ) → Good bs (number_at cs)
unfolding number_at
number_good bs cs = by (prefix_len _ cs) _ where
  by : (len v : ℕ) → Good bs (number_within len (at_most greatest v))
  by len v = by_test (λ o. Good bs (number_within len o)) (nat_le v greatest) (Some v) None (λ l. leb-true v greatest l) (λ l. tt)

-- a width is at most 128
abbrev Narrow : Option ℕ → Type 0
Narrow None = Unit {0}
Narrow (Some n) = n ≤ 128

at_most_narrow : (n : ℕ) → Narrow (at_most 128 n)
at_most_narrow n = by_test Narrow (nat_le n 128) (Some n) None (λ l. leb-true n 128 l) (λ l. tt)

width_narrow : (b : Base) (ws ds : List ℕ) → Narrow (width_of b ws ds)
unfolding width_of
width_narrow base.Binary [] ds = at_most_narrow _
width_narrow base.Octal [] ds = at_most_narrow _
width_narrow base.Decimal [] ds = tt
width_narrow base.Hex [] ds = at_most_narrow _
width_narrow b (w ∷ ws) ds = at_most_narrow _

bits_good : (bs : List ℕ) (s : Bool) (len width v : ℕ) → 1 ≤ width → width ≤ 128 → Good bs (with_len len (word_within s width (at_most (2 ^ width - 1) v)))
bits_good bs s len width v least small =
    let p = one-le-pow width 2 (omega arith) in
    by_test (λ o. Good bs (with_len len (word_within s width o))) (nat_le v (2 ^ width - 1)) (Some v) None (λ l. let k = leb-true v (2 ^ width - 1) l in record { some = least; narrow = small; fits = omega (arith, k, p) }) (λ l. tt)

width_good : (bs : List ℕ) (s : Bool) (b : Base) (len : ℕ) (ds : List ℕ) (o : Option ℕ) → Narrow o → Good bs (with_len len (word_of_width s b ds o))
width_good bs s b len ds None n = tt
width_good bs s b len ds (Some width) n = by_test (λ r. Good bs (with_len len r)) (width == 0) (Err flaw.BadWord) _ (λ z. tt) (λ z. bits_good bs s len width (value_after (radix_of b) 0 ds) (positive width z) n) where
  positive : (n : ℕ) → n == 0 ≡ false → 1 ≤ n
  positive zero e = absurd (cc)
  positive (suc n) e = omega arith

digits_good : (bs : List ℕ) (s : Bool) (b : Base) (len : ℕ) (ws ds : List ℕ) → Good bs (digits_at s b len ws ds)
unfolding digits_at
digits_good bs s b len ws [] = tt
digits_good bs s b len ws (c ∷ cs) = by_test (Good bs) (is_digit_in (radix_of b) c) _ _ (λ h. width_good bs s b (len + prefix_len (goes_on b) (c ∷ cs)) (take (prefix_len (goes_on b) (c ∷ cs)) (c ∷ cs)) _ (width_narrow b ws _)) (λ h. tt)

line_good : (bs : List ℕ) (s : Bool) (b : Base) (len : ℕ) (ws ds : List ℕ) → Good bs (line_at s b len ws ds)
line_good bs s b len ws [] = tt
line_good bs s b len ws (c ∷ cs) = by_test (Good bs) (c == 95) _ _ (λ h. digits_good bs s b _ ws cs) (λ h. tt)

word_good : (bs : List ℕ) (s : Bool) (b : Base) (len : ℕ) (cs : List ℕ) → Good bs (word_at s b len cs)
unfolding word_at
word_good bs s b len cs =
    let n = prefix_len is_decimal cs in
    line_good bs s b (len + n) (take n cs) (drop n cs)

head_good : (bs cs : List ℕ) (h : Option (Bool × Base × ℕ)) → Good bs (word_or_number cs h)
head_good bs cs None = number_good bs cs
head_good bs cs (Some h) = word_good bs h.0 h.1 h.2 (drop h.2 cs)

symbol_good : (bs : List ℕ) (o : Option Mark) → Good bs (symbol_or_none o)
symbol_good bs None = tt
symbol_good bs (Some m) = tt

piece_good : (bs : List ℕ) → Good bs (piece_at bs)
unfolding piece_at digit_piece
piece_good [] = tt
piece_good (b ∷ bs) =
    let all = b ∷ bs in
    let n = prefix_len continues_name all in
    let named = with_len n (run_kind (take n all)) in
    let other = symbol_or_none (symbol_at all) in
    let digits = if is_decimal b then digit_piece all else other in
    let worded = if begins_name b then named else digits in
    let slashed = if starts_with nat_eq all (codes "/--") then Err flaw.BadByte else worded in
    let dashed = if starts_with nat_eq all (codes "--") then Ok (prefix_len is_in_line all, piece.Gap) else slashed in
    let g5 : Good all digits = by_test (Good all) (is_decimal b) (digit_piece all) other (λ h. head_good all all (if starts_with nat_eq all (codes "0") then word_head (drop 1 all) else None)) (λ h. symbol_good all (symbol_at all)) in
    let g4 : Good all worded = by_test (Good all) (begins_name b) named digits (λ h. name_good all (take n all) n refl (first_taken continues_name b bs (begins_too b h) h) (all_taken continues_name all)) (λ h. g5) in
    let g3 : Good all slashed = by_test (Good all) (starts_with nat_eq all (codes "/--")) (Err flaw.BadByte) worded (λ h. tt {0}) (λ h. g4) in
    let g2 : Good all dashed = by_test (Good all) (starts_with nat_eq all (codes "--")) (Ok (prefix_len is_in_line all, piece.Gap)) slashed (λ h. tt {0}) (λ h. g3) in
    by_test (Good all) (is_blank b) (Ok (1, piece.Gap)) dashed (λ h. tt {0}) (λ h. g2)

pub all_append : (ts us : List Token) → AllScannable ts → AllScannable us → AllScannable (ts ++ us)
all_append [] us h k = k
all_append (t ∷ ts) us h k = (h.0, all_append ts us h.1 k)

token_good : (p : Place) (bs : List ℕ) (k : ℕ × Piece) → Fitting bs k → AllScannable (token_of p k.1 (take k.0 bs))
unfolding token_of
token_good p bs (n, piece.Gap) h = tt
token_good p bs (n, piece.Mark m) h = (tt, tt)
token_good p bs (n, piece.Name) h = (h, tt)
token_good p bs (n, piece.Number m) h = (h, tt)
token_good p bs (n, piece.Word w) h = (h, tt)

-- where all of a text is tokens, their lexemes are those that texts have
WholeGood : Scanned → Type 0
WholeGood s = s.stop ≡ None → AllScannable s.tokens

joined_good : (p : Place) (bs : List ℕ) (more : ℕ → Scanned) (r : Result (ℕ × Piece) Flaw) → Good bs r → ((n : ℕ) → WholeGood (more n)) → WholeGood (joined p bs more r)
unfolding WholeGood
joined_good p bs more (Ok k) g h = λ e. all_append (token_of p k.1 (take k.0 bs)) (more (k.0 - 1)).tokens (token_good p bs k g) (h (k.0 - 1) e)
joined_good p bs more (Err f) g h = λ e. absurd (cc)

tokens_good : (p : Place) (n : ℕ) (bs : List ℕ) → WholeGood (tokens_from p n bs)
unfolding WholeGood tokens_from
tokens_good p n [] = λ e. tt
tokens_good p (suc n) (b ∷ bs) = tokens_good (place_after p b) n bs
tokens_good p zero (b ∷ bs) = joined_good p (b ∷ bs) (λ n. tokens_from (place_after p b) n bs) (piece_at (b ∷ bs)) (piece_good (b ∷ bs)) (λ n. tokens_good (place_after p b) n bs)

-- the lexemes of a text that is all tokens are those that texts have
pub scanned_scannable : (bytes : List ℕ) → (scanned bytes).stop ≡ None → AllScannable (scanned bytes).tokens
unfolding WholeGood
scanned_scannable bytes = tokens_good start 0 bytes
