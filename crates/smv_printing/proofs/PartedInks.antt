-- What is printed of an expression or a formula is parted well, so its tokens are read back.
use Rattle.std.proofs.Common.{◌≡◌, if◌then◌else◌, ◌≤◌, ℕ, suc, ℤ, pos, negsuc, Bool, true, false, cond, nat_lt, ◌||◌, List, [], ◌∷◌, ◌++◌, Option, Some, None, refl, sym, subst, codes, decimal, arith}
use Rattle.std.specs.Str.{bytes_eq}
use Rattle.smv_tree.specs.declared.expr.Op1.TheVariants as op1
use Rattle.smv_tree.specs.Trees.{Tree, Trees, Arms, truth, number, word, name, span, set, cases, choice, one, two, select, next, widen, const, count, no_trees, tree, no_arms, arm}
use Rattle.smv_printing.specs.declared.lead.Lead.{Lead}
use Rattle.smv_printing.specs.declared.lead.Lead.TheVariants as lead
use Rattle.smv_token.specs.declared.mark.Mark.{Mark}
use Rattle.smv_token.specs.declared.mark.Mark.TheVariants as marks
use Rattle.smv_token.specs.declared.token.Lexeme.TheVariants as lexeme
use Rattle.smv_token.specs.Marks.{text}
use Rattle.smv_printing.specs.Printing.{Ink, after_comma, around, bare, blank, branches, call, dotted, gap, integer, is_negation, level, listed, mark_of_one, mark_of_two, misread, part, path, path_head, right_level, symbol, token, width, left_level, claim_inks, claim_level, claim_part, level_of_claim, mark_of_claim, left_of, right_of}
use Rattle.smv_printing.proofs.ScannedTokens.{ArmsScannable, EachScannable, OwnNames, OwnPath, Scannable, Scannables, Signed, first_is, greatest, widest, AllScannable, ClaimScannable, scanned_scannable}
use Rattle.smv_token.specs.Tokens.{begins_name, continues_name, Scanned, if_whole, scanned, tokens_of}
use Rattle.smv_printing.proofs.Openings.{Begins, NoMinus, begins_part, first_append, no_minus, number_begins, opened_begins, opens_in, opens_tighter}
use Rattle.smv_printing.proofs.ReadInks.{apart, read_back, Stands, Stops, WellParted, first_byte, first_of, runs_on, ReadBack}
use Rattle.smv_tree.specs.declared.place.Place.{Place}
use Rattle.smv_tree.specs.Models.{Claim, atom, no, after, always, some_time, both}
use Rattle.smv_token.specs.declared.token.Flaw.{Flaw}
use Rattle.smv_token.specs.declared.token.Token.{Token}

-- what may follow an expression: no byte that goes on with a name or a number
abbrev pub Follows : Option ℕ → Type 0
Follows end = Stops continues_name end

parted_append : (a b : List Ink) (end : Option ℕ) → WellParted a (first_byte b end) → WellParted b end → WellParted (a ++ b) end
parted_append [] b end h k = k
parted_append (blank ∷ a) b end h k = parted_append a b end h k
parted_append (token t ∷ a) b end h k = (subst (Stands t) (sym (first_append a b end)) h.0, parted_append a b end h.1 k)

mark_stands : (m : Mark) (end : Option ℕ) → Stops (runs_on (lexeme.Mark m)) end → Stands (lexeme.Mark m) end
mark_stands m end h = record { scannable = tt; stops = h }

-- any mark stands before a blank
pub before_blank : (m : Mark) → Stands (lexeme.Mark m) (Some 32)
unfolding text
before_blank marks.Iff = record { scannable = tt; stops = refl }
before_blank m = record { scannable = tt; stops = refl }

number_stands : (n : ℕ) (end : Option ℕ) → n ≤ greatest → Follows end → Stands (lexeme.Number n) end
number_stands n end h f = record { scannable = h; stops = f }

-- what no byte makes a longer mark
alone : (m : Mark) (end : Option ℕ) → ((b : ℕ) → runs_on (lexeme.Mark m) b ≡ false) → Stands (lexeme.Mark m) end
alone m None h = record { scannable = tt; stops = tt }
alone m (Some b) h = record { scannable = tt; stops = h b }

-- one of two marks
chosen : (b : Bool) (m n : Mark) (end : Option ℕ) → Stands (lexeme.Mark m) end → Stands (lexeme.Mark n) end → Stands (lexeme.Mark (if b then m else n)) end
chosen true m n end h g = h
chosen false m n end h g = g

-- a `!` before an expression, and a `-` before one that does not begin with a `-`
pub bang_stands : (end : Option ℕ) → Begins end → Stands (lexeme.Mark marks.Bang) end
unfolding text
bang_stands None h = absurd (cc)
bang_stands (Some b) h = mark_stands marks.Bang (Some b) (apart begins_part b 61 h refl)

minus_stands : (end : Option ℕ) → Begins end → NoMinus end → Stands (lexeme.Mark marks.Minus) end
unfolding text
minus_stands None h n = absurd (cc)
minus_stands (Some b) h n = mark_stands marks.Minus (Some b) (let e = apart begins_part b 62 h refl in rw (n, e) refl)

colon_stands : (end : Option ℕ) → Begins end → Stands (lexeme.Mark marks.Colon) end
unfolding text
colon_stands None h = absurd (cc)
colon_stands (Some b) h = mark_stands marks.Colon (Some b) (let e = apart begins_part b 58 h refl in let f = apart begins_part b 61 h refl in rw (e, f) refl)

dot_stands : (n : List ℕ) → first_is begins_name n ≡ true → Stands (lexeme.Mark marks.Dot) (first_of n)
unfolding text
dot_stands [] h = absurd (cc)
dot_stands (b ∷ bs) h = mark_stands marks.Dot (Some b) (apart begins_name b 46 h refl)

dotted_follows : (ns : List (List ℕ)) (end : Option ℕ) → Follows end → Follows (first_byte (dotted ns) end)
unfolding text
dotted_follows [] end f = f
dotted_follows (n ∷ ns) end f = refl

dotted_parted : (ns : List (List ℕ)) (end : Option ℕ) → OwnNames ns → Follows end → WellParted (dotted ns) end
dotted_parted [] end h f = tt
dotted_parted (n ∷ ns) end h f =
    let o = h.0 in
    (dot_stands n o.begins, (record { scannable = o; stops = dotted_follows ns end f }, dotted_parted ns end h.1 f))

head_stands : (n : List ℕ) (end : Option ℕ) → Scannable (path_head n) → Follows end → Stands (path_head n) end
unfolding text
head_stands n end h f = by (bytes_eq n (codes "self")) h where
  by : (b : Bool) → Scannable (cond b (lexeme.Mark marks.SelfWord) (lexeme.Name n)) → Stands (cond b (lexeme.Mark marks.SelfWord) (lexeme.Name n)) end
  by true h = record { scannable = tt; stops = f }
  by false h = record { scannable = h; stops = f }

path_parted : (ns : List (List ℕ)) (end : Option ℕ) → OwnPath ns → Follows end → WellParted (path ns) end
path_parted [] end h f = absurd h
path_parted (n ∷ ns) end h f = (head_stands n _ h.0 (dotted_follows ns end f), dotted_parted ns end h.1 f)

integer_parted : (v : ℤ) (end : Option ℕ) → Signed v → Follows end → WellParted (integer v) end
integer_parted (pos n) end h f = (number_stands n end h f, tt)
integer_parted (negsuc n) end h f = let b = number_begins (suc n) h in (minus_stands (first_of (decimal (suc n))) b.0 b.1, (number_stands (suc n) end h f, tt))

-- what is printed by a place is parted well, whatever follows that may follow it
abbrev pub Parts : (Lead → List Ink) → Type 0
Parts inks = (l : Lead) (end : Option ℕ) → Follows end → WellParted (inks l) end

pub bracketed : (inks : List Ink) (end : Option ℕ) → WellParted inks (Some 41) → WellParted (symbol marks.OpenRound ∷ (inks ++ symbol marks.CloseRound ∷ [])) end
unfolding text
bracketed inks end h = (alone marks.OpenRound _ (λ b. refl), parted_append inks (symbol marks.CloseRound ∷ []) end h (alone marks.CloseRound end (λ b. refl), tt))

-- in parentheses or not
parted_if : (b : Bool) (free inks : List Ink) (end : Option ℕ) → WellParted free (Some 41) → WellParted inks end → WellParted (cond b (symbol marks.OpenRound ∷ (free ++ symbol marks.CloseRound ∷ [])) inks) end
parted_if true free inks end h g = bracketed free end h
parted_if false free inks end h g = g

part_parted : (l : Lead) (place : ℕ) (x : Tree) (end : Option ℕ) → Parts (λ k. bare x k) → Follows end → WellParted (part l place x (λ k. bare x k)) end
part_parted l place x end h f = parted_if (nat_lt place (level x) || misread l x) (bare x lead.Free) (bare x l) end (h lead.Free (Some 41) refl) (h l end f)

pub around_parted : (a b : List Ink) (m : Mark) (end : Option ℕ) → WellParted a (Some 32) → WellParted b end → WellParted (around a m b) end
around_parted a b m end h k = parted_append a (blank ∷ symbol m ∷ blank ∷ b) end h (before_blank m, k)

call_parted : (m : Mark) (inks : List Ink) (end : Option ℕ) → Stands (lexeme.Mark m) (Some 40) → WellParted inks (Some 41) → WellParted (call m inks) end
unfolding text
call_parted m inks end s h = (s, bracketed inks end h)

-- what is no greater than a width is a token's number
within : (n : ℕ) → n ≤ widest → n ≤ greatest
within n h = omega (arith, h)

width_parted : (n : ℕ) (end : Option ℕ) → n ≤ greatest → WellParted (width n) end
unfolding text
width_parted n end h = (before_blank marks.Comma, (number_stands n (Some 41) h refl, (alone marks.CloseRound end (λ b. refl), tt)))

comma_follows : (xs : Trees) (end : Option ℕ) → Follows end → Follows (first_byte (after_comma xs) end)
unfolding bare text
comma_follows no_trees end f = f
comma_follows (tree x xs) end f = refl

-- the operand of a `-`
negated_stands : (a : Tree) (end : Option ℕ) → Scannables a → WellParted (part lead.Minus 4 a (λ k. bare a k)) end → WellParted (symbol marks.Minus ∷ (gap a ++ part lead.Minus 4 a (λ k. bare a k))) end
negated_stands a end h w = by (is_negation a) refl where
  operand : List Ink
  operand = part lead.Minus 4 a (λ k. bare a k)

  by : (b : Bool) → is_negation a ≡ b → WellParted (symbol marks.Minus ∷ (cond b (blank ∷ []) [] ++ operand)) end
  by true e = (before_blank marks.Minus, w)
  by false e = let o = opens_tighter a h e in (minus_stands (first_byte operand end) (opened_begins lead.Minus 3 operand end o) (no_minus operand end o), w)

mutual
  unfolding bare Scannables text

  pub parted : (x : Tree) (l : Lead) (end : Option ℕ) → Scannables x → Follows end → WellParted (bare x l) end
  parted (truth p b) l end h f = (chosen b marks.True marks.False end (mark_stands marks.True end f) (mark_stands marks.False end f), tt)
  parted (number p n) l end h f = (number_stands n end h f, tt)
  parted (word p w) l end h f = (record { scannable = h; stops = f }, tt)
  parted (name p ns) l end h f = path_parted ns end h f
  parted (span p low high) l end h f = parted_append (integer low) (symbol marks.Dots ∷ integer high) end (integer_parted low (Some 46) h.0 refl) (alone marks.Dots _ (λ b. refl), integer_parted high end h.1 f)
  parted (set p es) l end h f = (alone marks.OpenCurly _ (λ b. refl), parted_append (listed es) (symbol marks.CloseCurly ∷ []) end (listed_parted es (Some 125) h.1 refl) (alone marks.CloseCurly end (λ b. refl), tt))
  parted (cases p bs) l end h f = (before_blank marks.Case, parted_append (branches bs) (symbol marks.Esac ∷ []) end (branches_parted bs (Some 101) h.1) (mark_stands marks.Esac end f, tt))
  parted (choice p c a b) l end h f =
      let l' = left_level 13 in
      let r' = right_level 13 in
      around_parted (part l l' c (λ k. bare c k)) _ marks.Question end (part_parted l l' c (Some 32) (λ k e g. parted c k e h.0 g) refl)
      (around_parted (bare a lead.Free) (part lead.Free r' b (λ k. bare b k)) marks.Colon end (parted a lead.Free (Some 32) h.1 refl) (part_parted lead.Free r' b end (λ k e g. parted b k e h.2 g) f))
  parted (one p op1.Not a) l end h f = (bang_stands _ (opened_begins lead.Free 2 _ end (opens_in a lead.Free 2 h)), part_parted lead.Free 2 a end (λ k e g. parted a k e h g) f)
  parted (one p op1.Neg a) l end h f = negated_stands a end h (part_parted lead.Minus 4 a end (λ k e g. parted a k e h g) f)
  parted (one p o a) l end h f = call_parted (mark_of_one o) (bare a lead.Free) end (mark_stands (mark_of_one o) (Some 40) refl) (parted a lead.Free (Some 41) h refl)
  parted (two p o a b) l end h f =
      let l' = left_level (level (two p o a b)) in
      let r' = right_level (level (two p o a b)) in
      around_parted (part l l' a (λ k. bare a k)) (part lead.Free r' b (λ k. bare b k)) (mark_of_two o) end (part_parted l l' a (Some 32) (λ k e g. parted a k e h.0 g) refl) (part_parted lead.Free r' b end (λ k e g. parted b k e h.1 g) f)
  parted (select p a high low) l end h f =
      parted_append (part l 1 a (λ k. bare a k)) _ end (part_parted l 1 a (Some 91) (λ k e g. parted a k e h.0 g) refl)
      (alone marks.OpenSquare _ (λ b. refl), (number_stands high (Some 58) (within high h.1) refl, (colon_stands _ (number_begins low (within low h.2)).0, (number_stands low (Some 93) (within low h.2) refl, (alone marks.CloseSquare end (λ b. refl), tt)))))
  parted (next p a) l end h f = call_parted marks.Next (bare a lead.Free) end (mark_stands marks.Next (Some 40) refl) (parted a lead.Free (Some 41) h refl)
  parted (widen p resize a n) l end h f = (chosen resize marks.Resize marks.Extend (Some 40) (mark_stands marks.Resize (Some 40) refl) (mark_stands marks.Extend (Some 40) refl), (alone marks.OpenRound _ (λ b. refl), parted_append (bare a lead.Free) (width n) end (parted a lead.Free (Some 44) h.0 refl) (width_parted n end (within n h.1))))
  parted (const p signed v n) l end h f = (chosen signed marks.SwConst marks.UwConst (Some 40) (mark_stands marks.SwConst (Some 40) refl) (mark_stands marks.UwConst (Some 40) refl), (alone marks.OpenRound _ (λ b. refl), parted_append (integer v) (width n) end (integer_parted v (Some 44) h.0 refl) (width_parted n end (within n h.1))))
  parted (count p es) l end h f = call_parted marks.Count (listed es) end (mark_stands marks.Count (Some 40) refl) (listed_parted es (Some 41) h.1 refl)

  listed_parted : (xs : Trees) (end : Option ℕ) → EachScannable xs → Follows end → WellParted (listed xs) end
  listed_parted no_trees end h f = tt
  listed_parted (tree x xs) end h f = parted_append (bare x lead.Free) (after_comma xs) end (parted x lead.Free _ h.0 (comma_follows xs end f)) (others_parted xs end h.1 f)

  others_parted : (xs : Trees) (end : Option ℕ) → EachScannable xs → Follows end → WellParted (after_comma xs) end
  others_parted no_trees end h f = tt
  others_parted (tree x xs) end h f = (before_blank marks.Comma, parted_append (bare x lead.Free) (after_comma xs) end (parted x lead.Free _ h.0 (comma_follows xs end f)) (others_parted xs end h.1 f))

  branches_parted : (bs : Arms) (end : Option ℕ) → ArmsScannable bs → WellParted (branches bs) end
  branches_parted no_arms end h = tt
  branches_parted (arm c v bs) end h =
      around_parted (bare c lead.Free) _ marks.Colon end (parted c lead.Free (Some 32) h.0 refl)
      (parted_append (bare v lead.Free) (symbol marks.Semicolon ∷ blank ∷ branches bs) end (parted v lead.Free (Some 59) h.1 refl) (before_blank marks.Semicolon, branches_parted bs end h.2))

-- the text of an expression, where its names, numbers and words are those of tokens
pub printed_scanned : (x : Tree) → Scannables x → ReadBack (bare x lead.Free)
printed_scanned x h = read_back (bare x lead.Free) (parted x lead.Free None h tt)

claim_part_begins : (place : ℕ) (c : Claim) (end : Option ℕ) → ((n : Option ℕ) → Begins (first_byte (claim_inks c) n)) → Begins (first_byte (claim_part place c (claim_inks c)) end)
unfolding text
claim_part_begins place c end h = by (nat_lt place (claim_level c)) where
  by : (b : Bool) → Begins (first_byte (cond b (symbol marks.OpenRound ∷ (claim_inks c ++ symbol marks.CloseRound ∷ [])) (claim_inks c)) end)
  by true = refl
  by false = h end

claim_begins : (c : Claim) (end : Option ℕ) → ClaimScannable c → Begins (first_byte (claim_inks c) end)
unfolding ClaimScannable claim_inks text
claim_begins (atom x) end h = opened_begins lead.Atom 10 _ end (opens_in x lead.Atom 10 h)
claim_begins (both o a b) end h =
    let l = left_of (level_of_claim o) in
    subst Begins (sym (first_append (claim_part l a (claim_inks a)) _ end)) (claim_part_begins l a _ (λ m. claim_begins a m h.0))
claim_begins c end h = refl

claim_part_parted : (place : ℕ) (c : Claim) (end : Option ℕ) → ((e : Option ℕ) → Follows e → WellParted (claim_inks c) e) → Follows end → WellParted (claim_part place c (claim_inks c)) end
claim_part_parted place c end h f = parted_if (nat_lt place (claim_level c)) (claim_inks c) (claim_inks c) end (h (Some 41) refl) (h end f)

claim_parted : (c : Claim) (end : Option ℕ) → ClaimScannable c → Follows end → WellParted (claim_inks c) end
unfolding ClaimScannable claim_inks
claim_parted (atom x) end h f = part_parted lead.Atom 10 x end (λ k e g. parted x k e h g) f
claim_parted (no a) end h f = (bang_stands _ (claim_part_begins 1 a end (λ n. claim_begins a n h)), claim_part_parted 1 a end (λ e g. claim_parted a e h g) f)
claim_parted (after a) end h f = (before_blank marks.WordX, claim_part_parted 1 a end (λ e g. claim_parted a e h g) f)
claim_parted (always a) end h f = (before_blank marks.WordG, claim_part_parted 1 a end (λ e g. claim_parted a e h g) f)
claim_parted (some_time a) end h f = (before_blank marks.WordF, claim_part_parted 1 a end (λ e g. claim_parted a e h g) f)
claim_parted (both o a b) end h f =
    let l = left_of (level_of_claim o) in
    let r = right_of (level_of_claim o) in
    around_parted (claim_part l a (claim_inks a)) (claim_part r b (claim_inks b)) (mark_of_claim o) end (claim_part_parted l a (Some 32) (λ e g. claim_parted a e h.0 g) refl) (claim_part_parted r b end (λ e g. claim_parted b e h.1 g) f)

-- the text of a formula
pub claim_scanned : (c : Claim) → ClaimScannable c → ReadBack (claim_inks c)
claim_scanned c h = read_back (claim_inks c) (claim_parted c None h tt)

-- the tokens of a text that is all tokens are those that were scanned
whole_scannable : (s : Scanned) (ts : List Token) → (s.stop ≡ None → AllScannable s.tokens) → if_whole s ≡ Some ts → AllScannable ts
whole_scannable s ts h e = by s.stop refl e where
  by : (o : Option (Place × Flaw)) → s.stop ≡ o → elim o [ None ↦ Some s.tokens | Some f ↦ None ] ≡ Some ts → AllScannable ts
  by None is e = let same : s.tokens ≡ ts = cc in subst AllScannable same (h is)
  by (Some f) is e = absurd (cc)

pub text_scannable : (bytes : List ℕ) (ts : List Token) → tokens_of bytes ≡ Some ts → AllScannable ts
text_scannable bytes ts e = whole_scannable (scanned bytes) ts (scanned_scannable bytes) e
