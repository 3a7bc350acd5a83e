-- The texts of what is printed, written one after another.
use Rattle.std.proofs.Common.{◌≡◌, cond, ◌∷◌, ◌++◌, ◌+◌, ◌<◌, ◌≤◌, [], pos, negsuc, suc, ℕ, ℤ, Bool, true, false, nat_lt, List, length, drop, get_or, map, ap, refl, subst, sym, ◌∙◌, append_assoc, arith}
use Rattle.std.proofs.Math.Seq.{drop-cons}
use Rattle.std.proofs.lemmas.Bool.{lt-ltb}
use Rattle.std.proofs.lemmas.Grind.{flat_map-append}
use Rattle.std.proofs.lemmas.List.{append-nil, drop_all}
use Rattle.std.proofs.lemmas.Slice.Eq.{bytes_eq-Decides}
use Rattle.std.specs.Str.{bytes_eq}
use Rattle.std.specs.Prelude.{codes, decimal, Result, Ok, Err}
use Rattle.std.specs.Result.{IsErrAnd}
use Rattle.std.specs.Fmt.{signed_decimal}
use Rattle.outside.specs.declared.Failed.{Failed}
use Rattle.outside.specs.Calls.{Writes}
use Rattle.outside.specs.Told.{Output}
use Rattle.outside.proofs.WriteLemmas.{writes_as, writes_none, writes_returned, writes_stopped, writes_then}
use Rattle.smv_tree.specs.declared.expr.Branch.{Branch}
use Rattle.smv_tree.specs.declared.expr.Expr.{Expr}
use Rattle.smv_tree.specs.declared.expr.Expr.TheFolds.{fold_out-Branch}
use Rattle.smv_tree.specs.Trees.{Tree, arms, branch_step, expr_step, expr_tree, no_trees, trees}
use Rattle.smv_printing.specs.declared.lead.Lead.TheVariants as lead
use Rattle.smv_token.specs.declared.mark.Mark.{Mark}
use Rattle.smv_token.specs.declared.mark.Mark.TheVariants as marks
use Rattle.smv_token.specs.declared.token.Lexeme.TheVariants as lexeme
use Rattle.smv_token.specs.Marks.{text}
use Rattle.smv_grammar.specs.Branches.{arm_of}
use Rattle.smv_printing.specs.Printing.{Ink, after_comma, around, bare, blank, branches, dotted, ink_text, integer, listed, path_head, symbol, text_of, token}
use Rattle.smv_print.specs.Written.{Prints, listed_from, separator}

-- a number as std writes it
pub integer_text : (n : ℤ) → text_of (integer n) ≡ signed_decimal n
unfolding text
integer_text (pos n) = append-nil (decimal n)
integer_text (negsuc n) = ap (λ t. 45 ∷ t) (append-nil (decimal (suc n)))

-- nothing was printed
pub prints_none : {X : Type 0} (x : X) (old : Output) → Prints [] old (Ok x) old
prints_none x old = record { written = writes_none x old }

-- the bytes of some inks
pub prints_bytes : {X : Type 0} {r : Result X Failed} {old new : Output} {a : List ℕ} {is : List Ink} → a ≡ text_of is → Writes a old r new → Prints is old r new
prints_bytes e w = record { written = writes_as e w }

-- a path begins with its first name, also where that is `self`
head_text : (n : List ℕ) → text_of (token (lexeme.Name n) ∷ []) ≡ text_of (token (path_head n) ∷ [])
unfolding text
head_text n = by_test (bytes_eq n (codes "self")) refl where
  by_test : (b : Bool) → bytes_eq n (codes "self") ≡ b → n ++ [] ≡ text_of (token (cond b (lexeme.Mark marks.SelfWord) (lexeme.Name n)) ∷ [])
  by_test true e = ap (λ m. m ++ []) ((bytes_eq-Decides n (codes "self")).0 e)
  by_test false e = refl

pub prints_head : {X : Type 0} (r : Result X Failed) (old new : Output) (n : List ℕ) → Prints (token (lexeme.Name n) ∷ []) old r new → Prints (token (path_head n) ∷ []) old r new
prints_head r old new n w = prints_bytes (head_text n) w.written

-- a token alone
pub prints_one : {X : Type 0} (r : Result X Failed) (old new : Output) (i : Ink) → Writes (ink_text i) old r new → Prints (i ∷ []) old r new
prints_one r old new i w = prints_bytes (sym (append-nil (ink_text i))) w

-- the bytes that were written of what was printed
pub inks_written : {X : Type 0} (r : Result X Failed) (old new : Output) (is : List Ink) → Prints is old r new → Writes (text_of is) old r new
inks_written r old new is w = w.written

-- printed one after the other is printed together
pub prints_append : {X Y : Type 0} {x : X} {r : Result Y Failed} {old mid new : Output} {a b : List Ink} → Prints a old (Ok x) mid → Prints b mid r new → Prints (a ++ b) old r new
prints_append {a = a} {b = b} v w = prints_bytes (sym (flat_map-append ink_text a b)) (writes_then v.written w.written)

pub prints_cons : {X Y : Type 0} {x : X} {r : Result Y Failed} {old mid new : Output} {i : Ink} {b : List Ink} → Prints (i ∷ []) old (Ok x) mid → Prints b mid r new → Prints (i ∷ b) old r new
prints_cons {i = i} {b = b} v w = prints_append {a = i ∷ []} {b = b} v w

-- where the first stopped, both did
pub stops_off : {X : Type 0} {f : Failed} {old new : Output} {a : List Ink} (b : List Ink) → Prints {X = X} a old (Err f) new → Prints {X = X} (a ++ b) old (Err f) new
stops_off {a = a} b w = prints_bytes (sym (flat_map-append ink_text a b)) (writes_stopped (text_of b) w.written)

pub stops_cons : {X : Type 0} {f : Failed} {old new : Output} {i : Ink} (b : List Ink) → Prints {X = X} (i ∷ []) old (Err f) new → Prints {X = X} (i ∷ b) old (Err f) new
stops_cons {i = i} b w = stops_off {a = i ∷ []} b w

-- what a `?` returns
pub returned : {X Y : Type 0} {f : Failed} {old new : Output} {a : List Ink} (Q : Failed → Type 0) (r : Result Y Failed) → IsErrAnd r Q → Prints {X = X} a old (Err f) new → Prints a old r new
returned Q r q w = record { written = writes_returned Q r q w.written }

drop_next : {X : Type 0} (xs : List X) (i : ℕ) → drop (suc i) xs ≡ drop (i + 1) xs
drop_next xs i = let e : suc i ≡ i + 1 = omega arith in ap (λ j. drop j xs) e

-- a list from one of its items on
drop_item : {X : Type 0} (xs : List X) (i : ℕ) (x : X) → i < length xs → x ≡ get_or xs i x → drop i xs ≡ x ∷ drop (i + 1) xs
drop_item xs i x h e = drop-cons xs i x h ∙ ap (λ y. y ∷ drop (suc i) xs) (sym e) ∙ ap (λ ys. x ∷ ys) (drop_next xs i)

-- names from one on
pub dotted_step : (ns : List (List ℕ)) (i : ℕ) (n : List ℕ) → i < length ns → n ≡ get_or ns i n → dotted (n ∷ []) ++ dotted (drop (i + 1) ns) ≡ dotted (drop i ns)
dotted_step ns i n h e = sym (ap dotted (drop_item ns i n h e))

pub dotted_end : (ns : List (List ℕ)) (i : ℕ) → length ns ≤ i → [] ≡ dotted (drop i ns)
dotted_end ns i h = sym (ap dotted (drop_all i ns h))

-- expressions from one on
listed_next : (es : List Expr) (i : ℕ) (e : Expr) (later : Bool) → drop i es ≡ e ∷ drop (i + 1) es → (separator later ++ bare (expr_tree e) lead.Free) ++ after_comma (trees (map expr_tree (drop (i + 1) es))) ≡ listed_from later (trees (map expr_tree (drop i es)))
unfolding bare
listed_next es i e false h = sym (ap (λ xs. listed (trees (map expr_tree xs))) h)
listed_next es i e true h = sym (ap (λ xs. after_comma (trees (map expr_tree xs))) h)

pub listed_step : (es : List Expr) (i : ℕ) (e : Expr) → i < length es → e ≡ get_or es i e → (separator (nat_lt 0 i) ++ bare (expr_tree e) lead.Free) ++ listed_from (nat_lt 0 (i + 1)) (trees (map expr_tree (drop (i + 1) es))) ≡ listed_from (nat_lt 0 i) (trees (map expr_tree (drop i es)))
listed_step es i e h g =
    let later : nat_lt 0 (i + 1) ≡ true = lt-ltb 0 (i + 1) (omega arith) in
    ap (λ b. (separator (nat_lt 0 i) ++ bare (expr_tree e) lead.Free) ++ listed_from b (trees (map expr_tree (drop (i + 1) es)))) later ∙ listed_next es i e (nat_lt 0 i) (drop_item es i e h g)

none_listed : (later : Bool) → [] ≡ listed_from later no_trees
unfolding bare
none_listed false = refl
none_listed true = refl

pub listed_end : (es : List Expr) (i : ℕ) → length es ≤ i → [] ≡ listed_from (nat_lt 0 i) (trees (map expr_tree (drop i es)))
listed_end es i h = none_listed (nat_lt 0 i) ∙ sym (ap (λ xs. listed_from (nat_lt 0 i) (trees (map expr_tree xs))) (drop_all i es h))

-- a branch is its condition and its value
arm_parts : (b : Branch) → arm_of b ≡ (expr_tree b.condition, expr_tree b.value)
arm_parts b = fold_out-Branch Tree (Tree × Tree) expr_step branch_step b

-- branches from one on
pub arms_step : (bs : List Branch) (i : ℕ) (b : Branch) → i < length bs → b ≡ get_or bs i b → around (bare (expr_tree b.condition) lead.Free) marks.Colon (bare (expr_tree b.value) lead.Free ++ (symbol marks.Semicolon ∷ blank ∷ [])) ++ branches (arms (map arm_of (drop (i + 1) bs))) ≡ branches (arms (map arm_of (drop i bs)))
unfolding bare
arms_step bs i b h g = simp append_assoc (ap (λ x. branches (arms (x ∷ map arm_of (drop (i + 1) bs)))) (sym (arm_parts b)) ∙ sym (ap (λ xs. branches (arms (map arm_of xs))) (drop_item bs i b h g)))

pub arms_end : (bs : List Branch) (i : ℕ) → length bs ≤ i → [] ≡ branches (arms (map arm_of (drop i bs)))
unfolding bare
arms_end bs i h = sym (ap (λ xs. branches (arms (map arm_of xs))) (drop_all i bs h))

-- the same inks, put otherwise
pub prints_as : {X : Type 0} {r : Result X Failed} {old new : Output} {a b : List Ink} → a ≡ b → Prints a old r new → Prints b old r new
prints_as {r = r} {old = old} {new = new} e w = subst (λ is. Prints is old r new) e w

-- an operator between its operands
pub prints_around : {X Y Z : Type 0} {x : X} {y : Y} {r : Result Z Failed} {old mid later new : Output} {a b : List Ink} {m : Mark} → Prints a old (Ok x) mid → Prints (blank ∷ symbol m ∷ blank ∷ []) mid (Ok y) later → Prints b later r new → Prints (around a m b) old r new
prints_around u v w = prints_append u (prints_append v w)

pub stops_operator : {X Y : Type 0} {x : X} {f : Failed} {old mid new : Output} {a : List Ink} {m : Mark} (b : List Ink) → Prints a old (Ok x) mid → Prints {X = Y} (blank ∷ symbol m ∷ blank ∷ []) mid (Err f) new → Prints {X = Y} (around a m b) old (Err f) new
stops_operator b v w = prints_append v (stops_off b w)
