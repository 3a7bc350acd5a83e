-- What is printed of an expression is said again, as one alike that is as deep as what is printed.
use Rattle.std.proofs.Common.{◌≡◌, ◌≤◌, ◌<◌, ◌-◌, ◌∙◌, ℕ, ℤ, pos, negsuc, suc, max, Bool, true, false, cond, List, [], ◌∷◌, ◌++◌, Some, refl, sym, subst, ap, arith, append_assoc, Option, None, append-nil}
use Rattle.std.specs.Prelude.{codes, neg_ℤ}
use Rattle.std.specs.Str.{bytes_eq}
use Rattle.std.proofs.lemmas.Slice.Eq.{bytes_eq-Decides}
use Rattle.std.proofs.Math.Nat.{min-eq_left}
use Rattle.smv_tree.specs.declared.expr.Op2.{Op2}
use Rattle.smv_tree.specs.declared.expr.Op2.TheVariants as op2
use Rattle.smv_tree.specs.declared.place.Place.{Place}
use Rattle.smv_tree.specs.Trees.{Tree, number, name, span, choice, two, select, widen, const, Arms, cases, no_arms, arm, arms, Trees, truth, word, set, one, next, count, no_trees, tree, trees}
use Rattle.smv_token.specs.declared.mark.Mark.{Mark}
use Rattle.smv_token.specs.declared.mark.Mark.TheVariants as marks
use Rattle.smv_token.specs.declared.token.Token.{Token}
use Rattle.smv_token.specs.declared.token.Lexeme.TheVariants as lexeme
use Rattle.smv_grammar.specs.Forms.{capped, deepest, integer, is_dots, begins_dots}
use Rattle.smv_rules.specs.Keys.{Opener, primary_by, sees}
use Rattle.smv_rules.specs.Keys as key
use Rattle.smv_rules.specs.Sorts.{an_expression, Branches, Expression, Operands}
use Rattle.smv_rules.specs.Rules.{Rule, gives, ◌>>=◌}
use Rattle.smv_rules.specs.Table.{table}
use Rattle.smv_rules.specs.Expressions.{an_int, applied, branch, deeper, joined, level, listed_branches, mark, more_branches, more_names, more_operands, nested, no_branches, number as a_number, one_more, operands, prefixed, primary, range_from}
use Rattle.smv_printing.specs.Alike.{Alike, nowhere, unplaced, unplaced_arms, unplaced_all}
use Rattle.smv_printing.specs.declared.lead.Lead.{Lead}
use Rattle.smv_printing.specs.declared.lead.Lead.TheVariants as lead
use Rattle.smv_printing.specs.Printing.{Ink, around, bare, blank, call, dotted, mark_of_two, numeral, path, spelled, symbol, token, width, branches, after_comma, is_negation, listed}
use Rattle.smv_printing.specs.Printing as print
use Rattle.smv_printing.proofs.ScannedTokens.{Signed, ArmsScannable, SomeArms, EachScannable, Scannables, SomeTrees, widest}
use Rattle.smv_printing.proofs.Fits.{IsSpan, depth, depth_in, free_some, place_some, depth_arms, depth_all}
use Rattle.smv_printing.proofs.Says.{NoDots, Says, says_blank, says_deeper, says_ends, says_gives, says_goes_on, says_joined, says_mark, says_more, says_must, says_number, says_part, says_skips, says_stops, says_takes, says_then, sees_alone, sees_mark, stands, Like, Own, Respelled, at_least, in_place, loosely, says_opener, says_primary, Sees, says_last, Lays}
use Rattle.smv_grammar.specs.IsMark.{same_mark}
use Rattle.smv_printing.proofs.Openings.{Opens, begins_not, opens, opens_more, no_range, opens_in}
use Rattle.smv_tree.specs.declared.expr.Op1.TheVariants as op1

-- what is no range, at the tightest level
pub primary_own : (x : Tree) (d n : ℕ) (is : List Ink) → (IsSpan x → ⊥) → Says n primary is (Like x d) → Says n (level 1) is (Own x d)
unfolding level
primary_own x d n is s h = says_more (λ y g. record { like = g; bare = λ i. absurd (s i) }) (at_least n 0 1 is (Like x d) (omega arith) h)

-- what a token opens
opened_own : (x : Tree) (m : Mark) (o : Opener) (d n : ℕ) (is : List Ink) → (IsSpan x → ⊥) → primary_by m ≡ Some (key.opens o) → 1 ≤ d → suc d ≤ suc n → ((p : Place) (i : ℕ) → d ≤ suc i → Says i (nested o p) is (Like x (suc d))) → Says n (level 1) (symbol m ∷ is) (Own x (suc d))
opened_own x m o d n is s e some le h = primary_own x (suc d) n (symbol m ∷ is) s (says_opener (lexeme.Mark m) o d e some (omega (arith, le)) h)

-- names after dots
no_dots : (ns : List (List ℕ)) → NoDots (dotted ns)
no_dots [] = tt
no_dots (n ∷ ns) = refl

dots_again : (n : ℕ) (ms ns : List (List ℕ)) → Says n (more_names ms) (dotted ns) (λ zs. zs ≡ ms ++ ns)
unfolding sees
dots_again n ms [] = says_stops (λ us. tt) (sym (append-nil ms))
dots_again n ms (m ∷ ns) =
    says_goes_on (token (lexeme.Name m) ∷ []) (λ p. p) sees_mark (λ zs. zs ≡ ms ++ m ∷ []) (λ p.
    says_ends (λ z. z.0 ≡ m) (says_must (λ q. (m, q)) (sees_alone (λ q us. refl)) (λ q. says_gives refl)) (λ z e. says_gives (ap (λ o. ms ++ o ∷ []) e))) (no_dots ns) (λ zs e.
    says_more (λ ys g. g ∙ ap (λ z. z ++ ns) e ∙ append_assoc ms (m ∷ []) ns) (dots_again n zs ns))

pub path_again : (p : Place) (n : ℕ) (m : List ℕ) (ns : List (List ℕ)) → Says n (level 1) (path (m ∷ ns)) (Own (name p (m ∷ ns)) 1)
unfolding unplaced primary_by
path_again p n m ns = primary_own (name p (m ∷ ns)) 1 n (path (m ∷ ns)) (λ s. s) (by_test (bytes_eq m (codes "self")) refl) where
  ended : (q : Place) (o : List ℕ) → o ≡ m → Says n (more_names (o ∷ []) >>= (λ ms. gives an_expression (record { tree = name q ms; depth = 1; bare = false }))) (dotted ns) (Like (name p (m ∷ ns)) 1)
  ended q o e = says_ends (λ zs. zs ≡ o ∷ ns) (dots_again n (o ∷ []) ns) (λ zs g. says_gives (record { alike = ap (name nowhere) (ap (λ o. o ∷ ns) (sym e) ∙ sym g); small = omega arith }))

  by_test : (b : Bool) → bytes_eq m (codes "self") ≡ b → Says n primary (token (cond b (lexeme.Mark marks.SelfWord) (lexeme.Name m)) ∷ dotted ns) (Like (name p (m ∷ ns)) 1)
  by_test true e = says_primary (lexeme.Mark marks.SelfWord) (key.path (codes "self")) refl (λ q. ended q (codes "self") (sym ((bytes_eq-Decides m (codes "self")).0 e)))
  by_test false e = says_primary (lexeme.Name m) (key.path m) refl (λ q. ended q m refl)

-- numbers with a `-` or not
pub int_again : (n : ℕ) (v : ℤ) → Signed v → Says n an_int (print.integer v) (λ w. w ≡ v)
int_again n (pos v) s =
    says_then {is = []} (λ b. b ≡ false) (says_skips (λ us. tt) (says_gives refl)) refl (λ b e.
    says_number (says_gives (ap (λ b. integer b v) e ∙ ap pos (min-eq_left s))))
int_again n (negsuc v) s =
    says_then {is = symbol marks.Minus ∷ []} (λ b. b ≡ true) (says_takes (λ p. p) sees_mark (λ p. says_gives refl)) refl (λ b e.
    says_number (says_gives (ap (λ b. integer b (suc v)) e ∙ ap (λ n. neg_ℤ (pos n)) (min-eq_left s))))

pub number_again : (p : Place) (n v : ℕ) → Says n (level 1) (numeral v ∷ []) (Own (number p v) 1)
unfolding unplaced primary_by
number_again p n v = primary_own (number p v) 1 n (numeral v ∷ []) (λ s. s) (says_primary (lexeme.Number v) (key.digits v) refl (λ q. says_skips (λ us. tt) (says_gives (record { alike = refl; small = omega arith }))))

pub span_again : (p : Place) (n : ℕ) (low high : ℤ) → Signed low → Signed high → Says n (level 1) (print.integer low ++ (symbol marks.Dots ∷ print.integer high)) (Own (span p low high) 2)
unfolding unplaced primary_by level
span_again p n low high s t = at_least n 0 1 (print.integer low ++ (symbol marks.Dots ∷ print.integer high)) (Own (span p low high) 2) (omega arith) (by_low low s refl) where
  upper : (q : Place) (minus : Bool) (i : ℕ) → integer minus i ≡ low → Says n (range_from q minus i) (print.integer high) (Own (span p low high) 2)
  upper q minus i e = says_ends (λ w. w ≡ high) (int_again n high t) (λ w g. says_gives (record { like = record { alike = ap (λ v. span nowhere v high) (sym e) ∙ ap (span nowhere (integer minus i)) (sym g); small = omega arith }; bare = λ u. refl }))

  by_low : (v : ℤ) → Signed v → v ≡ low → Says n primary (print.integer v ++ (symbol marks.Dots ∷ print.integer high)) (Own (span p low high) 2)
  by_low (pos i) s e = says_primary (lexeme.Number i) (key.digits i) refl (λ q. says_takes (λ r. r) sees_mark (λ r. upper q false i (ap pos (min-eq_left s) ∙ e)))
  by_low (negsuc i) s e = says_primary (lexeme.Mark marks.Minus) key.below refl (λ q. says_number (says_mark (λ r. upper q true (suc i) (ap (λ n. neg_ℤ (pos n)) (min-eq_left s) ∙ e))))

-- a function and its operand
function_again : (x a : Tree) (m : Mark) (o : Opener) (f : Place → Tree → Tree) (n : ℕ) → Respelled a → (IsSpan x → ⊥) → primary_by m ≡ Some (key.opens o) → ((p : Place) → nested o p ≡ applied (f p)) → ((p : Place) (y : Tree) → Alike a y → Alike x (f p y)) → suc (depth a lead.Free) ≤ suc n → depth a lead.Free < deepest → Says n (level 1) (call m (bare a lead.Free)) (Own x (suc (depth a lead.Free)))
function_again x a m o f n again s e r g le lt =
    opened_own x m o (depth a lead.Free) n (symbol marks.OpenRound ∷ (bare a lead.Free ++ symbol marks.CloseRound ∷ [])) s e (free_some a lead.Free) le (λ p i j.
    subst (λ r. Says i r (symbol marks.OpenRound ∷ (bare a lead.Free ++ symbol marks.CloseRound ∷ [])) (Like x (suc (depth a lead.Free)))) (sym (r p)) (
    says_mark (λ t. says_then (Like a (depth a lead.Free)) (loosely a again i j (omega (arith, lt))) refl (λ y h.
    says_mark (λ q. let s = h.small in says_deeper (f p y.tree) y.depth (omega (arith, lt, s)) (record { alike = g p y.tree h.alike; small = omega (arith, s) }))))))

-- a width behind an operand or a number, and the end of both
width_again : (x : Tree) (n w d e : ℕ) (f : ℕ → Tree) → capped w ≡ w → Alike x (f w) → d < deepest → suc d ≤ e → Says n (mark marks.Comma >>= (λ r. a_number >>= (λ v. mark marks.CloseRound >>= (λ t. deeper (f (capped v)) d)))) (width w) (Like x e)
width_again x n w d e f c g lt le =
    says_mark (λ r. says_blank (says_number (
    says_mark (λ t. says_deeper (f (capped w)) d lt (record { alike = subst (λ v. Alike x (f v)) (sym c) g; small = le })))))

widen_again : (p : Place) (resize : Bool) (a : Tree) (w n : ℕ) (m : Mark) → primary_by m ≡ Some (key.opens (key.widen resize)) → Respelled a → w ≤ widest → suc (depth a lead.Free) ≤ suc n → depth a lead.Free < deepest → Says n (level 1) (symbol m ∷ symbol marks.OpenRound ∷ (bare a lead.Free ++ width w)) (Own (widen p resize a w) (suc (depth a lead.Free)))
unfolding unplaced
widen_again p resize a w n m e again c le lt =
    opened_own (widen p resize a w) m (key.widen resize) (depth a lead.Free) n _ (λ u. u) e (free_some a lead.Free) le (λ q i j.
    says_mark (λ r. says_then (Like a (depth a lead.Free)) (loosely a again i j (omega (arith, lt))) refl (λ y h.
    let s = h.small in
    width_again (widen p resize a w) i w y.depth (suc (depth a lead.Free)) (widen q resize y.tree) (min-eq_left c) (ap (λ z. widen nowhere resize z w) h.alike) (omega (arith, s, lt)) (omega (arith, s)))))

constant_again : (p : Place) (signed : Bool) (v : ℤ) (w n : ℕ) (m : Mark) → primary_by m ≡ Some (key.opens (key.const signed)) → Signed v → w ≤ widest → 2 ≤ suc n → Says n (level 1) (symbol m ∷ symbol marks.OpenRound ∷ (print.integer v ++ width w)) (Own (const p signed v w) 2)
unfolding unplaced
constant_again p signed v w n m e s c le =
    opened_own (const p signed v w) m (key.const signed) 1 n _ (λ u. u) e (omega arith) le (λ q i j.
    says_mark (λ r. says_then (λ w. w ≡ v) (int_again i v s) refl (λ y h.
    width_again (const p signed v w) i w 1 2 (const q signed y) (min-eq_left c) (ap (λ z. const nowhere signed z w) (sym h)) (omega arith) (omega arith))))

-- operators before an operand
pub opened_again : (x a : Tree) (k : Lead) (l n : ℕ) (f : Tree → Tree) → Respelled a → ((y : Tree) → Alike a y → Alike x (f y)) → suc (depth_in k l a) ≤ suc n → depth_in k l a < deepest → Says n (Rattle.smv_rules.specs.Expressions.opened l >>= (λ b. deeper (f b.tree) b.depth)) (spelled k l a) (Like x (suc (depth_in k l a)))
unfolding table
opened_again x a k l n f again g le lt =
    says_ends (Like a (depth_in k l a)) (says_part n (depth_in k l a) (place_some a k l) (omega (arith, le)) (λ m i. in_place a again k l m i (omega (arith, lt)))) (λ y h.
    let s = h.small in
    says_deeper (f y.tree) y.depth (omega (arith, lt, s)) (record { alike = g y.tree h.alike; small = omega (arith, s) }))

-- bits of an expression
pub select_again : (p : Place) (a : Tree) (high low n : ℕ) → Respelled a → capped high ≡ high → capped low ≡ low → (k : Lead) → suc (depth_in k 1 a) ≤ suc n → depth_in k 1 a < deepest → Says n (level 1) (spelled k 1 a ++ (symbol marks.OpenSquare ∷ numeral high ∷ symbol marks.Colon ∷ numeral low ∷ symbol marks.CloseSquare ∷ [])) (Own (select p a high low) (suc (depth_in k 1 a)))
unfolding unplaced level table
select_again p a high low n again c d k le lt =
    let e : ℕ = depth_in k 1 a in
    says_joined (lexeme.Mark marks.OpenSquare) (symbol marks.OpenSquare ∷ numeral high ∷ symbol marks.Colon ∷ numeral low ∷ symbol marks.CloseSquare ∷ []) (λ q. q) (λ us. tt) sees_mark (λ ts rest l. l) refl (Like a e) (in_place a again k 1 n (omega (arith, le)) (omega (arith, lt))) (λ y q h.
    let s = h.small in
    says_part n e (place_some a k 1) (omega (arith, le)) (λ m i.
    says_number (says_mark (λ r. says_number (says_mark (λ t.
    says_deeper (select q y.tree (capped high) (capped low)) y.depth (omega (arith, s, lt)) (record {
      like = record { alike = ap (λ z. select nowhere z high low) h.alike ∙ ap (λ z. select nowhere (unplaced y.tree) z low) (sym c) ∙ ap (select nowhere (unplaced y.tree) (capped high)) (sym d); small = omega (arith, s) };
      bare = λ u. absurd u;
    })))))))

-- operators between two operands
alike_two : (o : Op2) (u v x y : Tree) → u ≡ x → v ≡ y → two nowhere o u v ≡ two nowhere o x y
alike_two o u v x y e f = cc

alike_choice : (u v w x y z : Tree) → u ≡ x → v ≡ y → w ≡ z → choice nowhere u v w ≡ choice nowhere x y z
alike_choice u v w x y z e f g = cc

joined_again : (p : Place) (o : Op2) (a b : Tree) (l n : ℕ) → level (suc l) ≡ (level l >>= joined (suc l) (level l)) → ((q : Place) (us : List Token) → sees (key.operator (suc l)) (stands q (lexeme.Mark (mark_of_two o))) us ≡ Some (o, q)) → is_dots (lexeme.Mark (mark_of_two o)) ≡ false → Respelled a → Respelled b → (k : Lead) → suc (max (depth_in k (suc l) a) (depth_in lead.Free l b)) ≤ suc n → max (depth_in k (suc l) a) (depth_in lead.Free l b) < deepest → Says n (level (suc l)) (around (spelled k (suc l) a) (mark_of_two o) (spelled lead.Free l b)) (Own (two p o a b) (suc (max (depth_in k (suc l) a) (depth_in lead.Free l b))))
unfolding unplaced
joined_again p o a b l n r e d again again' k le lt =
    let i : ℕ = depth_in k (suc l) a in
    let j : ℕ = depth_in lead.Free l b in
    let left : Says n (level (suc l)) (spelled k (suc l) a) (Like a i) = in_place a again k (suc l) n (omega (arith, le)) (omega (arith, lt)) in
    let tighter : Says n (level l) (spelled lead.Free l b) (Like b j) = in_place b again' lead.Free l n (omega (arith, le)) (omega (arith, lt)) in
    let P : Rule an_expression → Type 0 = λ r. Says n r (spelled k (suc l) a) (Like a i) in
    let Q : Rule an_expression → Type 0 = λ r. Says n r (around (spelled k (suc l) a) (mark_of_two o) (spelled lead.Free l b)) (Own (two p o a b) (suc (max i j))) in
    subst Q (sym r) (says_joined (lexeme.Mark (mark_of_two o)) (blank ∷ symbol (mark_of_two o) ∷ blank ∷ spelled lead.Free l b) (λ q. (o, q)) (λ us. tt) (sees_alone e) (λ ts rest l. l) d (Like a i) (subst P r left) (λ y q h.
    says_blank (says_ends (Like b j) tighter (λ z g.
    let s = h.small in
    let t = g.small in
    says_deeper (two q o y.tree z.tree) (max y.depth z.depth) (omega (arith, s, t, lt)) (record { like = record { alike = alike_two o _ _ _ _ h.alike g.alike; small = omega (arith, s, t) }; bare = λ u. absurd u })))))

implies_again : (p : Place) (a b : Tree) (n : ℕ) → Respelled a → Respelled b → (k : Lead) → suc (max (depth_in k 14 a) (depth_in lead.Free 15 b)) ≤ suc n → max (depth_in k 14 a) (depth_in lead.Free 15 b) < deepest → Says n (level 15) (around (spelled k 14 a) marks.Arrow (spelled lead.Free 15 b)) (Own (two p op2.Implies a b) (suc (max (depth_in k 14 a) (depth_in lead.Free 15 b))))
unfolding unplaced level table
implies_again p a b n again again' k le lt =
    let i : ℕ = depth_in k 14 a in
    let j : ℕ = depth_in lead.Free 15 b in
    says_then (Like a i) (in_place a again k 14 n (omega (arith, le)) (omega (arith, lt))) refl (λ y h.
    says_blank (says_takes (λ q. q) sees_mark (λ q.
    says_blank (says_ends (Like b j) (says_part n j (place_some b lead.Free 15) (omega (arith, le)) (λ m e. in_place b again' lead.Free 15 m e (omega (arith, lt)))) (λ z g.
    let s = h.small in
    let t = g.small in
    says_deeper (two q op2.Implies y.tree z.tree) (max y.depth z.depth) (omega (arith, s, t, lt)) (record { like = record { alike = alike_two op2.Implies _ _ _ _ h.alike g.alike; small = omega (arith, s, t) }; bare = λ u. absurd u }))))))

pub choice_again : (p : Place) (c a b : Tree) (n : ℕ) → Respelled c → Respelled a → Respelled b → (k : Lead) → suc (max (depth_in k 12 c) (max (depth a lead.Free) (depth_in lead.Free 13 b))) ≤ suc n → max (depth_in k 12 c) (max (depth a lead.Free) (depth_in lead.Free 13 b)) < deepest → Says n (level 13) (around (spelled k 12 c) marks.Question (around (bare a lead.Free) marks.Colon (spelled lead.Free 13 b))) (Own (choice p c a b) (suc (max (depth_in k 12 c) (max (depth a lead.Free) (depth_in lead.Free 13 b)))))
unfolding unplaced level table
choice_again p c a b n again again' again'' k le lt =
    let i : ℕ = depth_in k 12 c in
    let d : ℕ = depth a lead.Free in
    let j : ℕ = depth_in lead.Free 13 b in
    says_then (Like c i) (in_place c again k 12 n (omega (arith, le)) (omega (arith, lt))) refl (λ y h.
    says_blank (says_takes (λ q. q) sees_mark (λ q.
    says_blank (says_then (Like a d) (says_part n d (free_some a lead.Free) (omega (arith, le)) (λ m e. loosely a again' m e (omega (arith, lt)))) refl (λ x f.
    says_blank (says_mark (λ r.
    says_blank (says_ends (Like b j) (says_part n j (place_some b lead.Free 13) (omega (arith, le)) (λ m e. in_place b again'' lead.Free 13 m e (omega (arith, lt)))) (λ z g.
    let s = h.small in
    let t = f.small in
    let v = g.small in
    says_deeper (choice q y.tree x.tree z.tree) (max y.depth (max x.depth z.depth)) (omega (arith, s, t, v, lt)) (record { like = record { alike = alike_choice _ _ _ _ _ _ h.alike f.alike g.alike; small = omega (arith, s, t, v) }; bare = λ u. absurd u }))))))))))

pub two_again : (p : Place) (o : Op2) (a b : Tree) → Respelled a → Respelled b → Respelled (two p o a b)
unfolding bare depth level sees
two_again p op2.Implies a b again again' k n le small = implies_again p a b n again again' k le small
two_again p op2.Concat a b again again' k n le small = joined_again p op2.Concat a b 2 n refl (λ q us. refl) refl again again' k le small
two_again p o a b again again' k n le small = joined_again p o a b (print.level (two p o a b) - 1) n refl (λ q us. refl) refl again again' k le small

-- a branch without its `;`, and branches that each begin with one
abbrev one_arm : Tree → Tree → List Ink
one_arm c v = around (bare c lead.Free) marks.Colon (bare v lead.Free)

abbrev further : Arms → List Ink
further no_arms = []
further (arm c v bs) = symbol marks.Semicolon ∷ blank ∷ (one_arm c v ++ further bs)

shifted : (bs : Arms) → symbol marks.Semicolon ∷ blank ∷ branches bs ≡ further bs ++ (symbol marks.Semicolon ∷ blank ∷ [])
unfolding bare
shifted no_arms = refl
shifted (arm c v bs) =
    let e : bare v lead.Free ++ (symbol marks.Semicolon ∷ blank ∷ branches bs) ≡ bare v lead.Free ++ (further bs ++ (symbol marks.Semicolon ∷ blank ∷ [])) = ap (λ is. bare v lead.Free ++ is) (shifted bs) in
    simp append_assoc (ap (λ is. symbol marks.Semicolon ∷ blank ∷ (bare c lead.Free ++ (blank ∷ symbol marks.Colon ∷ blank ∷ is))) e)

all_shifted : (c v : Tree) (bs : Arms) → branches (arm c v bs) ++ (symbol marks.Esac ∷ []) ≡ one_arm c v ++ (further bs ++ (symbol marks.Semicolon ∷ blank ∷ symbol marks.Esac ∷ []))
unfolding bare
all_shifted c v bs =
    let e : bare v lead.Free ++ (symbol marks.Semicolon ∷ blank ∷ branches bs) ≡ bare v lead.Free ++ (further bs ++ (symbol marks.Semicolon ∷ blank ∷ [])) = ap (λ is. bare v lead.Free ++ is) (shifted bs) in
    ap (λ is. (bare c lead.Free ++ (blank ∷ symbol marks.Colon ∷ blank ∷ is)) ++ (symbol marks.Esac ∷ [])) e ∙ simp append_assoc refl

abbrev pub RespelledArms : Arms → Type 0
RespelledArms no_arms = Unit {0}
RespelledArms (arm c v bs) = Respelled c × Respelled v × RespelledArms bs

record OneArm (ys : Branches) (c v : Tree) (zs : Branches) : Type 0 where
  condition : Expression
  value : Expression
  is : zs ≡ record { arms = ys.arms ++ (condition.tree, value.tree) ∷ []; depth = max ys.depth (max condition.depth value.depth) }
  like : Like c (depth c lead.Free) condition
  alike : Like v (depth v lead.Free) value

record ExtendsArms (ys : Branches) (bs : Arms) (zs : Branches) : Type 0 where
  more : List (Tree × Tree)
  is : zs.arms ≡ ys.arms ++ more
  alike : unplaced_arms bs ≡ unplaced_arms (arms more)
  small : zs.depth ≤ max ys.depth (depth_arms bs)

alike_arm : (c x v y : Tree) (bs cs : Arms) → c ≡ x → v ≡ y → bs ≡ cs → arm c v bs ≡ arm x y cs
alike_arm c x v y bs cs e f g = cc

extended_arms : (ys zs ws : Branches) (c v : Tree) (bs : Arms) → OneArm ys c v zs → ExtendsArms zs bs ws → ExtendsArms ys (arm c v bs) ws
unfolding unplaced depth
extended_arms ys zs ws c v bs h e =
    let s = h.like.small in
    let r = h.alike.small in
    let t = e.small in
    let d = ap (λ (o : Branches). o.depth) h.is in
    record {
      more = (h.condition.tree, h.value.tree) ∷ e.more;
      is = e.is ∙ ap (λ (o : Branches). o.arms ++ e.more) h.is ∙ append_assoc ys.arms ((h.condition.tree, h.value.tree) ∷ []) e.more;
      alike = alike_arm _ _ _ _ _ _ h.like.alike h.alike.alike e.alike;
      small = omega (arith, s, r, t, d);
    }

arm_again : (n : ℕ) (c v : Tree) → Respelled c → Respelled v → (ys : Branches) → max (depth c lead.Free) (depth v lead.Free) ≤ suc n → max (depth c lead.Free) (depth v lead.Free) ≤ deepest → Says n (branch ys) (one_arm c v) (OneArm ys c v)
arm_again n c v again again' ys le small =
    says_then (Like c (depth c lead.Free)) (loosely c again n (omega (arith, le)) (omega (arith, small))) refl (λ x h.
    says_blank (says_mark (λ q.
    says_blank (says_ends (Like v (depth v lead.Free)) (loosely v again' n (omega (arith, le)) (omega (arith, small))) (λ y g.
    says_gives (record { condition = x; value = y; is = refl; like = h; alike = g }))))))

further_quiet : (bs : Arms) → NoDots (further bs)
further_quiet no_arms = tt
further_quiet (arm c v bs) = refl

further_seen : (c v : Tree) (is : List Ink) → Opens lead.Free (print.level c) (bare c lead.Free) → Sees key.further (lexeme.Mark marks.Semicolon) (blank ∷ one_arm c v ++ is) (λ p. p)
unfolding sees same_mark
further_seen c v is o = record { at = λ p us rest l q. ap (λ b. cond {A = Option Place} b None (Some p)) (begins_not lead.Free (print.level c) (one_arm c v ++ is) us rest (opened is o) l) } where
  opened : (is : List Ink) → Opens lead.Free (print.level c) (bare c lead.Free) → Opens lead.Free (print.level c) (one_arm c v ++ is)
  opened is o = subst (Opens lead.Free (print.level c)) (sym (append_assoc (bare c lead.Free) (blank ∷ symbol marks.Colon ∷ blank ∷ bare v lead.Free) is)) (opens_more lead.Free (print.level c) (bare c lead.Free) _ o refl)

further_again : (n : ℕ) (bs : Arms) → ArmsScannable bs → RespelledArms bs → (ys : Branches) → depth_arms bs ≤ suc n → depth_arms bs ≤ deepest → Says n (more_branches ys) (further bs) (ExtendsArms ys bs)
unfolding bare unplaced depth Scannables
further_again n no_arms s all ys le small = says_stops (λ us. tt) (record { more = []; is = sym (append-nil ys.arms); alike = refl; small = omega arith })
further_again n (arm c v bs) s all ys le small =
    says_goes_on (blank ∷ one_arm c v) (λ p. p) (further_seen c v (further bs) (opens c lead.Free (print.level c) s.0 (omega arith) refl)) (OneArm ys c v) (λ p.
    says_blank (arm_again n c v all.0 all.1 ys (omega (arith, le)) (omega (arith, small)))) (further_quiet bs) (λ zs h.
    says_more (λ ws e. extended_arms ys zs ws c v bs h e) (further_again n bs s.2 all.2 zs (omega (arith, le)) (omega (arith, small))))

arms_some : (c v : Tree) (bs : Arms) → 1 ≤ depth_arms (arm c v bs)
unfolding depth
arms_some c v bs = let h = free_some c lead.Free in omega (arith, h)

further_more : (bs : Arms) → NoDots (further bs ++ (symbol marks.Semicolon ∷ blank ∷ symbol marks.Esac ∷ []))
further_more no_arms = refl
further_more (arm c v bs) = refl

pub cases_again : (p : Place) (bs : Arms) → SomeArms bs → ArmsScannable bs → RespelledArms bs → Respelled (cases p bs)
unfolding bare unplaced depth primary_by Scannables
cases_again p no_arms some s all k n le small = absurd some
cases_again p (arm c v bs) some s all k n le small =
    primary_own (cases p (arm c v bs)) (suc d) n _ (λ s. s) (says_opener (lexeme.Mark marks.Case) key.branches d refl (arms_some c v bs) (omega (arith, le)) (λ q m i.
    says_blank (subst (λ is. Says m (listed_branches q) is (Like (cases p (arm c v bs)) (suc d))) (sym (all_shifted c v bs)) (
    says_then (OneArm no_branches c v) (arm_again m c v all.0 all.1 no_branches (omega (arith, i)) (omega (arith, small))) (further_more bs) (λ zs h.
    says_then (ExtendsArms zs bs) (further_again m bs s.2 all.2 zs (omega (arith, i)) (omega (arith, small))) refl (λ ws e.
    let g = extended_arms no_branches zs ws c v bs h e in
    let r = g.small in
    says_last (λ t. says_blank (says_mark (λ u. says_deeper (cases q (arms ws.arms)) ws.depth (omega (arith, r, small)) (record { alike = ap (cases nowhere) (g.alike ∙ ap (λ us. unplaced_arms (arms us)) (sym g.is)); small = omega (arith, r) })))))))))) where
      d : ℕ
      d = max (max (depth c lead.Free) (depth v lead.Free)) (depth_arms bs)

-- expressions with commas between them, behind others
abbrev RespelledAll : Trees → Type 0
RespelledAll no_trees = Unit {0}
RespelledAll (tree x xs) = Respelled x × RespelledAll xs

record Extends (ys : Operands) (es : Trees) (zs : Operands) : Type 0 where
  more : List Tree
  is : zs.trees ≡ ys.trees ++ more
  alike : unplaced_all es ≡ unplaced_all (trees more)
  small : zs.depth ≤ max ys.depth (depth_all es)

record OneMore (ys : Operands) (x : Tree) (zs : Operands) : Type 0 where
  item : Expression
  is : zs ≡ one_more ys item
  like : Like x (depth x lead.Free) item

alike_more : (u x : Tree) (us xs : Trees) → u ≡ x → us ≡ xs → tree u us ≡ tree x xs
alike_more u x us xs e f = cc

extended : (ys zs ws : Operands) (x : Tree) (xs : Trees) → OneMore ys x zs → Extends zs xs ws → Extends ys (tree x xs) ws
unfolding unplaced depth
extended ys zs ws x xs h e =
    let s = h.like.small in
    let t = e.small in
    let d = ap (λ (o : Operands). o.depth) h.is in
    record {
      more = h.item.tree ∷ e.more;
      is = e.is ∙ ap (λ (o : Operands). o.trees ++ e.more) h.is ∙ append_assoc ys.trees (h.item.tree ∷ []) e.more;
      alike = alike_more _ _ _ _ h.like.alike e.alike;
      small = omega (arith, s, t, d);
    }

comma_quiet : (es : Trees) → NoDots (after_comma es)
unfolding bare
comma_quiet no_trees = tt
comma_quiet (tree x xs) = refl

more_again : (n : ℕ) (es : Trees) → RespelledAll es → (ys : Operands) → depth_all es ≤ suc n → depth_all es ≤ deepest → Says n (more_operands ys) (after_comma es) (Extends ys es)
unfolding bare unplaced depth
more_again n no_trees all ys le small = says_stops (λ us. tt) (record { more = []; is = sym (append-nil ys.trees); alike = refl; small = omega arith })
more_again n (tree x xs) all ys le small =
    says_goes_on (blank ∷ bare x lead.Free) (λ p. p) sees_mark (OneMore ys x) (λ p.
    says_blank (says_ends (Like x (depth x lead.Free)) (loosely x all.0 n (omega (arith, le)) (omega (arith, small))) (λ y h. says_gives (record { item = y; is = refl; like = h })))) (comma_quiet xs) (λ zs h.
    says_more (λ ws e. extended ys zs ws x xs h e) (more_again n xs all.1 zs (omega (arith, le)) (omega (arith, small))))

record AllLike (es : Trees) (zs : Operands) : Type 0 where
  alike : unplaced_all es ≡ unplaced_all (trees zs.trees)
  small : zs.depth ≤ depth_all es

all_again : (n : ℕ) (es : Trees) → SomeTrees es → RespelledAll es → depth_all es ≤ suc n → depth_all es ≤ deepest → Says n operands (listed es) (AllLike es)
unfolding bare unplaced depth
all_again n no_trees some all le small = absurd some
all_again n (tree x xs) some all le small =
    says_then (Like x (depth x lead.Free)) (loosely x all.0 n (omega (arith, le)) (omega (arith, small))) (comma_quiet xs) (λ y h.
    let one : Operands = record { trees = y.tree ∷ []; depth = y.depth } in
    says_more (λ ws e. let s = h.small in let t = e.small in record { alike = alike_more _ _ _ _ h.alike e.alike ∙ ap (λ us. unplaced_all (trees us)) (sym e.is); small = omega (arith, s, t) }) (more_again n xs all.1 one (omega (arith, le)) (omega (arith, small))))

all_some : (es : Trees) → SomeTrees es → 1 ≤ depth_all es
unfolding depth
all_some no_trees s = absurd s
all_some (tree x xs) s = let h = free_some x lead.Free in omega (arith, h)

set_again : (p : Place) (es : Trees) → SomeTrees es → RespelledAll es → Respelled (set p es)
unfolding bare unplaced depth primary_by
set_again p es some all k n le small =
    primary_own (set p es) (suc (depth_all es)) n _ (λ s. s) (says_opener (lexeme.Mark marks.OpenCurly) key.set (depth_all es) refl (all_some es some) (omega (arith, le)) (λ q m i.
    says_then (AllLike es) (all_again m es some all i (omega (arith, small))) refl (λ zs h.
    let s = h.small in
    says_mark (λ r. says_deeper (set q (trees zs.trees)) zs.depth (omega (arith, s, small)) (record { alike = ap (set nowhere) h.alike; small = omega (arith, s) })))))

count_again : (p : Place) (es : Trees) → SomeTrees es → RespelledAll es → Respelled (count p es)
unfolding bare unplaced depth primary_by
count_again p es some all k n le small =
    primary_own (count p es) (suc (depth_all es)) n _ (λ s. s) (says_opener (lexeme.Mark marks.Count) key.count (depth_all es) refl (all_some es some) (omega (arith, le)) (λ q m i.
    says_mark (λ t. says_then (AllLike es) (all_again m es some all i (omega (arith, small))) refl (λ zs h.
    let s = h.small in
    says_mark (λ r. says_deeper (count q (trees zs.trees)) zs.depth (omega (arith, s, small)) (record { alike = ap (count nowhere) h.alike; small = omega (arith, s) }))))))

-- operators before an operand; a `-` begins no range there
not_again : (p : Place) (a : Tree) → Respelled a → Respelled (one p op1.Not a)
unfolding bare unplaced depth level
not_again p a again k n le small =
    says_more (λ y g. record { like = g; bare = λ u. absurd u }) (says_takes (λ q. q) sees_mark (λ q.
    opened_again (one p op1.Not a) a lead.Free 2 n (one q op1.Not) again (λ y g. ap (one nowhere op1.Not) g) le small))

neg_again : (p : Place) (a : Tree) → Scannables a → Respelled a → Respelled (one p op1.Neg a)
unfolding bare unplaced depth level sees same_mark
neg_again p a s again k n le small = by_test (is_negation a) where
  operand : List Ink
  operand = spelled lead.Minus 4 a

  plain : (q : Place) (us rest : List Token) → Lays operand us rest → begins_dots rest ≡ false → sees key.minus (stands q (lexeme.Mark marks.Minus)) us ≡ Some q
  plain q us rest l d = ap (λ b. cond {A = Option Place} b None (Some q)) (no_range 4 operand us rest (opens_in a lead.Minus 4 s) l d)

  said : (q : Place) → Says n (prefixed q op1.Neg 4) operand (Own (one p op1.Neg a) (suc (depth_in lead.Minus 4 a)))
  said q = says_more (λ y g. record { like = g; bare = λ u. absurd u }) (opened_again (one p op1.Neg a) a lead.Minus 4 n (one q op1.Neg) again (λ y g. ap (one nowhere op1.Neg) g) le small)

  by_test : (b : Bool) → Says n (level 4) (symbol marks.Minus ∷ (cond b (blank ∷ []) [] ++ operand)) (Own (one p op1.Neg a) (suc (depth_in lead.Minus 4 a)))
  by_test true = says_takes (λ q. q) (record { at = plain }) (λ q. says_blank (said q))
  by_test false = says_takes (λ q. q) (record { at = plain }) said

mutual
  unfolding bare unplaced depth Scannables primary_by

  pub respelled : (x : Tree) → Scannables x → Respelled x
  respelled (truth p true) s k n le small = primary_own (truth p true) 1 n _ (λ u. u) (says_primary (lexeme.Mark marks.True) (key.truth true) refl (λ q. says_gives (record { alike = refl; small = omega arith })))
  respelled (truth p false) s k n le small = primary_own (truth p false) 1 n _ (λ u. u) (says_primary (lexeme.Mark marks.False) (key.truth false) refl (λ q. says_gives (record { alike = refl; small = omega arith })))
  respelled (number p v) s k n le small = number_again p n v
  respelled (word p w) s k n le small = primary_own (word p w) 1 n _ (λ u. u) (says_primary (lexeme.Word w) (key.word w) refl (λ q. says_gives (record { alike = refl; small = omega arith })))
  respelled (name p []) s k n le small = absurd s
  respelled (name p (m ∷ ns)) s k n le small = path_again p n m ns
  respelled (span p low high) s k n le small = span_again p n low high s.0 s.1
  respelled (set p es) s k n le small = set_again p es s.0 (respelled_all es s.1) k n le small
  respelled (cases p bs) s k n le small = cases_again p bs s.0 s.1 (respelled_arms bs s.1) k n le small
  respelled (choice p c a b) s k n le small = choice_again p c a b n (respelled c s.0) (respelled a s.1) (respelled b s.2) k le small
  respelled (one p op1.Not a) s k n le small = not_again p a (respelled a s) k n le small
  respelled (one p op1.Neg a) s k n le small = neg_again p a s (respelled a s) k n le small
  respelled (one p o a) s k n le small = function_again (one p o a) a _ (key.function o) (λ q. one q o) n (respelled a s) (λ u. u) refl (λ q. refl) (λ q y g. ap (one nowhere o) g) le small
  respelled (two p o a b) s k n le small = two_again p o a b (respelled a s.0) (respelled b s.1) k n le small
  respelled (select p a high low) s k n le small = select_again p a high low n (respelled a s.0) (min-eq_left s.1) (min-eq_left s.2) k le small
  respelled (next p a) s k n le small = function_again (next p a) a marks.Next key.next next n (respelled a s) (λ u. u) refl (λ q. refl) (λ q y g. ap (next nowhere) g) le small
  respelled (widen p true a w) s k n le small = widen_again p true a w n marks.Resize refl (respelled a s.0) s.1 le small
  respelled (widen p false a w) s k n le small = widen_again p false a w n marks.Extend refl (respelled a s.0) s.1 le small
  respelled (const p true v w) s k n le small = constant_again p true v w n marks.SwConst refl s.0 s.1 le
  respelled (const p false v w) s k n le small = constant_again p false v w n marks.UwConst refl s.0 s.1 le
  respelled (count p es) s k n le small = count_again p es s.0 (respelled_all es s.1) k n le small

  respelled_all : (es : Trees) → EachScannable es → RespelledAll es
  respelled_all no_trees s = tt
  respelled_all (tree x xs) s = (respelled x s.0, respelled_all xs s.1)

  respelled_arms : (bs : Arms) → ArmsScannable bs → RespelledArms bs
  respelled_arms no_arms s = tt
  respelled_arms (arm c v bs) s = (respelled c s.0, respelled v s.1, respelled_arms bs s.2)
