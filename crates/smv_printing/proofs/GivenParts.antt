-- What rules of expressions give has what their forms say, and is printed no deeper than it is.
use Rattle.std.proofs.Common.{◌≡◌, ◌≤◌, ◌<◌, ◌-◌, ℕ, ℤ, zero, suc, max, min, pos, Bool, true, false, cond, List, [], ◌∷◌, ◌++◌, refl, sym, ap, subst, arith, ◌∙◌}
use Rattle.std.specs.Prelude.{neg_ℤ, nat_lt}
use Rattle.std.proofs.lemmas.Bool.{ltb-true}
use Rattle.smv_tree.specs.declared.expr.Op1.{Op1}
use Rattle.smv_tree.specs.declared.expr.Op1.TheVariants as op1
use Rattle.smv_tree.specs.declared.expr.Op2.{Op2}
use Rattle.smv_tree.specs.declared.expr.Op2.TheVariants as op2
use Rattle.smv_tree.specs.declared.place.Place.{Place}
use Rattle.smv_tree.specs.Trees.{Tree, truth, number, word, name, span, set, cases, choice, one, two, select, next, widen, const, count, trees, arms}
use Rattle.smv_token.specs.declared.mark.Mark.TheVariants as marks
use Rattle.smv_grammar.specs.Forms.{capped, deepest, integer}
use Rattle.smv_rules.specs.Keys.{Opener, Primary, begins_with}
use Rattle.smv_rules.specs.Keys as key
use Rattle.smv_rules.specs.Sorts.{Expression, Operands, Branches, Sort, an_expression, Gift}
use Rattle.smv_rules.specs.Rules.{Part, gives, too_deep, may, expression, formula, inside, bits, ◌>>=◌, Rule}
use Rattle.smv_rules.specs.Table.{table}
use Rattle.smv_rules.specs.Expressions.{an_int, applied, branch, chosen, constant, counted, deeper, enclosed, implied, joined, level, level_from, listed, listed_branches, mark, more_branches, nested, number as a_number, no_branches, operands, prefixed, primary, primary_from, range_from, selected, selecting, widened}
use Rattle.smv_printing.proofs.ScannedTokens.{ArmsScannable, OwnName, OwnNames, OwnPath, Scannable, Scannables, Signed, greatest, AllScannable}
use Rattle.smv_printing.specs.Printing.{left_level, mark_of_two, operator_level, path_head, right_level}
use Rattle.smv_printing.specs.Printing as print
use Rattle.smv_printing.specs.declared.lead.Lead.{Lead}
use Rattle.smv_printing.specs.declared.lead.Lead.TheVariants as lead
use Rattle.smv_printing.proofs.Says.{level_by}
use Rattle.smv_printing.proofs.Fits.{depth, depth_all, depth_arms, depth_in, AllFit, ArmsFit, Clean, Fits, branch_added, fit_added, fits_any, fits_looser, fits_plain, free_part, is_plain, round_bare, round_fits}
use Rattle.smv_printing.proofs.Giving.{After, Called, Given, Gives, OwnPrimary, floor, primary_role, Fails, Kept, Spans, lift, part_role, seen}
use Rattle.smv_token.specs.declared.token.Token.{Token}
use Rattle.smv_rules.specs.Follows.{Mode, Follows, done, has, takes, skips, nests, stays, chains, stops, goes_on}

abbrev pub open_in : {s : Sort} → Part s → ℕ
open_in (inside key.round p) = 1
open_in p = 0

abbrev pub Expressive : {s : Sort} → Part s → Type 0
Expressive (formula l) = ⊥
Expressive p = Unit {0}

-- numbers, with a `-` or not
negated : (n : ℕ) → n ≤ greatest → Signed (neg_ℤ (pos n))
negated zero h = omega arith
negated (suc n) h = h

signed : (below : Bool) (n : ℕ) → Signed (integer below n)
signed true n = negated (min n 9223372036854775807) (omega arith)
signed false n = omega arith

int_gives : (c : Bool) (i : ℕ) (P : ℕ → ℤ → Type 0) → ((v : ℤ) → Signed v → P i v) → Gives c i an_int P
unfolding Gives
int_gives c i P h = ((λ p s n w. h (integer true n) (signed true n)), (λ n w. h (integer false n) (signed false n)))

deeper_gives : (i : ℕ) (x : Tree) (d : ℕ) (P : ℕ → Expression → Type 0) → (d < deepest → P i (record { tree = x; depth = suc d; bare = false })) → Gives false i (deeper x d) P
unfolding Gives
deeper_gives i x d P h = by_test (nat_lt d deepest) refl where
  by_test : (b : Bool) → nat_lt d deepest ≡ b → Gives false i (cond b (gives an_expression (record { tree = x; depth = suc d; bare = false })) (too_deep an_expression)) P
  by_test true e = h (ltb-true d deepest e)
  by_test false e = tt

-- what stands alone
single_fits : (c : Bool) (x : Tree) → Scannables x → print.level x ≤ 1 → is_plain x ≡ true → ((k : Lead) → depth x k ≤ 1) → Fits c 1 (record { tree = x; depth = 1; bare = false })
single_fits c x s l e h = fits_plain c 1 x 1 s l e (λ k g. h k) (omega arith)

span_fits : (c : Bool) (p : Place) (low high : ℤ) → Signed low → Signed high → Fits c 1 (record { tree = span p low high; depth = 2; bare = true })
unfolding depth Scannables
span_fits c p low high s t = record { well = (s, t); shallow = λ k g. by k; bare = λ e. tt; within = omega arith } where
  by : (k : Lead) → depth_in k 1 (span p low high) ≤ 2
  by lead.Minus = omega arith
  by k = omega arith

range_gives : (c a : Bool) (i : ℕ) (p : Place) (minus : Bool) (n : ℕ) (P : ℕ → Expression → Type 0) → ((x : Expression) → Fits c 1 x → P i x) → Gives a i (range_from p minus n) P
unfolding Gives
range_gives c a i p minus n P h = int_gives a i (λ j v. P j (record { tree = span p (integer minus n) v; depth = 2; bare = true })) (λ v s. h _ (span_fits c p (integer minus n) v (signed minus n) s))

own_more : (ns : List (List ℕ)) (n : List ℕ) → OwnPath ns → OwnName n → OwnPath (ns ++ n ∷ [])
own_more [] n o h = absurd o
own_more (m ∷ ns) n o h = (o.0, added ns o.1) where
  added : (ns : List (List ℕ)) → OwnNames ns → OwnNames (ns ++ n ∷ [])
  added [] o = (h, tt)
  added (m ∷ ns) o = (o.0, added ns o.1)

path_gives : (c : Bool) (i : ℕ) (p : Place) (n : List ℕ) (P : ℕ → Expression → Type 0) → Scannable (path_head n) → ((x : Expression) → Fits c 1 x → P i x) → Gives false i (primary_from (key.path n) p) P
unfolding Gives Scannables depth
path_gives c i p n P s h = (c, (s, tt), (λ ns o. h _ (single_fits c (name p ns) o (omega arith) refl (λ k. omega arith))), (λ ns q o w m g. (refl, own_more ns m.0 o g)))

primary_gives : (c : Bool) (i : ℕ) (P : ℕ → Expression → Type 0) → ((x : Expression) → Fits c 1 x → P i x) → Gives c i primary P
unfolding Gives Scannables depth
primary_gives c i P h = λ o s. by o.0 o.1 s where
  by : (o : Primary) (p : Place) → OwnPrimary o → After (primary_role o) i (λ j. Gives false j (primary_from o p) P)
  by (key.truth b) p s = h _ (single_fits c (truth p b) tt (omega arith) refl (λ k. omega arith))
  by (key.path n) p s = path_gives c i p n P s h
  by (key.digits n) p s = ((λ q t. range_gives c false i p false n P h), h _ (single_fits c (number p n) s (omega arith) refl (λ k. omega arith)))
  by key.below p s = λ n t q u. range_gives c false i p true n P h
  by (key.word w) p s = h _ (single_fits c (word p w) s (omega arith) refl (λ k. omega arith))
  by (key.opens key.round) p s = ((λ x g. h x (fits_any c 1 x g)), tt)
  by (key.opens (key.function o)) p s = ((λ x g. h x (fits_any c 1 x (g s))), tt)
  by (key.opens o) p s = ((λ x g. h x (fits_any c 1 x g)), tt)

-- operators
abbrev Good : ℕ → Type 1
Good l = (c : Bool) (i : ℕ) (P : ℕ → Expression → Type 0) → ((x : Expression) → Fits c (floor l) x → P i x) → Gives c i (level l) P

joined_fits : (c : Bool) (l u v : ℕ) (p : Place) (o : Op2) (a b : Expression) → operator_level (mark_of_two o) ≡ l → left_level l ≡ u → right_level l ≡ v → Fits c u a → Fits false v b → max a.depth b.depth < deepest → Fits c l (record { tree = two p o a.tree b.tree; depth = suc (max a.depth b.depth); bare = false })
unfolding Scannables depth
joined_fits c l u v p o a b same left right f g w =
    fits_plain c l (two p o a.tree b.tree) (suc (max a.depth b.depth)) (f.well, g.well) (omega (arith, same)) refl (λ k e.
    let i : depth_in k (left_level (operator_level (mark_of_two o))) a.tree ≤ a.depth = subst (λ i. depth_in k i a.tree ≤ a.depth) (sym (ap left_level same ∙ left)) (f.shallow k e) in
    let j : depth_in lead.Free (right_level (operator_level (mark_of_two o))) b.tree ≤ b.depth = subst (λ i. depth_in lead.Free i b.tree ≤ b.depth) (sym (ap right_level same ∙ right)) (g.shallow lead.Free tt) in
    omega (arith, i, j)) w

infix_gives : (l : ℕ) → 1 ≤ l → floor l ≡ l → Good l → (c : Bool) (i : ℕ) (P : ℕ → Expression → Type 0) → ((x : Expression) → Fits c (suc l) x → P i x) → Gives c i (level l >>= joined (suc l) (level l)) P
unfolding Gives
infix_gives l some e good c i P h = good c i _ (λ a f. (c, fits_looser c (floor l) (suc l) a (omega (arith, e)) f, h, (λ x o g own. good false i _ (λ b r. deeper_gives i (two o.1 o.0 x.tree b.tree) (max x.depth b.depth) (λ m y. (m ≡ i) × Fits c (suc l) y) (λ w. (refl, joined_fits c (suc l) (suc l) (suc l - 1) o.1 o.0 x b own.0 own.1 own.2 g (fits_looser false (floor l) (suc l - 1) b (omega (arith, e)) r) w))))))

selected_gives : (c : Bool) (i : ℕ) (P : ℕ → Expression → Type 0) → ((x : Expression) → Fits c 1 x → P i x) → Gives c i (primary >>= selected) P
unfolding Gives
selected_gives c i P h = primary_gives c i _ (λ a f. (c, f, h, (λ b p g s. ((λ x k. (refl, k c g)), tt))))

chosen_gives : (l : ℕ) → floor l ≡ 12 → Good l → (c : Bool) (i : ℕ) (P : ℕ → Expression → Type 0) → ((x : Expression) → Fits c 13 x → P i x) → Gives c i (level l >>= chosen) P
unfolding Gives Scannables depth
chosen_gives l e good c i P h = good c i _ (λ a f.
    let F : Fits c 12 a = subst (λ m. Fits c m a) e f in
    ((λ p s. ((λ x g. λ q t. ((λ y k. deeper_gives i (choice p a.tree x.tree y.tree) (max a.depth (max x.depth y.depth)) P (λ w. let m = free_part false 15 x g in let n = k.shallow lead.Free tt in h _ (fits_plain c 13 (choice p a.tree x.tree y.tree) (suc (max a.depth (max x.depth y.depth))) (F.well, g.well, k.well) (omega arith) refl (λ z e. let q = F.shallow z e in omega (arith, m, n, q)) w))), (λ t. tt))), (λ t. tt))), h a (fits_looser c 12 13 a (omega arith) F)))

implied_gives : (l : ℕ) → floor l ≡ 14 → Good l → (c : Bool) (i : ℕ) (P : ℕ → Expression → Type 0) → ((x : Expression) → Fits c 15 x → P i x) → Gives c i (level l >>= implied) P
unfolding Gives
implied_gives l e good c i P h = good c i _ (λ a f.
    let F : Fits c 14 a = subst (λ m. Fits c m a) e f in
    ((λ p s. ((λ x g. deeper_gives i (two p op2.Implies a.tree x.tree) (max a.depth x.depth) P (λ w. h _ (joined_fits c 15 14 15 p op2.Implies a x refl refl refl F g w))), (λ t. tt))), h a (fits_looser c 14 15 a (omega arith) F)))

-- operators before an operand
not_fits : (p : Place) (a : Expression) → Fits false 2 a → a.depth < deepest → Fits false 2 (record { tree = one p op1.Not a.tree; depth = suc a.depth; bare = false })
unfolding Scannables depth
not_fits p a f w = record { well = f.well; shallow = shallow; bare = λ e. absurd (cc); within = w } where
  small : (k : Lead) → depth (one p op1.Not a.tree) k ≤ suc a.depth
  small k = let h = f.shallow lead.Free tt in omega (arith, h)

  shallow : (k : Lead) → Clean k false → depth_in k 2 (one p op1.Not a.tree) ≤ suc a.depth
  shallow lead.Free c = small lead.Free
  shallow lead.Minus c = small lead.Minus
  shallow lead.Atom c = absurd (cc)

not_gives : (l : ℕ) → floor l ≡ 1 → Good l → (c : Bool) (i : ℕ) (P : ℕ → Expression → Type 0) → ((x : Expression) → Fits c 2 x → P i x) → Gives c i (may an_expression (key.mark marks.Bang) (λ p. prefixed p op1.Not 2) (level l)) P
unfolding Gives
not_gives l e good true i P h = ((λ p s. absurd s), good true i P (λ x f. h x (fits_looser true (floor l) 2 x (omega (arith, e)) f)))
not_gives l e good false i P h = ((λ p s. ((λ x f. deeper_gives i (one p op1.Not x.tree) x.depth P (λ w. h _ (not_fits p x f w))), tt)), good false i P (λ x f. h x (fits_looser false (floor l) 2 x (omega (arith, e)) f)))

neg_gives : (l : ℕ) → floor l ≡ 3 → Good l → (c : Bool) (i : ℕ) (P : ℕ → Expression → Type 0) → ((x : Expression) → Fits c 4 x → P i x) → Gives c i (may an_expression key.minus (λ p. prefixed p op1.Neg 4) (level l)) P
unfolding Gives Scannables depth
neg_gives l e good c i P h = ((λ p s. ((λ x f. deeper_gives i (one p op1.Neg x.tree) x.depth P (λ w. let d = f.shallow lead.Minus tt in h _ (fits_plain c 4 (one p op1.Neg x.tree) (suc x.depth) f.well (omega arith) refl (λ k e. omega (arith, d)) w))), tt)), good c i P (λ x f. h x (fits_looser c (floor l) 4 x (omega (arith, e)) f)))

-- each level
level_from_gives : (l : ℕ) → 1 ≤ l → floor l ≡ l → Good l → (c : Bool) (i : ℕ) (P : ℕ → Expression → Type 0) → ((x : Expression) → Fits c (suc l) x → P i x) → Gives c i (level_from (suc l) (level l)) P
level_from_gives l some e good c i P h = level_by (λ r. Gives c i r P) (suc l) (level l) (λ q. absurd (omega (arith, some, q))) (λ q. not_gives l (omega (arith, e, q)) good c i P (found 2 q)) (λ q. neg_gives l (omega (arith, e, q)) good c i P (found 4 q)) (λ q. chosen_gives l (omega (arith, e, q)) good c i P (found 13 q)) (λ q. implied_gives l (omega (arith, e, q)) good c i P (found 15 q)) (infix_gives l some e good c i P h) where
  found : (m : ℕ) → suc l ≡ m → (x : Expression) → Fits c m x → P i x
  found m q x f = h x (subst (λ m. Fits c m x) (sym q) f)

pub level_gives : (l : ℕ) (c : Bool) (i : ℕ) (P : ℕ → Expression → Type 0) → ((x : Expression) → Fits c (floor l) x → P i x) → Gives c i (level l) P
unfolding level
level_gives zero c i P h = primary_gives c i P h
level_gives (suc zero) c i P h = selected_gives c i P h
level_gives (suc (suc l)) c i P h = level_from_gives (suc l) (omega arith) refl (λ c i P h. level_gives (suc l) c i P h) c i P h

-- functions
call_fits : (f : Tree → Tree) (a : Expression) → Fits false 15 a → (Scannables a.tree → Scannables (f a.tree)) → print.level (f a.tree) ≤ 1 → is_plain (f a.tree) ≡ true → ((k : Lead) → depth (f a.tree) k ≤ suc (depth a.tree lead.Free)) → a.depth < deepest → Fits true 1 (record { tree = f a.tree; depth = suc a.depth; bare = false })
call_fits f a g s l e d w = let i = free_part false 15 a g in fits_plain true 1 (f a.tree) (suc a.depth) (s g.well) l e (λ k c. let j = d k in omega (arith, i, j)) w

abbrev Ends : ℕ → Expression → Type 0
Ends j x = (j ≡ 0) × Fits true 1 x

applied_gives : (Q : Expression → Type 0) (f : Tree → Tree) → ((a : Expression) → Fits false 15 a → a.depth < deepest → Q (record { tree = f a.tree; depth = suc a.depth; bare = false })) → Gives false 0 (applied f) (λ j x. (j ≡ 0) × Q x)
unfolding Gives
applied_gives Q f h = λ p s. level_gives 15 false 1 _ (λ a g. λ q t. deeper_gives 0 (f a.tree) a.depth (λ j x. (j ≡ 0) × Q x) (λ w. (refl, h a g w)))

widen_fits : (p : Place) (resize : Bool) (a : Expression) (n : ℕ) → Fits false 15 a → a.depth < deepest → Fits true 1 (record { tree = widen p resize a.tree (capped n); depth = suc a.depth; bare = false })
unfolding Scannables depth
widen_fits p resize a n g w = let i = free_part false 15 a g in fits_plain true 1 (widen p resize a.tree (capped n)) (suc a.depth) (g.well, omega arith) (omega arith) refl (λ k c. omega (arith, i)) w

widened_gives : (p : Place) (resize : Bool) → Gives false 0 (widened p resize) Ends
unfolding Gives
widened_gives p resize = λ q s. level_gives 15 false 1 _ (λ a g. λ r t n u v w. deeper_gives 0 (widen p resize a.tree (capped n)) a.depth Ends (λ z. (refl, widen_fits p resize a n g z)))

const_fits : (p : Place) (signed : Bool) (v : ℤ) (n : ℕ) → Signed v → Fits true 1 (record { tree = const p signed v (capped n); depth = 2; bare = false })
unfolding Scannables depth
const_fits p signed v n s = fits_plain true 1 (const p signed v (capped n)) 2 (s, omega arith) (omega arith) refl (λ k c. omega arith) (omega arith)

constant_gives : (p : Place) (b : Bool) → Gives false 0 (constant p b) Ends
unfolding Gives
constant_gives p b = λ q s. int_gives false 1 (λ j v. Gives false j (mark marks.Comma >>= (λ r. a_number >>= (λ n. mark marks.CloseRound >>= (λ t. deeper (const p b v (capped n)) 1)))) Ends) (λ v t. λ r u n w x y. deeper_gives 0 (const p b v (capped n)) 1 Ends (λ z. (refl, const_fits p b v n t)))

-- lists
one_fit : (a : Expression) → Fits false 15 a → AllFit (record { trees = a.tree ∷ []; depth = a.depth })
unfolding Scannables depth
one_fit a f = let g = free_part false 15 a f in record { some = tt; well = (f.well, tt); shallow = omega (arith, g) }

operands_gives : (i : ℕ) (P : ℕ → Operands → Type 0) → ((xs : Operands) → AllFit xs → P i xs) → Gives false i operands P
unfolding Gives Scannables depth
operands_gives i P h = level_gives 15 false i _ (λ a f. (false, one_fit a f, h, (λ xs p g s. level_gives 15 false i _ (λ b k. (refl, fit_added xs b g.well g.shallow k)))))

list_fits : (f : Tree) (d : ℕ) (l : ℕ) → Scannables f → print.level f ≤ 1 → is_plain f ≡ true → ((k : Lead) → depth f k ≤ suc d) → d ≤ l → l < deepest → Fits true 1 (record { tree = f; depth = suc l; bare = false })
list_fits f d l s e q h le w = fits_plain true 1 f (suc l) s e q (λ k c. let g = h k in omega (arith, g, le)) w

set_gives : (p : Place) → Gives false 0 (listed p) Ends
unfolding Gives Scannables depth
set_gives p = operands_gives 0 _ (λ xs f. λ q s. deeper_gives 0 (set p (trees xs.trees)) xs.depth Ends (λ w. (refl, list_fits (set p (trees xs.trees)) (depth_all (trees xs.trees)) xs.depth (f.some, f.well) (omega arith) refl (λ k. omega arith) f.shallow w)))

count_gives : (p : Place) → Gives false 0 (counted p) Ends
unfolding Gives Scannables depth
count_gives p = λ r t. operands_gives 1 _ (λ xs f. λ q s. deeper_gives 0 (count p (trees xs.trees)) xs.depth Ends (λ w. (refl, list_fits (count p (trees xs.trees)) (depth_all (trees xs.trees)) xs.depth (f.some, f.well) (omega arith) refl (λ k. omega arith) f.shallow w)))

branch_gives : (bs : Branches) (i : ℕ) (P : ℕ → Branches → Type 0) → ArmsScannable (arms bs.arms) → depth_arms (arms bs.arms) ≤ bs.depth → ((cs : Branches) → ArmsFit cs → P i cs) → Gives false i (branch bs) P
unfolding Gives
branch_gives bs i P w s h = level_gives 15 false i _ (λ c f. λ q t. level_gives 15 false i _ (λ v g. h _ (branch_added bs c v w s f g)))

cases_gives : (p : Place) → Gives false 0 (listed_branches p) Ends
unfolding Gives Scannables depth
cases_gives p = branch_gives no_branches 0 (λ j bs. Gives false j (more_branches bs >>= (λ cs. mark marks.Semicolon >>= (λ q. mark marks.Esac >>= (λ r. deeper (cases p (arms cs.arms)) cs.depth)))) Ends) tt (omega arith) (λ bs f. (false, f, (λ cs g. λ q s r t. deeper_gives 0 (cases p (arms cs.arms)) cs.depth Ends (λ w. (refl, list_fits (cases p (arms cs.arms)) (depth_arms (arms cs.arms)) cs.depth (g.some, g.well) (omega arith) refl (λ k. omega arith) g.shallow w))), (λ cs q g s. branch_gives cs 0 (λ m y. (m ≡ 0) × ArmsFit y) g.well g.shallow (λ ds k. (refl, k)))))

-- brackets
round_gives : Gives false 1 enclosed Ends
unfolding Gives
round_gives = level_gives 15 false 1 _ (λ a f. λ q s. by_test a f a.bare refl) where
  by_test : (a : Expression) → Fits false 15 a → (b : Bool) → a.bare ≡ b → Gives false 0 (cond b (gives an_expression (record { tree = a.tree; depth = a.depth; bare = false })) (deeper a.tree a.depth)) Ends
  by_test a f true e = (refl, round_bare 15 a e f)
  by_test a f false e = deeper_gives 0 a.tree a.depth Ends (λ w. (refl, round_fits 15 a f w))

-- bits
select_fits : (c : Bool) (p : Place) (a : Expression) (high low : ℕ) → Fits c 1 a → a.depth < deepest → Fits c 1 (record { tree = select p a.tree (capped high) (capped low); depth = suc a.depth; bare = false })
unfolding Scannables depth
select_fits c p a high low f w = fits_plain c 1 (select p a.tree (capped high) (capped low)) (suc a.depth) (f.well, omega arith, omega arith) (omega arith) refl (λ k e. let h = f.shallow k e in omega (arith, h)) w

bits_give : (a : Expression) (p : Place) → Gives false 0 (selecting a p) (λ j x. (j ≡ 0) × Given (bits a p) x)
unfolding Gives
bits_give a p = λ h s q t l u r v. deeper_gives 0 (select p a.tree (capped h) (capped l)) a.depth (λ j x. (j ≡ 0) × Given (bits a p) x) (λ w. (refl, λ c f. select_fits c p a h l f w))

function_fits : (p : Place) (o : Op1) (a : Expression) → Fits false 15 a → a.depth < deepest → Called o → Fits true 1 (record { tree = one p o a.tree; depth = suc a.depth; bare = false })
unfolding Scannables depth
function_fits p op1.Not a f w c = absurd c
function_fits p op1.Neg a f w c = absurd c
function_fits p o a f w c = call_fits (one p o) a f (λ s. s) (omega arith) refl (λ k. omega arith) w

opener_gives : (o : Opener) (p : Place) → Gives false (open_in (inside o p)) (nested o p) (λ j x. (j ≡ 0) × Given (inside o p) x)
unfolding Scannables depth
opener_gives key.round p = round_gives
opener_gives key.set p = set_gives p
opener_gives key.branches p = cases_gives p
opener_gives key.count p = count_gives p
opener_gives key.next p = applied_gives (Fits true 1) (next p) (λ a f w. call_fits (next p) a f (λ s. s) (omega arith) refl (λ k. omega arith) w)
opener_gives (key.function o) p = applied_gives (λ x. Called o → Fits true 1 x) (one p o) (function_fits p o)
opener_gives (key.widen resize) p = widened_gives p resize
opener_gives (key.const b) p = constant_gives p b

pub given_part : {s : Sort} (p : Part s) → Expressive p → Gives false (open_in p) (table p) (λ j x. (j ≡ 0) × Given p x)
unfolding table
given_part (expression l) e = level_gives l false 0 _ (λ x f. (refl, f))
given_part (formula l) e = absurd e
given_part (inside o p) e = opener_gives o p
given_part (bits a p) e = bits_give a p

pub record Gave (i : ℕ) {X : Type 0} (P : ℕ → X → Type 0) (ts rest : List Token) (x : X) : Type 0 where
  pub left : ℕ
  pub holds : P left x
  pub spans : Spans i left ts rest
  pub scannable : AllScannable rest

fails : {m : Mode} {n : ℕ} {s : Sort} {r : Rule s} {ts rest : List Token} {x : Gift s} → Follows m n s r ts rest x → Fails r → ⊥
fails (has n s k f t p ts rest x e j) h = fails j (h p)
fails f h = h

abbrev Cleanly : Bool → List Token → Type 0
Cleanly c ts = (c ≡ true → begins_with marks.Bang ts ≡ false)

no_true : false ≡ true → ⊥
no_true e = absurd (cc)

pub not_clean : (ts : List Token) → Cleanly false ts
not_clean ts e = absurd (no_true e)

-- behind a token
behind : {i : ℕ} {X : Type 0} {P : ℕ → X → Type 0} {ts us rest : List Token} {x : X} (j : ℕ) → Spans i j ts us → Gave j P us rest x → Gave i P ts rest x
behind j s g = record { left = g.left; holds = g.holds; spans = λ m. s m ∙ g.spans m; scannable = g.scannable }

-- a part
opened : {s : Sort} (p : Part s) (i : ℕ) (Q : ℕ → Type 0) (ts rest : List Token) → After (part_role p) i Q → Spans (open_in p) 0 ts rest → (j : ℕ) × Q j × Spans i j ts rest
opened (formula l) i Q ts rest h s = absurd h
opened (inside key.round p) zero Q ts rest h s = absurd h
opened (inside key.round p) (suc i) Q ts rest h s = (i, h, λ m. s (lift i m))
opened p i Q ts rest h s = (i, h, λ m. s (lift i m))

entered : {s : Sort} (p : Part s) (i : ℕ) (P : ℕ → Gift s → Type 0) (ts rest : List Token) (x : Gift s) → ((y : Gift s) → Given p y → After (part_role p) i (λ j. P j y)) → (Expressive p → Gave (open_in p) (λ j y. (j ≡ 0) × Given p y) ts rest x) → Gave i P ts rest x
entered (formula l) i P ts rest x h g = absurd (h x tt)
entered p i P ts rest x h g =
    let w = g tt in
    let o = opened p i (λ j. P j x) ts rest (h x w.holds.1) (subst (λ q. Spans (open_in p) q ts rest) w.holds.0 w.spans) in
    record { left = o.0; holds = o.1; spans = o.2; scannable = w.scannable }

pub gave : {m : Mode} {n : ℕ} {s : Sort} {r : Rule s} {ts rest : List Token} {x : Gift s} → Follows m n s r ts rest x → (c : Bool) (i : ℕ) (P : ℕ → Gift s → Type 0) → AllScannable ts → Cleanly c ts → Gives c i r P → Gave i P ts rest x
unfolding Gives
gave (done n s x ts) c i P a b h = record { left = i; holds = h; spans = λ m. refl; scannable = a }
gave (has n s k f t p ts rest x e j) c i P a b h =
    let w = seen k c t ts p i (λ j. Gives false j (f p) P) e a.0 b (h p) in
    behind w.left w.spans (gave j false w.left P a.1 (not_clean ts) w.holds)
gave (takes n s k f r t p ts rest x e j) c i P a b h =
    let w = seen k c t ts p i (λ j. Gives false j (f p) P) e a.0 b (h.0 p) in
    behind w.left w.spans (gave j false w.left P a.1 (not_clean ts) w.holds)
gave (skips n s k f r ts rest x u j) c i P a b h = gave j c i P a b h.1
gave (nests n s p r ts rest x j) c i P a b h = entered p i P ts rest x h.0 (λ e. gave j false (open_in p) (λ j y. (j ≡ 0) × Given p y) a (not_clean ts) (given_part p e))
gave (stays s p r ts rest x j) c i P a b h = absurd (fails j h.1)
gave (chains n z s r f ts us rest y x j k) c i P a b h =
    let g = gave j c i (λ j a. Gives false j (f a) P) a b h in
    behind g.left g.spans (gave k false g.left P g.scannable (not_clean us) g.holds)
gave (stops n s k f y ts u) c i P a b h = record { left = i; holds = h.2 y h.1; spans = λ m. refl; scannable = a }
gave (goes_on n s k f y t p ts us rest z x e j l) c i P a b h =
    let P' : ℕ → Gift s → Type 0 = λ m y. (m ≡ i) × Kept s k h.0 y in
    let w = seen k false t ts p i (λ j. Gives false j (f y p) P') e a.0 (λ e. absurd (no_true e)) (h.3 y p h.1) in
    let g = gave j false w.left P' a.1 (not_clean ts) w.holds in
    behind w.left w.spans (behind i (subst (λ q. Spans w.left q ts us) g.holds.0 g.spans) (gave l false i P g.scannable (not_clean us) (h.0, g.holds.1, h.2, h.3)))
