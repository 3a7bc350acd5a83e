-- How deep what is printed of an expression is nested, and expressions that are printed no deeper than they
-- are.
use Rattle.std.proofs.Common.{◌≡◌, ◌≤◌, ◌||◌, ℕ, suc, max, Bool, true, false, cond, nat_lt, if◌then◌else◌, refl, arith, ◌<◌, List, [], ◌∷◌, ◌++◌, sym, ◌∙◌, subst, ap}
use Rattle.smv_tree.specs.declared.expr.Op1.TheVariants as op1
use Rattle.smv_tree.specs.Trees.{Tree, Trees, Arms, truth, number, word, name, span, set, cases, choice, one, two, select, next, widen, const, count, no_trees, tree, no_arms, arm, trees, arms}
use Rattle.smv_printing.specs.declared.lead.Lead.{Lead}
use Rattle.smv_printing.specs.declared.lead.Lead.TheVariants as lead
use Rattle.smv_printing.specs.Printing.{level, misread, right_level, left_level}
use Rattle.std.proofs.lemmas.Bool.{le-ltb, ltb-false, ltb-true}
use Rattle.smv_grammar.specs.Forms.{deepest}
use Rattle.smv_rules.specs.Sorts.{Branches, Expression, Operands}
use Rattle.smv_printing.proofs.ScannedTokens.{ArmsScannable, EachScannable, Scannables, SomeArms, SomeTrees}

abbrev pub IsSpan : Tree → Type 0
IsSpan (span p low high) = Unit {0}
IsSpan x = ⊥

-- the depth of what parentheses hold, as it counts for them: they add nothing to a range
abbrev pub held : Tree → ℕ → ℕ
held (span p low high) d = 1
held x d = d

-- the depth of an expression in the place of a part: parentheses are one nesting
abbrev pub part_depth : Lead → ℕ → Tree → (Lead → ℕ) → ℕ
part_depth k place x d = if nat_lt place (level x) || misread k x then suc (held x (d lead.Free)) else d k

-- numbers and names count as 1, and each form adds one to the deepest of its parts
unfoldable mutual
  pub depth : Tree → Lead → ℕ
  depth (truth p b) k = 1
  depth (number p n) k = 1
  depth (word p w) k = 1
  depth (name p ns) k = 1
  depth (span p low high) k = 2
  depth (set p es) k = suc (depth_all es)
  depth (cases p bs) k = suc (depth_arms bs)
  depth (choice p c a b) k = suc (max (part_depth k (left_level 13) c (λ j. depth c j)) (max (depth a lead.Free) (part_depth lead.Free (right_level 13) b (λ j. depth b j))))
  depth (one p op1.Not a) k = suc (part_depth lead.Free 2 a (λ j. depth a j))
  depth (one p op1.Neg a) k = suc (part_depth lead.Minus 4 a (λ j. depth a j))
  depth (one p o a) k = suc (depth a lead.Free)
  depth (two p o a b) k = suc (max (part_depth k (left_level (level (two p o a b))) a (λ j. depth a j)) (part_depth lead.Free (right_level (level (two p o a b))) b (λ j. depth b j)))
  depth (select p a high low) k = suc (part_depth k 1 a (λ j. depth a j))
  depth (next p a) k = suc (depth a lead.Free)
  depth (widen p resize a n) k = suc (depth a lead.Free)
  depth (const p signed v n) k = 2
  depth (count p es) k = suc (depth_all es)

  pub depth_all : Trees → ℕ
  depth_all no_trees = 0
  depth_all (tree x xs) = max (depth x lead.Free) (depth_all xs)

  pub depth_arms : Arms → ℕ
  depth_arms no_arms = 0
  depth_arms (arm c v bs) = max (max (depth c lead.Free) (depth v lead.Free)) (depth_arms bs)

abbrev pub depth_in : Lead → ℕ → Tree → ℕ
depth_in k place x = part_depth k place x (λ j. depth x j)

pub held_less : (x : Tree) (k : Lead) → held x (depth x k) ≤ depth x k
unfolding depth
held_less (span p low high) k = omega arith
held_less x k = omega arith

pub held_near : (x : Tree) (k : Lead) → depth x k ≤ suc (held x (depth x k))
unfolding depth
held_near (span p low high) k = omega arith
held_near x k = omega arith

pub held_is : (x : Tree) (d : ℕ) → (IsSpan x → ⊥) → held x d ≡ d
held_is (span p low high) d h = absurd (h tt)
held_is x d h = refl

pub depth_some : (x : Tree) (k : Lead) → 1 ≤ held x (depth x k)
unfolding depth
depth_some (one p op1.Not a) k = omega arith
depth_some (one p op1.Neg a) k = omega arith
depth_some (one p o a) k = omega arith
depth_some x k = omega arith

pub free_some : (x : Tree) (k : Lead) → 1 ≤ depth x k
free_some x k = let h = depth_some x k in let g = held_less x k in omega (arith, h, g)

pub place_some : (x : Tree) (k : Lead) (l : ℕ) → 1 ≤ depth_in k l x
place_some x k l = by_test (nat_lt l (level x) || misread k x) where
  by_test : (b : Bool) → 1 ≤ cond b (suc (held x (depth x lead.Free))) (depth x k)
  by_test true = omega arith
  by_test false = free_some x k

-- what begins an atom begins with no `!`
abbrev pub Clean : Lead → Bool → Type 0
Clean lead.Atom clean = (clean ≡ true)
Clean k clean = Unit {0}

-- An expression of a level is printed no deeper, also as what begins an atom where the flag says that it
-- begins with no `!`.
pub record Fits (clean : Bool) (l : ℕ) (x : Expression) : Type 0 where
  pub well : Scannables x.tree
  pub shallow : (k : Lead) → Clean k clean → depth_in k l x.tree ≤ x.depth
  pub bare : x.bare ≡ true → IsSpan x.tree
  pub within : x.depth ≤ deepest

-- parentheses are one nesting more
in_more : (x : Tree) (k : Lead) (l : ℕ) → depth x k ≤ suc (depth x lead.Free) → depth_in k l x ≤ suc (depth_in lead.Free l x)
in_more x k l h = by_test (nat_lt l (level x)) (misread k x) where
  by_test : (a b : Bool) → cond (a || b) (suc (held x (depth x lead.Free))) (depth x k) ≤ suc (cond (a || false) (suc (held x (depth x lead.Free))) (depth x lead.Free))
  by_test true b = omega arith
  by_test false true = let g = held_less x lead.Free in omega (arith, g)
  by_test false false = h

lead_more : (x : Tree) (k : Lead) → depth x k ≤ suc (depth x lead.Free)
unfolding depth
lead_more (choice p c a b) k = let h = in_more c k (left_level 13) (lead_more c k) in omega (arith, h)
lead_more (two p o a b) k = let h = in_more a k (left_level (level (two p o a b))) (lead_more a k) in omega (arith, h)
lead_more (select p a high low) k = let h = in_more a k 1 (lead_more a k) in omega (arith, h)
lead_more (one p op1.Not a) k = omega arith
lead_more (one p op1.Neg a) k = omega arith
lead_more (one p o a) k = omega arith
lead_more x k = omega arith

-- without brackets it is no deeper than in them, and in a looser place no deeper than in a tighter one
held_more : (x : Tree) (k : Lead) → depth x k ≤ suc (depth x lead.Free) → depth x k ≤ suc (held x (depth x lead.Free))
unfolding depth
held_more (span p low high) k h = omega arith
held_more x k h = omega (arith, h)

in_brackets : (x : Tree) (k : Lead) (l : ℕ) → depth_in k l x ≤ suc (held x (depth x lead.Free))
in_brackets x k l = by_test (nat_lt l (level x) || misread k x) where
  by_test : (b : Bool) → cond b (suc (held x (depth x lead.Free))) (depth x k) ≤ suc (held x (depth x lead.Free))
  by_test true = omega arith
  by_test false = held_more x k (lead_more x k)

freely : (x : Tree) (k : Lead) (l : ℕ) → depth x k ≤ depth_in k l x
freely x k l = by_test (nat_lt l (level x) || misread k x) where
  by_test : (b : Bool) → depth x k ≤ cond b (suc (held x (depth x lead.Free))) (depth x k)
  by_test true = held_more x k (lead_more x k)
  by_test false = omega arith

looser : (x : Tree) (k : Lead) (l m : ℕ) → l ≤ m → depth_in k m x ≤ depth_in k l x
looser x k l m le = by_test (nat_lt m (level x)) refl (nat_lt l (level x)) refl (misread k x) where
  by_test : (a : Bool) → nat_lt m (level x) ≡ a → (b : Bool) → nat_lt l (level x) ≡ b → (r : Bool) → cond (a || r) (suc (held x (depth x lead.Free))) (depth x k) ≤ cond (b || r) (suc (held x (depth x lead.Free))) (depth x k)
  by_test true e true f r = omega arith
  by_test true e false f r = let h = ltb-true m (level x) e in let g = ltb-false l (level x) f in absurd (omega (arith, h, g, le))
  by_test false e true f true = omega arith
  by_test false e true f false = held_more x k (lead_more x k)
  by_test false e false f r = omega arith

pub fits_looser : (clean : Bool) (l m : ℕ) (x : Expression) → l ≤ m → Fits clean l x → Fits clean m x
fits_looser clean l m x le h = record { well = h.well; shallow = λ k c. let f = h.shallow k c in let g = looser x.tree k l m le in omega (arith, f, g); bare = h.bare; within = h.within }

pub fits_any : (clean : Bool) (l : ℕ) (x : Expression) → Fits true l x → Fits clean l x
fits_any clean l x h = record { well = h.well; shallow = λ k c. h.shallow k (by k); bare = h.bare; within = h.within } where
  by : (k : Lead) → Clean k true
  by lead.Atom = refl
  by k = tt

pub free_part : (clean : Bool) (l : ℕ) (x : Expression) → Fits clean l x → depth x.tree lead.Free ≤ x.depth
free_part clean l x h = let f = h.shallow lead.Free tt in let g = freely x.tree lead.Free l in omega (arith, f, g)

span_depth : (x : Tree) (k : Lead) → IsSpan x → depth_in k 1 x ≤ depth x lead.Free
unfolding depth
span_depth (span p low high) lead.Minus s = omega arith
span_depth (span p low high) k s = omega arith
span_depth x k s = absurd s

-- brackets add nothing to a range that stands alone
pub round_bare : (l : ℕ) (x : Expression) → x.bare ≡ true → Fits false l x → Fits true 1 (record { tree = x.tree; depth = x.depth; bare = false })
round_bare l x e h = record { well = h.well; shallow = λ k c. let d = free_part false l x h in let f = span_depth x.tree k (h.bare e) in omega (arith, d, f); bare = λ f. absurd (cc); within = h.within }

pub round_fits : (l : ℕ) (x : Expression) → Fits false l x → x.depth < deepest → Fits true 1 (record { tree = x.tree; depth = suc x.depth; bare = false })
round_fits l x h w = record { well = h.well; shallow = λ k c. let d = free_part false l x h in let f = in_brackets x.tree k 1 in let g = held_less x.tree lead.Free in omega (arith, d, f, g); bare = λ f. absurd (cc); within = w }

-- what is never misread
abbrev pub is_plain : Tree → Bool
is_plain (span p low high) = false
is_plain (one p op1.Not a) = false
is_plain x = true

plain_read : (k : Lead) (x : Tree) → is_plain x ≡ true → misread k x ≡ false
plain_read lead.Free x e = refl
plain_read lead.Minus (span p low high) e = absurd (cc)
plain_read lead.Minus x e = refl
plain_read lead.Atom (one p op1.Not a) e = absurd (cc)
plain_read lead.Atom x e = refl

pub in_level : (x : Tree) (k : Lead) (l d : ℕ) → level x ≤ l → misread k x ≡ false → depth x k ≤ d → depth_in k l x ≤ d
in_level x k l d h m g = subst (λ b. cond b (suc (held x (depth x lead.Free))) (depth x k) ≤ d) (sym (neither (nat_lt l (level x)) (misread k x) (le-ltb l (level x) h) m)) g where
  neither : (a b : Bool) → a ≡ false → b ≡ false → (a || b) ≡ false
  neither a b e f = ap (λ c. c || b) e ∙ f

pub fits_plain : (clean : Bool) (l : ℕ) (x : Tree) (d : ℕ) → Scannables x → level x ≤ l → is_plain x ≡ true → ((k : Lead) → Clean k clean → depth x k ≤ d) → d ≤ deepest → Fits clean l (record { tree = x; depth = d; bare = false })
fits_plain clean l x d s h e g w = record { well = s; shallow = λ k c. in_level x k l d h (plain_read k x e) (g k c); bare = λ f. absurd (cc); within = w }

-- operands, and branches of a case
pub record AllFit (xs : Operands) : Type 0 where
  pub some : SomeTrees (trees xs.trees)
  pub well : EachScannable (trees xs.trees)
  pub shallow : depth_all (trees xs.trees) ≤ xs.depth

pub record ArmsFit (bs : Branches) : Type 0 where
  pub some : SomeArms (arms bs.arms)
  pub well : ArmsScannable (arms bs.arms)
  pub shallow : depth_arms (arms bs.arms) ≤ bs.depth

all_added : (xs : List Tree) (a : Tree) → EachScannable (trees xs) → Scannables a → SomeTrees (trees (xs ++ a ∷ [])) × EachScannable (trees (xs ++ a ∷ [])) × (depth_all (trees (xs ++ a ∷ [])) ≤ max (depth_all (trees xs)) (depth a lead.Free))
unfolding Scannables depth
all_added [] a s t = (tt, (t, tt), omega arith)
all_added (x ∷ xs) a s t = let h = all_added xs a s.1 t in let d = h.2 in (tt, (s.0, h.1), omega (arith, d))

pub fit_added : (xs : Operands) (a : Expression) → EachScannable (trees xs.trees) → depth_all (trees xs.trees) ≤ xs.depth → Fits false 15 a → AllFit (record { trees = xs.trees ++ a.tree ∷ []; depth = max xs.depth a.depth })
fit_added xs a w s f = let g = free_part false 15 a f in let h = all_added xs.trees a.tree w f.well in let e = h.2 in record { some = h.0; well = h.1; shallow = omega (arith, g, e, s) }

arms_added : (bs : List (Tree × Tree)) (c v : Tree) → ArmsScannable (arms bs) → Scannables c → Scannables v → SomeArms (arms (bs ++ (c, v) ∷ [])) × ArmsScannable (arms (bs ++ (c, v) ∷ [])) × (depth_arms (arms (bs ++ (c, v) ∷ [])) ≤ max (depth_arms (arms bs)) (max (depth c lead.Free) (depth v lead.Free)))
unfolding Scannables depth
arms_added [] c v s t u = (tt, (t, u, tt), omega arith)
arms_added (b ∷ bs) c v s t u = let h = arms_added bs c v s.2 t u in let d = h.2 in (tt, (s.0, s.1, h.1), omega (arith, d))

pub branch_added : (bs : Branches) (c v : Expression) → ArmsScannable (arms bs.arms) → depth_arms (arms bs.arms) ≤ bs.depth → Fits false 15 c → Fits false 15 v → ArmsFit (record { arms = bs.arms ++ (c.tree, v.tree) ∷ []; depth = max bs.depth (max c.depth v.depth) })
branch_added bs c v w s f g = let i = free_part false 15 c f in let j = free_part false 15 v g in let h = arms_added bs.arms c.tree v.tree w f.well g.well in let e = h.2 in record { some = h.0; well = h.1; shallow = omega (arith, i, j, e, s) }
