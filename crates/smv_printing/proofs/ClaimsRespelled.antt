-- What is printed of a formula is said again, as one alike that is as deep as what is printed.
use Rattle.std.proofs.Common.{◌≡◌, ◌==◌, ◌∙◌, ℕ, zero, suc, Bool, true, false, cond, List, ◌∷◌, Some, None, refl, subst, ap, inl, inr, ◌≤◌, ◌<◌, ◌-◌, max, nat_lt, [], ◌++◌, sym, arith}
use Rattle.smv_tree.specs.declared.place.Place.{Place}
use Rattle.smv_token.specs.declared.mark.Mark.{Mark}
use Rattle.smv_token.specs.declared.mark.Mark.TheVariants as marks
use Rattle.smv_token.specs.declared.token.Token.{Token}
use Rattle.smv_token.specs.declared.token.Lexeme.{Lexeme}
use Rattle.smv_token.specs.declared.token.Lexeme.TheVariants as lexeme
use Rattle.smv_grammar.specs.Forms.{begins_range, deepest, is_dots}
use Rattle.smv_grammar.specs.Formulas.{bracket_if, holds_temporal, opens, plain, role, role_of, start_at, start_by, outermost}
use Rattle.smv_grammar.specs.IsMark.{is_mark, same_mark}
use Rattle.smv_rules.specs.Keys.{Primary, if_there, is_bracket, is_operand, prefix_of, primary_by, primary_of, sees}
use Rattle.smv_rules.specs.Keys as key
use Rattle.smv_rules.specs.Sorts.{Expression, an_expression, Formula, a_formula}
use Rattle.smv_rules.specs.Rules.{Rule, ◌>>=◌, gives, too_deep}
use Rattle.smv_rules.specs.Table.{table}
use Rattle.smv_rules.specs.Expressions.{level, level_from, primary, primary_from}
use Rattle.smv_rules.specs.Expressions as expressions
use Rattle.smv_rules.specs.Follows.{Follows, done, takes, skips, chains}
use Rattle.smv_rules.specs.Follows as follows
use Rattle.smv_printing.proofs.ScannedTokens.{AllScannable, ClaimScannable, Scannables}
use Rattle.smv_printing.proofs.Says.{level_by, loosened, past, Says, said_at, says_blank, says_ends, says_gives, says_joined, says_mark, says_part, says_skips, says_stops, says_takes, says_then, sees_alone, stands, in_place}
use Rattle.smv_printing.proofs.Fits.{Fits, place_some}
use Rattle.smv_rules.proofs.Firsts.{is_mark_true}
use Rattle.smv_printing.proofs.Giving.{Spans, not_first, placed, primary_role, primary_seen, there}
use Rattle.smv_printing.proofs.GivenParts.{level_gives, gave, not_clean}
use Rattle.smv_printing.proofs.ClaimsGiven.{Inverse, inverse, timed, timed_alike, Bracketed, Timely, claim_depth, placed_depth, closing, shut, grouped, nested}
use Rattle.std.proofs.lemmas.Bool.{eqb-true, lt-ltb, ltb-false}
use Rattle.smv_tree.specs.declared.formula.FormOp.{FormOp}
use Rattle.smv_tree.specs.declared.formula.FormOp.TheVariants as op
use Rattle.smv_tree.specs.Models.{Claim, atom, no, after, always, some_time, both}
use Rattle.smv_tree.specs.Trees.{Tree}
use Rattle.smv_rules.specs.Formulas.{enclosed, an_atom, deeper, formula_level, implied, joined, operand}
use Rattle.smv_printing.specs.Alike.{AlikeClaims, claim_unplaced}
use Rattle.smv_printing.specs.declared.lead.Lead.TheVariants as lead
use Rattle.smv_printing.specs.Printing.{Ink, around, blank, claim_inks, claim_level, claim_part, level_of_claim, mark_of_claim, spelled, symbol, left_of, right_of}
use Rattle.smv_printing.proofs.Openings.{atom_opens, opens_in}
use Rattle.smv_printing.proofs.Respelled.{respelled}

pub record Start (ts : List Token) : Type 0 where
  pub first : Token
  pub others : List Token
  pub is : ts ≡ first ∷ others
  pub calm : role first ≡ opens → holds_temporal 0 others ≡ false

-- a bracket around an expression
enclosed_calm : (n : ℕ) (us rest : List Token) (x : Expression) → Follows follows.plain n an_expression expressions.enclosed us rest x → AllScannable us → holds_temporal 0 us ≡ false
unfolding Inverse
enclosed_calm n us rest x h a =
    let c = inverse h in
    let d = inverse c.behind in
    let k = inverse d.before in
    let P : ℕ → Expression → Type 0 = λ j y. (j ≡ 0) × Fits false 15 y in
    let g = gave c.before false 0 P a (not_clean us) (level_gives 15 false 0 P (λ x f. (refl, f))) in
    let s : Spans 0 0 us c.between = subst (λ q. Spans 0 q us c.between) g.holds.0 g.spans in
    s 0 ∙ ap (holds_temporal 0) k.is ∙ shut k.first k.others (closing k.first k.others k.load k.seen)

no_opens : (t : Token) → role t ≡ plain → role t ≡ opens → ⊥
no_opens t e f = absurd (cc)

primary_calm : (n : ℕ) (t : Token) (o : Primary) (p : Place) (us rest : List Token) (x : Expression) → role t ≡ primary_role o → Follows follows.plain n an_expression (primary_from o p) us rest x → AllScannable us → role t ≡ opens → holds_temporal 0 us ≡ false
unfolding Inverse table
primary_calm zero t (key.opens key.round) p us rest x e h a r = absurd (inverse (inverse h))
primary_calm (suc n) t (key.opens key.round) p us rest x e h a r = enclosed_calm n us rest x (inverse h) a
primary_calm n t o p us rest x e h a r = absurd (no_opens t e r)

primary_starts : (n : ℕ) (ts rest : List Token) (x : Expression) → Follows follows.plain n an_expression primary ts rest x → AllScannable ts → Start ts
unfolding Inverse sees
primary_starts n ts rest x h a =
    let k = inverse h in
    let e = placed (primary_of k.first.lexeme) k.first.place k.load k.seen in
    record { first = k.first; others = k.others; is = k.is; calm = primary_calm n k.first k.load.0 k.load.1 k.others rest x (primary_seen k.first.lexeme k.load.0 e) k.follows (past k.is a) }

mark_start : (m : Mark) (t : Token) (us ts : List Token) → ts ≡ t ∷ us → t.lexeme ≡ lexeme.Mark m → role_of (lexeme.Mark m) ≡ plain → Start ts
mark_start m t us ts i e r = record { first = t; others = us; is = i; calm = λ s. absurd (no_opens t (ap role_of e ∙ r) s) }

level_starts : (n l : ℕ) (tighter : Rule an_expression) → ((ts rest : List Token) (x : Expression) → Follows follows.plain n an_expression tighter ts rest x → AllScannable ts → Start ts) → (ts rest : List Token) (x : Expression) → Follows follows.plain n an_expression (level_from l tighter) ts rest x → AllScannable ts → Start ts
unfolding Inverse sees
level_starts n l tighter more ts rest x h a = level_by (λ r. Follows follows.plain n an_expression r ts rest x → Start ts) l tighter (λ e h. first h) (λ e h. elim (inverse h) [
  | inl k ↦ mark_start marks.Bang k.first k.others ts k.is (is_mark_true marks.Bang k.first.lexeme (there (is_mark marks.Bang k.first.lexeme) k.first.place k.load k.seen)) refl
  | inr k ↦ more ts rest x k.1 a
]) (λ e h. elim (inverse h) [
  | inl k ↦ mark_start marks.Minus k.first k.others ts k.is (is_mark_true marks.Minus k.first.lexeme (not_first (begins_range k.others) (is_mark marks.Minus k.first.lexeme) k.first.place k.load k.seen)) refl
  | inr k ↦ more ts rest x k.1 a
]) (λ e h. first h) (λ e h. first h) (λ h. first h) h where
  first : {f : Expression → Rule an_expression} → Follows follows.plain n an_expression (tighter >>= f) ts rest x → Start ts
  first h = let k = inverse h in more ts k.between k.given k.before a

pub starts : (n l : ℕ) (ts rest : List Token) (x : Expression) → Follows follows.plain n an_expression (level l) ts rest x → AllScannable ts → Start ts
unfolding level
starts n zero ts rest x h a = primary_starts n ts rest x h a
starts n (suc l) ts rest x h a = level_starts n (suc l) (level l) (λ ts rest x h a. starts n l ts rest x h a) ts rest x h a

-- what an atom begins with
pub atom_prefix : (w : Lexeme) (h : Bool) → is_operand w ≡ true → is_mark marks.Bang w ≡ false → prefix_of (start_at w h) ≡ None
unfolding same_mark primary_by
atom_prefix (lexeme.Mark m) h o b = by m h o b where
  by : (m : Mark) (h : Bool) → is_operand (lexeme.Mark m) ≡ true → is_mark marks.Bang (lexeme.Mark m) ≡ false → prefix_of (start_by m h) ≡ None
  by marks.Bang h o b = absurd (cc)
  by marks.WordX h o b = absurd (cc)
  by marks.WordG h o b = absurd (cc)
  by marks.WordF h o b = absurd (cc)
  by marks.OpenRound true o b = refl
  by marks.OpenRound false o b = refl
  by m h o b = refl
atom_prefix w h o b = refl

pub atom_group : (w : Lexeme) (h : Bool) → (role_of w ≡ opens → h ≡ false) → is_bracket (start_at w h) ≡ false
atom_group (lexeme.Mark m) h c = by m c where
  by : (m : Mark) → (role_of (lexeme.Mark m) ≡ opens → h ≡ false) → is_bracket (start_by m h) ≡ false
  by marks.OpenRound c = ap (λ h. is_bracket (bracket_if h)) (c refl)
  by m c = refl
atom_group w h c = refl

-- a formula alike that is no deeper
pub record LikeClaim (c : Claim) (d : ℕ) (y : Formula) : Type 0 where
  pub alike : AlikeClaims c y.claim
  pub small : y.depth ≤ d

abbrev RespelledClaim : Claim → Type 0
RespelledClaim c = (n : ℕ) → claim_depth c ≤ suc n → claim_depth c ≤ deepest → Says n (formula_level (claim_level c)) (claim_inks c) (LikeClaim c (claim_depth c))

pub claim_bounds : (c : Claim) → (1 ≤ claim_level c) × (claim_level c ≤ 6)
claim_bounds (both op.Until a b) = (omega arith, omega arith)
claim_bounds (both o a b) = (omega arith, omega arith)
claim_bounds c = (omega arith, omega arith)

depth_some : (c : Claim) → 1 ≤ claim_depth c
unfolding claim_depth
depth_some (atom x) = place_some x lead.Atom 10
depth_some c = omega arith

placed_some : (place : ℕ) (c : Claim) → 1 ≤ placed_depth place c (claim_depth c)
placed_some place c = by_test (nat_lt place (claim_level c)) where
  by_test : (b : Bool) → 1 ≤ cond b (suc (claim_depth c)) (claim_depth c)
  by_test true = omega arith
  by_test false = depth_some c

-- what is said at a tighter level
looser : (n l : ℕ) (is : List Ink) (G : Formula → Type 0) → 1 ≤ l → Says n (formula_level l) is G → Says n (formula_level (suc l)) is G
unfolding formula_level
looser n l is G some h = by_test (suc l == 1) refl (suc l == outermost) where
  by_test : (b : Bool) → (suc l == 1) ≡ b → (c : Bool) → Says n (cond b operand (cond c (formula_level l >>= implied) (formula_level l >>= joined (suc l) (formula_level l)))) is G
  by_test true e c = let z = eqb-true (suc l) 1 e in absurd (omega (arith, some, z))
  by_test false e true = says_ends G h (λ a g. says_skips (λ us. tt) (says_gives g))
  by_test false e false = says_ends G h (λ a g. says_stops (λ us. tt) g)

at_least : (n l m : ℕ) (is : List Ink) (G : Formula → Type 0) → 1 ≤ l → l ≤ m → Says n (formula_level l) is G → Says n (formula_level m) is G
at_least n l m is G some = loosened formula_level n l m is G (λ i le. looser n i is G (omega (arith, some, le)))

says_deeper : (n : ℕ) (c : Claim) (d : ℕ) (G : Formula → Type 0) → d < deepest → G (record { claim = c; depth = suc d }) → Says n (deeper c d) [] G
says_deeper n c d G lt g = subst (λ b. Says n (cond b (gives a_formula (record { claim = c; depth = suc d })) (too_deep a_formula)) [] G) (sym (lt-ltb d deepest lt)) (says_gives g)

-- an atom
unseen : {A : Type 0} (b : Bool) (x : A) → b ≡ false → if_there b x ≡ None
unseen true x e = absurd (cc)
unseen false x e = refl

atom_again : (x : Tree) → Scannables x → RespelledClaim (atom x)
unfolding claim_inks claim_depth claim_unplaced formula_level sees
atom_again x s n le small = record {
  along = λ ts rest l q a.
      let y = (in_place x (respelled x s) lead.Atom 10 n le small).along ts rest l q a in
      let o = starts n 10 ts rest y.given y.follows a in
      let w = atom_opens 10 (spelled lead.Atom 10 x) ts rest o.others o.first (opens_in x lead.Atom 10 s) l o.is in
      let c : Formula = record { claim = atom y.given.tree; depth = y.given.depth } in
      let t = o.first in
      let us = o.others in
      let P : List Token → Type 0 = λ ts. Follows follows.plain n an_expression (level 10) ts rest y.given in
      let atom_is : Follows follows.plain n a_formula an_atom (t ∷ us) rest c = chains n an_expression a_formula (level 10) _ (t ∷ us) rest rest y.given c (subst P o.is y.follows) (done n a_formula c rest) in
      let group_is = unseen (is_bracket (start_at t.lexeme (holds_temporal 0 us))) t.place (atom_group t.lexeme (holds_temporal 0 us) o.calm) in
      said_at o.is (record {
        given = c;
        follows = skips n a_formula key.before_formula _ _ (t ∷ us) rest c (atom_prefix t.lexeme (holds_temporal 0 us) w.0 w.1) (skips n a_formula key.group _ _ (t ∷ us) rest c group_is atom_is);
        holds = record { alike = ap atom y.holds.alike; small = y.holds.small };
      });
}

-- brackets around a formula with a temporal operator
round_again : (c : Claim) → RespelledClaim c → timed c ≡ true → (n : ℕ) → suc (claim_depth c) ≤ suc n → suc (claim_depth c) ≤ deepest → Says n (formula_level 1) (symbol marks.OpenRound ∷ (claim_inks c ++ symbol marks.CloseRound ∷ [])) (LikeClaim c (suc (claim_depth c)))
unfolding formula_level sees table
round_again c again time n le small = record {
  along = λ ts rest l q a.
      let inner = round_inner.along l.others rest l.behind q (past l.is a) in
      let t : Token = stands l.place (lexeme.Mark marks.OpenRound) in
      let us = l.others in
      let x = inner.given in
      let g = grouped n (nested n) us rest x inner.follows (past l.is a) in
      let h : holds_temporal 0 us ≡ true = g.time ∙ ap (λ (x : Formula). timed x.claim) g.is ∙ timed_alike c x.claim inner.holds.alike ∙ time in
      said_at l.is (record {
        given = x;
        follows = skips n a_formula key.before_formula _ _ (t ∷ us) rest x (no_operator (holds_temporal 0 us)) (takes n a_formula key.group (λ p. enclosed) _ t l.place us rest x (ap (λ h. if_there (is_bracket (bracket_if h)) l.place) h) inner.follows);
        holds = inner.holds;
      });
} where
  no_operator : (h : Bool) → prefix_of (bracket_if h) ≡ None
  no_operator true = refl
  no_operator false = refl

  round_inner : Says n enclosed (claim_inks c ++ symbol marks.CloseRound ∷ []) (LikeClaim c (suc (claim_depth c)))
  round_inner = says_then (LikeClaim c (claim_depth c)) (says_part n (claim_depth c) (depth_some c) (omega (arith, le)) (λ m i. at_least m (claim_level c) 6 (claim_inks c) (LikeClaim c (claim_depth c)) (claim_bounds c).0 (claim_bounds c).1 (again m i (omega (arith, small))))) refl (λ y h. says_mark (λ q. let s = h.small in says_deeper n y.claim y.depth (LikeClaim c (suc (claim_depth c))) (omega (arith, small, s)) (record { alike = h.alike; small = omega (arith, s) })))

claim_in_place : (c : Claim) → RespelledClaim c → (place : ℕ) → 1 ≤ place → Timely place c → (n : ℕ) → placed_depth place c (claim_depth c) ≤ suc n → placed_depth place c (claim_depth c) ≤ deepest → Says n (formula_level place) (claim_part place c (claim_inks c)) (LikeClaim c (placed_depth place c (claim_depth c)))
claim_in_place c again place some t n le small = by_test (nat_lt place (claim_level c)) refl le small where
  by_test : (b : Bool) → nat_lt place (claim_level c) ≡ b → cond b (suc (claim_depth c)) (claim_depth c) ≤ suc n → cond b (suc (claim_depth c)) (claim_depth c) ≤ deepest → Says n (formula_level place) (cond b (symbol marks.OpenRound ∷ (claim_inks c ++ symbol marks.CloseRound ∷ [])) (claim_inks c)) (LikeClaim c (cond b (suc (claim_depth c)) (claim_depth c)))
  by_test true e le small = at_least n 1 place _ (LikeClaim c (suc (claim_depth c))) (omega arith) some (round_again c again (t e) n le small)
  by_test false e le small = at_least n (claim_level c) place (claim_inks c) (LikeClaim c (claim_depth c)) (claim_bounds c).0 (ltb-false place (claim_level c) e) (again n le small)

-- an operator before an operand
operator_again : (c a : Claim) (m : Mark) (f : Claim → Claim) → ((h : Bool) → prefix_of (start_by m h) ≡ Some f) → RespelledClaim a → Timely 1 a → ((y : Claim) → AlikeClaims a y → AlikeClaims c (f y)) → (n : ℕ) → suc (placed_depth 1 a (claim_depth a)) ≤ suc n → placed_depth 1 a (claim_depth a) < deepest → Says n (formula_level 1) (symbol m ∷ claim_part 1 a (claim_inks a)) (LikeClaim c (suc (placed_depth 1 a (claim_depth a))))
unfolding formula_level sees table
operator_again c a m f o again t g n le lt =
    let d : ℕ = placed_depth 1 a (claim_depth a) in
    says_takes (λ p. f) (sees_alone (λ p us. o (holds_temporal 0 us))) (λ p.
    says_ends (LikeClaim a d) (says_part n d (placed_some 1 a) (omega (arith, le)) (λ i j. claim_in_place a again 1 (omega arith) t i j (omega (arith, lt)))) (λ y h.
    let s = h.small in
    says_deeper n (f y.claim) y.depth (LikeClaim c (suc d)) (omega (arith, s, lt)) (record { alike = g y.claim h.alike; small = omega (arith, s) })))

blank_in : {n : ℕ} {r : Rule a_formula} {m : Mark} {is : List Ink} {G : Formula → Type 0} → Says n r (symbol m ∷ is) G → Says n r (symbol m ∷ blank ∷ is) G
blank_in h = record { along = λ ts rest l q a. h.along ts rest l q a }

-- an operator between two formulas
alike_both : (o : FormOp) (a b c d : Claim) → a ≡ c → b ≡ d → both o a b ≡ both o c d
alike_both o a b c d e f = cc

no_dots_claim : (o : FormOp) → is_dots (lexeme.Mark (mark_of_claim o)) ≡ false
no_dots_claim op.Until = refl
no_dots_claim o = refl

joined_again : (o : FormOp) (a b : Claim) (l n : ℕ) → 1 ≤ l → formula_level (suc l) ≡ (formula_level l >>= joined (suc l) (formula_level l)) → ((p : Place) (us : List Token) → sees (key.connective (suc l)) (stands p (lexeme.Mark (mark_of_claim o))) us ≡ Some o) → RespelledClaim a → RespelledClaim b → Timely (suc l) a → Timely l b → suc (max (placed_depth (suc l) a (claim_depth a)) (placed_depth l b (claim_depth b))) ≤ suc n → max (placed_depth (suc l) a (claim_depth a)) (placed_depth l b (claim_depth b)) < deepest → Says n (formula_level (suc l)) (around (claim_part (suc l) a (claim_inks a)) (mark_of_claim o) (claim_part l b (claim_inks b))) (LikeClaim (both o a b) (suc (max (placed_depth (suc l) a (claim_depth a)) (placed_depth l b (claim_depth b)))))
unfolding claim_unplaced
joined_again o a b l n some r e again again' t t' le lt =
    let i : ℕ = placed_depth (suc l) a (claim_depth a) in
    let j : ℕ = placed_depth l b (claim_depth b) in
    let left : Says n (formula_level (suc l)) (claim_part (suc l) a (claim_inks a)) (LikeClaim a i) = claim_in_place a again (suc l) (omega arith) t n (omega (arith, le)) (omega (arith, lt)) in
    let right : Says n (formula_level l) (claim_part l b (claim_inks b)) (LikeClaim b j) = claim_in_place b again' l some t' n (omega (arith, le)) (omega (arith, lt)) in
    let P : Rule a_formula → Type 0 = λ r. Says n r (claim_part (suc l) a (claim_inks a)) (LikeClaim a i) in
    let Q : Rule a_formula → Type 0 = λ r. Says n r (around (claim_part (suc l) a (claim_inks a)) (mark_of_claim o) (claim_part l b (claim_inks b))) (LikeClaim (both o a b) (suc (max i j))) in
    subst Q (sym r) (says_joined (lexeme.Mark (mark_of_claim o)) (blank ∷ symbol (mark_of_claim o) ∷ blank ∷ claim_part l b (claim_inks b)) (λ p. o) (λ us. tt) (sees_alone e) (λ ts rest l. l) (no_dots_claim o) (LikeClaim a i) (subst P r left) (λ y p h.
    says_blank (says_ends (LikeClaim b j) right (λ z g.
    let s = h.small in
    let u = g.small in
    says_deeper n (both o y.claim z.claim) (max y.depth z.depth) (LikeClaim (both o a b) (suc (max i j))) (omega (arith, s, u, lt)) (record { alike = alike_both o _ _ _ _ h.alike g.alike; small = omega (arith, s, u) })))))

implies_again : (a b : Claim) (n : ℕ) → RespelledClaim a → RespelledClaim b → Timely 5 a → Timely 6 b → suc (max (placed_depth 5 a (claim_depth a)) (placed_depth 6 b (claim_depth b))) ≤ suc n → max (placed_depth 5 a (claim_depth a)) (placed_depth 6 b (claim_depth b)) < deepest → Says n (formula_level 6) (around (claim_part 5 a (claim_inks a)) marks.Arrow (claim_part 6 b (claim_inks b))) (LikeClaim (both op.Implies a b) (suc (max (placed_depth 5 a (claim_depth a)) (placed_depth 6 b (claim_depth b)))))
unfolding claim_unplaced formula_level table sees
implies_again a b n again again' t t' le lt =
    let i : ℕ = placed_depth 5 a (claim_depth a) in
    let j : ℕ = placed_depth 6 b (claim_depth b) in
    says_then (LikeClaim a i) (claim_in_place a again 5 (omega arith) t n (omega (arith, le)) (omega (arith, lt))) refl (λ y h.
    says_blank (says_takes (λ p. op.Implies) (sees_alone (λ p us. refl)) (λ p.
    says_blank (says_ends (LikeClaim b j) (says_part n j (placed_some 6 b) (omega (arith, le)) (λ m e. claim_in_place b again' 6 (omega arith) t' m e (omega (arith, lt)))) (λ z g.
    let s = h.small in
    let u = g.small in
    says_deeper n (both op.Implies y.claim z.claim) (max y.depth z.depth) (LikeClaim (both op.Implies a b) (suc (max i j))) (omega (arith, s, u, lt)) (record { alike = alike_both op.Implies _ _ _ _ h.alike g.alike; small = omega (arith, s, u) }))))))

both_again : (o : FormOp) (a b : Claim) → RespelledClaim a → RespelledClaim b → Timely (left_of (level_of_claim o)) a → Timely (right_of (level_of_claim o)) b → RespelledClaim (both o a b)
unfolding claim_inks claim_depth formula_level sees
both_again op.Implies a b again again' t t' n le small = implies_again a b n again again' t t' le small
both_again op.Until a b again again' t t' n le small = joined_again op.Until a b 1 n (omega arith) refl (λ p us. refl) again again' t t' le small
both_again o a b again again' t t' n le small = joined_again o a b (level_of_claim o - 1) n (omega arith) refl (λ p us. refl) again again' t t' le small

pub claim_respelled : (c : Claim) → ClaimScannable c → Bracketed c → RespelledClaim c
unfolding claim_inks claim_depth claim_unplaced ClaimScannable Bracketed
claim_respelled (atom x) s b n le small = atom_again x s n le small
claim_respelled (no a) s b n le small = operator_again (no a) a marks.Bang no (λ h. refl) (claim_respelled a s b.0) b.1 (λ y g. ap no g) n le small
claim_respelled (after a) s b n le small = blank_in (operator_again (after a) a marks.WordX after (λ h. refl) (claim_respelled a s b.0) b.1 (λ y g. ap after g) n le small)
claim_respelled (always a) s b n le small = blank_in (operator_again (always a) a marks.WordG always (λ h. refl) (claim_respelled a s b.0) b.1 (λ y g. ap always g) n le small)
claim_respelled (some_time a) s b n le small = blank_in (operator_again (some_time a) a marks.WordF some_time (λ h. refl) (claim_respelled a s b.0) b.1 (λ y g. ap some_time g) n le small)
claim_respelled (both o a b) s br n le small = both_again o a b (claim_respelled a s.0 br.0) (claim_respelled b s.1 br.1) br.2 br.3 n le small

pub formula_again : (c : Claim) → ClaimScannable c → Bracketed c → claim_depth c ≤ deepest → Says deepest (formula_level 6) (claim_inks c) (LikeClaim c (claim_depth c))
formula_again c s b small = at_least deepest (claim_level c) 6 (claim_inks c) (LikeClaim c (claim_depth c)) (claim_bounds c).0 (claim_bounds c).1 (claim_respelled c s b deepest (omega (arith, small)) small)
