-- What the tokens of a formula tell, by the rules of formulas: it is printed no deeper than it is, with
-- parentheses only where a text has them, which is where they hold a temporal operator.
use Rattle.std.proofs.Common.{◌≡◌, ◌||◌, ◌∙◌, ℕ, zero, Bool, true, false, List, ◌∷◌, Option, Some, None, refl, sym, subst, ap, suc, ◌⊎◌, inl, inr, ◌≤◌, ◌<◌, max, cond, nat_lt, arith, ◌-◌, ◌==◌, []}
use Rattle.std.specs.List.{list_any}
use Rattle.smv_tree.specs.declared.formula.FormOp.{FormOp}
use Rattle.smv_tree.specs.declared.formula.FormOp.TheVariants as op
use Rattle.smv_tree.specs.Models.{Claim, atom, no, after, always, some_time, both}
use Rattle.smv_token.specs.declared.mark.Mark.{Mark}
use Rattle.smv_token.specs.declared.mark.Mark.TheVariants as marks
use Rattle.smv_token.specs.declared.token.Token.{Token}
use Rattle.smv_token.specs.declared.token.Lexeme.{Lexeme}
use Rattle.smv_token.specs.declared.token.Lexeme.TheVariants as lexeme
use Rattle.smv_grammar.specs.Formulas.{Role, opens, closes, temporal, plain, group, group_on, holds_temporal, is_temporal, joining_by, joining_of, role, role_of, role_of_mark, start_at, start_by, outermost, joining, start_of}
use Rattle.smv_grammar.specs.IsMark.{is_mark, same_mark}
use Rattle.smv_rules.specs.Keys.{is_bracket, prefix_of, Payload, sees, Unseen, begins_with}
use Rattle.smv_printing.specs.Alike.{AlikeClaims, claim_unplaced}
use Rattle.smv_printing.specs.Printing.{level_of_claim, claim_level, left_of, right_of}
use Rattle.smv_rules.specs.Sorts.{Gift, Sort, Formula, a_formula, Expression}
use Rattle.smv_rules.specs.Rules.{Rule, gives, too_deep, must, may, part, then, again, ◌>>=◌}
use Rattle.smv_rules.specs.Table.{table}
use Rattle.smv_rules.specs.Follows.{Ruled, Follows, done, has, takes, skips, nests, stays, chains, stops, goes_on}
use Rattle.smv_rules.proofs.Inverting.{Chained, Had}
use Rattle.std.proofs.lemmas.Bool.{lt-ltb, ltb-true}
use Rattle.smv_grammar.specs.Forms.{deepest}
use Rattle.smv_rules.specs.Formulas.{deeper, an_atom, enclosed, formula_level, implied, joined, opened, operand, side}
use Rattle.smv_rules.specs.Follows as follows
use Rattle.smv_printing.specs.declared.lead.Lead.TheVariants as lead
use Rattle.smv_printing.proofs.ScannedTokens.{AllScannable, ClaimScannable}
use Rattle.smv_printing.proofs.Fits.{depth_in, Fits}
use Rattle.smv_tree.specs.declared.place.Place.{Place}
use Rattle.smv_rules.specs.Keys as key
use Rattle.smv_rules.proofs.Firsts.{is_mark_true}
use Rattle.smv_printing.proofs.Says.{past}
use Rattle.smv_printing.proofs.Giving.{Spans, levels_of, stepped, there}
use Rattle.smv_printing.proofs.GivenParts.{level_gives, gave}

abbrev pub is_timed : FormOp → Bool
is_timed op.Until = true
is_timed op.Releases = true
is_timed o = false

abbrev pub timed : Claim → Bool
timed (atom x) = false
timed (no a) = timed a
timed (after a) = true
timed (always a) = true
timed (some_time a) = true
timed (both o a b) = timed a || (is_timed o || timed b)

timed_unplaced : (c : Claim) → timed (claim_unplaced c) ≡ timed c
unfolding claim_unplaced
timed_unplaced (atom x) = refl
timed_unplaced (no a) = timed_unplaced a
timed_unplaced (after a) = refl
timed_unplaced (always a) = refl
timed_unplaced (some_time a) = refl
timed_unplaced (both o a b) = either (is_timed o) _ _ _ _ (timed_unplaced a) (timed_unplaced b) where
  either : (c a b d e : Bool) → a ≡ d → b ≡ e → (a || (c || b)) ≡ (d || (c || e))
  either c a b d e f g = cc

pub timed_alike : (x y : Claim) → AlikeClaims x y → timed y ≡ timed x
timed_alike x y e = sym (timed_unplaced y) ∙ sym (ap timed e) ∙ timed_unplaced x

abbrev is_round : Role → Bool
is_round opens = true
is_round closes = true
is_round r = false

-- a token that is no round bracket
pub word_step : (t : Token) (ts : List Token) → is_round (role t) ≡ false → (m : ℕ) → holds_temporal m (t ∷ ts) ≡ (is_temporal (role t) || holds_temporal m ts)
unfolding holds_temporal group
word_step t ts e m = by (role t) refl e where
  by : (r : Role) → role t ≡ r → is_round r ≡ false → holds_temporal m (t ∷ ts) ≡ (is_temporal (role t) || holds_temporal m ts)
  by opens i e = absurd (cc)
  by closes i e = absurd (cc)
  by temporal i e = ap (λ r. list_any (λ t. is_temporal (role t)) (group_on r m t (λ n. group n ts))) i
  by plain i e = ap (λ r. list_any (λ t. is_temporal (role t)) (group_on r m t (λ n. group n ts))) i

-- what is no such operator is no `!`
pub no_prefix : (w : Lexeme) (h : Bool) → prefix_of (start_at w h) ≡ None → is_mark marks.Bang w ≡ false
unfolding same_mark
no_prefix (lexeme.Mark m) h e = by m e where
  by : (m : Mark) → prefix_of (start_by m h) ≡ None → is_mark marks.Bang (lexeme.Mark m) ≡ false
  by marks.Bang e = absurd (cc)
  by m e = refl
no_prefix w h e = refl

-- the bracket that opens a formula
pub bracket_opens : (w : Lexeme) (h : Bool) → is_bracket (start_at w h) ≡ true → (role_of w ≡ opens) × (h ≡ true)
bracket_opens (lexeme.Mark m) h e = by m h e where
  by : (m : Mark) (h : Bool) → is_bracket (start_by m h) ≡ true → (role_of_mark m ≡ opens) × (h ≡ true)
  by marks.OpenRound true e = (refl, refl)
  by marks.OpenRound false e = absurd (cc)
  by m h e = absurd (cc)
bracket_opens w h e = absurd (cc)

-- an operator between two formulas
abbrev pub Joins : Lexeme → Option (ℕ × FormOp) → Type 0
Joins w None = (false ≡ false) × (false ≡ false) × (zero ≡ zero)
Joins w (Some i) = (is_round (role_of w) ≡ false) × (is_temporal (role_of w) ≡ is_timed i.1) × (level_of_claim i.1 ≡ i.0)

join_marks : (m : Mark) → Joins (lexeme.Mark m) (joining_by m)
join_marks marks.WordU = (refl, refl, refl)
join_marks m = (refl, refl, refl)

pub joins : (w : Lexeme) (i : ℕ × FormOp) → joining_of w ≡ Some i → Joins w (Some i)
joins (lexeme.Mark m) i e = subst (Joins (lexeme.Mark m)) e (join_marks m)
joins w i e = absurd (cc)

unfoldable pub Inverse : (n : ℕ) {s : Sort} → Rule s → List Token → List Token → Gift s → Type 0
Inverse n (gives s y) ts rest x = (ts ≡ rest) × (y ≡ x)
Inverse n (too_deep s) ts rest x = ⊥
Inverse n (must s k f) ts rest x = Had follows.plain n s k f ts rest x
Inverse n (may s k f r) ts rest x = Had follows.plain n s k f ts rest x ⊎ (Ruled k ts × Follows follows.plain n s r ts rest x)
Inverse zero (part s p r) ts rest x = Follows follows.plain 0 s r ts rest x
Inverse (suc n) (part s p r) ts rest x = Follows follows.plain n s (table p) ts rest x
Inverse n (then z s r f) ts rest x = Chained follows.plain n z s r f ts rest x
Inverse n (again s k f a) ts rest x = Unit {0}

pub inverse : {n : ℕ} {s : Sort} {r : Rule s} {ts rest : List Token} {x : Gift s} → Follows follows.plain n s r ts rest x → Inverse n r ts rest x
unfolding Inverse
inverse (done n s x ts) = (refl, refl)
inverse (has n s k f t p ts rest x e h) = record { first = t; others = ts; load = p; is = refl; seen = e; follows = h }
inverse (takes n s k f r t p ts rest x e h) = inl (record { first = t; others = ts; load = p; is = refl; seen = e; follows = h })
inverse (skips n s k f r ts rest x u h) = inr (u, h)
inverse (nests n s p r ts rest x h) = h
inverse (stays s p r ts rest x h) = h
inverse (chains n z s r f ts us rest a x h j) = record { between = us; given = a; before = h; behind = j }
inverse (stops n s k f a ts u) = tt
inverse (goes_on n s k f a t p ts us rest b x e h j) = tt

-- what holds before what comes again, and behind each, holds at its end
unfoldable pub Kept : (n : ℕ) {s : Sort} → Rule s → List Token → List Token → Gift s → Type 1
Kept n (again s k f a) ts rest x = (I : Gift s → List Token → Type 0) → ((b : Gift s) (t : Token) (p : Payload k) (us vs : List Token) (c : Gift s) → I b (t ∷ us) → sees k t us ≡ Some p → Follows follows.plain n s (f b p) us vs c → I c vs) → I a ts → I x rest
Kept n r ts rest x = Unit {1}

pub kept : {n : ℕ} {s : Sort} {r : Rule s} {ts rest : List Token} {x : Gift s} → Follows follows.plain n s r ts rest x → Kept n r ts rest x
unfolding Kept
kept (stops n s k f a ts u) = λ I step i. i
kept (goes_on n s k f a t p ts us rest b x e h j) = λ I step i. kept j I step (step a t p ts us b i e h)
kept h = tt

-- the depth of a formula in a place: parentheses are one nesting
abbrev pub placed_depth : ℕ → Claim → ℕ → ℕ
placed_depth place c d = cond (nat_lt place (claim_level c)) (suc d) d

unfoldable pub claim_depth : Claim → ℕ
claim_depth (atom x) = depth_in lead.Atom 10 x
claim_depth (no a) = suc (placed_depth 1 a (claim_depth a))
claim_depth (after a) = suc (placed_depth 1 a (claim_depth a))
claim_depth (always a) = suc (placed_depth 1 a (claim_depth a))
claim_depth (some_time a) = suc (placed_depth 1 a (claim_depth a))
claim_depth (both o a b) = suc (max (placed_depth (left_of (level_of_claim o)) a (claim_depth a)) (placed_depth (right_of (level_of_claim o)) b (claim_depth b)))

-- Parentheses in which a text has a formula hold a temporal operator: else they would be an atom's.
abbrev pub Timely : ℕ → Claim → Type 0
Timely place c = (nat_lt place (claim_level c) ≡ true → timed c ≡ true)

unfoldable pub Bracketed : Claim → Type 0
Bracketed (atom x) = Unit {0}
Bracketed (no a) = Bracketed a × Timely 1 a
Bracketed (after a) = Bracketed a × Timely 1 a
Bracketed (always a) = Bracketed a × Timely 1 a
Bracketed (some_time a) = Bracketed a × Timely 1 a
Bracketed (both o a b) = Bracketed a × Bracketed b × Timely (left_of (level_of_claim o)) a × Timely (right_of (level_of_claim o)) b

pub record ClaimFits (l : ℕ) (x : Formula) : Type 0 where
  pub well : ClaimScannable x.claim
  pub brackets : Bracketed x.claim
  pub timely : Timely l x.claim
  pub shallow : placed_depth l x.claim (claim_depth x.claim) ≤ x.depth
  pub within : x.depth ≤ deepest

pub true_is : false ≡ true → (b : Bool) → b ≡ true
true_is e b = absurd (cc)

pub placed_most : (place : ℕ) (x : Claim) (d : ℕ) → (placed_depth place x d ≤ suc d) × (d ≤ placed_depth place x d)
placed_most place x d = by_test (nat_lt place (claim_level x)) where
  by_test : (b : Bool) → (cond b (suc d) d ≤ suc d) × (d ≤ cond b (suc d) d)
  by_test true = (omega arith, omega arith)
  by_test false = (omega arith, omega arith)

later : (l m n : ℕ) → l ≤ m → nat_lt m n ≡ true → nat_lt l n ≡ true
later l m n le e = let h = ltb-true m n e in lt-ltb l n (omega (arith, h, le))

pub claim_looser : (l m : ℕ) (x : Formula) → l ≤ m → ClaimFits l x → ClaimFits m x
claim_looser l m x le h = record { well = h.well; brackets = h.brackets; timely = λ e. h.timely (later l m (claim_level x.claim) le e); shallow = by_test (nat_lt m (claim_level x.claim)) refl; within = h.within } where
  d : ℕ
  d = claim_depth x.claim

  by_test : (b : Bool) → nat_lt m (claim_level x.claim) ≡ b → cond b (suc d) d ≤ x.depth
  by_test true e = subst (λ b. cond b (suc d) d ≤ x.depth) (later l m (claim_level x.claim) le e) h.shallow
  by_test false e = let a = (placed_most l x.claim d).1 in let b = h.shallow in omega (arith, a, b)

-- an operator before a formula
pub record Prefixes (w : Lexeme) (f : Claim → Claim) : Type 0 where
  pub level : is_round (role_of w) ≡ false
  pub words : (x : Claim) → (is_temporal (role_of w) || timed x) ≡ timed (f x)
  pub fits : (x : Formula) → ClaimFits 1 x → x.depth < deepest → ClaimFits 1 (record { claim = f x.claim; depth = suc x.depth })

abbrev PrefixIf : Lexeme → Option (Claim → Claim) → Type 0
PrefixIf w None = Unit {0}
PrefixIf w (Some f) = Prefixes w f

prefix_marks : (m : Mark) (h : Bool) → PrefixIf (lexeme.Mark m) (prefix_of (start_by m h))
unfolding claim_depth Bracketed ClaimScannable
prefix_marks marks.Bang h = record { level = refl; words = λ x. refl; fits = λ x g w. let s = g.shallow in record { well = g.well; brackets = (g.brackets, g.timely); timely = λ e. true_is e (timed (no x.claim)); shallow = omega (arith, s); within = w } }
prefix_marks marks.WordX h = record { level = refl; words = λ x. refl; fits = λ x g w. let s = g.shallow in record { well = g.well; brackets = (g.brackets, g.timely); timely = λ e. true_is e (timed (after x.claim)); shallow = omega (arith, s); within = w } }
prefix_marks marks.WordG h = record { level = refl; words = λ x. refl; fits = λ x g w. let s = g.shallow in record { well = g.well; brackets = (g.brackets, g.timely); timely = λ e. true_is e (timed (always x.claim)); shallow = omega (arith, s); within = w } }
prefix_marks marks.WordF h = record { level = refl; words = λ x. refl; fits = λ x g w. let s = g.shallow in record { well = g.well; brackets = (g.brackets, g.timely); timely = λ e. true_is e (timed (some_time x.claim)); shallow = omega (arith, s); within = w } }
prefix_marks marks.OpenRound true = tt
prefix_marks marks.OpenRound false = tt
prefix_marks m h = tt

pub prefixes : (w : Lexeme) (h : Bool) (f : Claim → Claim) → prefix_of (start_at w h) ≡ Some f → Prefixes w f
prefixes (lexeme.Mark m) h f e = subst (PrefixIf (lexeme.Mark m)) e (prefix_marks m h)
prefixes w h f e = absurd (cc)

pub round_fits : (x : Formula) → timed x.claim ≡ true → ClaimFits outermost x → x.depth < deepest → ClaimFits 1 (record { claim = x.claim; depth = suc x.depth })
round_fits x t h w = let a = (placed_most 1 x.claim (claim_depth x.claim)).0 in let b = (placed_most outermost x.claim (claim_depth x.claim)).1 in let c = h.shallow in record { well = h.well; brackets = h.brackets; timely = λ e. t; shallow = omega (arith, a, b, c); within = w }

both_fits : (o : FormOp) (a b : Formula) → ClaimFits (left_of (level_of_claim o)) a → ClaimFits (right_of (level_of_claim o)) b → max a.depth b.depth < deepest → ClaimFits (level_of_claim o) (record { claim = both o a.claim b.claim; depth = suc (max a.depth b.depth) })
unfolding claim_depth Bracketed ClaimScannable
both_fits op.Until a b f g w = let h = f.shallow in let i = g.shallow in record { well = (f.well, g.well); brackets = (f.brackets, g.brackets, f.timely, g.timely); timely = λ e. true_is e (timed (both op.Until a.claim b.claim)); shallow = omega (arith, h, i); within = w }
both_fits o a b f g w = let h = f.shallow in let i = g.shallow in record { well = (f.well, g.well); brackets = (f.brackets, g.brackets, f.timely, g.timely); timely = λ e. true_is e (timed (both o a.claim b.claim)); shallow = omega (arith, h, i); within = w }

pub joined_fits : (o : FormOp) (l i j : ℕ) (a b : Formula) → level_of_claim o ≡ l → left_of l ≡ i → right_of l ≡ j → ClaimFits i a → ClaimFits j b → max a.depth b.depth < deepest → ClaimFits l (record { claim = both o a.claim b.claim; depth = suc (max a.depth b.depth) })
joined_fits o l i j a b e f g h k w =
    let x = subst (λ i. ClaimFits i a) (sym (ap left_of e ∙ f)) h in
    let y = subst (λ i. ClaimFits i b) (sym (ap right_of e ∙ g)) k in
    subst (λ l. ClaimFits l (record { claim = both o a.claim b.claim; depth = suc (max a.depth b.depth) })) e (both_fits o a b x y w)

-- what the tokens of a formula tell
pub record ClaimGave (l : ℕ) (ts rest : List Token) (x : Formula) : Type 0 where
  pub fits : ClaimFits l x
  pub words : (m : ℕ) → holds_temporal m ts ≡ (timed x.claim || holds_temporal m rest)
  pub scannable : AllScannable rest

-- one deeper is the formula
pub deeper_is : (n : ℕ) (c : Claim) (d : ℕ) (ts rest : List Token) (x : Formula) → Follows follows.plain n a_formula (deeper c d) ts rest x → (ts ≡ rest) × (record { claim = c; depth = suc d } ≡ x) × (d < deepest)
unfolding Inverse
deeper_is n c d ts rest x h = by_test (nat_lt d deepest) refl h where
  by_test : (b : Bool) → nat_lt d deepest ≡ b → Follows follows.plain n a_formula (cond b (gives a_formula (record { claim = c; depth = suc d })) (too_deep a_formula)) ts rest x → (ts ≡ rest) × (record { claim = c; depth = suc d } ≡ x) × (d < deepest)
  by_test true e h = let i = inverse h in (i.0, i.1, ltb-true d deepest e)
  by_test false e h = absurd (inverse h)

pub claim_at : (l : ℕ) (ts us rest : List Token) (x y : Formula) → us ≡ rest → y ≡ x → ClaimGave l ts us y → ClaimGave l ts rest x
claim_at l ts us rest x y e i h = subst (λ rest. ClaimGave l ts rest x) e (subst (λ x. ClaimGave l ts us x) i h)

-- round brackets
pub open_step : (t : Token) (ts : List Token) → role t ≡ opens → (m : ℕ) → holds_temporal m (t ∷ ts) ≡ holds_temporal (suc m) ts
open_step t ts e = let s = stepped t ts opens e 0 (λ j. j ≡ 1) refl in subst (λ q. Spans 0 q (t ∷ ts) ts) s.holds s.spans

pub close_step : (t : Token) (ts : List Token) → role t ≡ closes → (m : ℕ) → holds_temporal (suc m) (t ∷ ts) ≡ holds_temporal m ts
close_step t ts e = let s = stepped t ts closes e 1 (λ j. j ≡ 0) refl in subst (λ q. Spans 1 q (t ∷ ts) ts) s.holds s.spans

pub shut : (t : Token) (ts : List Token) → role t ≡ closes → holds_temporal 0 (t ∷ ts) ≡ false
unfolding holds_temporal group
shut t ts e = ap (λ r. list_any (λ t. is_temporal (role t)) (group_on r 0 t (λ n. group n ts))) e

pub closing : (t : Token) (us : List Token) (p : Place) → sees (key.mark marks.CloseRound) t us ≡ Some p → role t ≡ closes
unfolding sees
closing t us p e = ap role_of (is_mark_true marks.CloseRound t.lexeme (there (is_mark marks.CloseRound t.lexeme) t.place p e))

-- an atom
clean : (ts : List Token) → Unseen key.before_formula ts → begins_with marks.Bang ts ≡ false
unfolding sees
clean [] u = refl
clean (t ∷ us) u = no_prefix t.lexeme (holds_temporal 0 us) u

atom_gave : (n : ℕ) (ts rest : List Token) (x : Formula) → Unseen key.before_formula ts → Follows follows.plain n a_formula an_atom ts rest x → AllScannable ts → ClaimGave 1 ts rest x
unfolding Inverse ClaimScannable Bracketed claim_depth
atom_gave n ts rest x u h a =
    let c = inverse h in
    let e = inverse c.behind in
    let P : ℕ → Expression → Type 0 = λ j y. (j ≡ 0) × Fits true 10 y in
    let g = gave c.before true 0 P a (λ e. clean ts u) (level_gives 10 true 0 P (λ x f. (refl, f))) in
    claim_at 1 ts c.between rest x (record { claim = atom c.given.tree; depth = c.given.depth }) e.0 e.1 (record {
      fits = record { well = g.holds.1.well; brackets = tt; timely = λ e. true_is e false; shallow = g.holds.1.shallow lead.Atom refl; within = g.holds.1.within };
      words = subst (λ q. Spans 0 q ts c.between) g.holds.0 g.spans;
      scannable = g.scannable;
    })

-- the formulas that are nested once more
abbrev pub Claims : ℕ → Rule a_formula → ℕ → Type 0
Claims n r l = (ts rest : List Token) (x : Formula) → Follows follows.plain n a_formula r ts rest x → AllScannable ts → ClaimGave l ts rest x

record Nested (n : ℕ) : Type 0 where
  one : Claims n (opened 1) 1
  all : Claims n (opened 6) 6
  right : Claims n side 6

or_both : (a b c : Bool) → (a || (b || c)) ≡ ((a || b) || c)
or_both true b c = refl
or_both false b c = refl

or_false : (b : Bool) → (b || false) ≡ b
or_false true = refl
or_false false = refl

-- an operator before an operand
prefix_gave : (n : ℕ) → Nested n → (ts rest : List Token) (x : Formula) → Had follows.plain n a_formula key.before_formula (λ f. opened 1 >>= (λ a. deeper (f a.claim) a.depth)) ts rest x → AllScannable ts → ClaimGave 1 ts rest x
unfolding Inverse sees
prefix_gave n nest ts rest x h a =
    let t = h.first in
    let f = h.load in
    let c = inverse h.follows in
    let g = nest.one h.others c.between c.given c.before (past h.is a) in
    let e = deeper_is n (f c.given.claim) c.given.depth c.between rest x c.behind in
    let p = prefixes t.lexeme (holds_temporal 0 h.others) f h.seen in
    subst (λ ts. ClaimGave 1 ts rest x) (sym h.is) (claim_at 1 (t ∷ h.others) c.between rest x (record { claim = f c.given.claim; depth = suc c.given.depth }) e.0 e.1 (record {
      fits = p.fits c.given g.fits e.2;
      words = λ m. word_step t h.others p.level m ∙ ap (λ b. is_temporal (role t) || b) (g.words m) ∙ or_both (is_temporal (role t)) (timed c.given.claim) (holds_temporal m c.between) ∙ ap (λ b. b || holds_temporal m c.between) (p.words c.given.claim);
      scannable = g.scannable;
    }))

-- brackets around a formula
pub record Grouped (us rest : List Token) (x : Formula) : Type 0 where
  pub given : Formula
  pub fits : ClaimFits 6 given
  pub within : given.depth < deepest
  pub is : record { claim = given.claim; depth = suc given.depth } ≡ x
  pub time : holds_temporal 0 us ≡ timed given.claim
  pub words : (m : ℕ) → holds_temporal (suc m) us ≡ (timed given.claim || holds_temporal m rest)
  pub scannable : AllScannable rest

pub grouped : (n : ℕ) → Claims n (opened 6) 6 → (us rest : List Token) (x : Formula) → Follows follows.plain n a_formula enclosed us rest x → AllScannable us → Grouped us rest x
unfolding Inverse
grouped n claims us rest x h a =
    let c = inverse h in
    let g = claims us c.between c.given c.before a in
    let d = inverse c.behind in
    let k = inverse d.before in
    let l = inverse k.follows in
    let e = deeper_is n c.given.claim c.given.depth d.between rest x d.behind in
    let r = closing k.first k.others k.load k.seen in
    let ended : holds_temporal 0 c.between ≡ false = ap (holds_temporal 0) k.is ∙ shut k.first k.others r in
    let same : k.others ≡ rest = l.0 ∙ e.0 in
    record {
      given = c.given;
      fits = g.fits;
      within = e.2;
      is = e.1;
      time = g.words 0 ∙ ap (λ b. timed c.given.claim || b) ended ∙ or_false (timed c.given.claim);
      words = λ m. g.words (suc m) ∙ ap (λ b. timed c.given.claim || b) (ap (holds_temporal (suc m)) k.is ∙ close_step k.first k.others r m ∙ ap (holds_temporal m) same);
      scannable = subst AllScannable same (past k.is g.scannable);
    }

group_gave : (n : ℕ) → Nested n → (ts rest : List Token) (x : Formula) → Had follows.plain n a_formula key.group (λ p. enclosed) ts rest x → AllScannable ts → ClaimGave 1 ts rest x
unfolding sees
group_gave n nest ts rest x h a =
    let t = h.first in
    let g = grouped n nest.all h.others rest x h.follows (past h.is a) in
    let o = bracket_opens t.lexeme (holds_temporal 0 h.others) (there (is_bracket (start_of (t ∷ h.others))) t.place h.load h.seen) in
    subst (λ ts. ClaimGave 1 ts rest x) (sym h.is) (claim_at 1 (t ∷ h.others) rest rest x (record { claim = g.given.claim; depth = suc g.given.depth }) refl g.is (record {
      fits = round_fits g.given (sym g.time ∙ o.1) g.fits g.within;
      words = λ m. open_step t h.others o.0 m ∙ g.words m;
      scannable = g.scannable;
    }))

operand_gave : (n : ℕ) → Nested n → Claims n operand 1
unfolding Inverse
operand_gave n nest ts rest x h a = elim (inverse h) [
  | inl p ↦ prefix_gave n nest ts rest x p a
  | inr r ↦ elim (inverse r.1) [
    | inl p ↦ group_gave n nest ts rest x p a
    | inr q ↦ atom_gave n ts rest x r.0 q.1 a
  ]
]

-- an operator between two formulas
either_same : (a b c : Bool) (d : Bool) → (a || (b || (c || d))) ≡ ((a || (b || c)) || d)
either_same true b c d = refl
either_same false true c d = refl
either_same false false c d = refl

both_gave : (n l i j : ℕ) (ts us rest : List Token) (t : Token) (o : FormOp) (b x : Formula) (r : Rule a_formula) → left_of l ≡ i → right_of l ≡ j → Claims n r j → sees (key.connective l) t us ≡ Some o → ClaimGave i ts (t ∷ us) b → Follows follows.plain n a_formula (r >>= (λ c. deeper (both o b.claim c.claim) (max b.depth c.depth))) us rest x → ClaimGave l ts rest x
unfolding Inverse sees
both_gave n l i j ts us rest t o b x r el er claims see g h =
    let c = inverse h in
    let k = claims us c.between c.given c.before g.scannable.1 in
    let e = deeper_is n (both o b.claim c.given.claim) (max b.depth c.given.depth) c.between rest x c.behind in
    let q = joins t.lexeme (l, o) (levels_of l (joining t) o see) in
    claim_at l ts c.between rest x (record { claim = both o b.claim c.given.claim; depth = suc (max b.depth c.given.depth) }) e.0 e.1 (record {
      fits = joined_fits o l i j b c.given q.2 el er g.fits k.fits e.2;
      words = λ m. g.words m ∙ ap (λ z. timed b.claim || z) (word_step t us q.0 m ∙ ap (λ z. z || holds_temporal m us) q.1 ∙ ap (λ z. is_timed o || z) (k.words m)) ∙ either_same (timed b.claim) (is_timed o) (timed c.given.claim) (holds_temporal m c.between);
      scannable = k.scannable;
    })

looser : (l m : ℕ) (ts rest : List Token) (x : Formula) → l ≤ m → ClaimGave l ts rest x → ClaimGave m ts rest x
looser l m ts rest x le g = record { fits = claim_looser l m x le g.fits; words = g.words; scannable = g.scannable }

joined_gave : (n l : ℕ) (r : Rule a_formula) → (suc l == outermost) ≡ false → Claims n r l → Claims n (r >>= joined (suc l) r) (suc l)
unfolding Inverse Kept
joined_gave n l r e claims ts rest x h a =
    let c = inverse h in
    let g = claims ts c.between c.given c.before a in
    let el : left_of (suc l) ≡ suc l = ap (λ b. cond b (suc l - 1) (suc l)) e in
    let er : right_of (suc l) ≡ l = ap (λ b. cond b (suc l) (suc l - 1)) e ∙ omega arith in
    kept c.behind (λ b us. ClaimGave (suc l) ts us b) (λ b t o us vs y i see f. both_gave n (suc l) (suc l) l ts us vs t o b y r el er claims see i f) (looser l (suc l) ts c.between c.given (omega arith) g)

implied_gave : (n : ℕ) → Nested n → (r : Rule a_formula) → Claims n r 5 → Claims n (r >>= implied) 6
unfolding Inverse
implied_gave n nest r claims ts rest x h a =
    let c = inverse h in
    let g = claims ts c.between c.given c.before a in
    elim (inverse c.behind) [
      | inl f ↦ both_gave n 6 5 6 ts f.others rest f.first f.load c.given x side refl refl nest.right f.seen (subst (λ us. ClaimGave 5 ts us c.given) f.is g) f.follows
      | inr f ↦ let e = inverse f.1 in claim_at 6 ts c.between rest x c.given e.0 e.1 (looser 5 6 ts c.between c.given (omega arith) g)
    ]

-- each level that formulas have
record Levels (n : ℕ) : Type 0 where
  one : Claims n (formula_level 1) 1
  all : Claims n (formula_level 6) 6

levels_from : (n : ℕ) → Nested n → Levels n
unfolding formula_level
levels_from n nest =
    let one_ : Claims n (formula_level 1) 1 = operand_gave n nest in
    let two_ : Claims n (formula_level 2) 2 = joined_gave n 1 (formula_level 1) refl one_ in
    let three_ : Claims n (formula_level 3) 3 = joined_gave n 2 (formula_level 2) refl two_ in
    let four_ : Claims n (formula_level 4) 4 = joined_gave n 3 (formula_level 3) refl three_ in
    let five_ : Claims n (formula_level 5) 5 = joined_gave n 4 (formula_level 4) refl four_ in
    record { one = one_; all = implied_gave n nest (formula_level 5) five_ }

nested_from : (n : ℕ) → Levels n → Nested (suc n)
unfolding Inverse table
nested_from n h = record { one = λ ts rest x f a. h.one ts rest x (inverse f) a; all = λ ts rest x f a. h.all ts rest x (inverse f) a; right = λ ts rest x f a. h.all ts rest x (inverse f) a }

nested_none : Nested 0
unfolding Inverse
nested_none = record { one = λ ts rest x f a. absurd (inverse (inverse f)); all = λ ts rest x f a. absurd (inverse (inverse f)); right = λ ts rest x f a. absurd (inverse (inverse (inverse f)).follows) }

levels : (n : ℕ) → Levels n
levels zero = levels_from 0 nested_none
levels (suc n) = levels_from (suc n) (nested_from n (levels n))

pub nested : (n : ℕ) → Claims n (opened 6) 6
nested zero = nested_none.all
nested (suc n) = (nested_from n (levels n)).all

pub claim_gave : (n : ℕ) (ts rest : List Token) (x : Formula) → Follows follows.plain n a_formula (formula_level 6) ts rest x → AllScannable ts → ClaimGave 6 ts rest x
claim_gave n = (levels n).all
