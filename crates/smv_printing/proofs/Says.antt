-- Following rules along what is printed, at each level, in brackets and in its place.
use denote.Enum.Bare.{true_same}
use Rattle.std.proofs.Common.{◌≡◌, ◌≤◌, ◌<◌, ℕ, zero, suc, true, false, cond, List, [], ◌∷◌, ◌++◌, Option, Some, None, refl, sym, subst, ap, arith, ◌||◌, ◌==◌, Bool, nat_lt, ◌∙◌, append-nil}
use Rattle.std.proofs.lemmas.Bool.{eqb-true, lt-ltb, ltb-false, ltb-true}
use Rattle.smv_tree.specs.declared.place.Place.{Place}
use Rattle.smv_tree.specs.Trees.{Tree, choice, one, two}
use Rattle.smv_token.specs.contracts.mark.Mark.{the_type}
use Rattle.smv_token.specs.declared.mark.Mark.{Mark}
use Rattle.smv_token.specs.declared.mark.Mark.TheVariants as marks
use Rattle.smv_token.specs.declared.token.Token.{Token}
use Rattle.smv_token.specs.declared.token.Lexeme.{Lexeme}
use Rattle.smv_token.specs.declared.token.Lexeme.TheVariants as lexeme
use Rattle.smv_grammar.specs.Forms.{begins_dots, deepest, is_dots}
use Rattle.smv_grammar.specs.IsMark.{same_mark}
use Rattle.smv_rules.specs.Keys.{Key, Payload, begins_with, if_there, sees, Opener, Primary, opens, round, primary_by, primary_of, with_place}
use Rattle.smv_rules.specs.Keys as key
use Rattle.smv_rules.specs.Sorts.{Expression, Gift, Sort, an_expression}
use Rattle.smv_rules.specs.Rules.{Part, Rule, gives, too_deep, must, may, part, then, again, ◌>>=◌}
use Rattle.smv_rules.specs.Table.{table}
use Rattle.smv_rules.specs.Expressions.{deeper, last_semicolon, mark, number, bracketed, chosen, implied, joined, level, level_from, nested, prefixed, primary, primary_from, selected}
use Rattle.smv_rules.proofs.Inverting.{Inverted, inverted}
use Rattle.smv_rules.specs.Follows.{plain, Follows, Ruled, done, has, takes, skips, nests, chains, stops, goes_on}
use Rattle.smv_printing.specs.Alike.{Alike}
use Rattle.smv_printing.specs.Printing.{Ink, blank, numeral, symbol, token, bare, misread, spelled}
use Rattle.smv_printing.proofs.ScannedTokens.{AllScannable}
use Rattle.smv_tree.specs.declared.expr.Op1.TheVariants as op1
use Rattle.smv_tree.specs.declared.expr.Op2.{Op2}
use Rattle.smv_tree.specs.declared.expr.Op2.TheVariants as op2
use Rattle.smv_printing.specs.declared.lead.Lead.{Lead}
use Rattle.smv_printing.specs.declared.lead.Lead.TheVariants as lead
use Rattle.smv_printing.specs.Printing as print
use Rattle.smv_printing.proofs.Fits.{IsSpan, depth, depth_in, depth_some, held, held_is, held_less, held_near}
use Rattle.smv_printing.proofs.ReadInks.{Laid, inked, lexemes}

abbrev pub stands : Place → Lexeme → Token
stands p w = record { place = p; lexeme = w }

-- The tokens up to the rest, wherever they stand, are what is printed.
pub record LaysOne (w : Lexeme) (Others : List Token → Type 0) (ts : List Token) : Type 0 where
  pub place : Place
  pub others : List Token
  pub is : ts ≡ stands place w ∷ others
  pub behind : Others others

abbrev pub Lays : List Ink → List Token → List Token → Type 0
Lays [] ts rest = (ts ≡ rest)
Lays (blank ∷ is) ts rest = Lays is ts rest
Lays (token w ∷ is) ts rest = LaysOne w (λ us. Lays is us rest) ts

-- what is printed first, and what is printed then
pub record Cut (is js : List Ink) (ts rest : List Token) : Type 0 where
  pub between : List Token
  pub before : Lays is ts between
  pub behind : Lays js between rest

pub cut : (is js : List Ink) (ts rest : List Token) → Lays (is ++ js) ts rest → Cut is js ts rest
cut [] js ts rest l = record { between = ts; before = refl; behind = l }
cut (blank ∷ is) js ts rest l = let c = cut is js ts rest l in record { between = c.between; before = c.before; behind = c.behind }
cut (token w ∷ is) js ts rest l =
    let c = cut is js l.others rest l.behind in
    record { between = c.between; before = record { place = l.place; others = l.others; is = l.is; behind = c.before }; behind = c.behind }

same_head : {A : Type 0} (x y : A) (xs ys : List A) → x ∷ xs ≡ y ∷ ys → (x ≡ y) × (xs ≡ ys)
same_head x y xs ys e = (cc, cc)

no_cons : {A : Type 0} (x : A) (xs : List A) → [] ≡ x ∷ xs → ⊥
no_cons x xs e = absurd (cc)

pub lays : (is : List Ink) (us : List Token) → Laid us is → Lays is us []
lays [] [] h = refl
lays [] (t ∷ us) h = absurd (no_cons t.lexeme (lexemes us) (sym h))
lays (blank ∷ is) us h = lays is us h
lays (token w ∷ is) [] h = absurd (no_cons w (inked is) h)
lays (token w ∷ is) (t ∷ us) h =
    let e = same_head t.lexeme w (lexemes us) (inked is) h in
    record { place = t.place; others = us; is = ap (λ v. stands t.place v ∷ us) e.0; behind = lays is us e.1 }

-- what is printed begins with no `..`
abbrev pub NoDots : List Ink → Type 0
NoDots [] = Unit {0}
NoDots (blank ∷ is) = NoDots is
NoDots (token w ∷ is) = (is_dots w ≡ false)

pub lays_quiet : (is : List Ink) (ts rest : List Token) → Lays is ts rest → NoDots is → begins_dots rest ≡ false → begins_dots ts ≡ false
lays_quiet [] ts rest l n q = subst (λ us. begins_dots us ≡ false) (sym l) q
lays_quiet (blank ∷ is) ts rest l n q = lays_quiet is ts rest l n q
lays_quiet (token w ∷ is) ts rest l n q = subst (λ us. begins_dots us ≡ false) (sym l.is) n

-- what stands behind tokens that texts have
pub past : {ts us : List Token} {t : Token} → ts ≡ t ∷ us → AllScannable ts → AllScannable us
past e a = (subst AllScannable e a).1

pub lays_scannable : (is : List Ink) (ts rest : List Token) → Lays is ts rest → AllScannable ts → AllScannable rest
lays_scannable [] ts rest l a = subst AllScannable l a
lays_scannable (blank ∷ is) ts rest l a = lays_scannable is ts rest l a
lays_scannable (token w ∷ is) ts rest l a = lays_scannable is l.others rest l.behind (past l.is a)

-- what a rule gives of tokens
pub record Said (n : ℕ) {s : Sort} (r : Rule s) (G : Gift s → Type 0) (ts rest : List Token) : Type 0 where
  pub given : Gift s
  pub follows : Follows plain n s r ts rest given
  pub holds : G given

-- Tokens that texts have and that are what is printed, where no `..` follows them, are what the rule
-- says.
pub record Says (n : ℕ) {s : Sort} (r : Rule s) (is : List Ink) (G : Gift s → Type 0) : Type 0 where
  pub along : (ts rest : List Token) → Lays is ts rest → begins_dots rest ≡ false → AllScannable ts → Said n r G ts rest

pub said_at : {n : ℕ} {s : Sort} {r : Rule s} {G : Gift s → Type 0} {ts us rest : List Token} → ts ≡ us → Said n r G us rest → Said n r G ts rest
said_at {n} {s} {r} {G} {ts} {us} {rest} e h = subst (λ vs. Said n r G vs rest) (sym e) h

pub says_blank : {n : ℕ} {s : Sort} {r : Rule s} {is : List Ink} {G : Gift s → Type 0} → Says n r is G → Says n r (blank ∷ is) G
says_blank h = record { along = λ ts rest l q a. h.along ts rest l q a }

pub says_more : {n : ℕ} {s : Sort} {r : Rule s} {is : List Ink} {G H : Gift s → Type 0} → ((x : Gift s) → G x → H x) → Says n r is G → Says n r is H
says_more g h = record { along = λ ts rest l q a. let y = h.along ts rest l q a in record { given = y.given; follows = y.follows; holds = g y.given y.holds } }

pub says_gives : {n : ℕ} {s : Sort} {x : Gift s} {G : Gift s → Type 0} → G x → Says n (gives s x) [] G
says_gives {n} {s} {x} {G} g = record { along = λ ts rest l q a. said_at l (record { given = x; follows = done n s x rest; holds = g }) }

-- a token that is seen, whatever is printed behind it
pub record Sees (k : Key) (w : Lexeme) (is : List Ink) (load : Place → Payload k) : Type 0 where
  pub at : (p : Place) (us rest : List Token) → Lays is us rest → begins_dots rest ≡ false → sees k (stands p w) us ≡ Some (load p)

-- what stands behind it may be anything
pub sees_alone : {k : Key} {w : Lexeme} {is : List Ink} {load : Place → Payload k} → ((p : Place) (us : List Token) → sees k (stands p w) us ≡ Some (load p)) → Sees k w is load
sees_alone e = record { at = λ p us rest l q. e p us }

-- a token, and what the rule follows behind it
says_on : {n : ℕ} {s : Sort} {k : Key} {f : Payload k → Rule s} {r : Rule s} {w : Lexeme} {is : List Ink} {G : Gift s → Type 0} (load : Place → Payload k) → ((t : Token) (p : Payload k) (us rest : List Token) (x : Gift s) → sees k t us ≡ Some p → Follows plain n s (f p) us rest x → Follows plain n s r (t ∷ us) rest x) → Sees k w is load → ((p : Place) → Says n (f (load p)) is G) → Says n r (token w ∷ is) G
says_on {w = w} load make e h = record {
  along = λ ts rest l q a.
      let y = (h l.place).along l.others rest l.behind q (past l.is a) in
      said_at l.is (record { given = y.given; follows = make (stands l.place w) (load l.place) l.others rest y.given (e.at l.place l.others rest l.behind q) y.follows; holds = y.holds });
}

pub says_must : {n : ℕ} {s : Sort} {k : Key} {f : Payload k → Rule s} {w : Lexeme} {is : List Ink} {G : Gift s → Type 0} (load : Place → Payload k) → Sees k w is load → ((p : Place) → Says n (f (load p)) is G) → Says n (must s k f) (token w ∷ is) G
says_must {n} {s} {k} {f} load e h = says_on {f = f} load (λ t p us rest x. has n s k f t p us rest x) e h

pub says_takes : {n : ℕ} {s : Sort} {k : Key} {f : Payload k → Rule s} {r : Rule s} {w : Lexeme} {is : List Ink} {G : Gift s → Type 0} (load : Place → Payload k) → Sees k w is load → ((p : Place) → Says n (f (load p)) is G) → Says n (may s k f r) (token w ∷ is) G
says_takes {n} {s} {k} {f} {r} load e h = says_on {f = f} load (λ t p us rest x. takes n s k f r t p us rest x) e h

pub says_skips : {n : ℕ} {s : Sort} {k : Key} {f : Payload k → Rule s} {r : Rule s} {is : List Ink} {G : Gift s → Type 0} → ((ts : List Token) → Ruled k ts) → Says n r is G → Says n (may s k f r) is G
says_skips {n} {s} {k} {f} {r} u h = record {
  along = λ ts rest l q a.
      let y = h.along ts rest l q a in
      record { given = y.given; follows = skips n s k f r ts rest y.given (u ts) y.follows; holds = y.holds };
}

pub says_then : {n : ℕ} {z s : Sort} {r : Rule z} {f : Gift z → Rule s} {is js : List Ink} {G : Gift s → Type 0} (H : Gift z → Type 0) → Says n r is H → NoDots js → ((a : Gift z) → H a → Says n (f a) js G) → Says n (then z s r f) (is ++ js) G
says_then {n} {z} {s} {r} {f} {is} {js} {G} H h d g = record {
  along = λ ts rest l q a.
      let c = cut is js ts rest l in
      let x = h.along ts c.between c.before (lays_quiet js c.between rest c.behind d q) a in
      let y = (g x.given x.holds).along c.between rest c.behind q (lays_scannable is ts c.between c.before a) in
      record { given = y.given; follows = chains n z s r f ts c.between rest x.given y.given x.follows y.follows; holds = y.holds };
}

-- what is said once more with nothing printed behind it
pub says_ends : {n : ℕ} {z s : Sort} {r : Rule z} {f : Gift z → Rule s} {is : List Ink} {G : Gift s → Type 0} (H : Gift z → Type 0) → Says n r is H → ((a : Gift z) → H a → Says n (f a) [] G) → Says n (then z s r f) is G
says_ends {n} {z} {s} {r} {f} {is} {G} H h g = subst (λ is. Says n (then z s r f) is G) (append-nil is) (says_then {js = []} H h tt g)

pub says_stops : {n : ℕ} {s : Sort} {k : Key} {f : Gift s → Payload k → Rule s} {a : Gift s} {G : Gift s → Type 0} → ((us : List Token) → Ruled k us) → G a → Says n (again s k f a) [] G
says_stops {n} {s} {k} {f} {a} {G} u g = record { along = λ ts rest l q o. said_at l (record { given = a; follows = stops n s k f a rest (u rest); holds = g }) }

pub same_self : (m : Mark) → same_mark m m ≡ true
unfolding same_mark
same_self m = true_same the_type m m refl

mark_seen : (m : Mark) (p : Place) (us : List Token) → sees (key.mark m) (stands p (lexeme.Mark m)) us ≡ Some p
unfolding sees
mark_seen m p us = ap (λ b. if_there b p) (same_self m)

pub sees_mark : {m : Mark} {is : List Ink} → Sees (key.mark m) (lexeme.Mark m) is (λ p. p)
sees_mark {m} {is} = sees_alone (mark_seen m)

-- a rule of one token, and another
says_token : {n : ℕ} {z s : Sort} {k : Key} (g : Payload k → Gift z) {f : Gift z → Rule s} {w : Lexeme} {is : List Ink} {G : Gift s → Type 0} (load : Place → Payload k) → Sees k w is load → ((p : Place) → Says n (f (g (load p))) is G) → Says n (must z k (λ p. gives z (g p)) >>= f) (token w ∷ is) G
says_token {n} {z} {s} {k} g {f} load e h = says_on {f = λ p. f (g p)} load (λ t p us rest x i j. chains n z s (must z k (λ p. gives z (g p))) f (t ∷ us) us rest (g p) x (has n z k (λ p. gives z (g p)) t p us us (g p) i (done n z (g p) us)) j) e h

pub says_mark : {n : ℕ} {s : Sort} {m : Mark} {f : Place → Rule s} {is : List Ink} {G : Gift s → Type 0} → ((p : Place) → Says n (f p) is G) → Says n (mark m >>= f) (symbol m ∷ is) G
says_mark {m = m} h = says_token (λ p. p) (λ p. p) (sees_mark {m = m}) h

-- the `;` before the end of a case
last_sees : Sees key.closing (lexeme.Mark marks.Semicolon) (blank ∷ symbol marks.Esac ∷ []) (λ p. p)
unfolding sees same_mark
last_sees = record { at = λ p us rest l q. subst (λ us. cond {A = Option Place} (begins_with marks.Esac us) (Some p) None ≡ Some p) (sym l.is) refl }

pub says_last : {n : ℕ} {s : Sort} {f : Place → Rule s} {G : Gift s → Type 0} → ((p : Place) → Says n (f p) (blank ∷ symbol marks.Esac ∷ []) G) → Says n (last_semicolon >>= f) (symbol marks.Semicolon ∷ blank ∷ symbol marks.Esac ∷ []) G
says_last h = says_token (λ p. p) (λ p. p) last_sees h

pub says_number : {n : ℕ} {s : Sort} {v : ℕ} {f : ℕ → Rule s} {is : List Ink} {G : Gift s → Type 0} → Says n (f v) is G → Says n (number >>= f) (numeral v ∷ is) G
unfolding sees
says_number {v = v} h = says_token {k = key.number} (λ n. n) (λ p. v) (sees_alone (λ p us. refl)) (λ p. h)

-- a part is nested once more, where one nesting more may be opened
pub says_part : (n d : ℕ) {s : Sort} {p : Part s} {r : Rule s} {is : List Ink} {G : Gift s → Type 0} → 1 ≤ d → d ≤ n → ((m : ℕ) → d ≤ suc m → Says m (table p) is G) → Says n (part s p r) is G
says_part zero d some le h = absurd (omega (arith, some, le))
says_part (suc n) d {s} {p} {r} some le h = record { along = λ ts rest l q a. let y = (h n le).along ts rest l q a in record { given = y.given; follows = nests n s p r ts rest y.given y.follows; holds = y.holds } }

-- one deeper, which is not too deep
pub says_deeper : {n : ℕ} (x : Tree) (d : ℕ) {G : Expression → Type 0} → d < deepest → G (record { tree = x; depth = suc d; bare = false }) → Says n (deeper x d) [] G
says_deeper {n} x d {G} lt g = subst (λ b. Says n (cond b (gives an_expression (record { tree = x; depth = suc d; bare = false })) (too_deep an_expression)) [] G) (sym (lt-ltb d deepest lt)) (says_gives g)

-- One more of what comes again, behind others.
More : (n : ℕ) {s : Sort} → Rule s → List Token → List Token → Gift s → Type 0
More n (again s k f a) ts us b = ((us : List Token) → Ruled k us) → (t : Token) (p : Payload k) (vs rest : List Token) (c : Gift s) → us ≡ t ∷ vs → sees k t vs ≡ Some p → Follows plain n s (f b p) vs rest c → Follows plain n s (again s k f a) ts rest c
More n r ts us b = Unit {0}

one_more : {n : ℕ} {s : Sort} {r : Rule s} {ts us : List Token} {b : Gift s} → Follows plain n s r ts us b → More n r ts us b
unfolding More
one_more (stops n s k f a ts u) = λ d t p vs rest c e see h. let P : List Token → Type 0 = λ us. Follows plain n s (again s k f a) us rest c in subst P (sym e) (goes_on n s k f a t p vs rest rest c c see h (stops n s k f c rest (d rest)))
one_more (goes_on n s k f a t p ts us rest b x e h j) = λ d t' p' vs rest' c e' see h'. goes_on n s k f a t p ts us rest' b c e h (one_more j d t' p' vs rest' c e' see h')
one_more h = tt

pub says_joined : {n : ℕ} {s : Sort} {r : Rule s} {k : Key} {f : Gift s → Payload k → Rule s} (w : Lexeme) {is ks : List Ink} (js : List Ink) {G : Gift s → Type 0} (load : Place → Payload k) → ((us : List Token) → Ruled k us) → Sees k w ks load → ((ts rest : List Token) → Lays js ts rest → LaysOne w (λ us. Lays ks us rest) ts) → NoDots js → (H : Gift s → Type 0) → Says n (then s s r (λ a. again s k f a)) is H → ((b : Gift s) (p : Place) → H b → Says n (f b (load p)) ks G) → Says n (then s s r (λ a. again s k f a)) (is ++ js) G
unfolding More Inverted
says_joined {n} {s} {r} {k} {f} w {is} {ks} js {G} load u e o d H h g = record {
  along = λ ts rest l q a.
      let c = cut is js ts rest l in
      let x = h.along ts c.between c.before (lays_quiet js c.between rest c.behind d q) a in
      let i = inverted x.follows in
      let t = o c.between rest c.behind in
      let y = (g x.given t.place x.holds).along t.others rest t.behind q (past t.is (lays_scannable is ts c.between c.before a)) in
      record { given = y.given; follows = chains n s s r (λ a. again s k f a) ts i.between rest i.given y.given i.before (one_more i.behind u (stands t.place w) (load t.place) t.others rest y.given t.is (e.at t.place t.others rest t.behind q) y.follows); holds = y.holds };
}

-- one of what comes again, before others
pub says_goes_on : {n : ℕ} {s : Sort} {k : Key} {f : Gift s → Payload k → Rule s} {w : Lexeme} (is : List Ink) {js : List Ink} {G : Gift s → Type 0} {a : Gift s} (load : Place → Payload k) → Sees k w (is ++ js) load → (H : Gift s → Type 0) → ((p : Place) → Says n (f a (load p)) is H) → NoDots js → ((b : Gift s) → H b → Says n (again s k f b) js G) → Says n (again s k f a) (token w ∷ (is ++ js)) G
says_goes_on {n} {s} {k} {f} {w} is {js} {G} {a} load e H h d g = record {
  along = λ ts rest l q o.
      let c = cut is js l.others rest l.behind in
      let x = (h l.place).along l.others c.between c.before (lays_quiet js c.between rest c.behind d q) (past l.is o) in
      let y = (g x.given x.holds).along c.between rest c.behind q (lays_scannable is l.others c.between c.before (past l.is o)) in
      said_at l.is (record { given = y.given; follows = goes_on n s k f a (stands l.place w) (load l.place) l.others c.between rest x.given y.given (e.at l.place l.others rest l.behind q) x.follows y.follows; holds = y.holds });
}

-- what holds of each form that a level has
pub level_by : (P : Rule an_expression → Type 0) (l : ℕ) (tighter : Rule an_expression) → (l ≡ 1 → P (tighter >>= selected)) → (l ≡ 2 → P (may an_expression (key.mark marks.Bang) (λ p. prefixed p op1.Not 2) tighter)) → (l ≡ 4 → P (may an_expression key.minus (λ p. prefixed p op1.Neg 4) tighter)) → (l ≡ 13 → P (tighter >>= chosen)) → (l ≡ 15 → P (tighter >>= implied)) → P (tighter >>= joined l tighter) → P (level_from l tighter)
level_by P l tighter one_ two_ four_ choice_ implies_ other = by (l == 1) refl (l == 2) refl (l == 4) refl (l == 13) refl (l == 15) refl where
  by : (a : Bool) → (l == 1) ≡ a → (b : Bool) → (l == 2) ≡ b → (c : Bool) → (l == 4) ≡ c → (d : Bool) → (l == 13) ≡ d → (e : Bool) → (l == 15) ≡ e → P (cond a (tighter >>= selected) (cond b (may an_expression (key.mark marks.Bang) (λ p. prefixed p op1.Not 2) tighter) (cond c (may an_expression key.minus (λ p. prefixed p op1.Neg 4) tighter) (cond d (tighter >>= chosen) (cond e (tighter >>= implied) (tighter >>= joined l tighter))))))
  by true q b r c s d t e u = one_ (eqb-true l 1 q)
  by false q true r c s d t e u = two_ (eqb-true l 2 r)
  by false q false r true s d t e u = four_ (eqb-true l 4 s)
  by false q false r false s true t e u = choice_ (eqb-true l 13 t)
  by false q false r false s false t true u = implies_ (eqb-true l 15 u)
  by false q false r false s false t false u = other

-- what is said at a tighter level is said at each looser one
pub loosened : {s : Sort} (rule : ℕ → Rule s) (n l m : ℕ) (is : List Ink) (G : Gift s → Type 0) → ((i : ℕ) → l ≤ i → Says n (rule i) is G → Says n (rule (suc i)) is G) → l ≤ m → Says n (rule l) is G → Says n (rule m) is G
loosened rule n l zero is G up le h = let e : l ≡ 0 = omega (arith, le) in subst (λ i. Says n (rule i) is G) e h
loosened rule n l (suc m) is G up le h = by_test (λ t. loosened rule n l m is G up t h) (nat_lt m l) refl where
  by_test : (l ≤ m → Says n (rule m) is G) → (b : Bool) → nat_lt m l ≡ b → Says n (rule (suc m)) is G
  by_test more true e = let t = ltb-true m l e in let i : l ≡ suc m = omega (arith, le, t) in subst (λ i. Says n (rule i) is G) i h
  by_test more false e = let t = ltb-false m l e in up m t (more t)

pub at_least : (n l m : ℕ) (is : List Ink) (G : Expression → Type 0) → l ≤ m → Says n (level l) is G → Says n (level m) is G
unfolding level
at_least n l m is G = loosened level n l m is G (λ i le h. level_by (λ r. Says n r is G) (suc i) (level i) (λ e. says_ends G h (λ a g. says_stops (λ us. tt) g)) (λ e. says_skips (λ us. tt) h) (λ e. says_skips (λ us. tt) h) (λ e. says_ends G h (λ a g. says_skips (λ us. tt) (says_gives g))) (λ e. says_ends G h (λ a g. says_skips (λ us. tt) (says_gives g))) (says_ends G h (λ a g. says_stops (λ us. tt) g)))

-- an expression alike that is no deeper
pub record Like (x : Tree) (d : ℕ) (y : Expression) : Type 0 where
  pub alike : Alike x y.tree
  pub small : y.depth ≤ d

-- and what is printed of a range is one that stands alone
pub record Own (x : Tree) (d : ℕ) (y : Expression) : Type 0 where
  pub like : Like x d y
  pub bare : IsSpan x → y.bare ≡ true

-- what is printed of a tree is said again, where it may be so deep
abbrev pub Respelled : Tree → Type 0
Respelled x = (k : Lead) (n : ℕ) → held x (depth x k) ≤ suc n → depth x k ≤ deepest → Says n (level (print.level x)) (bare x k) (Own x (depth x k))

no_true : false ≡ true → ⊥
no_true e = absurd (cc)

-- the levels of operators lie between the tightest and the loosest
pub tree_level : (x : Tree) → print.level x ≤ 15
tree_level (choice p c a b) = omega arith
tree_level (one p op1.Not a) = omega arith
tree_level (one p o a) = omega arith
tree_level (two p o a b) = by_operator o where
  by_operator : (o : Op2) → print.level (two p o a b) ≤ 15
  by_operator op2.Concat = omega arith
  by_operator o = omega arith
tree_level x = omega arith

within_brackets : (x : Tree) → Respelled x → (n : ℕ) → held x (depth x lead.Free) ≤ suc n → depth x lead.Free ≤ deepest → Says n (level 15) (bare x lead.Free) (Own x (depth x lead.Free))
within_brackets x said n le small = at_least n (print.level x) 15 (bare x lead.Free) (Own x (depth x lead.Free)) (tree_level x) (said lead.Free n le small)

pub loosely : (x : Tree) → Respelled x → (n : ℕ) → depth x lead.Free ≤ suc n → depth x lead.Free ≤ deepest → Says n (level 15) (bare x lead.Free) (Like x (depth x lead.Free))
loosely x said n le small = let h = held_less x lead.Free in says_more (λ y g. g.like) (within_brackets x said n (omega (arith, le, h)) small)

-- primary expressions, by their first token
pub says_primary : {n : ℕ} (w : Lexeme) (o : Primary) {is : List Ink} {G : Expression → Type 0} → primary_of w ≡ Some o → ((p : Place) → Says n (primary_from o p) is G) → Says n primary (token w ∷ is) G
unfolding sees
says_primary w o e h = says_must (λ p. (o, p)) (sees_alone (λ p us. ap (λ (o : Option Primary). with_place o p) e)) h

pub says_opener : {n : ℕ} (w : Lexeme) (o : Opener) (d : ℕ) {is : List Ink} {G : Expression → Type 0} → primary_of w ≡ Some (opens o) → 1 ≤ d → d ≤ n → ((p : Place) (m : ℕ) → d ≤ suc m → Says m (nested o p) is G) → Says n primary (token w ∷ is) G
unfolding table
says_opener {n} w o d e some le h = says_primary w (opens o) e (λ p. says_part n d some le (λ m. h p m))

-- brackets
round_like : (x : Tree) (y : Expression) (n : ℕ) → Own x (depth x lead.Free) y → suc (held x (depth x lead.Free)) ≤ deepest → Says n (bracketed y) [] (Like x (suc (held x (depth x lead.Free))))
round_like x y n h lt = by_test y.bare refl where
  small : y.depth ≤ depth x lead.Free
  small = h.like.small

  by_test : (b : Bool) → y.bare ≡ b → Says n (cond b (gives an_expression (record { tree = y.tree; depth = y.depth; bare = false })) (deeper y.tree y.depth)) [] (Like x (suc (held x (depth x lead.Free))))
  by_test true e = let g = held_near x lead.Free in says_gives (record { alike = h.like.alike; small = omega (arith, small, g) })
  by_test false e =
      let g = held_is x (depth x lead.Free) (λ s. no_true (sym e ∙ h.bare s)) in
      says_deeper y.tree y.depth (omega (arith, small, g, lt)) (record { alike = h.like.alike; small = omega (arith, small, g) })

in_brackets : (x : Tree) → Respelled x → (n : ℕ) → suc (held x (depth x lead.Free)) ≤ suc n → suc (held x (depth x lead.Free)) ≤ deepest → Says n primary (symbol marks.OpenRound ∷ (bare x lead.Free ++ symbol marks.CloseRound ∷ [])) (Like x (suc (held x (depth x lead.Free))))
unfolding primary_by
in_brackets x said n le small =
    let g = held_near x lead.Free in
    says_opener (lexeme.Mark marks.OpenRound) round (held x (depth x lead.Free)) refl (depth_some x lead.Free) (omega (arith, le)) (λ p m i.
    says_then (Own x (depth x lead.Free)) (within_brackets x said m i (omega (arith, small, g))) refl (λ y h.
    says_mark (λ q. round_like x y m h small)))

neither : (a b : Bool) → (a || b) ≡ false → a ≡ false
neither true b e = e
neither false b e = refl

pub in_place : (x : Tree) → Respelled x → (k : Lead) (place n : ℕ) → depth_in k place x ≤ suc n → depth_in k place x ≤ deepest → Says n (level place) (spelled k place x) (Like x (depth_in k place x))
unfolding level
in_place x said k place n le small = by_test (nat_lt place (print.level x) || misread k x) refl le small where
  by_test : (b : Bool) → (nat_lt place (print.level x) || misread k x) ≡ b → cond b (suc (held x (depth x lead.Free))) (depth x k) ≤ suc n → cond b (suc (held x (depth x lead.Free))) (depth x k) ≤ deepest → Says n (level place) (cond b (symbol marks.OpenRound ∷ (bare x lead.Free ++ symbol marks.CloseRound ∷ [])) (bare x k)) (Like x (cond b (suc (held x (depth x lead.Free))) (depth x k)))
  by_test true e le small = at_least n 0 place _ (Like x (suc (held x (depth x lead.Free)))) (omega arith) (in_brackets x said n le small)
  by_test false e le small =
      let h = held_less x k in
      at_least n (print.level x) place (bare x k) (Like x (depth x k)) (ltb-false place (print.level x) (neither (nat_lt place (print.level x)) (misread k x) e)) (says_more (λ y g. g.like) (said k n (omega (arith, le, h)) small))
