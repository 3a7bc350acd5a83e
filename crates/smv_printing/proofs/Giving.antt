-- What holds of what a rule gives, by the rule's form; and how many round brackets its tokens close.
use Rattle.std.proofs.Common.{◌≡◌, ◌≤◌, ◌||◌, ◌∙◌, ◌-◌, ℕ, zero, suc, Bool, true, false, cond, List, ◌∷◌, Option, Some, None, refl, subst, ap}
use Rattle.std.specs.Prelude.{◌==◌, codes}
use Rattle.std.specs.List.{list_any}
use Rattle.std.specs.Str.{bytes_eq}
use Rattle.std.proofs.lemmas.Slice.Eq.{bytes_eq-Decides}
use Rattle.smv_token.specs.Marks.{text, word_of, words}
use Rattle.std.proofs.lemmas.Bool.{eqb-true}
use Rattle.smv_tree.specs.declared.expr.Op1.{Op1}
use Rattle.smv_tree.specs.declared.expr.Op1.TheVariants as op1
use Rattle.smv_tree.specs.declared.expr.Op2.{Op2}
use Rattle.smv_tree.specs.declared.place.Place.{Place}
use Rattle.smv_token.specs.declared.mark.Mark.{Mark}
use Rattle.smv_token.specs.declared.mark.Mark.TheVariants as marks
use Rattle.smv_token.specs.declared.token.Token.{Token}
use Rattle.smv_token.specs.declared.token.Lexeme.{Lexeme}
use Rattle.smv_token.specs.declared.token.Lexeme.TheVariants as lexeme
use Rattle.smv_grammar.specs.Forms.{begins_range, infix_of}
use Rattle.smv_grammar.specs.Formulas.{Role, opens, closes, temporal, plain, group, group_on, holds_temporal, is_temporal, role, role_of, role_of_mark}
use Rattle.smv_grammar.specs.IsMark.{is_mark}
use Rattle.smv_rules.specs.Keys.{Key, Payload, Primary, begins_with, by_mark, if_there, mark_of, name_of, number_of, of_level, primary_by, primary_of, sees, with_place}
use Rattle.smv_rules.specs.Keys as key
use Rattle.smv_rules.specs.Sorts.{Gift, Sort, an_expression, some_branches, some_names, some_operands}
use Rattle.smv_rules.specs.Rules.{Part, Rule, gives, too_deep, must, may, part, then, again, expression, formula, inside, bits}
use Rattle.smv_rules.proofs.Firsts.{is_mark_true}
use Rattle.smv_printing.specs.Printing.{mark_of_two, path_head, right_level, left_level, operator_level}
use Rattle.smv_printing.proofs.ScannedTokens.{OwnName, OwnPath, OwnWord, Scannable, greatest}
use Rattle.smv_printing.proofs.Fits.{AllFit, ArmsFit, Fits}

-- what a token tells where it is seen, and the text begins with no `!` where the flag says so
abbrev pub OwnOperator : ℕ → Op2 → Type 0
OwnOperator l o = (operator_level (mark_of_two o) ≡ l) × (left_level l ≡ l) × (right_level l ≡ l - 1)

abbrev pub Called : Op1 → Type 0
Called op1.Not = ⊥
Called op1.Neg = ⊥
Called o = Unit {0}

abbrev pub OwnPrimary : Primary → Type 0
OwnPrimary (key.opens (key.function o)) = Called o
OwnPrimary (key.path n) = Scannable (path_head n)
OwnPrimary (key.digits n) = n ≤ greatest
OwnPrimary (key.word w) = OwnWord w
OwnPrimary o = Unit {0}

abbrev pub Saw : (k : Key) → Bool → Payload k → Type 0
Saw (key.mark marks.Bang) true p = ⊥
Saw key.name c n = OwnName n.0
Saw key.number c n = n ≤ greatest
Saw key.primary c o = OwnPrimary o.0
Saw (key.operator l) c o = OwnOperator l o.0
Saw k c p = Unit {0}

-- what a token is to the group of a `(`; no rule of expressions takes the tokens of others
abbrev pub primary_role : Primary → Role
primary_role (key.opens key.round) = opens
primary_role o = plain

abbrev pub role_by : (k : Key) → Payload k → Role
role_by (key.mark m) p = role_of_mark m
role_by key.name n = plain
role_by key.number n = plain
role_by key.primary o = primary_role o.0
role_by key.minus p = plain
role_by key.further p = plain
role_by key.closing p = plain
role_by (key.operator l) o = plain
role_by k p = temporal

-- how many brackets are open behind a token, where so many are before it
abbrev pub After : Role → ℕ → (ℕ → Type 0) → Type 0
After opens i Q = Q (suc i)
After closes zero Q = ⊥
After closes (suc i) Q = Q i
After temporal i Q = ⊥
After plain i Q = Q i

abbrev pub part_role : {s : Sort} → Part s → Role
part_role (inside key.round p) = closes
part_role (formula l) = temporal
part_role p = plain

-- what is known of parts, and of what comes again
abbrev pub floor : ℕ → ℕ
floor zero = 1
floor (suc l) = suc l

abbrev pub Given : {s : Sort} → Part s → Gift s → Type 0
Given (expression l) x = Fits false (floor l) x
Given (formula l) x = Unit {0}
Given (inside (key.function o) p) x = (Called o → Fits true 1 x)
Given (inside o p) x = Fits true 1 x
Given (bits a p) x = (c : Bool) → Fits c 1 a → Fits c 1 x

abbrev pub Kept : (s : Sort) → Key → Bool → Gift s → Type 0
Kept an_expression (key.operator l) c x = Fits c l x
Kept an_expression k c x = Fits c 1 x
Kept some_names k c ns = OwnPath ns
Kept some_operands k c xs = AllFit xs
Kept some_branches k c bs = ArmsFit bs
Kept s k c x = Unit {0}

-- no tokens are what the rule says
abbrev pub Fails : {s : Sort} → Rule s → Type 0
Fails (too_deep s) = Unit {0}
Fails (must s k f) = (p : Payload k) → Fails (f p)
Fails r = ⊥

unfoldable pub Gives : Bool → ℕ → {s : Sort} → Rule s → (ℕ → Gift s → Type 0) → Type 0
Gives c i (gives s x) P = P i x
Gives c i (too_deep s) P = Unit {0}
Gives c i (must s k f) P = (p : Payload k) → Saw k c p → After (role_by k p) i (λ j. Gives false j (f p) P)
Gives c i (may s k f r) P = ((p : Payload k) → Saw k c p → After (role_by k p) i (λ j. Gives false j (f p) P)) × Gives c i r P
Gives c i (part s p r) P = ((x : Gift s) → Given p x → After (part_role p) i (λ j. P j x)) × Fails r
Gives c i (then z s r f) P = Gives c i r (λ j a. Gives false j (f a) P)
Gives c i (again s k f a) P = (b : Bool) × Kept s k b a × ((x : Gift s) → Kept s k b x → P i x) × ((x : Gift s) (p : Payload k) → Kept s k b x → Saw k false p → After (role_by k p) i (λ j. Gives false j (f x p) (λ m y. (m ≡ i) × Kept s k b y)))

-- the brackets that tokens close: in the group that they are in, and in each around it
abbrev pub lift : ℕ → ℕ → ℕ
lift zero m = m
lift (suc i) m = suc (lift i m)

abbrev pub Spans : ℕ → ℕ → List Token → List Token → Type 0
Spans i j ts rest = (m : ℕ) → holds_temporal (lift i m) ts ≡ holds_temporal (lift j m) rest

pub record Stepped (i : ℕ) (Q : ℕ → Type 0) (t : Token) (ts : List Token) : Type 0 where
  pub left : ℕ
  pub holds : Q left
  pub spans : Spans i left (t ∷ ts) ts

pub stepped : (t : Token) (ts : List Token) (r : Role) → role t ≡ r → (i : ℕ) (Q : ℕ → Type 0) → After r i Q → Stepped i Q t ts
unfolding holds_temporal group
stepped t ts r e i Q h = by r e i Q h where
  has : List Token → Bool
  has us = list_any (λ t. is_temporal (role t)) us

  one : (r : Role) → role t ≡ r → (us : List Token) → has (t ∷ us) ≡ (is_temporal r || has us)
  one r e us = ap (λ r. is_temporal r || has us) e

  on : (r : Role) → role t ≡ r → (n : ℕ) → has (group_on (role t) n t (λ m. group m ts)) ≡ has (group_on r n t (λ m. group m ts))
  on r e n = ap (λ r. has (group_on r n t (λ m. group m ts))) e

  by : (r : Role) → role t ≡ r → (i : ℕ) (Q : ℕ → Type 0) → After r i Q → Stepped i Q t ts
  by opens e i Q h = record { left = suc i; holds = h; spans = λ m. on opens e (lift i m) ∙ one opens e (group (suc (lift i m)) ts) }
  by closes e zero Q h = absurd h
  by closes e (suc i) Q h = record { left = i; holds = h; spans = λ m. on closes e (suc (lift i m)) ∙ one closes e (group (lift i m) ts) }
  by temporal e i Q h = absurd h
  by plain e i Q h = record { left = i; holds = h; spans = λ m. on plain e (lift i m) ∙ one plain e (group (lift i m) ts) }

-- the tables of marks
abbrev role_or : {X : Type 0} → Role → (X → Role) → Option X → Role
role_or r f None = r
role_or r f (Some x) = f x

primary_marks : (m : Mark) → role_of_mark m ≡ role_or (role_of_mark m) primary_role (primary_by m)
unfolding primary_by
primary_marks marks.OpenRound = refl
primary_marks m = refl

infix_marks : (m : Mark) → role_of_mark m ≡ role_or (role_of_mark m) (λ o. plain) (infix_of m)
infix_marks marks.Concat = refl
infix_marks m = refl

abbrev Levelled : Option (ℕ × Op2) → Type 0
Levelled None = (zero ≡ zero) × (zero ≡ zero) × (zero ≡ zero)
Levelled (Some i) = OwnOperator i.0 i.1

levelled : (m : Mark) → Levelled (infix_of m)
levelled marks.Concat = (refl, refl, refl)
levelled m = (refl, refl, refl)

pub there : {X : Type 0} (b : Bool) (x y : X) → if_there b x ≡ Some y → b ≡ true
there true x y e = refl
there false x y e = absurd (cc)

pub not_first : {X : Type 0} (b c : Bool) (x y : X) → cond b None (if_there c x) ≡ Some y → c ≡ true
not_first true c x y e = absurd (cc)
not_first false c x y e = there c x y e

at_first : {X : Type 0} (b c : Bool) (x y : X) → cond b (if_there c x) None ≡ Some y → c ≡ true
at_first true c x y e = there c x y e
at_first false c x y e = absurd (cc)

abbrev first_of : {X : Type 0} → Option (X × Place) → Option X
first_of None = None
first_of (Some y) = Some y.0

pub placed : {X : Type 0} (o : Option X) (p : Place) (y : X × Place) → with_place o p ≡ Some y → o ≡ Some y.0
placed None p y e = absurd (cc)
placed (Some x) p y e = ap first_of e

-- what a token is to a group
mark_role : (m : Mark) (w : Lexeme) → is_mark m w ≡ true → role_of w ≡ role_of_mark m
mark_role m w e = ap role_of (is_mark_true m w e)

pub primary_seen : (w : Lexeme) (o : Primary) → primary_of w ≡ Some o → role_of w ≡ primary_role o
primary_seen (lexeme.Mark m) o e = primary_marks m ∙ ap (λ q. role_or (role_of_mark m) primary_role q) e
primary_seen w o e = ap (λ q. role_or plain primary_role q) e

name_seen : (w : Lexeme) (n : List ℕ) → name_of w ≡ Some n → w ≡ lexeme.Name n
name_seen (lexeme.Name n) o e = ap lexeme.Name (let s : n ≡ o = cc in s)
name_seen w o e = absurd (cc)

number_seen : (w : Lexeme) (n : ℕ) → number_of w ≡ Some n → w ≡ lexeme.Number n
number_seen (lexeme.Number n) o e = ap lexeme.Number (let s : n ≡ o = cc in s)
number_seen w o e = absurd (cc)

pub levels_of : {X : Type 0} (l : ℕ) (q : Option (ℕ × X)) (o : X) → of_level l q ≡ Some o → q ≡ Some (l, o)
levels_of l None o e = absurd (cc)
levels_of {X} l (Some i) o e = by_test (i.0 == l) refl e where
  by_test : (b : Bool) → (i.0 == l) ≡ b → cond {A = Option X} b (Some i.1) None ≡ Some o → Some i ≡ Some (l, o)
  by_test true f e = let s : i.1 ≡ o = cc in ap (λ a. Some (a, i.1)) (eqb-true i.0 l f) ∙ ap (λ b. Some (l, b)) s
  by_test false f e = absurd (cc)

operator_seen : (w : Lexeme) (l : ℕ) (o : Op2) → by_mark infix_of (mark_of w) ≡ Some (l, o) → (role_of w ≡ plain) × OwnOperator l o
operator_seen (lexeme.Mark m) l o e = (infix_marks m ∙ ap (λ q. role_or (role_of_mark m) (λ o. plain) q) e, subst Levelled e (levelled m))
operator_seen w l o e = absurd (cc)

-- no name of one's own is the reserved word
own_no_self : (n : List ℕ) → OwnName n → bytes_eq n (codes "self") ≡ false
unfolding word_of words text
own_no_self n o = by (bytes_eq n (codes "self")) refl where
  by : (b : Bool) → bytes_eq n (codes "self") ≡ b → bytes_eq n (codes "self") ≡ false
  by false e = e
  by true e = let same = (bytes_eq-Decides n (codes "self")).0 e in let u = o.unreserved in let w = ap word_of same in absurd (cc)

head_scannable : (n : List ℕ) → OwnName n → Scannable (path_head n)
head_scannable n o = let e = own_no_self n o in rw e o

abbrev OwnIf : Option Primary → Type 0
OwnIf None = Unit {0}
OwnIf (Some o) = OwnPrimary o

own_marks : (m : Mark) → OwnIf (primary_by m)
unfolding primary_by
own_marks marks.SelfWord = tt
own_marks m = tt

own_primary : (w : Lexeme) (o : Primary) → primary_of w ≡ Some o → Scannable w → OwnPrimary o
own_primary (lexeme.Mark m) o e s = subst OwnIf e (own_marks m)
own_primary (lexeme.Name n) o e s = subst OwnIf e (head_scannable n s)
own_primary w o e s = subst OwnIf e s

-- what a token that is seen is to a group, and what it tells
told : (k : Key) (c : Bool) (t : Token) (ts : List Token) (p : Payload k) → sees k t ts ≡ Some p → Scannable t.lexeme → (c ≡ true → is_mark marks.Bang t.lexeme ≡ false) → ((i : ℕ) (Q : ℕ → Type 0) → After (role_by k p) i Q → role t ≡ role_by k p) × Saw k c p
unfolding sees
told (key.mark marks.Bang) true t ts p e s b = let f = there (is_mark marks.Bang t.lexeme) t.place p e in let g = b refl in absurd (cc)
told (key.mark m) c t ts p e s b = (λ i Q h. mark_role m t.lexeme (there (is_mark m t.lexeme) t.place p e), tt)
told key.name c t ts p e s b = let n = name_seen t.lexeme p.0 (placed (name_of t.lexeme) t.place p e) in (λ i Q h. ap role_of n, subst Scannable n s)
told key.number c t ts p e s b = let n = number_seen t.lexeme p e in (λ i Q h. ap role_of n, subst Scannable n s)
told key.primary c t ts p e s b = (λ i Q h. primary_seen t.lexeme p.0 (placed (primary_of t.lexeme) t.place p e), own_primary t.lexeme p.0 (placed (primary_of t.lexeme) t.place p e) s)
told key.minus c t ts p e s b = (λ i Q h. mark_role marks.Minus t.lexeme (not_first (begins_range ts) (is_mark marks.Minus t.lexeme) t.place p e), tt)
told key.further c t ts p e s b = (λ i Q h. mark_role marks.Semicolon t.lexeme (not_first (begins_with marks.Esac ts) (is_mark marks.Semicolon t.lexeme) t.place p e), tt)
told key.closing c t ts p e s b = (λ i Q h. mark_role marks.Semicolon t.lexeme (at_first (begins_with marks.Esac ts) (is_mark marks.Semicolon t.lexeme) t.place p e), tt)
told (key.operator l) c t ts p e s b = let o = (operator_seen t.lexeme l p.0 (levels_of l (by_mark infix_of (mark_of t.lexeme)) p.0 (placed (of_level l (by_mark infix_of (mark_of t.lexeme))) t.place p e))) in (λ i Q h. o.0, o.1)
told k c t ts p e s b = (λ i Q h. absurd h, tt)

pub seen : (k : Key) (c : Bool) (t : Token) (ts : List Token) (p : Payload k) (i : ℕ) (Q : ℕ → Type 0) → sees k t ts ≡ Some p → Scannable t.lexeme → (c ≡ true → is_mark marks.Bang t.lexeme ≡ false) → (Saw k c p → After (role_by k p) i Q) → Stepped i Q t ts
seen k c t ts p i Q e s b h = let v = told k c t ts p e s b in let g = h v.1 in stepped t ts (role_by k p) (v.0 i Q g) i Q g
