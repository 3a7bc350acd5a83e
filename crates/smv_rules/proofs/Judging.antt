-- The verdict on a text is right where the reading of all tokens decides what they spell.
use Rattle.std.proofs.Common.{◌≡◌, ◌<◌, ◌≤◌, ◌+◌, ◌-◌, ◌==◌, ◌⊎◌, ℕ, true, false, List, drop, length, Option, Some, None, Result, Ok, Err, IfOk, IfErr, refl, sym, ◌∙◌, ap, subst, inl, inr, arith}
use Rattle.std.proofs.lemmas.Bool.{cases_lt, eq-eqb, ne_eqb}
use Rattle.std.proofs.lemmas.Bool.Decides.{eqb_tells}
use Rattle.smv_tree.specs.declared.place.Place.{Place}
use Rattle.smv_grammar.specs.declared.fault.ParseFault.{ParseFault}
use Rattle.smv_grammar.specs.declared.fault.ParseFault.TheVariants as faults
use Rattle.smv_token.specs.declared.token.Flaw.{Flaw}
use Rattle.smv_token.specs.declared.token.Token.{Token}
use Rattle.smv_grammar.specs.Explaining.{ExplainsText, Reaches, SpellsText, ended, flawed, too_deep, unexpected}
use Rattle.smv_grammar.specs.Faults.{end_of, fault_of, place_at}
use Rattle.smv_rules.specs.Reading.{Stop, wrong, deep}
use Rattle.smv_token.specs.Tokens.{Scanned, if_whole, scanned}
use Rattle.smv_rules.specs.Verdicts.{Answers, Unless, at_stop, end_fault, judged_by, stop_fault, verdict}
use Rattle.smv_rules.proofs.Deciding.{DecidesAll}

ok_not_err : {X Y : Type 0} (x : X) (y : Y) (r : Result X Y) → r ≡ Ok x → r ≡ Err y → ⊥
ok_not_err x y r e h = absurd (cc)

wrong_not_deep : {X : Type 0} (k j : ℕ) (r : Result X Stop) → r ≡ Err (wrong k) → r ≡ Err (deep j) → ⊥
wrong_not_deep k j r a b = absurd (cc)

err_same : {X : Type 0} (f g : ParseFault) (r : Result X ParseFault) → r ≡ Err f → r ≡ Err g → f ≡ g
err_same f g r e h = cc

deep_one : {X : Type 0} (k j : ℕ) (r : Result X Stop) → r ≡ Err (deep k) → r ≡ Err (deep j) → j ≡ k
deep_one k j r e h = cc

ok_same : {X : Type 0} (x y : X) (r : Result X ParseFault) → r ≡ Ok x → r ≡ Ok y → x ≡ y
ok_same x y r e h = cc

-- the fault where nothing is left, and where something is
none_left : (ts : List Token) (stop : Option (Place × Flaw)) (end : Place) (k : ℕ) → k ≡ 0 → stop_fault ts stop end (wrong k) ≡ end_fault stop end
none_left ts stop end k z = rw (eq-eqb k 0 z) refl

some_left : (ts : List Token) (stop : Option (Place × Flaw)) (end : Place) (k : ℕ) → (k ≡ 0 → ⊥) → stop_fault ts stop end (wrong k) ≡ faults.Unexpected (place_at ts (length ts - k))
some_left ts stop end k other = rw (ne_eqb k 0 other) refl

whole_text : (s : Scanned) → s.stop ≡ None → if_whole s ≡ Some s.tokens
whole_text s h = rw h refl

-- all of a text is tokens
record WholeText (s : Scanned) (ts : List Token) : Type 0 where
  stop : s.stop ≡ None
  tokens : s.tokens ≡ ts

text_whole : (s : Scanned) (ts : List Token) → if_whole s ≡ Some ts → WholeText s ts
text_whole s ts e = by_stop s.stop refl e where
  by_stop : (w : Option (Place × Flaw)) → s.stop ≡ w → elim w [ None ↦ Some s.tokens | Some f ↦ None ] ≡ Some ts → WholeText s ts
  by_stop None h e = record { stop = h; tokens = cc }
  by_stop (Some f) h e = absurd (cc)

pub unless_then : {P Q : Type 0} (f : ParseFault) → (P → Q) → Unless f P → Unless f Q
unless_then (faults.NoMemory e) h u = tt
unless_then f h u = h u

-- the place of the end counts only where all of the text is tokens
same_end : {X : Type 0} (ts : List Token) (stop : Option (Place × Flaw)) (a b : Place) (r : Result X Stop) → (stop ≡ None → a ≡ b) → verdict ts stop a r ≡ verdict ts stop b r
same_end ts None a b r h = ap (λ e. verdict ts None e r) (h refl)
same_end ts (Some w) a b (Ok x) h = refl
same_end ts (Some w) a b (Err (wrong k)) h = refl
same_end ts (Some w) a b (Err (deep k)) h = refl

-- the verdict on the tokens of a text is that on the text
pub judged_so : {X : Type 0} (all : List Token → Result X Stop) (bytes : List ℕ) (ts : List Token) (stop : Option (Place × Flaw)) (end : Place) → record { tokens = ts; stop = stop } ≡ scanned bytes → (stop ≡ None → end ≡ end_of bytes) → verdict ts stop end (all ts) ≡ judged_by all bytes
unfolding judged_by
judged_so all bytes ts stop end e h = same_end ts stop end (end_of bytes) (all ts) h ∙ ap (λ (s : Scanned). verdict s.tokens s.stop (end_of bytes) (all s.tokens)) e

module _ {X : Type 0} {S : List Token → X → Type 0} {F D : List Token → List Token → Type 0} {all : List Token → Result X Stop} where
  not_deep : DecidesAll S F D all → (ts : List Token) → ((k : ℕ) → all ts ≡ Err (deep k) → ⊥) → (i : ℕ) → D ts (drop (i + 1) ts) → ⊥
  not_deep law ts other i h = let s = law.sinks ts i h in other s.left s.is

  ok_reaches : DecidesAll S F D all → (ts : List Token) (x : X) → all ts ≡ Ok x → Reaches F D ts (length ts)
  ok_reaches law ts x e = record { front = law.whole ts x (law.found ts x e); shallow = λ j lt h. not_deep law ts (λ k q. ok_not_err x (deep k) (all ts) e q) j h }

  wrong_reaches : DecidesAll S F D all → (ts : List Token) (k : ℕ) → all ts ≡ Err (wrong k) → Reaches F D ts (length ts - k)
  wrong_reaches law ts k e = record { front = (law.stuck ts k e).1; shallow = λ j lt h. not_deep law ts (λ i q. wrong_not_deep k i (all ts) e q) j h }

  wrong_not : DecidesAll S F D all → (ts : List Token) (k : ℕ) → all ts ≡ Err (wrong k) → 1 ≤ k → F ts (drop (length ts - k + 1) ts) → ⊥
  wrong_not law ts k e some f = let h = law.reached ts (length ts - k + 1) k f e in let w = (law.stuck ts k e).0 in omega (arith, h, w, some)

  deep_first : DecidesAll S F D all → (ts : List Token) (k : ℕ) → all ts ≡ Err (deep k) → (j : ℕ) → j < length ts - k - 1 → D ts (drop (j + 1) ts) → ⊥
  deep_first law ts k e j lt h = let s = law.sinks ts j h in let far = s.far in let q = deep_one k s.left (all ts) e s.is in let w = (law.sunk ts k e).0 in omega (arith, far, q, lt, w)

  -- where reading stops there is the fault
  stuck_for : DecidesAll S F D all → (bytes : List ℕ) (k : ℕ) → all (scanned bytes).tokens ≡ Err (wrong k) → ExplainsText S F D bytes (stop_fault (scanned bytes).tokens (scanned bytes).stop (end_of bytes) (wrong k))
  stuck_for law bytes k e = by_left (eqb_tells k 0) where
    ts : List Token
    ts = (scanned bytes).tokens

    P : ParseFault → Type 0
    P g = ExplainsText S F D bytes g

    at_end : Reaches F D ts (length ts) → (w : Option (Place × Flaw)) → (scanned bytes).stop ≡ w → ExplainsText S F D bytes (end_fault w (end_of bytes))
    at_end h None s = ended s h (λ x g. ok_not_err x (wrong k) (all ts) (law.only ts x g) e)
    at_end h (Some w) s = flawed w.0 w.1 s h

    by_left : ((k == 0 ≡ true) × (k ≡ 0)) ⊎ ((k == 0 ≡ false) × (k ≡ 0 → ⊥)) → P (stop_fault ts (scanned bytes).stop (end_of bytes) (wrong k))
    by_left (inl z) =
        let q = z.1 in
        let n : length ts - k ≡ length ts = omega (arith, q) in
        subst P (sym (none_left ts (scanned bytes).stop (end_of bytes) k z.1)) (at_end (subst (λ i. Reaches F D ts i) n (wrong_reaches law ts k e)) (scanned bytes).stop refl)
    by_left (inr z) =
        let other : k ≡ 0 → ⊥ = z.1 in
        let some : 1 ≤ k = omega (arith, other) in
        let w = (law.stuck ts k e).0 in
        subst P (sym (some_left ts (scanned bytes).stop (end_of bytes) k z.1)) (unexpected (length ts - k) (omega (arith, some, w)) (wrong_reaches law ts k e) (wrong_not law ts k e some))

  sunk_for : DecidesAll S F D all → (bytes : List ℕ) (k : ℕ) → all (scanned bytes).tokens ≡ Err (deep k) → ExplainsText S F D bytes (stop_fault (scanned bytes).tokens (scanned bytes).stop (end_of bytes) (deep k))
  sunk_for law bytes k e =
      let ts = (scanned bytes).tokens in
      let h = law.sunk ts k e in
      let w = h.0 in
      too_deep (length ts - k - 1) (omega (arith, w)) h.1 (λ j lt g. deep_first law ts k e j lt g)

  -- what is refused has the fault
  pub refused_law : DecidesAll S F D all → (bytes : List ℕ) (f : ParseFault) → judged_by all bytes ≡ Err f → ExplainsText S F D bytes f
  unfolding judged_by
  refused_law law bytes f v = known (all (scanned bytes).tokens) refl v where
    P : ParseFault → Type 0
    P f = ExplainsText S F D bytes f

    at_end : (x : X) → all (scanned bytes).tokens ≡ Ok x → (w : Option (Place × Flaw)) → (scanned bytes).stop ≡ w → at_stop w x ≡ Err f → P f
    at_end x e None s v = absurd (ok_not_err x f _ refl v)
    at_end x e (Some w) s v = subst P (err_same (fault_of w.0 w.1) f _ refl v) (flawed w.0 w.1 s (ok_reaches law (scanned bytes).tokens x e))

    known : (r : Result X Stop) → all (scanned bytes).tokens ≡ r → verdict (scanned bytes).tokens (scanned bytes).stop (end_of bytes) r ≡ Err f → P f
    known (Ok x) e v = at_end x e (scanned bytes).stop refl v
    known (Err (wrong k)) e v = subst P (err_same (stop_fault (scanned bytes).tokens (scanned bytes).stop (end_of bytes) (wrong k)) f _ refl v) (stuck_for law bytes k e)
    known (Err (deep k)) e v = subst P (err_same (stop_fault (scanned bytes).tokens (scanned bytes).stop (end_of bytes) (deep k)) f _ refl v) (sunk_for law bytes k e)

  -- what is answered is spelled by the text
  pub found_law : DecidesAll S F D all → (bytes : List ℕ) (x : X) → judged_by all bytes ≡ Ok x → SpellsText S bytes x
  unfolding judged_by
  found_law law bytes x v = known (all (scanned bytes).tokens) refl v where
    ts : List Token
    ts = (scanned bytes).tokens

    at_end : (y : X) → all ts ≡ Ok y → (w : Option (Place × Flaw)) → (scanned bytes).stop ≡ w → at_stop w y ≡ Ok x → SpellsText S bytes x
    at_end y e None s v = record { tokens = ts; scanned = whole_text (scanned bytes) s; spelled = subst (λ z. S ts z) (ok_same y x _ refl v) (law.found ts y e) }
    at_end y e (Some w) s v = absurd (ok_not_err x (fault_of w.0 w.1) _ v refl)

    known : (r : Result X Stop) → all ts ≡ r → verdict ts (scanned bytes).stop (end_of bytes) r ≡ Ok x → SpellsText S bytes x
    known (Ok y) e v = at_end y e (scanned bytes).stop refl v
    known (Err s) e v = absurd (ok_not_err x _ _ v refl)

  -- what the text spells is answered
  pub only_law : DecidesAll S F D all → (bytes : List ℕ) (x : X) → SpellsText S bytes x → judged_by all bytes ≡ Ok x
  unfolding judged_by
  only_law law bytes x s =
      let w = text_whole (scanned bytes) s.tokens s.scanned in
      let ts = (scanned bytes).tokens in
      ap (λ r. verdict ts (scanned bytes).stop (end_of bytes) r) (law.only ts x (subst (λ us. S us x) (sym w.tokens) s.spelled)) ∙ ap (λ (q : Option (Place × Flaw)). at_stop q x) w.stop

  -- a text spells at most one
  pub one_law : DecidesAll S F D all → (bytes : List ℕ) (x y : X) → SpellsText S bytes x → SpellsText S bytes y → x ≡ y
  one_law law bytes x y a b = ok_same x y (judged_by all bytes) (only_law law bytes x a) (only_law law bytes y b)

  -- all tokens that are a front and get nowhere too deep are read to their end
  read_all : DecidesAll S F D all → (ts : List Token) → Reaches F D ts (length ts) → (stop : Option (Place × Flaw)) (end : Place) → ((x : X) → all ts ≡ Ok x → at_stop stop x ≡ Err (end_fault stop end)) → verdict ts stop end (all ts) ≡ Err (end_fault stop end)
  read_all law ts h stop end found = known (all ts) refl where
    known : (r : Result X Stop) → all ts ≡ r → verdict ts stop end r ≡ Err (end_fault stop end)
    known (Ok x) e = found x e
    known (Err (deep k)) e = let d = law.sunk ts k e in let w = d.0 in absurd (h.shallow (length ts - k - 1) (omega (arith, w)) d.1)
    known (Err (wrong k)) e = let r = law.reached ts (length ts) k h.front e in ap Err (none_left ts stop end k (omega (arith, r)))

  -- at the first token that cannot stand there reading stops
  unexpected_by : DecidesAll S F D all → (ts : List Token) (stop : Option (Place × Flaw)) (end : Place) (i : ℕ) → i < length ts → Reaches F D ts i → (F ts (drop (i + 1) ts) → ⊥) → verdict ts stop end (all ts) ≡ Err (faults.Unexpected (place_at ts i))
  unexpected_by law ts stop end i lt h none = known (all ts) refl where
    not_here : (j : ℕ) → D ts (drop (j + 1) ts) → ⊥
    not_here j d = elim (cases_lt j i) [
      | inl l ↦ h.shallow j l d
      | inr g ↦ none (law.prefix ts (i + 1) (j + 1) (omega (arith, g)) (law.deep_front ts j d))
    ]

    not_more : (k : ℕ) → all ts ≡ Err (wrong k) → length ts - k ≤ i
    not_more k e = elim (cases_lt i (length ts - k)) [
      | inl l ↦ absurd (none (law.prefix ts (i + 1) (length ts - k) (omega (arith, l)) (law.stuck ts k e).1))
      | inr g ↦ g
    ]

    known : (r : Result X Stop) → all ts ≡ r → verdict ts stop end r ≡ Err (faults.Unexpected (place_at ts i))
    known (Ok x) e = absurd (none (law.prefix ts (i + 1) (length ts) (omega (arith, lt)) (law.whole ts x (law.found ts x e))))
    known (Err (deep k)) e = absurd (not_here (length ts - k - 1) (law.sunk ts k e).1)
    known (Err (wrong k)) e =
        let r = law.reached ts i k h.front e in
        let w = (law.stuck ts k e).0 in
        let far = not_more k e in
        let n : length ts - k ≡ i = omega (arith, r, far, w, lt) in
        let some : k ≡ 0 → ⊥ = λ z. omega (arith, far, lt, z) in
        ap Err (some_left ts stop end k some ∙ ap (λ j. faults.Unexpected (place_at ts j)) n)

  -- what has a fault is refused for it
  explained_by : DecidesAll S F D all → (bytes : List ℕ) {f : ParseFault} → ExplainsText S F D bytes f → judged_by all bytes ≡ Err f
  unfolding judged_by
  explained_by law bytes (flawed p w s h) = flawed_by (scanned bytes).stop s where
    flawed_by : (q : Option (Place × Flaw)) → q ≡ Some (p, w) → verdict (scanned bytes).tokens q (end_of bytes) (all (scanned bytes).tokens) ≡ Err (fault_of p w)
    flawed_by None s = absurd (cc)
    flawed_by (Some v) s = read_all law (scanned bytes).tokens h (Some v) (end_of bytes) (λ x e. refl) ∙ ap (λ (q : Place × Flaw). Err (fault_of q.0 q.1)) (cc)
  explained_by law bytes (ended s h none) = ended_by (scanned bytes).stop s where
    ended_by : (q : Option (Place × Flaw)) → q ≡ None → verdict (scanned bytes).tokens q (end_of bytes) (all (scanned bytes).tokens) ≡ Err (faults.End (end_of bytes))
    ended_by None s = read_all law (scanned bytes).tokens h None (end_of bytes) (λ x e. absurd (none x (law.found (scanned bytes).tokens x e)))
    ended_by (Some v) s = absurd (cc)
  explained_by law bytes (unexpected i lt h none) = unexpected_by law (scanned bytes).tokens (scanned bytes).stop (end_of bytes) i lt h none
  explained_by law bytes (too_deep i lt d first) =
      let ts = (scanned bytes).tokens in
      let s = law.sinks ts i d in
      let h = law.sunk ts s.left s.is in
      let w = h.0 in
      let far = s.far in
      let near : (length ts - s.left - 1 < i → ⊥) = λ l. first (length ts - s.left - 1) l h.1 in
      let n : length ts - s.left - 1 ≡ i = omega (arith, near, far, w, lt) in
      ap (λ r. verdict ts (scanned bytes).stop (end_of bytes) r) s.is ∙ ap (λ j. Err (faults.Deep (place_at ts j))) n

  pub explained_law : DecidesAll S F D all → (bytes : List ℕ) (f : ParseFault) → ExplainsText S F D bytes f → judged_by all bytes ≡ Err f
  explained_law law bytes f h = explained_by law bytes h

  -- what a call that gives the verdict, seen by view, answers
  pub answers_only : {Z : Type 0} (view : Z → X) (r : Result Z ParseFault) → DecidesAll S F D all → (bytes : List ℕ) → Answers view r (judged_by all bytes) → (x : X) → SpellsText S bytes x → Answers view r (Ok x)
  answers_only view r law bytes h x s = let P : Result X ParseFault → Type 0 = λ w. Answers view r w in subst P (only_law law bytes x s) h

  pub answers_found : {Z : Type 0} (view : Z → X) (r : Result Z ParseFault) → DecidesAll S F D all → (bytes : List ℕ) → Answers view r (judged_by all bytes) → IfOk r (λ z. SpellsText S bytes (view z))
  answers_found view (Ok z) law bytes h = found_law law bytes (view z) h
  answers_found view (Err f) law bytes h = tt

  pub answers_refused : {Z : Type 0} (view : Z → X) (r : Result Z ParseFault) → DecidesAll S F D all → (bytes : List ℕ) → Answers view r (judged_by all bytes) → IfErr r (λ f. Unless f (ExplainsText S F D bytes f))
  answers_refused view (Ok z) law bytes h = tt
  answers_refused view (Err f) law bytes h = unless_then f (refused_law law bytes f) h

  pub answers_cause : {Z : Type 0} (view : Z → X) (r : Result Z ParseFault) → DecidesAll S F D all → (bytes : List ℕ) → Answers view r (judged_by all bytes) → (f : ParseFault) → ExplainsText S F D bytes f → Answers view r (Err f)
  answers_cause view r law bytes h f g = let P : Result X ParseFault → Type 0 = λ w. Answers view r w in subst P (explained_law law bytes f g) h
