-- An expression is well exactly where it has a type by the rules.
use Rattle.std.proofs.Common.{◌≡◌, ℕ, Bool, true, false, List, [], ◌∷◌, refl, ap, sym, ◌∙◌, subst}
use Rattle.std.specs.Prelude.{Result, Ok, Err, if◌then◌else◌}
use Rattle.smv_tree.specs.declared.place.Place.{Place}
use Rattle.smv_tree.specs.Trees.{Tree, Trees, Arms, truth, number, word, name, span, set, cases, choice, one, two, select, next, widen, const, count, no_trees, tree, no_arms, arm}
use Rattle.smv_kinds.specs.declared.typing.Typing.{Typing}
use Rattle.smv_kinds.specs.declared.typing.NodeFault.{NodeFault}
use Rattle.smv_kinds.specs.declared.typing.NodeFault.TheVariants as node
use Rattle.smv_kinds.specs.Results.{node_of, given}
use Rattle.smv_kinds.specs.Operators.{one_typing, two_typing}
use Rattle.smv_kinds.specs.Nodes.{number_typing, word_typing, span_typing, select_typing, widen_typing, const_typing, set_typing, count_typing, cases_typing}
use Rattle.type_fault.specs.declared.fault.TypeFault.TheVariants as faults
use Rattle.smv_typing.specs.declared.scope.Scope.{Scope}
use Rattle.smv_typing.specs.declared.standing.Standing.{Standing}
use Rattle.smv_typing.specs.declared.standing.Standing.TheVariants.{Typed, Faulty}
use Rattle.smv_typing.specs.Judging.{Judgement, both, over, at, named, within_next, pair, before, arm_before, one_at, two_at, select_at, next_at, widen_at, set_at, count_at, cases_at, choice_at, judged, all_judged, arms_judged}
use Rattle.smv_typing.specs.Rules.{HasType, has_truth, has_number, has_word, has_plain_name, has_input_name, has_span, has_set, has_cases, has_choice, has_one, has_two, has_select, has_next, has_widen, has_const, has_count, HaveTypes, have_none, have_more, ArmsHaveTypes, arms_none, arms_more}

-- what is well is one thing
abbrev the_ok : {A : Type 0} → A → Judgement A → A
the_ok d (Ok a) = a
the_ok d (Err fs) = d

abbrev ok_of : {A : Type 0} → A → Judgement A
ok_of a = Ok a

ok_same : {A : Type 0} (a b : A) → ok_of a ≡ Ok b → a ≡ b
ok_same a b h = ap (the_ok a) h

over_ok : {A B : Type 0} (f : A → Judgement B) (x : Judgement A) (a : A) {r : Judgement B} → x ≡ Ok a → f a ≡ r → over f x ≡ r
unfolding over
over_ok f x a h k = ap (over f) h ∙ k

both_ok : {A B C : Type 0} (f : A → B → C) (x : Judgement A) (y : Judgement B) (a : A) (b : B) → x ≡ Ok a → y ≡ Ok b → both f x y ≡ Ok (f a b)
unfolding both
both_ok f x y a b h k = ap (λ u. both f u y) h ∙ ap (both f (Ok a)) k

-- and back
record Over {A B : Type 0} (f : A → Judgement B) (x : Judgement A) (b : B) : Type 0 where
  parts : A
  are : x ≡ Ok parts
  give : f parts ≡ Ok b

over_some : {A B : Type 0} (f : A → Judgement B) (x : Judgement A) (b : B) → over f x ≡ Ok b → Over f x b
unfolding over
over_some f (Ok a) b h = record { parts = a; are = refl; give = h }
over_some f (Err fs) b h = absurd (cc)

record Both {A B C : Type 0} (f : A → B → C) (x : Judgement A) (y : Judgement B) (c : C) : Type 0 where
  left : A
  right : B
  left_is : x ≡ Ok left
  right_is : y ≡ Ok right
  give : f left right ≡ c

both_some : {A B C : Type 0} (f : A → B → C) (x : Judgement A) (y : Judgement B) (c : C) → both f x y ≡ Ok c → Both f x y c
unfolding both
both_some f (Ok a) (Ok b) c h = record { left = a; right = b; left_is = refl; right_is = refl; give = ok_same (f a b) c h }
both_some f (Ok a) (Err gs) c h = absurd (cc)
both_some f (Err fs) (Ok b) c h = absurd (cc)
both_some f (Err fs) (Err gs) c h = absurd (cc)

pair_left : {A B : Type 0} (x : Judgement A) (y : Judgement B) (c : A × B) → both pair x y ≡ Ok c → x ≡ Ok c.0
pair_left x y c h = let b = both_some pair x y c h in b.left_is ∙ ap (λ q. Ok q.0) b.give

pair_right : {A B : Type 0} (x : Judgement A) (y : Judgement B) (c : A × B) → both pair x y ≡ Ok c → y ≡ Ok c.1
pair_right x y c h = let b = both_some pair x y c h in b.right_is ∙ ap (λ q. Ok q.1) b.give

at_ok : (p : Place) (r : Result Typing NodeFault) (t : Typing) → at p r ≡ Ok t → r ≡ Ok t
at_ok p (Ok u) t h = ap Ok (ok_same u t h)
at_ok p (Err f) t h = absurd (cc)

-- `next`, by whether its operand is a set, and whether it may stand
next_ok : (p : Place) (b n : Bool) (r : Result Typing NodeFault) (t : Typing) → n ≡ true → (if b then Err node.SetHere else r) ≡ Ok t → (if b then Err (faults.SetHere p ∷ []) else (if n then at p (if b then Err node.SetHere else r) else Err (faults.NextHere p ∷ []))) ≡ Ok t
next_ok p true n r t e h = absurd (cc)
next_ok p false true r t e h = ap (at p) h
next_ok p false false r t e h = absurd (cc)

next_some : (p : Place) (b n : Bool) (r : Result Typing NodeFault) (t : Typing) → (if b then Err (faults.SetHere p ∷ []) else (if n then at p (if b then Err node.SetHere else r) else Err (faults.NextHere p ∷ []))) ≡ Ok t → (n ≡ true) × ((if b then Err node.SetHere else r) ≡ Ok t)
next_some p true n r t h = absurd (cc)
next_some p false true r t h = (refl, at_ok p r t h)
next_some p false false r t h = absurd (cc)

module _ (names : List (List ℕ) → Standing) where
  mutual
    unfolding judged

    pub rules_hold : {scope : Scope} {e : Tree} {t : Typing} → HasType names scope e t → judged names scope e ≡ Ok t
    rules_hold (has_truth s p b) = refl
    rules_hold (has_number s p n t h) = ap (at p) h
    rules_hold (has_word s p w t h) = ap (at p) h
    rules_hold (has_plain_name s p path t h) = ap (named s p path) h
    rules_hold (has_input_name s p path t h k) = ap (named s p path) h ∙ ap (λ b. if b then Ok t else Err (faults.InputHere p path ∷ [])) k
    rules_hold (has_span s p low high t h) = ap (at p) h
    rules_hold (has_set s p es ts t hs h) = over_ok (set_at p) (all_judged names s es) ts (rules_hold_all hs) (ap (at p) h)
    rules_hold (has_cases s p bs ts us t hs h) = over_ok (cases_at p) (arms_judged names s bs) (ts, us) (rules_hold_arms hs) (ap (at p) h)
    rules_hold (has_choice s p c a b u v w t hc ha hb h) =
        over_ok (choice_at p) (both pair (judged names s c) (both pair (judged names s a) (judged names s b))) (u, (v, w))
        (both_ok pair (judged names s c) (both pair (judged names s a) (judged names s b)) u (v, w) (rules_hold hc)
        (both_ok pair (judged names s a) (judged names s b) v w (rules_hold ha) (rules_hold hb)))
        (ap (at p) h)
    rules_hold (has_one s p o a u t ha h) = over_ok (one_at p o) (judged names s a) u (rules_hold ha) (ap (at p) h)
    rules_hold (has_two s p o a b u v t ha hb h) =
        over_ok (two_at p o) (both pair (judged names s a) (judged names s b)) (u, v)
        (both_ok pair (judged names s a) (judged names s b) u v (rules_hold ha) (rules_hold hb))
        (ap (at p) h)
    rules_hold (has_select s p a high low u t ha h) = over_ok (select_at p high low) (judged names s a) u (rules_hold ha) (ap (at p) h)
    rules_hold (has_next s p a u t ha k h) =
        over_ok (next_at s p) (judged names (within_next s) a) u (rules_hold ha) (next_ok p u.is_set s.next (node_of false (given u.sort)) t k h)
    rules_hold (has_widen s p resize a n u t ha h) = over_ok (widen_at p resize n) (judged names s a) u (rules_hold ha) (ap (at p) h)
    rules_hold (has_const s p signed v n t h) = ap (at p) h
    rules_hold (has_count s p es ts t hs h) = over_ok (count_at p) (all_judged names s es) ts (rules_hold_all hs) (ap (at p) h)

    rules_hold_all : {s : Scope} {es : Trees} {ts : List Typing} → HaveTypes names s es ts → all_judged names s es ≡ Ok ts
    rules_hold_all (have_none s) = refl
    rules_hold_all (have_more s e es t ts h hs) = both_ok before (judged names s e) (all_judged names s es) t ts (rules_hold h) (rules_hold_all hs)

    rules_hold_arms : {s : Scope} {bs : Arms} {ts us : List Typing} → ArmsHaveTypes names s bs ts us → arms_judged names s bs ≡ Ok (ts, us)
    rules_hold_arms (arms_none s) = refl
    rules_hold_arms (arms_more s c a bs t u ts us hc ha hs) =
        both_ok arm_before (both pair (judged names s c) (judged names s a)) (arms_judged names s bs) (t, u) (ts, us)
        (both_ok pair (judged names s c) (judged names s a) t u (rules_hold hc) (rules_hold ha))
        (rules_hold_arms hs)

  -- a name that is well
  input_found : (s : Scope) (p : Place) (path : List (List ℕ)) (t u : Typing) (b : Bool) → names path ≡ Typed u true → s.inputs ≡ b → (if b then Ok u else Err (faults.InputHere p path ∷ [])) ≡ Ok t → HasType names s (name p path) t
  input_found s p path t u true e k h = has_input_name s p path t (e ∙ ap (λ v. Typed v true) (ok_same u t h)) k
  input_found s p path t u false e k h = absurd (cc)

  name_found : (s : Scope) (p : Place) (path : List (List ℕ)) (t : Typing) (x : Standing) → names path ≡ x → named s p path x ≡ Ok t → HasType names s (name p path) t
  name_found s p path t (Typed u false) e h = has_plain_name s p path t (e ∙ ap (λ v. Typed v false) (ok_same u t h))
  name_found s p path t (Typed u true) e h = input_found s p path t u s.inputs e refl h
  name_found s p path t Faulty e h = absurd (cc)

  mutual
    unfolding judged

    pub rules_found : (s : Scope) (e : Tree) (t : Typing) → judged names s e ≡ Ok t → HasType names s e t
    rules_found s (truth p b) t h = subst (HasType names s (truth p b)) (ok_same _ t h) (has_truth s p b)
    rules_found s (number p n) t h = has_number s p n t (at_ok p (number_typing n) t h)
    rules_found s (word p w) t h = has_word s p w t (at_ok p (word_typing w) t h)
    rules_found s (name p path) t h = name_found s p path t (names path) refl h
    rules_found s (span p low high) t h = has_span s p low high t (at_ok p (span_typing low high) t h)
    rules_found s (set p es) t h =
        let x = over_some (set_at p) (all_judged names s es) t h in
        has_set s p es x.parts t (rules_found_all s es x.parts x.are) (at_ok p (set_typing x.parts) t x.give)
    rules_found s (cases p bs) t h =
        let x = over_some (cases_at p) (arms_judged names s bs) t h in
        has_cases s p bs x.parts.0 x.parts.1 t (rules_found_arms s bs x.parts x.are) (at_ok p (cases_typing x.parts.0 x.parts.1) t x.give)
    rules_found s (choice p c a b) t h =
        let l = judged names s a in
        let r = judged names s b in
        let x = over_some (choice_at p) (both pair (judged names s c) (both pair l r)) t h in
        let y : both pair l r ≡ Ok x.parts.1 = pair_right (judged names s c) (both pair l r) x.parts x.are in
        has_choice s p c a b x.parts.0 x.parts.1.0 x.parts.1.1 t
        (rules_found s c x.parts.0 (pair_left (judged names s c) (both pair l r) x.parts x.are))
        (rules_found s a x.parts.1.0 (pair_left l r x.parts.1 y))
        (rules_found s b x.parts.1.1 (pair_right l r x.parts.1 y))
        (at_ok p (cases_typing (x.parts.0 ∷ []) (x.parts.1.0 ∷ x.parts.1.1 ∷ [])) t x.give)
    rules_found s (one p o a) t h =
        let x = over_some (one_at p o) (judged names s a) t h in
        has_one s p o a x.parts t (rules_found s a x.parts x.are) (at_ok p (one_typing o x.parts) t x.give)
    rules_found s (two p o a b) t h =
        let l = judged names s a in
        let r = judged names s b in
        let x = over_some (two_at p o) (both pair l r) t h in
        has_two s p o a b x.parts.0 x.parts.1 t
        (rules_found s a x.parts.0 (pair_left l r x.parts x.are))
        (rules_found s b x.parts.1 (pair_right l r x.parts x.are))
        (at_ok p (two_typing o x.parts.0 x.parts.1) t x.give)
    rules_found s (select p a high low) t h =
        let x = over_some (select_at p high low) (judged names s a) t h in
        has_select s p a high low x.parts t (rules_found s a x.parts x.are) (at_ok p (select_typing high low x.parts) t x.give)
    rules_found s (next p a) t h =
        let x = over_some (next_at s p) (judged names (within_next s) a) t h in
        let y = next_some p x.parts.is_set s.next (node_of false (given x.parts.sort)) t x.give in
        has_next s p a x.parts t (rules_found (within_next s) a x.parts x.are) y.0 y.1
    rules_found s (widen p resize a n) t h =
        let x = over_some (widen_at p resize n) (judged names s a) t h in
        has_widen s p resize a n x.parts t (rules_found s a x.parts x.are) (at_ok p (widen_typing resize n x.parts) t x.give)
    rules_found s (const p signed v n) t h = has_const s p signed v n t (at_ok p (const_typing signed n) t h)
    rules_found s (count p es) t h =
        let x = over_some (count_at p) (all_judged names s es) t h in
        has_count s p es x.parts t (rules_found_all s es x.parts x.are) (at_ok p (count_typing x.parts) t x.give)

    rules_found_all : (s : Scope) (es : Trees) (ts : List Typing) → all_judged names s es ≡ Ok ts → HaveTypes names s es ts
    rules_found_all s no_trees ts h = subst (HaveTypes names s no_trees) (ok_same [] ts h) (have_none s)
    rules_found_all s (tree e es) ts h =
        let x = both_some before (judged names s e) (all_judged names s es) ts h in
        subst (HaveTypes names s (tree e es)) x.give (have_more s e es x.left x.right (rules_found s e x.left x.left_is) (rules_found_all s es x.right x.right_is))

    rules_found_arms : (s : Scope) (bs : Arms) (r : List Typing × List Typing) → arms_judged names s bs ≡ Ok r → ArmsHaveTypes names s bs r.0 r.1
    rules_found_arms s no_arms r h = subst (λ (q : List Typing × List Typing). ArmsHaveTypes names s no_arms q.0 q.1) (ok_same ([], []) r h) (arms_none s)
    rules_found_arms s (arm c a bs) r h =
        let l = judged names s c in
        let v = judged names s a in
        let x = both_some arm_before (both pair l v) (arms_judged names s bs) r h in
        subst (λ (q : List Typing × List Typing). ArmsHaveTypes names s (arm c a bs) q.0 q.1) x.give
        (arms_more s c a bs x.left.0 x.left.1 x.right.0 x.right.1
        (rules_found s c x.left.0 (pair_left l v x.left x.left_is))
        (rules_found s a x.left.1 (pair_right l v x.left x.left_is))
        (rules_found_arms s bs x.right x.right_is))

  -- an expression has one type
  pub one_type : (s : Scope) (e : Tree) (t u : Typing) → HasType names s e t → HasType names s e u → t ≡ u
  one_type s e t u h k = ok_same t u (sym (rules_hold h) ∙ rules_hold k)
