-- The judgement of an expression, and what a body stands for, are by what its names stand for.
use Rattle.std.proofs.Common.{◌≡◌, ℕ, Bool, List, [], ◌∷◌, ◌++◌, ◌||◌, refl, ap, ◌∙◌}
use Rattle.std.specs.Prelude.{Contains}
use Rattle.std.specs.List.{list_any}
use Rattle.std.proofs.lemmas.List.Elements.{Contains-append_left, Contains-append_right}
use Rattle.smv_tree.specs.Trees.{Tree, Trees, Arms, truth, number, word, name, span, set, cases, choice, one, two, select, next, widen, const, count, no_trees, tree, no_arms, arm}
use Rattle.smv_meaning.specs.Definitions.{names_in, names_in_all, names_in_arms}
use Rattle.smv_meaning.proofs.Lists.{contains_only, contains_first, contains_later}
use Rattle.smv_typing.specs.declared.scope.Scope.{Scope}
use Rattle.smv_typing.specs.declared.standing.Standing.{Standing}
use Rattle.smv_typing.specs.Judging.{both, over, named, within_next, pair, before, arm_before, one_at, two_at, select_at, next_at, widen_at, set_at, count_at, cases_at, choice_at, judged, all_judged, arms_judged}
use Rattle.smv_typing.specs.Uses.{of_definition}
use Rattle.smv_types.specs.Standings.{has_input, typed_body, body_standing}

same_any : (f g : List (List ℕ) → Bool) (paths : List (List (List ℕ))) → ((names : List (List ℕ)) → Contains paths names → f names ≡ g names) → list_any f paths ≡ list_any g paths
same_any f g [] h = refl
same_any f g (p ∷ ps) h =
    let here : f p ≡ g p = h p (contains_first p ps) in
    let rest : list_any f ps ≡ list_any g ps = same_any f g ps (λ q c. h q (contains_later p ps q c)) in
    ap (λ b. b || list_any f ps) here ∙ ap (λ b. g p || b) rest

module _ (a b : List (List ℕ) → Standing) where
  -- names stand for the same
  abbrev pub Agree : List (List (List ℕ)) → Type 0
  Agree paths = (names : List (List ℕ)) → Contains paths names → a names ≡ b names

  left_part : (front back : List (List (List ℕ))) → Agree (front ++ back) → Agree front
  left_part front back h names c = h names (Contains-append_left front back names c)

  right_part : (front back : List (List (List ℕ))) → Agree (front ++ back) → Agree back
  right_part front back h names c = h names (Contains-append_right front back names c)

  mutual
    unfolding judged

    pub same_judged : (s : Scope) (e : Tree) → Agree (names_in e) → judged a s e ≡ judged b s e
    same_judged s (truth p v) h = refl
    same_judged s (number p n) h = refl
    same_judged s (word p w) h = refl
    same_judged s (name p path) h = ap (named s p path) (h path (contains_only path))
    same_judged s (span p low high) h = refl
    same_judged s (set p es) h = ap (over (set_at p)) (same_all s es h)
    same_judged s (cases p bs) h = ap (over (cases_at p)) (same_arms s bs h)
    same_judged s (choice p c x y) h =
        let i : judged a s c ≡ judged b s c = same_judged s c (left_part (names_in c) _ h) in
        let r = right_part (names_in c) _ h in
        let j : judged a s x ≡ judged b s x = same_judged s x (left_part (names_in x) _ r) in
        let k : judged a s y ≡ judged b s y = same_judged s y (right_part (names_in x) _ r) in
        ap (over (choice_at p)) (ap (λ u. both pair u (both pair (judged a s x) (judged a s y))) i
        ∙ ap (both pair (judged b s c)) (ap (λ u. both pair u (judged a s y)) j ∙ ap (both pair (judged b s x)) k))
    same_judged s (one p o x) h = ap (over (one_at p o)) (same_judged s x h)
    same_judged s (two p o x y) h =
        let j : judged a s x ≡ judged b s x = same_judged s x (left_part (names_in x) _ h) in
        let k : judged a s y ≡ judged b s y = same_judged s y (right_part (names_in x) _ h) in
        ap (over (two_at p o)) (ap (λ u. both pair u (judged a s y)) j ∙ ap (both pair (judged b s x)) k)
    same_judged s (select p x high low) h = ap (over (select_at p high low)) (same_judged s x h)
    same_judged s (next p x) h = ap (over (next_at s p)) (same_judged (within_next s) x h)
    same_judged s (widen p resize x n) h = ap (over (widen_at p resize n)) (same_judged s x h)
    same_judged s (const p signed v n) h = refl
    same_judged s (count p es) h = ap (over (count_at p)) (same_all s es h)

    same_all : (s : Scope) (es : Trees) → Agree (names_in_all es) → all_judged a s es ≡ all_judged b s es
    same_all s no_trees h = refl
    same_all s (tree e es) h =
        let j : judged a s e ≡ judged b s e = same_judged s e (left_part (names_in e) _ h) in
        let k : all_judged a s es ≡ all_judged b s es = same_all s es (right_part (names_in e) _ h) in
        ap (λ u. both before u (all_judged a s es)) j ∙ ap (both before (judged b s e)) k

    same_arms : (s : Scope) (bs : Arms) → Agree (names_in_arms bs) → arms_judged a s bs ≡ arms_judged b s bs
    same_arms s no_arms h = refl
    same_arms s (arm c x bs) h =
        let i : judged a s c ≡ judged b s c = same_judged s c (left_part (names_in c) _ h) in
        let r = right_part (names_in c) _ h in
        let j : judged a s x ≡ judged b s x = same_judged s x (left_part (names_in x) _ r) in
        let k : arms_judged a s bs ≡ arms_judged b s bs = same_arms s bs (right_part (names_in x) _ r) in
        ap (λ u. both arm_before u (arms_judged a s bs)) (ap (λ u. both pair u (judged a s x)) i ∙ ap (both pair (judged b s c)) j)
        ∙ ap (both arm_before (both pair (judged b s c) (judged b s x))) k

  pub same_body : (e : Tree) → Agree (names_in e) → body_standing a e ≡ body_standing b e
  unfolding body_standing
  same_body e h =
      ap (λ input. typed_body input (judged a of_definition e)) (same_any (λ n. has_input (a n)) (λ n. has_input (b n)) (names_in e) (λ n c. ap has_input (h n c)))
      ∙ ap (typed_body (list_any (λ n. has_input (b n)) (names_in e))) (same_judged of_definition e h)
