-- What fits a flat expression has its values, and names only what its names refer to.
use Rattle.std.proofs.Common.{◌≡◌, ℕ, List, [], ◌++◌, refl, ap, subst, inl, inr}
use Rattle.std.specs.Prelude.{Contains}
use Rattle.std.proofs.lemmas.List.Elements.{Contains-append_cases}
use Rattle.smv_tree.specs.Trees.{Tree, Trees, Arms}
use Rattle.smv_tree.specs.Models.{Body}
use Rattle.smv_meaning.specs.Operators.{one_value, selected, widened, counted}
use Rattle.smv_meaning.specs.Values.{Naming, values, all_values, each_values, first_values, on_one}
use Rattle.smv_meaning.specs.Definitions.{Definition, names_in, names_in_all, names_in_arms}
use Rattle.smv_meaning.specs.FlatTrees.{FlatName, Flat, Flats, FlatArms, Numbers, name_values, eval, all_eval, each_eval, first_eval}
use Rattle.smv_meaning.specs.FlatLines.{Refers, Fits, FitAll, FitArms, fits_truth, fits_number, fits_word, fits_name, fits_span, fits_set, fits_cases, fits_choice, fits_one, fits_two, fits_select, fits_next, fits_widen, fits_const, fits_count, fit_none, fit_more, fit_no_arm, fit_arm}
use Rattle.smv_meaning.proofs.Lists.{only_contained, contains_none}

module _ (program : List Body) (defs : List Definition) (up : List (List ℕ)) where
  -- numbers give each flat name the values of the paths of names that refer to it
  abbrev pub Tells : Naming → Numbers → Type 0
  Tells now n = (names : List (List ℕ)) (x : FlatName) → Refers program defs up names x → now up names ≡ name_values n x

  mutual
    pub fits_eval : (a b : Naming) (m n : Numbers) → Tells a m → Tells b n → (e : Tree) (f : Flat) → Fits program defs up e f → values a b up e ≡ eval m n f
    fits_eval a b m n h k _ _ (fits_truth p q v) = refl
    fits_eval a b m n h k _ _ (fits_number p q v) = refl
    fits_eval a b m n h k _ _ (fits_word p q w) = refl
    fits_eval a b m n h k _ _ (fits_name p q names x r) = h names x r
    fits_eval a b m n h k _ _ (fits_span p q low high) = refl
    fits_eval a b m n h k _ _ (fits_set p q es fs t) = fits_all_eval a b m n h k es fs t
    fits_eval a b m n h k _ _ (fits_cases p q bs cs t) = fits_first_eval a b m n h k bs cs t
    fits_eval a b m n h k _ _ (fits_choice p q c d e x y z t u v) =
        let i : values a b up c ≡ eval m n x = fits_eval a b m n h k c x t in
        let j : values a b up d ≡ eval m n y = fits_eval a b m n h k d y u in
        let l : values a b up e ≡ eval m n z = fits_eval a b m n h k e z v in
        cc
    fits_eval a b m n h k _ _ (fits_one p q o e x t) = ap (on_one (one_value o)) (fits_eval a b m n h k e x t)
    fits_eval a b m n h k _ _ (fits_two p q o c d x y t u) =
        let i : values a b up c ≡ eval m n x = fits_eval a b m n h k c x t in
        let j : values a b up d ≡ eval m n y = fits_eval a b m n h k d y u in
        cc
    fits_eval a b m n h k _ _ (fits_select p q e x high low t) = ap (on_one (selected high low)) (fits_eval a b m n h k e x t)
    fits_eval a b m n h k _ _ (fits_next p q e x t) = fits_eval b b n n k k e x t
    fits_eval a b m n h k _ _ (fits_widen p q resize e x w t) = ap (on_one (widened resize w)) (fits_eval a b m n h k e x t)
    fits_eval a b m n h k _ _ (fits_const p q signed v w) = refl
    fits_eval a b m n h k _ _ (fits_count p q es fs t) = ap (counted 0) (fits_each_eval a b m n h k es fs t)

    fits_all_eval : (a b : Naming) (m n : Numbers) → Tells a m → Tells b n → (es : Trees) (fs : Flats) → FitAll program defs up es fs → all_values a b up es ≡ all_eval m n fs
    fits_all_eval a b m n h k _ _ fit_none = refl
    fits_all_eval a b m n h k _ _ (fit_more e es f fs t u) =
        let i : values a b up e ≡ eval m n f = fits_eval a b m n h k e f t in
        let j : all_values a b up es ≡ all_eval m n fs = fits_all_eval a b m n h k es fs u in
        cc

    fits_each_eval : (a b : Naming) (m n : Numbers) → Tells a m → Tells b n → (es : Trees) (fs : Flats) → FitAll program defs up es fs → each_values a b up es ≡ each_eval m n fs
    fits_each_eval a b m n h k _ _ fit_none = refl
    fits_each_eval a b m n h k _ _ (fit_more e es f fs t u) =
        let i : values a b up e ≡ eval m n f = fits_eval a b m n h k e f t in
        let j : each_values a b up es ≡ each_eval m n fs = fits_each_eval a b m n h k es fs u in
        cc

    fits_first_eval : (a b : Naming) (m n : Numbers) → Tells a m → Tells b n → (bs : Arms) (cs : FlatArms) → FitArms program defs up bs cs → first_values a b up bs ≡ first_eval m n cs
    fits_first_eval a b m n h k _ _ fit_no_arm = refl
    fits_first_eval a b m n h k _ _ (fit_arm c d bs x y zs t u v) =
        let i : values a b up c ≡ eval m n x = fits_eval a b m n h k c x t in
        let j : values a b up d ≡ eval m n y = fits_eval a b m n h k d y u in
        let l : first_values a b up bs ≡ first_eval m n zs = fits_first_eval a b m n h k bs zs v in
        cc

  -- each path of names refers to a flat name
  abbrev pub AllRefer : List (List (List ℕ)) → Type 0
  AllRefer paths = (names : List (List ℕ)) → Contains paths names → (x : FlatName) × Refers program defs up names x

  both_refer : (front back : List (List (List ℕ))) → AllRefer front → AllRefer back → AllRefer (front ++ back)
  both_refer front back h k names c = elim (Contains-append_cases front back names c) [ inl d ↦ h names d | inr d ↦ k names d ]

  none_refer : AllRefer []
  none_refer names c = absurd (contains_none names c)

  mutual
    pub fits_refer : (e : Tree) (f : Flat) → Fits program defs up e f → AllRefer (names_in e)
    fits_refer _ _ (fits_truth p q v) = none_refer
    fits_refer _ _ (fits_number p q v) = none_refer
    fits_refer _ _ (fits_word p q w) = none_refer
    fits_refer _ _ (fits_name p q names x r) = λ y c. (x, subst (λ z. Refers program defs up z x) (only_contained names y c) r)
    fits_refer _ _ (fits_span p q low high) = none_refer
    fits_refer _ _ (fits_set p q es fs t) = all_refer es fs t
    fits_refer _ _ (fits_cases p q bs cs t) = arms_refer bs cs t
    fits_refer _ _ (fits_choice p q c d e x y z t u v) =
        both_refer (names_in c) (names_in d ++ names_in e) (fits_refer c x t) (both_refer (names_in d) (names_in e) (fits_refer d y u) (fits_refer e z v))
    fits_refer _ _ (fits_one p q o e x t) = fits_refer e x t
    fits_refer _ _ (fits_two p q o c d x y t u) = both_refer (names_in c) (names_in d) (fits_refer c x t) (fits_refer d y u)
    fits_refer _ _ (fits_select p q e x high low t) = fits_refer e x t
    fits_refer _ _ (fits_next p q e x t) = fits_refer e x t
    fits_refer _ _ (fits_widen p q resize e x w t) = fits_refer e x t
    fits_refer _ _ (fits_const p q signed v w) = none_refer
    fits_refer _ _ (fits_count p q es fs t) = all_refer es fs t

    all_refer : (es : Trees) (fs : Flats) → FitAll program defs up es fs → AllRefer (names_in_all es)
    all_refer _ _ fit_none = none_refer
    all_refer _ _ (fit_more e es f fs t u) = both_refer (names_in e) (names_in_all es) (fits_refer e f t) (all_refer es fs u)

    arms_refer : (bs : Arms) (cs : FlatArms) → FitArms program defs up bs cs → AllRefer (names_in_arms bs)
    arms_refer _ _ fit_no_arm = none_refer
    arms_refer _ _ (fit_arm c d bs x y zs t u v) =
        both_refer (names_in c) (names_in d ++ names_in_arms bs) (fits_refer c x t) (both_refer (names_in d) (names_in_arms bs) (fits_refer d y u) (arms_refer bs zs v))
