-- The values of an expression are those of its names.
use Rattle.std.proofs.Common.{◌≡◌, ℕ, List, ◌++◌, refl, ap}
use Rattle.std.specs.Prelude.{Contains}
use Rattle.std.proofs.lemmas.List.Elements.{Contains-append_left, Contains-append_right}
use Rattle.smv_tree.specs.Trees.{Tree, Trees, Arms, truth, number, word, name, span, set, cases, choice, one, two, select, next, widen, const, count, no_trees, tree, no_arms, arm}
use Rattle.smv_meaning.specs.Operators.{one_value, selected, widened, counted}
use Rattle.smv_meaning.specs.Values.{Naming, values, all_values, each_values, first_values, on_one}
use Rattle.smv_meaning.specs.Definitions.{names_in, names_in_all, names_in_arms}
use Rattle.smv_meaning.proofs.Lists.{contains_only}

-- two namings give these paths of names the same values in an instance
abbrev pub Agree : Naming → Naming → List (List ℕ) → List (List (List ℕ)) → Type 0
Agree now other up paths = (names : List (List ℕ)) → Contains paths names → now up names ≡ other up names

module _ (up : List (List ℕ)) where
  left_part : (a b : Naming) (front back : List (List (List ℕ))) → Agree a b up (front ++ back) → Agree a b up front
  left_part a b front back h names c = h names (Contains-append_left front back names c)

  right_part : (a b : Naming) (front back : List (List (List ℕ))) → Agree a b up (front ++ back) → Agree a b up back
  right_part a b front back h names c = h names (Contains-append_right front back names c)

  -- a and b are two namings of one moment, c and d two of the next
  mutual
    pub same_values : (a b c d : Naming) (e : Tree) → Agree a b up (names_in e) → Agree c d up (names_in e) → values a c up e ≡ values b d up e
    same_values a b c d (truth p v) h k = refl
    same_values a b c d (number p n) h k = refl
    same_values a b c d (word p w) h k = refl
    same_values a b c d (name p names) h k = h names (contains_only names)
    same_values a b c d (span p low high) h k = refl
    same_values a b c d (set p es) h k = same_all a b c d es h k
    same_values a b c d (cases p bs) h k = same_first a b c d bs h k
    same_values a b c d (choice p e f g) h k =
        let u = left_part a b (names_in e) _ h in
        let v = left_part c d (names_in e) _ k in
        let x = right_part a b (names_in e) _ h in
        let y = right_part c d (names_in e) _ k in
        let i : values a c up e ≡ values b d up e = same_values a b c d e u v in
        let j : values a c up f ≡ values b d up f = same_values a b c d f (left_part a b (names_in f) _ x) (left_part c d (names_in f) _ y) in
        let l : values a c up g ≡ values b d up g = same_values a b c d g (right_part a b (names_in f) _ x) (right_part c d (names_in f) _ y) in
        cc
    same_values a b c d (one p o e) h k = ap (on_one (one_value o)) (same_values a b c d e h k)
    same_values a b c d (two p o e f) h k =
        let i : values a c up e ≡ values b d up e = same_values a b c d e (left_part a b (names_in e) _ h) (left_part c d (names_in e) _ k) in
        let j : values a c up f ≡ values b d up f = same_values a b c d f (right_part a b (names_in e) _ h) (right_part c d (names_in e) _ k) in
        cc
    same_values a b c d (select p e high low) h k = ap (on_one (selected high low)) (same_values a b c d e h k)
    same_values a b c d (next p e) h k = same_values c d c d e k k
    same_values a b c d (widen p resize e n) h k = ap (on_one (widened resize n)) (same_values a b c d e h k)
    same_values a b c d (const p signed v n) h k = refl
    same_values a b c d (count p es) h k = ap (counted 0) (same_each a b c d es h k)

    same_all : (a b c d : Naming) (es : Trees) → Agree a b up (names_in_all es) → Agree c d up (names_in_all es) → all_values a c up es ≡ all_values b d up es
    same_all a b c d no_trees h k = refl
    same_all a b c d (tree e es) h k =
        let i : values a c up e ≡ values b d up e = same_values a b c d e (left_part a b (names_in e) _ h) (left_part c d (names_in e) _ k) in
        let j : all_values a c up es ≡ all_values b d up es = same_all a b c d es (right_part a b (names_in e) _ h) (right_part c d (names_in e) _ k) in
        cc

    same_each : (a b c d : Naming) (es : Trees) → Agree a b up (names_in_all es) → Agree c d up (names_in_all es) → each_values a c up es ≡ each_values b d up es
    same_each a b c d no_trees h k = refl
    same_each a b c d (tree e es) h k =
        let i : values a c up e ≡ values b d up e = same_values a b c d e (left_part a b (names_in e) _ h) (left_part c d (names_in e) _ k) in
        let j : each_values a c up es ≡ each_values b d up es = same_each a b c d es (right_part a b (names_in e) _ h) (right_part c d (names_in e) _ k) in
        cc

    same_first : (a b c d : Naming) (bs : Arms) → Agree a b up (names_in_arms bs) → Agree c d up (names_in_arms bs) → first_values a c up bs ≡ first_values b d up bs
    same_first a b c d no_arms h k = refl
    same_first a b c d (arm e f bs) h k =
        let x = right_part a b (names_in e) _ h in
        let y = right_part c d (names_in e) _ k in
        let i : values a c up e ≡ values b d up e = same_values a b c d e (left_part a b (names_in e) _ h) (left_part c d (names_in e) _ k) in
        let j : values a c up f ≡ values b d up f = same_values a b c d f (left_part a b (names_in f) _ x) (left_part c d (names_in f) _ y) in
        let l : first_values a c up bs ≡ first_values b d up bs = same_first a b c d bs (right_part a b (names_in f) _ x) (right_part c d (names_in f) _ y) in
        cc
