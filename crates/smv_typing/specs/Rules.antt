-- The rules by which an expression has a type, one for each form. Operators, constants and lists have theirs by the
-- types of their parts.
use Rattle.std.specs.Prelude.{◌≡◌, ℕ, ℤ, Bool, true, false, List, [], ◌∷◌, Ok}
use Rattle.smv_tree.specs.declared.place.Place.{Place}
use Rattle.smv_tree.specs.declared.expr.Op1.{Op1}
use Rattle.smv_tree.specs.declared.expr.Op2.{Op2}
use Rattle.smv_tree.specs.Word.{Word}
use Rattle.smv_tree.specs.Trees.{Tree, Trees, Arms, truth, number, word, name, span, set, cases, choice, one, two, select, next, widen, const, count, no_trees, tree, no_arms, arm}
use Rattle.smv_kinds.specs.declared.sort.Sort.TheVariants.{Boolean}
use Rattle.smv_kinds.specs.declared.typing.Typing.{Typing}
use Rattle.smv_kinds.specs.Results.{single}
use Rattle.smv_kinds.specs.Operators.{one_typing, two_typing}
use Rattle.smv_kinds.specs.Nodes.{number_typing, word_typing, span_typing, select_typing, widen_typing, const_typing, next_typing, set_typing, count_typing, cases_typing}
use Rattle.smv_typing.specs.declared.scope.Scope.{Scope}
use Rattle.smv_typing.specs.declared.standing.Standing.{Standing}
use Rattle.smv_typing.specs.declared.standing.Standing.TheVariants.{Typed}
use Rattle.smv_typing.specs.Judging.{within_next}

mutual
  -- where names stand for these, and so much may stand, an expression has this type
  pub data HasType (names : List (List ℕ) → Standing) : Scope → Tree → Typing → Type 0 where
    has_truth : (s : Scope) (p : Place) (b : Bool) → HasType names s (truth p b) (single Boolean)
    has_number : (s : Scope) (p : Place) (n : ℕ) (t : Typing) → number_typing n ≡ Ok t
        → HasType names s (number p n) t
    has_word : (s : Scope) (p : Place) (w : Word) (t : Typing) → word_typing w ≡ Ok t
        → HasType names s (word p w) t
    has_plain_name : (s : Scope) (p : Place) (path : List (List ℕ)) (t : Typing)
        → names path ≡ Typed t false → HasType names s (name p path) t
    has_input_name : (s : Scope) (p : Place) (path : List (List ℕ)) (t : Typing)
        → names path ≡ Typed t true → s.inputs ≡ true → HasType names s (name p path) t
    has_span : (s : Scope) (p : Place) (low high : ℤ) (t : Typing) → span_typing low high ≡ Ok t
        → HasType names s (span p low high) t
    has_set : (s : Scope) (p : Place) (es : Trees) (ts : List Typing) (t : Typing)
        → HaveTypes names s es ts → set_typing ts ≡ Ok t → HasType names s (set p es) t
    has_cases : (s : Scope) (p : Place) (bs : Arms) (ts us : List Typing) (t : Typing)
        → ArmsHaveTypes names s bs ts us → cases_typing ts us ≡ Ok t → HasType names s (cases p bs) t
    has_choice : (s : Scope) (p : Place) (c a b : Tree) (u v w t : Typing) → HasType names s c u
        → HasType names s a v → HasType names s b w → cases_typing (u ∷ []) (v ∷ w ∷ []) ≡ Ok t
        → HasType names s (choice p c a b) t
    has_one : (s : Scope) (p : Place) (o : Op1) (a : Tree) (u t : Typing) → HasType names s a u
        → one_typing o u ≡ Ok t → HasType names s (one p o a) t
    has_two : (s : Scope) (p : Place) (o : Op2) (a b : Tree) (u v t : Typing) → HasType names s a u
        → HasType names s b v → two_typing o u v ≡ Ok t → HasType names s (two p o a b) t
    has_select : (s : Scope) (p : Place) (a : Tree) (high low : ℕ) (u t : Typing)
        → HasType names s a u → select_typing high low u ≡ Ok t → HasType names s (select p a high low) t
    -- there is no input of the next state
    has_next : (s : Scope) (p : Place) (a : Tree) (u t : Typing) → HasType names (within_next s) a u
        → s.next ≡ true → next_typing u ≡ Ok t → HasType names s (next p a) t
    has_widen : (s : Scope) (p : Place) (resize : Bool) (a : Tree) (n : ℕ) (u t : Typing)
        → HasType names s a u → widen_typing resize n u ≡ Ok t → HasType names s (widen p resize a n) t
    has_const : (s : Scope) (p : Place) (signed : Bool) (v : ℤ) (n : ℕ) (t : Typing)
        → const_typing signed n ≡ Ok t → HasType names s (const p signed v n) t
    has_count : (s : Scope) (p : Place) (es : Trees) (ts : List Typing) (t : Typing)
        → HaveTypes names s es ts → count_typing ts ≡ Ok t → HasType names s (count p es) t

  -- several expressions have these types
  pub data HaveTypes (names : List (List ℕ) → Standing) : Scope → Trees → List Typing → Type 0 where
    have_none : (s : Scope) → HaveTypes names s no_trees []
    have_more : (s : Scope) (e : Tree) (es : Trees) (t : Typing) (ts : List Typing) → HasType names s e t
        → HaveTypes names s es ts → HaveTypes names s (tree e es) (t ∷ ts)

  -- the conditions and the values of branches have these types
  pub data ArmsHaveTypes (names : List (List ℕ) → Standing)
      : Scope → Arms → List Typing → List Typing → Type 0 where
    arms_none : (s : Scope) → ArmsHaveTypes names s no_arms [] []
    arms_more : (s : Scope) (c a : Tree) (bs : Arms) (t u : Typing) (ts us : List Typing)
        → HasType names s c t → HasType names s a u → ArmsHaveTypes names s bs ts us
        → ArmsHaveTypes names s (arm c a bs) (t ∷ ts) (u ∷ us)
