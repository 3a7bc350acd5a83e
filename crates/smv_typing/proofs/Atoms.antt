-- What is found in atoms, one after the other.
use Rattle.std.proofs.Common.{◌≡◌, ℕ, List, [], ◌∷◌, ◌++◌, refl, ap, sym, ◌∙◌}
use Rattle.std.specs.Prelude.{Option, Some, None, Ok, Err}
use Rattle.std.proofs.lemmas.Grind.{flat_map-append}
use Rattle.std.proofs.lemmas.List.{append-nil}
use Rattle.smv_tree.specs.declared.place.Place.{Place}
use Rattle.smv_tree.specs.Trees.{Tree}
use Rattle.smv_kinds.specs.declared.typing.Typing.{Typing}
use Rattle.smv_kinds.specs.declared.typing.NodeFault.{NodeFault}
use Rattle.smv_kinds.specs.Nodes.{constraint_fault}
use Rattle.type_fault.specs.declared.fault.TypeFault.{TypeFault}
use Rattle.type_fault.specs.First.{earlier, earliest}
use Rattle.smv_typing.specs.Uses.{of_state, listed}
use Rattle.smv_typing.specs.declared.standing.Standing.{Standing}
use Rattle.smv_typing.specs.Judging.{Judgement, judged}
use Rattle.smv_typing.specs.Firsts.{Kept, firsts}
use Rattle.smv_typing.specs.Formulas.{atom_place, own, within, head, own_faults, faults_within}
use Rattle.smv_typing.specs.Found.{first_there, Finds}
use Rattle.smv_typing.proofs.Firsts.{two_first, the_kept}

head_both : (xs ys : List TypeFault) → earliest (head (xs ++ ys)) ≡ first_there (earliest (head xs)) (earliest (head ys))
unfolding earliest
head_both [] ys = refl
head_both (x ∷ xs) ys = refl

head_listed : (p : Place) (f : Option NodeFault) → earliest (head (listed p f)) ≡ earliest (listed p f)
head_listed p None = refl
head_listed p (Some f) = refl

pub head_first : (xs ys : List TypeFault) {f g r : Option TypeFault} → f ≡ earliest (head xs) → g ≡ earliest ys → r ≡ earlier f g → r ≡ earliest (head xs ++ ys)
head_first xs ys h i e = two_first (head xs) ys h i e

module _ (names : List (List ℕ) → Standing) (p : Option Place) where
  -- what is found in two lists of atoms
  pub finds_both : (ds es : List Tree) (q r : Option TypeFault × Option TypeFault) {f g : Option TypeFault} → Finds names p ds q → Finds names p es r → f ≡ first_there q.0 r.0 → g ≡ earlier q.1 r.1 → Finds names p (ds ++ es) (f, g)
  finds_both ds es q r h i e k =
      let own_both = flat_map-append (λ d. own (atom_place p d) (judged names of_state d)) ds es in
      let within_both = flat_map-append (λ d. within (judged names of_state d)) ds es in
      record {
        itself = e ∙ (ap (λ x. first_there x r.0) h.itself ∙ (ap (first_there (earliest (head (own_faults names p ds)))) i.itself ∙ (sym (head_both (own_faults names p ds) (own_faults names p es)) ∙ sym (ap (λ xs. earliest (head xs)) own_both))));
        inside = two_first (faults_within names ds) (faults_within names es) h.inside i.inside k ∙ sym (ap earliest within_both);
      }

  one_own : (e : Tree) → own_faults names p (e ∷ []) ≡ own (atom_place p e) (judged names of_state e)
  one_own e = append-nil (own (atom_place p e) (judged names of_state e))

  one_within : (e : Tree) → faults_within names (e ∷ []) ≡ within (judged names of_state e)
  one_within e = append-nil (within (judged names of_state e))

  ok_itself : (q : Place) (x : Judgement Typing) (t : Typing) {k : Kept Typing} → k ≡ firsts x → k ≡ Ok t → earliest (listed q (constraint_fault t)) ≡ earliest (head (own q x))
  ok_itself q (Ok u) t h i = ap (λ v. earliest (listed q (constraint_fault v))) (ap (the_kept t) (sym i ∙ h)) ∙ sym (head_listed q (constraint_fault u))
  ok_itself q (Err fs) t h i = absurd (cc)

  ok_inside : (x : Judgement Typing) (t : Typing) {k : Kept Typing} → k ≡ firsts x → k ≡ Ok t → None ≡ earliest (within x)
  unfolding earliest
  ok_inside (Ok u) t h i = refl
  ok_inside (Err fs) t h i = absurd (cc)

  err_itself : (q : Place) (x : Judgement Typing) {f : Option TypeFault} {k : Kept Typing} → k ≡ firsts x → k ≡ Err f → None ≡ earliest (head (own q x))
  unfolding earliest
  err_itself q (Ok u) h i = absurd (cc)
  err_itself q (Err fs) h i = refl

  err_inside : (x : Judgement Typing) {f : Option TypeFault} {k : Kept Typing} → k ≡ firsts x → k ≡ Err f → f ≡ earliest (within x)
  err_inside (Ok u) h i = absurd (cc)
  err_inside (Err fs) h i = cc

  -- what is found in one atom
  pub finds_ok : (e : Tree) (t : Typing) {k : Kept Typing} {f : Option TypeFault} → k ≡ firsts (judged names of_state e) → k ≡ Ok t → f ≡ earliest (listed (atom_place p e) (constraint_fault t)) → Finds names p (e ∷ []) (f, None)
  finds_ok e t h i l = record {
    itself = l ∙ (ok_itself (atom_place p e) (judged names of_state e) t h i ∙ sym (ap (λ xs. earliest (head xs)) (one_own e)));
    inside = ok_inside (judged names of_state e) t h i ∙ sym (ap earliest (one_within e));
  }

  pub finds_err : (e : Tree) {k : Kept Typing} {f : Option TypeFault} → k ≡ firsts (judged names of_state e) → k ≡ Err f → Finds names p (e ∷ []) (None, f)
  finds_err e h i = record {
    itself = err_itself (atom_place p e) (judged names of_state e) h i ∙ sym (ap (λ xs. earliest (head xs)) (one_own e));
    inside = err_inside (judged names of_state e) h i ∙ sym (ap earliest (one_within e));
  }
