-- The test of two values tells whether they are equal.
use Rattle.std.proofs.Common.{◌≡◌, ◌==◌, ◌&&◌, ◌||◌, Bool, true, false, List, [], ◌∷◌, refl, ap, sym, subst, arith, inl, inr}
use Rattle.std.specs.Prelude.{Contains, Decides, IsTrue, ◌↔◌}
use Rattle.std.specs.List.{list_any}
use Rattle.std.proofs.lemmas.Bool.{false≢true}
use Rattle.std.proofs.lemmas.Bool.Decides.{Decides-int_eq, Decides-eqb}
use Rattle.std.proofs.lemmas.Slice.Eq.{bytes_eq-Decides}
use Rattle.smv_tree.specs.Word.{Word}
use Rattle.smv_tree.specs.declared.value.Value.{Value}
use Rattle.smv_tree.specs.declared.value.Value.TheVariants.{Truth, Int, Sym, Word as Bits}
use Rattle.smv_meaning.specs.Operators.{same_truth, same_word, same_value, member}
use Rattle.smv_meaning.proofs.Lists.{contains_none, contains_cases, contains_first, contains_later}

truths_decide : (a b : Bool) → Decides (same_truth a b) (a ≡ b)
truths_decide true true = (λ _. refl, λ _. refl)
truths_decide true false = (λ e. absurd (false≢true e), λ e. absurd (false≢true (sym e)))
truths_decide false true = (λ e. absurd (false≢true e), λ e. absurd (false≢true e))
truths_decide false false = (λ _. refl, λ _. refl)

both_true : (a b : Bool) → (a && b) ≡ true → (a ≡ true) × (b ≡ true)
both_true true true e = (refl, refl)
both_true true false e = absurd (false≢true e)
both_true false b e = absurd (false≢true e)

all_true : (a b c : Bool) → a ≡ true → b ≡ true → c ≡ true → (a && (b && c)) ≡ true
all_true a b c x y z = cc

words_decide : (a b : Word) → Decides (same_word a b) (a ≡ b)
words_decide a b = (from, to)
  where
    from : same_word a b ≡ true → a ≡ b
    from e =
        let s = both_true (same_truth a.signed b.signed) (a.width == b.width && a.bits == b.bits) e in
        let w = both_true (a.width == b.width) (a.bits == b.bits) s.1 in
        let signed : a.signed ≡ b.signed = (truths_decide a.signed b.signed).0 s.0 in
        let width : a.width ≡ b.width = (Decides-eqb a.width b.width).0 w.0 in
        let bits : a.bits ≡ b.bits = (Decides-eqb a.bits b.bits).0 w.1 in
        (λ i. record { signed = signed i; width = width i; bits = bits i })

    to : a ≡ b → same_word a b ≡ true
    to e =
        all_true (same_truth a.signed b.signed) (a.width == b.width) (a.bits == b.bits)
        ((truths_decide a.signed b.signed).1 (ap (λ w. w.signed) e))
        ((Decides-eqb a.width b.width).1 (ap (λ w. w.width) e))
        ((Decides-eqb a.bits b.bits).1 (ap (λ w. w.bits) e))

pub values_decide : (v w : Value) → Decides (same_value v w) (v ≡ w)
values_decide (Truth a) (Truth b) = (λ e. ap (λ x. Truth x) ((truths_decide a b).0 e), λ e. (truths_decide a b).1 (cc))
values_decide (Truth a) (Int b) = (λ e. absurd (false≢true e), λ e. absurd (cc))
values_decide (Truth a) (Sym b) = (λ e. absurd (false≢true e), λ e. absurd (cc))
values_decide (Truth a) (Bits b) = (λ e. absurd (false≢true e), λ e. absurd (cc))
values_decide (Int a) (Truth b) = (λ e. absurd (false≢true e), λ e. absurd (cc))
values_decide (Int a) (Int b) = (λ e. ap (λ x. Int x) ((Decides-int_eq a b).0 e), λ e. (Decides-int_eq a b).1 (cc))
values_decide (Int a) (Sym b) = (λ e. absurd (false≢true e), λ e. absurd (cc))
values_decide (Int a) (Bits b) = (λ e. absurd (false≢true e), λ e. absurd (cc))
values_decide (Sym a) (Truth b) = (λ e. absurd (false≢true e), λ e. absurd (cc))
values_decide (Sym a) (Int b) = (λ e. absurd (false≢true e), λ e. absurd (cc))
values_decide (Sym a) (Sym b) = (λ e. ap (λ x. Sym x) ((bytes_eq-Decides a b).0 e), λ e. (bytes_eq-Decides a b).1 (cc))
values_decide (Sym a) (Bits b) = (λ e. absurd (false≢true e), λ e. absurd (cc))
values_decide (Bits a) (Truth b) = (λ e. absurd (false≢true e), λ e. absurd (cc))
values_decide (Bits a) (Int b) = (λ e. absurd (false≢true e), λ e. absurd (cc))
values_decide (Bits a) (Sym b) = (λ e. absurd (false≢true e), λ e. absurd (cc))
values_decide (Bits a) (Bits b) = (λ e. ap (λ x. Bits x) ((words_decide a b).0 e), λ e. (words_decide a b).1 (cc))

-- a value is the same as one of these exactly where it is one of these
any_decides : (v : Value) (ws : List Value) → Decides (list_any (same_value v) ws) (Contains ws v)
any_decides v [] = (λ e. absurd (false≢true e), λ c. absurd (contains_none v c))
any_decides v (w ∷ ws) = by_test (same_value v w) (values_decide v w) (any_decides v ws)
  where
    by_test : (b : Bool) → Decides b (v ≡ w) → Decides (list_any (same_value v) ws) (Contains ws v) → Decides (b || list_any (same_value v) ws) (Contains (w ∷ ws) v)
    by_test true here rest = (λ e. subst (λ x. Contains (x ∷ ws) v) (here.0 refl) (contains_first v ws), λ c. refl)
    by_test false here rest =
        (λ e. contains_later w ws v (rest.0 e), λ c. elim (contains_cases w ws v c) [ inl e ↦ absurd (false≢true (here.1 (sym e))) | inr k ↦ rest.1 k ])

pub member_decides : (v w : Value) (ws : List Value) → member (v ∷ []) (w ∷ ws) ≡ Truth true ∷ [] ↔ Contains (w ∷ ws) v
member_decides v w ws = (λ e. (any_decides v (w ∷ ws)).0 (cc), λ c. ap (λ b. Truth b ∷ []) ((any_decides v (w ∷ ws)).1 c))

pub same_is_equal : (v w : Value) → IsTrue (same_value v w) ↔ (v ≡ w)
same_is_equal v w = grind (arith, values_decide v w)

pub member_of_none : (left : List Value) → member left [] ≡ []
member_of_none [] = refl
member_of_none (v ∷ []) = refl
member_of_none (v ∷ w ∷ left) = refl
