-- What `earliest` finds is the first fault of a list.
use Rattle.std.proofs.Common.{◌≡◌, ℕ, ◌⊎◌, inl, inr, Bool, true, false, cond, List, [], ◌∷◌, ◌++◌, refl, ap, sym, ◌∙◌, subst, not}
use Rattle.std.specs.Prelude.{Option, Some, None, All, IsTrue}
use Rattle.std.proofs.lemmas.List.Elements.{All-nil, All-cons, All-head, All-tail, All-append, All-weaker}
use Rattle.type_fault.specs.declared.fault.TypeFault.{TypeFault}
use Rattle.type_fault.specs.First.{IsFirst, goes_before, earlier_of, earlier, earliest}
use Rattle.type_fault.proofs.Ranks.{goes_on, goes_between}

takes : (f g : TypeFault) → goes_before g f ≡ true → earlier_of f g ≡ g
takes f g e = ap (λ b. cond b g f) e

stays : (f g : TypeFault) → goes_before g f ≡ false → earlier_of f g ≡ f
stays f g e = ap (λ b. cond b g f) e

-- one that goes before neither of two that go one before the other, or not at all
no_way : (f g h : TypeFault) → goes_before g f ≡ false → goes_before h g ≡ false → goes_before h f ≡ true → ⊥
no_way f g h a b c = elim (goes_between h g f c) [ inl x ↦ cc | inr x ↦ cc ]

assoc_by : (f g h : TypeFault) (a b c : Bool) → goes_before g f ≡ a → goes_before h g ≡ b → goes_before h f ≡ c → earlier_of f (earlier_of g h) ≡ earlier_of (earlier_of f g) h
assoc_by f g h true true true a b c = ap (earlier_of f) (takes g h b) ∙ (takes f h c ∙ sym (ap (λ x. earlier_of x h) (takes f g a) ∙ takes g h b))
assoc_by f g h true true false a b c = absurd (let x : goes_before h f ≡ true = goes_on h g f b a in cc)
assoc_by f g h true false c a b d = ap (earlier_of f) (stays g h b) ∙ (takes f g a ∙ sym (ap (λ x. earlier_of x h) (takes f g a) ∙ stays g h b))
assoc_by f g h false true c a b d = ap (earlier_of f) (takes g h b) ∙ sym (ap (λ x. earlier_of x h) (stays f g a))
assoc_by f g h false false true a b c = absurd (no_way f g h a b c)
assoc_by f g h false false false a b c = ap (earlier_of f) (stays g h b) ∙ (stays f g a ∙ sym (ap (λ x. earlier_of x h) (stays f g a) ∙ stays f h c))

earlier_assoc : (a b c : Option TypeFault) → earlier a (earlier b c) ≡ earlier (earlier a b) c
earlier_assoc None b c = refl
earlier_assoc (Some f) None c = refl
earlier_assoc (Some f) (Some g) None = refl
earlier_assoc (Some f) (Some g) (Some h) = ap Some (assoc_by f g h (goes_before g f) (goes_before h g) (goes_before h f) refl refl refl)

pub earliest_both : (fs gs : List TypeFault) → earliest (fs ++ gs) ≡ earlier (earliest fs) (earliest gs)
unfolding earliest
earliest_both [] gs = refl
earliest_both (f ∷ fs) gs = ap (earlier (Some f)) (earliest_both fs gs) ∙ earlier_assoc (Some f) (earliest fs) (earliest gs)

is_some : (f : TypeFault) (g : Option TypeFault) → earlier (Some f) g ≡ None → ⊥
is_some f None e = cc
is_some f (Some g) e = cc

pub nothing_first : (fs : List TypeFault) → earliest fs ≡ None → fs ≡ []
unfolding earliest
nothing_first [] e = refl
nothing_first (f ∷ fs) e = absurd (is_some f (earliest fs) e)

pub first_of_nothing : (fs : List TypeFault) → fs ≡ [] → earliest fs ≡ None
unfolding earliest
first_of_nothing fs e = ap earliest e

-- what all have the first has
earlier_has : (P : TypeFault → Type 0) (f : TypeFault) (o : Option TypeFault) (g : TypeFault) → P f → ((x : TypeFault) → o ≡ Some x → P x) → earlier (Some f) o ≡ Some g → P g
earlier_has P f None g h k e = let same : f ≡ g = cc in subst P same h
earlier_has P f (Some x) g h k e = by_test (goes_before x f) refl
  where
    by_test : (b : Bool) → goes_before x f ≡ b → P g
    by_test true t = let same : x ≡ g = let u : earlier_of f x ≡ x = takes f x t in cc in subst P same (k x refl)
    by_test false t = let same : f ≡ g = let u : earlier_of f x ≡ f = stays f x t in cc in subst P same h

first_has : (P : TypeFault → Type 0) (fs : List TypeFault) (g : TypeFault) → All P fs → earliest fs ≡ Some g → P g
unfolding earliest
first_has P [] g h e = absurd (cc)
first_has P (f ∷ fs) g h e = earlier_has P f (earliest fs) g (All-head P f fs h) (λ x q. first_has P fs x (All-tail P f fs h) q) e

-- the first goes before all before it, and none behind it goes before it
before : TypeFault → TypeFault → Type 0
before f g = IsTrue (goes_before f g)

not_before : TypeFault → TypeFault → Type 0
not_before f g = IsTrue (not (goes_before g f))

not_of : (b : Bool) → b ≡ false → IsTrue (not b)
not_of b e = ap not e

of_not : (b : Bool) → IsTrue (not b) → b ≡ false
of_not true e = absurd (cc)
of_not false e = refl

no_first : (a b y : TypeFault) → goes_before b a ≡ false → goes_before b y ≡ true → goes_before y a ≡ false
no_first a b y s h = elim (goes_before y a) as (λ v. goes_before y a ≡ v → v ≡ false) [ true ↦ (λ r. absurd (let w : goes_before b a ≡ true = goes_on b y a h r in cc)) | false ↦ (λ r. refl) ] refl

no_later : (a b y : TypeFault) → goes_before b a ≡ false → goes_before y b ≡ false → goes_before y a ≡ false
no_later a b y s h = elim (goes_before y a) as (λ v. goes_before y a ≡ v → v ≡ false) [ true ↦ (λ r. absurd (no_way a b y s h r)) | false ↦ (λ r. refl) ] refl

first_by : (f : TypeFault) (fs : List TypeFault) (o : Option TypeFault) (g : TypeFault) → (o ≡ None → fs ≡ []) → ((x : TypeFault) → o ≡ Some x → IsFirst fs x) → earlier (Some f) o ≡ Some g → IsFirst (f ∷ fs) g
first_by f fs None g empty firsts e =
    let same : f ≡ g = cc in
    let none : fs ≡ [] = empty refl in
    subst (IsFirst (f ∷ fs)) same (record { front = []; rest = fs; listed = refl; before_front = All-nil _; before_rest = subst (All (λ x. IsTrue (not (goes_before x f)))) (sym none) (All-nil _) })
first_by f fs (Some x) g empty firsts e = by_test (goes_before x f) refl
  where
    by_test : (b : Bool) → goes_before x f ≡ b → IsFirst (f ∷ fs) g
    by_test true t =
        let u : earlier_of f x ≡ x = takes f x t in
        let same : x ≡ g = cc in
        let q = firsts x refl in
        subst (IsFirst (f ∷ fs)) same (record { front = f ∷ q.front; rest = q.rest; listed = ap (λ ys. f ∷ ys) q.listed; before_front = All-cons (λ y. IsTrue (goes_before x y)) f q.front t q.before_front; before_rest = q.before_rest })
    by_test false t =
        let u : earlier_of f x ≡ f = stays f x t in
        let same : f ≡ g = cc in
        let q = firsts x refl in
        let P : TypeFault → Type 0 = λ y. IsTrue (not (goes_before y f)) in
        let front = All-weaker (λ y. IsTrue (goes_before x y)) P (λ y h. not_of (goes_before y f) (no_first f x y t h)) q.front q.before_front in
        let rest = All-weaker (λ y. IsTrue (not (goes_before y x))) P (λ y h. not_of (goes_before y f) (no_later f x y t (of_not (goes_before y x) h))) q.rest q.before_rest in
        let all = All-append P q.front (x ∷ q.rest) front (All-cons P x q.rest (not_of (goes_before x f) t) rest) in
        subst (IsFirst (f ∷ fs)) same (record { front = []; rest = fs; listed = refl; before_front = All-nil (λ y. IsTrue (goes_before f y)); before_rest = subst (All P) (sym q.listed) all })

pub earliest_first : (fs : List TypeFault) (g : TypeFault) → earliest fs ≡ Some g → IsFirst fs g
unfolding earliest
earliest_first [] g e = absurd (cc)
earliest_first (f ∷ fs) g e = first_by f fs (earliest fs) g (nothing_first fs) (earliest_first fs) e

-- and back
front_later : (f : TypeFault) (o : Option TypeFault) → ((x : TypeFault) → o ≡ Some x → before f x) → earlier o (Some f) ≡ Some f
unfolding before
front_later f None h = refl
front_later f (Some x) h = ap Some (takes x f (h x refl))

rest_later : (f : TypeFault) (o : Option TypeFault) → ((x : TypeFault) → o ≡ Some x → not_before f x) → earlier (Some f) o ≡ Some f
unfolding not_before
rest_later f None h = refl
rest_later f (Some x) h = ap Some (stays f x (of_not (goes_before x f) (h x refl)))

pub first_earliest : (fs : List TypeFault) (f : TypeFault) → IsFirst fs f → earliest fs ≡ Some f
unfolding earliest before not_before
first_earliest fs f q =
    let rest : earlier (Some f) (earliest q.rest) ≡ Some f = rest_later f (earliest q.rest) (λ x e. first_has (not_before f) q.rest x q.before_rest e) in
    let front : earlier (earliest q.front) (Some f) ≡ Some f = front_later f (earliest q.front) (λ x e. first_has (before f) q.front x q.before_front e) in
    ap earliest q.listed ∙ (earliest_both q.front (f ∷ q.rest) ∙ (ap (earlier (earliest q.front)) rest ∙ front))
