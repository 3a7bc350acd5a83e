-- Literals, their negations and values, and lists of them.
use Rattle.std.proofs.Common.{◌≡◌, ℕ, ◌+◌, ◌*◌, Bool, true, false, not, cond, ◌⊎◌, inl, inr, List, [], ◌∷◌, ◌++◌, refl, ap, sym, subst, ◌∙◌, arith}
use Rattle.std.specs.List.{AllByRecursion}
use Rattle.std.proofs.Math.Bool.{not-not}
use Rattle.sat_log.specs.Literal.{Literal, negated}
use Rattle.sat_log.specs.Packing.{packed}
use Rattle.sat_log.specs.Clause.{Among}
use Rattle.sat_log.specs.Clauses.{literal_value, Satisfies}

-- Literals are told apart by their numbers.

abbrev pub literal_of : ℕ → Bool → Literal
literal_of var negative = record { var = var; negative = negative }

pub literal_by_parts : (a b : Literal) → a.var ≡ b.var → a.negative ≡ b.negative → a ≡ b
literal_by_parts a b v n = ap (λ x. literal_of x a.negative) v ∙ ap (literal_of b.var) n

pub packed_injective : (a b : Literal) → packed a ≡ packed b → a ≡ b
packed_injective a b e = by_signs a.negative b.negative refl refl
  where
    by_signs : (s t : Bool) → a.negative ≡ s → b.negative ≡ t → a ≡ b
    by_signs true true p q =
        let x : 2 * a.var + 1 ≡ 2 * b.var + 1 = sym (ap (λ s. 2 * a.var + cond {A = ℕ} s 1 0) p) ∙ e ∙ ap (λ s. 2 * b.var + cond {A = ℕ} s 1 0) q in
        literal_by_parts a b (omega arith) (p ∙ sym q)
    by_signs false false p q =
        let x : 2 * a.var + 0 ≡ 2 * b.var + 0 = sym (ap (λ s. 2 * a.var + cond {A = ℕ} s 1 0) p) ∙ e ∙ ap (λ s. 2 * b.var + cond {A = ℕ} s 1 0) q in
        literal_by_parts a b (omega arith) (p ∙ sym q)
    by_signs true false p q =
        let x : 2 * a.var + 1 ≡ 2 * b.var + 0 = sym (ap (λ s. 2 * a.var + cond {A = ℕ} s 1 0) p) ∙ e ∙ ap (λ s. 2 * b.var + cond {A = ℕ} s 1 0) q in
        absurd (omega arith)
    by_signs false true p q =
        let x : 2 * a.var + 0 ≡ 2 * b.var + 1 = sym (ap (λ s. 2 * a.var + cond {A = ℕ} s 1 0) p) ∙ e ∙ ap (λ s. 2 * b.var + cond {A = ℕ} s 1 0) q in
        absurd (omega arith)

pub negated-negated : (l : Literal) → negated (negated l) ≡ l
negated-negated l = literal_by_parts (negated (negated l)) l refl (not-not l.negative)

-- two literals of one variable
pub same_variable : (k l : Literal) → k.var ≡ l.var → (k ≡ l) ⊎ (k ≡ negated l)
same_variable k l v = by_signs k.negative l.negative refl refl
  where
    by_signs : (s t : Bool) → k.negative ≡ s → l.negative ≡ t → (k ≡ l) ⊎ (k ≡ negated l)
    by_signs true true p q = inl (literal_by_parts k l v (p ∙ sym q))
    by_signs false false p q = inl (literal_by_parts k l v (p ∙ sym q))
    by_signs true false p q = inr (literal_by_parts k (negated l) v (p ∙ sym (ap not q)))
    by_signs false true p q = inr (literal_by_parts k (negated l) v (p ∙ sym (ap not q)))

-- What stands in a list that is longer.

pub among_append : (front back : List Literal) (l : Literal) → Among back l → Among (front ++ back) l
among_append [] back l m = m
among_append (x ∷ front) back l m = inr (among_append front back l m)

pub among_front : (front back : List Literal) (l : Literal) → Among front l → Among (front ++ back) l
among_front [] back l m = absurd m
among_front (x ∷ front) back l (inl e) = inl e
among_front (x ∷ front) back l (inr m) = inr (among_front front back l m)

pub among_push : (front : List Literal) (x l : Literal) → Among (front ++ x ∷ []) l → Among front l ⊎ (x ≡ l)
among_push [] x l (inl e) = inr e
among_push [] x l (inr m) = absurd m
among_push (y ∷ front) x l (inl e) = inl (inl e)
among_push (y ∷ front) x l (inr m) = by_rest (among_push front x l m)
  where
    by_rest : Among front l ⊎ (x ≡ l) → Among (y ∷ front) l ⊎ (x ≡ l)
    by_rest (inl m) = inl (inr m)
    by_rest (inr e) = inr e

-- What holds of each literal of a list.

pub All-among : (P : Literal → Type 0) (xs : List Literal) (l : Literal) → AllByRecursion P xs → Among xs l → P l
All-among P [] l h m = absurd m
All-among P (x ∷ xs) l h (inl e) = subst P e h.0
All-among P (x ∷ xs) l h (inr m) = All-among P xs l h.1 m

pub All-from_among : (P : Literal → Type 0) (xs : List Literal) → ((l : Literal) → Among xs l → P l) → AllByRecursion P xs
All-from_among P [] each = tt
All-from_among P (l ∷ xs) each = (each l (inl refl), All-from_among P xs (λ k m. each k (inr m)))

-- Values of literals, and of clauses.

pub negated_value : (v : ℕ → Bool) (l : Literal) → literal_value v (negated l) ≡ not (literal_value v l)
negated_value v l = by_sign l.negative (v l.var)
  where
    by_sign : (s x : Bool) → cond (not s) (not x) x ≡ not (cond s (not x) x)
    by_sign true true = refl
    by_sign true false = refl
    by_sign false true = refl
    by_sign false false = refl

pub Satisfies-append : (v : ℕ → Bool) (cs ds : List (List Literal)) → Satisfies v cs → Satisfies v ds → Satisfies v (cs ++ ds)
Satisfies-append v [] ds h k = k
Satisfies-append v (c ∷ cs) ds h k = (h.0, Satisfies-append v cs ds h.1 k)

pub Satisfies-parts : (v : ℕ → Bool) (cs ds : List (List Literal)) → Satisfies v (cs ++ ds) → Satisfies v cs × Satisfies v ds
Satisfies-parts v [] ds h = (tt, h)
Satisfies-parts v (c ∷ cs) ds h = let rest = Satisfies-parts v cs ds h.1 in ((h.0, rest.0), rest.1)
