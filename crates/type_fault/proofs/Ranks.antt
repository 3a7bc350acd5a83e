-- Line, column and number order faults.
use Rattle.std.proofs.Common.{◌≡◌, ℕ, ◌<◌, ◌⊎◌, inl, inr, Bool, true, false, refl, ap, arith, not}
use Rattle.std.specs.Prelude.{◌==◌, nat_lt, ◌&&◌, ◌||◌}
use Rattle.type_fault.specs.declared.fault.TypeFault.{TypeFault}
use Rattle.type_fault.specs.Faults.{number_of, place_of}
use Rattle.type_fault.specs.First.{site, is_before, goes_before}

-- three numbers are before three others
abbrev pub Ranks : ℕ → ℕ → ℕ → ℕ → ℕ → ℕ → Type 0
Ranks a b c x y z = (a < x) ⊎ ((a ≡ x) × ((b < y) ⊎ ((b ≡ y) × (c < z))))

tested : ℕ → ℕ → ℕ → ℕ → ℕ → ℕ → Bool
tested a b c x y z = (nat_lt a x || ((a == x) && nat_lt b y)) || (not (nat_lt x a || ((x == a) && nat_lt y b)) && nat_lt c z)

ranks_true : (a b c x y z : ℕ) → tested a b c x y z ≡ true → Ranks a b c x y z
unfolding tested
ranks_true a b c x y z e = grind arith

true_ranks : (a b c x y z : ℕ) → Ranks a b c x y z → tested a b c x y z ≡ true
unfolding tested
true_ranks a b c x y z r = grind arith

ranks_on : (a b c x y z u v w : ℕ) → Ranks a b c x y z → Ranks x y z u v w → Ranks a b c u v w
ranks_on a b c x y z u v w r s = grind arith

ranks_between : (a b c x y z u v w : ℕ) → Ranks a b c u v w → Ranks a b c x y z ⊎ Ranks x y z u v w
ranks_between a b c x y z u v w r = grind arith

Rank : TypeFault → TypeFault → Type 0
Rank f g = Ranks (site (place_of f)).line (site (place_of f)).column (number_of f) (site (place_of g)).line (site (place_of g)).column (number_of g)

rank : (f g : TypeFault) → goes_before f g ≡ true → Rank f g
unfolding goes_before tested Rank
rank f g e = ranks_true _ _ _ _ _ _ e

ranked : (f g : TypeFault) → Rank f g → goes_before f g ≡ true
unfolding goes_before tested Rank
ranked f g e = true_ranks _ _ _ _ _ _ e

pub goes_on : (f g h : TypeFault) → goes_before f g ≡ true → goes_before g h ≡ true → goes_before f h ≡ true
unfolding Rank
goes_on f g h a b = ranked f h (ranks_on _ _ _ _ _ _ _ _ _ (rank f g a) (rank g h b))

pub goes_between : (f g h : TypeFault) → goes_before f h ≡ true → (goes_before f g ≡ true) ⊎ (goes_before g h ≡ true)
unfolding Rank
goes_between f g h a = elim (ranks_between _ _ _ (site (place_of g)).line (site (place_of g)).column (number_of g) _ _ _ (rank f h a)) [ inl x ↦ inl (ranked f g x) | inr x ↦ inr (ranked g h x) ]
