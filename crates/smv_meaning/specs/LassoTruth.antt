-- Truth of a formula at the places of a lasso.
use Rattle.std.specs.Prelude.{ℕ, ◌<◌, ⊤, ◌⊎◌}
use Rattle.smv_tree.specs.Trees.{Tree}
use Rattle.smv_tree.specs.Models.{Claim, atom, no, after, always, some_time, both}
use Rattle.smv_tree.specs.declared.formula.FormOp.{FormOp}
use Rattle.smv_tree.specs.declared.formula.FormOp.TheVariants as op
use Rattle.smv_meaning.specs.Places.{next_place, Until}

-- what an operator says of two formulas' truths, at one place; the temporal ones look further and
-- say nothing here
abbrev pub Joined : FormOp → Type 0 → Type 0 → Type 0
Joined op.And a b = a × b
Joined op.Or a b = a ⊎ b
Joined op.Xor a b = (a × (¬ b)) ⊎ ((¬ a) × b)
Joined op.Xnor a b = (a × b) ⊎ ((¬ a) × (¬ b))
Joined op.Iff a b = (a × b) ⊎ ((¬ a) × (¬ b))
Joined op.Implies a b = a → b
Joined op.Until a b = ⊥
Joined op.Releases a b = ⊥

-- a formula is true at a place of the lasso k, l, where holds says at which places an expression
-- does, and `U` looks no further than limit steps
abbrev pub TrueWithin : ℕ → ℕ → ℕ → (Tree → ℕ → Type 0) → Claim → ℕ → Type 0
TrueWithin limit k l holds (atom e) p = holds e p
TrueWithin limit k l holds (no f) p = ¬ TrueWithin limit k l holds f p
TrueWithin limit k l holds (after f) p = TrueWithin limit k l holds f (next_place k l p)
TrueWithin limit k l holds (some_time f) p = Until limit k l (λ _. ⊤) (TrueWithin limit k l holds f) p
TrueWithin limit k l holds (always f) p = ¬ Until limit k l (λ _. ⊤) (λ q. ¬ TrueWithin limit k l holds f q) p
TrueWithin limit k l holds (both op.Until f g) p =
    Until limit k l (TrueWithin limit k l holds f) (TrueWithin limit k l holds g) p
TrueWithin limit k l holds (both op.Releases f g) p =
    ¬ Until limit k l (λ q. ¬ TrueWithin limit k l holds f q) (λ q. ¬ TrueWithin limit k l holds g q) p
TrueWithin limit k l holds (both o f g) p =
    Joined o (TrueWithin limit k l holds f p) (TrueWithin limit k l holds g p)

-- a formula is true at a place of the lasso k, l: k steps are enough, since they come to every
-- place that is ever reached
abbrev pub TrueAt : ℕ → ℕ → (Tree → ℕ → Type 0) → Claim → ℕ → Type 0
TrueAt k l holds f p = TrueWithin k k l holds f p

-- a statement is true, or it is false
abbrev pub Decided : Type 0 → Type 0
Decided a = a ⊎ (¬ a)

-- each expression holds at each place below k, or does not
abbrev pub DecidesAtoms : ℕ → (Tree → ℕ → Type 0) → Type 0
DecidesAtoms k holds = (e : Tree) (p : ℕ) → p < k → Decided (holds e p)
