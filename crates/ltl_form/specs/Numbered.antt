-- Formulas whose atoms are numbers, as formulas over expressions.
use Rattle.std.specs.Prelude.{ℕ, ◌<◌}
use Rattle.smv_tree.specs.Trees.{Tree}
use Rattle.smv_tree.specs.Models.{Claim, atom, no, after, always, some_time, both}
use Rattle.ltl_form.specs.declared.numbered.NumberedFormula.{NumberedFormula, Atom, Not', Next'}
use Rattle.ltl_form.specs.declared.numbered.NumberedFormula.{Always', Eventually', Two'}

-- the formula, where the atoms are these expressions
abbrev pub claim_of : (ℕ → Tree) → NumberedFormula → Claim
claim_of names (Atom a) = atom (names a)
claim_of names (Not' p f) = no (claim_of names f)
claim_of names (Next' p f) = after (claim_of names f)
claim_of names (Always' p f) = always (claim_of names f)
claim_of names (Eventually' p f) = some_time (claim_of names f)
claim_of names (Two' o p f q g) = both o (claim_of names f) (claim_of names g)

-- the atoms of the formula are among the first n
abbrev pub AtomsBelow : ℕ → NumberedFormula → Type 0
AtomsBelow n (Atom a) = a < n
AtomsBelow n (Not' p f) = AtomsBelow n f
AtomsBelow n (Next' p f) = AtomsBelow n f
AtomsBelow n (Always' p f) = AtomsBelow n f
AtomsBelow n (Eventually' p f) = AtomsBelow n f
AtomsBelow n (Two' o p f q g) = AtomsBelow n f × AtomsBelow n g
